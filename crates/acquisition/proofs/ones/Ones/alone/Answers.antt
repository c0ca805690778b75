use Rattle.acquisition.proofs.ones.Ones.alone.Goals as goal

pub returns : goal.returns
returns c = c.as_slice.ensures.value
