use Rattle.oscillators.proofs.WayLemmas.{way_by_halves}
use Rattle.oscillators.proofs.code_strides.way.Goals as goal

pub returns : goal.returns
returns c = way_by_halves c.args.samples c.args.step
