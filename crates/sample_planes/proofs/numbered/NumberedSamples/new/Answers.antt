use Rattle.std.proofs.Common.{refl}
use Rattle.sample_planes.proofs.numbered.NumberedSamples.new.Goals as goal

pub returns : goal.returns
returns c = refl
