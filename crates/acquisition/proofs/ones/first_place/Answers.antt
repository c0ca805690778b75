use Rattle.std.proofs.Common.{refl}
use Rattle.acquisition.proofs.ones.first_place.Goals as goal

pub returns : goal.returns
returns c = refl
