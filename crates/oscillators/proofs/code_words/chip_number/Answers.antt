use Rattle.std.proofs.Common.{refl}
use Rattle.oscillators.proofs.code_words.chip_number.Goals as goal

pub returns : goal.returns
returns c = refl
