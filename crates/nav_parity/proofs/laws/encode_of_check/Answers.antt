use Rattle.nav_parity.proofs.Checked.{each_word_is_encoded}
use Rattle.nav_parity.proofs.laws.encode_of_check.Goals as goal

pub returns : goal.returns
returns c = each_word_is_encoded
