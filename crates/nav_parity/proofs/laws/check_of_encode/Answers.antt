use Rattle.nav_parity.proofs.Checked.{each_data_have_a_word}
use Rattle.nav_parity.proofs.laws.check_of_encode.Goals as goal

pub returns : goal.returns
returns c = each_data_have_a_word
