use Rattle.std.proofs.Common.{rules}
use Rattle.nav_parity.proofs.Checked.{encoded_word}
use Rattle.nav_parity.proofs.parity.encode.Goals as goal

pub returns : goal.returns
returns c = search (rules, encoded_word)
