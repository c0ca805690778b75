use Rattle.nav_parity.proofs.InvertedWords.{same_inverted}
use Rattle.nav_parity.proofs.laws.inversion_is_harmless.Goals as goal

pub returns : goal.returns
returns c word prior is_word is_prior = same_inverted word prior
