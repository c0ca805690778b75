use Rattle.nav_parity.proofs.ThreeErrors.{detects_three_errors}
use Rattle.nav_parity.proofs.laws.three_errors_are_detected.Goals as goal

pub returns : goal.returns
returns c = detects_three_errors
