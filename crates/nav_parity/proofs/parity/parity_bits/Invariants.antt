use Rattle.std.proofs.Common.{◌≡◌}
use Rattle.nav_parity.proofs.Digits.{number}
use Rattle.nav_parity.proofs.Masks.{masked_parity}
use Rattle.nav_parity.proofs.parity.parity_bits.Given as goal

abbrev pub invariant-loop-mask : goal.invariant-loop-mask
invariant-loop-mask l = l.bits ≡ number (masked_parity l.summed) l.mask-index
