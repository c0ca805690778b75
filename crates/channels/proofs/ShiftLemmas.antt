-- The shift at which loops begin, as a number of 64 bits.
use Rattle.std.proofs.Common.{◌≡◌, ◌≤◌, ℤ, ◌∙◌, arith, w64, to_z, of_z}
use Rattle.std.specs.Prelude.{unsigned_abs}
use Rattle.std.proofs.lemmas.Int.{to_z-of_z, fits_signed_from_abs}
use Rattle.oscillators.specs.declared.settings.TheConstants.{MOST_SHIFT}

pub as-number : (v : ℤ) → unsigned_abs v ≤ MOST_SHIFT → to_z w64 (of_z w64 v) ≡ v
as-number v small = to_z-of_z w64 v (fits_signed_from_abs w64 v (omega (arith, small)))

pub same-shift : (v shift : ℤ) → unsigned_abs v ≤ MOST_SHIFT → v ≡ shift
    → to_z w64 (of_z w64 v) ≡ shift
same-shift v shift small is = as-number v small ∙ is
