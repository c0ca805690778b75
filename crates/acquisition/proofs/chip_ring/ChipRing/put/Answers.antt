use Rattle.std.proofs.Common.{◌≡◌, ◌-◌, ◌≤◌, ◌+ℤ◌, ℤ, pos, unsigned_abs, w32, FitsSigned, to_z}
use Rattle.std.proofs.Common.{of_z, arith, ◌∙◌, ap}
use Rattle.std.proofs.lemmas.Int.{ints, to_z-of_z, fits_signed_from_abs}
use Rattle.std.proofs.lemmas.List.{get_or-set_same}
use Rattle.acquisition.specs.declared.chip_ring.TheConstants.{RAISED}
use Rattle.acquisition.proofs.chip_ring.ChipRing.put.Goals as goal

-- a small sum, raised, as it is kept in 32 bits
raised_by : (chip : ℤ) → unsigned_abs chip ≤ RAISED
    → pos (unsigned_abs (to_z w32 (of_z w32 (to_z w32 (of_z w32 chip) +ℤ pos 524288))))
    ≡ pos RAISED +ℤ chip
raised_by chip small =
    let fits : FitsSigned w32 chip = fits_signed_from_abs w32 chip (omega (arith, small)) in
    let sum : FitsSigned w32 (chip +ℤ pos 524288) =
    fits_signed_from_abs w32 (chip +ℤ pos 524288) (omega (arith, ints, small)) in
    rw (to_z-of_z w32 chip fits, to_z-of_z w32 (chip +ℤ pos 524288) sum)
    (omega (arith, ints, small))

pub returns-clause-chip : goal.returns-clause-chip
returns-clause-chip c =
    let chips = c.args.self.now.chips in
    ap pos (get_or-set_same chips (2045 - c.args.k) _ 0 (omega (arith, c.args.self.now.long)))
    ∙ raised_by c.args.chip c.requires.small
