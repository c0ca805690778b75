use Rattle.std.proofs.Common.{◌≡◌, ◌≤◌, ◌*◌, ◌-ℤ◌, pos, w32, FitsSigned, to_z, of_z, arith, ℕ}
use Rattle.std.proofs.lemmas.Int.{ints, to_z-of_z, to_z_pos, fits_signed_from_abs}
use Rattle.acquisition.specs.declared.plan.TheConstants.{MOST_SIDE_BINS}
use Rattle.acquisition.proofs.plan.Plan.bin.Goals as goal

-- a bin's number less that of the middle one, as it is kept in 32 bits
less : (k bins : ℕ) → bins ≤ MOST_SIDE_BINS → k ≤ 2 * bins
    → to_z w32 (of_z w32 (to_z w32 k -ℤ to_z w32 bins)) ≡ pos k -ℤ pos bins
less k bins few far =
    let fits : FitsSigned w32 (pos k -ℤ pos bins) =
    fits_signed_from_abs w32 (pos k -ℤ pos bins) (omega (arith, ints, few, far)) in
    rw (to_z_pos w32 k (omega (arith, few, far)), to_z_pos w32 bins (omega (arith, few)))
    (to_z-of_z w32 (pos k -ℤ pos bins) fits)

pub returns-clause-value : goal.returns-clause-value
returns-clause-value c =
    let few = c.self.invariant.1 in
    let bins : ℕ = c.self.inside.bins in
    let far : c.args.k ≤ 2 * bins = rw (← c.self.view_is) at c.requires in
    rw (← c.self.view_is) (less c.args.k bins few far)
