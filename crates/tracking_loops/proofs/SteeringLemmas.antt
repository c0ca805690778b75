-- The carrier's shift with one more dump.
use Rattle.std.proofs.Common.{◌≡◌, ◌+◌, ◌^◌, ◌<◌, ◌≤◌, w64, to_z, of_z, refl, ap, ◌∙◌, arith}
use Rattle.std.specs.Prelude.{ℤ, pos, ◌+ℤ◌, ◌*ℤ◌, unsigned_abs}
use Rattle.std.proofs.lemmas.Int.{ints}
use Rattle.std.proofs.lemmas.Bool.{lt-ltb, le-ltb}
use Rattle.definitions.specs.Correlation.{Counts}
use Rattle.definitions.specs.Loops.{Loops, loops_after_dump, clamp_shift, frequency_error}
use Rattle.definitions.specs.Loops.{phase_error}

module _ (l : Loops) (d : Counts) where
  pub pulled-u : l.taken + 1 < 200 → (loops_after_dump l d).u
      ≡ clamp_shift (l.u +ℤ pos 160 *ℤ frequency_error l.last d)
  pulled-u h = rw (lt-ltb (l.taken + 1) 200 h) refl

  pub pulled-v : l.taken + 1 < 200 → (loops_after_dump l d).v
      ≡ clamp_shift (l.u +ℤ pos 160 *ℤ frequency_error l.last d)
  pulled-v h = rw (lt-ltb (l.taken + 1) 200 h) refl

  pub held-u : 200 ≤ l.taken + 1 → (loops_after_dump l d).u
      ≡ clamp_shift (l.u +ℤ pos 6 *ℤ phase_error d)
  held-u h = rw (le-ltb (l.taken + 1) 200 h) refl

  pub held-v : 200 ≤ l.taken + 1 → (loops_after_dump l d).v
      ≡ clamp_shift (clamp_shift (l.u +ℤ pos 6 *ℤ phase_error d) +ℤ pos 170 *ℤ phase_error d)
  held-v h = rw (le-ltb (l.taken + 1) 200 h) refl

module _ (u e : ℤ) (u_in : unsigned_abs u ≤ 2 ^ 30) (e_in : unsigned_abs e ≤ 4096) where
  pub pull_is : to_z w64 (of_z w64 (to_z w64 (of_z w64 u) +ℤ to_z w64
      (of_z w64 (pos 160 *ℤ to_z w64 (of_z w64 e))))) ≡ u +ℤ pos 160 *ℤ e
  pull_is = omega (arith, ints)

  pub slow_is : to_z w64 (of_z w64 (to_z w64 (of_z w64 u) +ℤ to_z w64
      (of_z w64 (pos 6 *ℤ to_z w64 (of_z w64 e))))) ≡ u +ℤ pos 6 *ℤ e
  slow_is = omega (arith, ints)

  pub fast_is : to_z w64 (of_z w64 (to_z w64 (of_z w64 u) +ℤ to_z w64
      (of_z w64 (pos 170 *ℤ to_z w64 (of_z w64 e))))) ≡ u +ℤ pos 170 *ℤ e
  fast_is = omega (arith, ints)

pub rate_is : (e : ℤ) → unsigned_abs e ≤ 4096 → to_z w64
    (of_z w64 (pos 16 *ℤ to_z w64 (of_z w64 e))) ≡ pos 16 *ℤ e
rate_is e e_in = omega (arith, ints)

-- the parts together
pub with_parts : (l : Loops) (d : Counts) (u v w : ℤ) → u ≡ (loops_after_dump l d).u → v
    ≡ (loops_after_dump l d).v → w ≡ (loops_after_dump l d).w
    → record { taken = l.taken + 1; last = d; u = u; v = v; w = w } ≡ loops_after_dump l d
with_parts l d u v w u_is v_is w_is =
    ap (λ (x : ℤ). let r : Loops = record { taken = l.taken + 1; last = d; u = x; v = v; w = w } in
    r) u_is
    ∙ ap (λ (x : ℤ). let r : Loops = record {
      taken = l.taken + 1;
      last = d;
      u =
          (loops_after_dump l d).u;
      v = x;
      w = w;
    } in r) v_is
    ∙ ap (λ (x : ℤ). let r : Loops = record {
      taken = l.taken + 1;
      last = d;
      u =
          (loops_after_dump l d).u;
      v = (loops_after_dump l d).v;
      w = x;
    } in r) w_is
