-- How great the sums of a correlator are.
use Rattle.std.proofs.Common.{◌≡◌, ℕ, ◌+◌, ◌-◌, ◌*◌, ◌<◌, ◌≤◌, arith, inl, inr}
use Rattle.std.specs.Prelude.{ℤ, pos, negsuc, ◌*ℤ◌, ◌+ℤ◌, ◌-ℤ◌, unsigned_abs, ◌⊎◌}
use Rattle.std.proofs.Math.Nat.{mul-le-mul_right}
use Rattle.std.proofs.lemmas.Int.{ints, unsigned_abs-mul}
use Rattle.definitions.specs.Samples.{Sample}
use Rattle.definitions.proofs.SumsLemmas.{total-bound}
use Rattle.definitions.specs.Correlation.{Replica, six_sums, in_phase_sum, quadrature_sum}
use Rattle.definitions.specs.Correlation.{wiped_in_phase, wiped_quadrature}
use Rattle.lane_correlator.specs.Counting.{AreWithin}

abbrev pub IsSign : ℤ → Type 0
IsSign c = (c ≡ pos 1) ⊎ (c ≡ negsuc 0)

-- all chips of a range are signs
abbrev pub AreSigns : (ℕ → ℤ) → ℕ → ℕ → Type 0
AreSigns chip from to = (j : ℕ) → from ≤ j → j < to → IsSign (chip j)

pub record HasSigns (r : Replica) (from to : ℕ) : Type 0 where
  pub early_signs : AreSigns r.early from to
  pub prompt_signs : AreSigns r.prompt from to
  pub late_signs : AreSigns r.late from to

-- parts are 3 at most in size, cosine and sine together 3 at most
pub record AreSmall (x : ℕ → Sample) (cos sin : ℕ → ℤ) (from to : ℕ) : Type 0 where
  pub in_phase : (j : ℕ) → from ≤ j → j < to → unsigned_abs (x j).in_phase ≤ 3
  pub quadrature : (j : ℕ) → from ≤ j → j < to → unsigned_abs (x j).quadrature ≤ 3
  pub wave : (j : ℕ) → from ≤ j → j < to → unsigned_abs (cos j) + unsigned_abs (sin j) ≤ 3

abs_add : (a b : ℤ) → unsigned_abs (a +ℤ b) ≤ unsigned_abs a + unsigned_abs b
abs_add a b = omega (arith, ints)

abs_less : (a b : ℤ) → unsigned_abs (a -ℤ b) ≤ unsigned_abs a + unsigned_abs b
abs_less a b = omega (arith, ints)

abs_sign : (z c : ℤ) → IsSign c → unsigned_abs (z *ℤ c) ≡ unsigned_abs z
abs_sign z c is = elim is [
  | inl one ↦ rw one (omega (arith, ints))
  | inr minus ↦ rw minus (omega (arith, ints))
]

three_times : (x w : ℤ) → unsigned_abs x ≤ 3 → unsigned_abs (x *ℤ w) ≤ 3 * unsigned_abs w
three_times x w h = rw (unsigned_abs-mul x w) (mul-le-mul_right (unsigned_abs w) h)

in_phase_place : (i q cos sin c : ℤ) → unsigned_abs i ≤ 3 → unsigned_abs q ≤ 3
    → unsigned_abs cos + unsigned_abs sin ≤ 3 → IsSign c
    → unsigned_abs ((i *ℤ cos +ℤ q *ℤ sin) *ℤ c) ≤ 9
in_phase_place i q cos sin c hi hq hw is =
    rw (abs_sign (i *ℤ cos +ℤ q *ℤ sin) c is)
    (omega (
      arith,
      abs_add (i *ℤ cos) (q *ℤ sin),
      three_times i cos hi,
      three_times q sin hq,
      hw,
    ))

quadrature_place : (i q cos sin c : ℤ) → unsigned_abs i ≤ 3 → unsigned_abs q ≤ 3
    → unsigned_abs cos + unsigned_abs sin ≤ 3 → IsSign c
    → unsigned_abs ((q *ℤ cos -ℤ i *ℤ sin) *ℤ c) ≤ 9
quadrature_place i q cos sin c hi hq hw is =
    rw (abs_sign (q *ℤ cos -ℤ i *ℤ sin) c is)
    (omega (
      arith,
      abs_less (q *ℤ cos) (i *ℤ sin),
      three_times q cos hq,
      three_times i sin hi,
      hw,
    ))

pub in_phase-small : (x : ℕ → Sample) (cos sin chip : ℕ → ℤ) (from to : ℕ)
    → AreSmall x cos sin from to → AreSigns chip from to
    → unsigned_abs (in_phase_sum x cos sin chip from to) ≤ 9 * (to - from)
unfolding in_phase_sum
in_phase-small x cos sin chip from to s signs =
    omega (
      arith,
      total-bound
          (λ j. wiped_in_phase (x (from + j)) (cos (from + j)) (sin (from + j)) *ℤ chip (from + j))
          9 (to - from) (λ j h.
          let low : from ≤ from + j = omega arith in
          let high : from + j < to = omega arith in
          in_phase_place (x (from + j)).in_phase (x (from + j)).quadrature (cos (from + j))
          (sin (from + j)) (chip (from + j))
          (s.in_phase (from + j) low high) (s.quadrature (from + j) low high)
          (s.wave (from + j) low high) (signs (from + j) low high)),
    )

pub quadrature-small : (x : ℕ → Sample) (cos sin chip : ℕ → ℤ) (from to : ℕ)
    → AreSmall x cos sin from to → AreSigns chip from to
    → unsigned_abs (quadrature_sum x cos sin chip from to) ≤ 9 * (to - from)
unfolding quadrature_sum
quadrature-small x cos sin chip from to s signs =
    omega (
      arith,
      total-bound
          (λ j. wiped_quadrature (x (from + j)) (cos (from + j)) (sin (from + j))
          *ℤ chip (from + j)) 9 (to - from) (λ j h.
          let low : from ≤ from + j = omega arith in
          let high : from + j < to = omega arith in
          quadrature_place (x (from + j)).in_phase (x (from + j)).quadrature (cos (from + j))
          (sin (from + j)) (chip (from + j))
          (s.in_phase (from + j) low high) (s.quadrature (from + j) low high)
          (s.wave (from + j) low high) (signs (from + j) low high)),
    )

pub six-small : (x : ℕ → Sample) (r : Replica) (from to : ℕ) → AreSmall x r.cos r.sin from to
    → HasSigns r from to → AreWithin (9 * (to - from)) (six_sums x r from to)
unfolding six_sums
six-small x r from to s signs = record {
  ie = in_phase-small x r.cos r.sin r.early from to s signs.early_signs;
  qe = quadrature-small x r.cos r.sin r.early from to s signs.early_signs;
  ip = in_phase-small x r.cos r.sin r.prompt from to s signs.prompt_signs;
  qp = quadrature-small x r.cos r.sin r.prompt from to s signs.prompt_signs;
  il = in_phase-small x r.cos r.sin r.late from to s signs.late_signs;
  ql = quadrature-small x r.cos r.sin r.late from to s signs.late_signs;
}

-- the same without a chip
pub wiped_small : (i q cos sin : ℤ) → unsigned_abs i ≤ 3 → unsigned_abs q ≤ 3
    → unsigned_abs cos + unsigned_abs sin ≤ 3 → unsigned_abs (i *ℤ cos +ℤ q *ℤ sin) ≤ 9
wiped_small i q cos sin hi hq hw = omega (
  arith,
  abs_add (i *ℤ cos) (q *ℤ sin),
  three_times i cos hi,
  three_times q sin hq,
  hw,
)

pub wiped_quadrature_small : (i q cos sin : ℤ) → unsigned_abs i ≤ 3 → unsigned_abs q ≤ 3
    → unsigned_abs cos + unsigned_abs sin ≤ 3 → unsigned_abs (q *ℤ cos -ℤ i *ℤ sin) ≤ 9
wiped_quadrature_small i q cos sin hi hq hw = omega (
  arith,
  abs_less (q *ℤ cos) (i *ℤ sin),
  three_times q cos hq,
  three_times i sin hi,
  hw,
)

-- and of parts that are 1 in size
once : (x w : ℤ) → unsigned_abs x ≤ 1 → unsigned_abs (x *ℤ w) ≤ 1 * unsigned_abs w
once x w h = rw (unsigned_abs-mul x w) (mul-le-mul_right (unsigned_abs w) h)

pub one_bit_small : (i q cos sin : ℤ) → unsigned_abs i ≤ 1 → unsigned_abs q ≤ 1
    → unsigned_abs cos + unsigned_abs sin ≤ 3 → unsigned_abs (i *ℤ cos +ℤ q *ℤ sin) ≤ 3
one_bit_small i q cos sin hi hq hw = omega (
  arith,
  abs_add (i *ℤ cos) (q *ℤ sin),
  once i cos hi,
  once q sin hq,
  hw,
)

pub one_bit_quadrature_small : (i q cos sin : ℤ) → unsigned_abs i ≤ 1 → unsigned_abs q ≤ 1
    → unsigned_abs cos + unsigned_abs sin ≤ 3 → unsigned_abs (q *ℤ cos -ℤ i *ℤ sin) ≤ 3
one_bit_quadrature_small i q cos sin hi hq hw = omega (
  arith,
  abs_less (q *ℤ cos) (i *ℤ sin),
  once q cos hq,
  once i sin hi,
  hw,
)
