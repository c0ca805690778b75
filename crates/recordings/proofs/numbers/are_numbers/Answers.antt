use Rattle.std.proofs.Common.{◌≡◌, ℕ, ◌+◌, ◌*◌, ◌<◌, ◌≤◌, ◌^◌, ◌%◌, true, false, inl, inr, refl, arith}
use Rattle.std.proofs.Common.{sym}
use Rattle.std.specs.Prelude.{Bool, nat_le, ◌&&◌}
use Rattle.std.proofs.lemmas.Bool.{cases_lt, false≢true}
use Rattle.std.proofs.lemmas.Bool.Decides.{nat_tests}
use Rattle.recordings.specs.Readings.{four_bytes, IsNumber}
use Rattle.recordings.proofs.numbers.are_numbers.Goals as goal

next_all : (all : Bool) (i x : ℕ) (f : ℕ → ℕ) → x ≡ f i
    → (all ≡ true → (k : ℕ) → k < i → IsNumber (f k))
    → (all && nat_le (x % 2 ^ 31) 0x7f800000) ≡ true → (k : ℕ) → k < i + 1 → IsNumber (f k)
next_all false i x f e inv h k below = absurd (false≢true h)
next_all true i x f e inv h k below = elim (cases_lt k i) [
  | inl before ↦ inv refl k before
  | inr last ↦ let at : k ≡ i = omega (arith, below, last) in
      rw (at, sym e) (grind (arith, nat_tests))
]

next_some : (all : Bool) (i x : ℕ) (f : ℕ → ℕ) → x ≡ f i
    → (all ≡ false → (k : ℕ) × (k < i) × (IsNumber (f k) → ⊥))
    → (all && nat_le (x % 2 ^ 31) 0x7f800000) ≡ false
    → (k : ℕ) × (k < i + 1) × (IsNumber (f k) → ⊥)
next_some false i x f e inv h =
    let (k, below, none) = inv refl in (k, omega (arith, below), none)
next_some true i x f e inv h = (
  i,
  omega arith,
  λ number. let n : x % 2 ^ 31 ≤ 0x7f800000 = rw e number in
      grind (arith, nat_tests),
)

pub loop-i-preserved : goal.loop-i-preserved
loop-i-preserved c = record {
  all = next_all c.loop-i.all c.loop-i.i c.four_bytes.result (λ k. four_bytes c.args.bytes.now
      (4 * k)) c.four_bytes.ensures.value c.loop-i.invariant.all;
  some = next_some c.loop-i.all c.loop-i.i c.four_bytes.result (λ k. four_bytes c.args.bytes.now
      (4 * k)) c.four_bytes.ensures.value c.loop-i.invariant.some;
}
