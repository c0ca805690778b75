-- Words of a plane.
use Rattle.std.proofs.Common.{◌≡◌, ◌≢◌, ℕ, ◌+◌, ◌-◌, ◌*◌, ◌/◌, ◌%◌, ◌<◌, ◌≤◌, List, length}
use Rattle.std.proofs.Common.{get_or, ap, ◌∙◌, arith, inl, inr}
use Rattle.std.specs.Prelude.{slice_set}
use Rattle.std.specs.Int.{bit_at}
use Rattle.std.proofs.lemmas.List.{get_or-set_other, get_or-set_same}
use Rattle.std.proofs.lemmas.Bool.{cases_lt}
use Rattle.bit_planes.specs.Bits.{bit, bit_of, IsDrawn}

-- one more word of a plane
pub set_drawn : (words : List ℕ) (w word : ℕ) (f : ℕ → ℕ) → length words ≡ 16 → w < 16
    → IsDrawn f (64 * w) (record { words = words })
    → ((j : ℕ) → j < 64 → bit_at word (63 - j) ≡ f (64 * w + j))
    → IsDrawn f (64 * w + 64) (record { words = slice_set words w word })
unfolding bit
set_drawn words w word f long few old bits = record { drawn = drawn; clear = clear }
  where
    elsewhere : (i : ℕ) → i / 64 ≢ w → bit_of (slice_set words w word) i ≡ bit_of words i
    elsewhere i other = ap (λ (x : ℕ). bit_at x (63 - i % 64)) (get_or-set_other words w (i / 64)
        word 0 other)

    there : (i : ℕ) → i / 64 ≡ w → bit_of (slice_set words w word) i ≡ bit_at word (63 - i % 64)
    there i e = ap (λ (x : ℕ). bit_at x (63 - i % 64)) (ap
        (λ (k : ℕ). get_or (slice_set words w word) k 0) e
        ∙ get_or-set_same words w word 0 (omega (arith, long)))

    drawn : (i : ℕ) → i < 64 * w + 64 → i < 1024 → bit_of (slice_set words w word) i ≡ f i
    drawn i h room = elim (cases_lt (i / 64) w) [
      | inl before ↦ elsewhere i (λ e. absurd (omega (arith, before, e)))
          ∙ old.drawn i (omega arith) room
      | inr from ↦
          let e : i / 64 ≡ w = omega arith in
          let back : 64 * w + i % 64 ≡ i = omega arith in
          there i e ∙ bits (i % 64) (omega arith) ∙ ap f back
    ]

    clear : (i : ℕ) → 64 * w + 64 ≤ i → i < 1024 → bit_of (slice_set words w word) i ≡ 0
    clear i h room = elsewhere i (λ e. absurd (omega (arith, e))) ∙ old.clear i (omega arith) room
