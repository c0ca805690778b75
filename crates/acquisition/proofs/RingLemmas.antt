-- Rings of chips.
use Rattle.std.proofs.Common.{inl, inr, ◌≡◌, ℕ, ◌+◌, ◌-◌, ◌<◌, ◌≤◌, refl, ap, ◌∙◌, arith}
use Rattle.std.proofs.Common.{to_z, of_z, w32, FitsSigned}
use Rattle.std.specs.Prelude.{ℤ, pos, ◌+ℤ◌, ◌⊎◌, List, slice_index, unsigned_abs}
use Rattle.std.specs.Prelude.{length, take, drop, slice_set}
use Rattle.std.proofs.lemmas.Int.{to_z-of_z, fits_signed_from_abs}
use Rattle.std.proofs.lemmas.List.{length-drop}
use Rattle.std.proofs.lemmas.List.{get_or-take, get_or-drop, length-take-le}
use Rattle.std.proofs.lemmas.List.{get_or-set_same, get_or-set_other}
use Rattle.std.specs.Simd.Lanes.{chunk}
use Rattle.std.proofs.lemmas.Bool.{cases_lt}
use Rattle.std.proofs.lemmas.Simd.{get_or-chunk, length-chunk}
use Rattle.acquisition.specs.Rings.{chip_from, half_chip_in_ring, IsRing, AreEntries}
use Rattle.acquisition.specs.declared.chip_ring.TheConstants.{RAISED, RING}
use Rattle.acquisition.specs.declared.sums.TheConstants.{MOST_PERIOD_SUM}
use Rattle.acquisition.proofs.SizeLemmas.{abs_add}
use Rattle.acquisition.specs.declared.half_chip_table.TheConstants.{HALF_CHIPS, LAST}

-- sixteen of 64 places
pub entries_of : (chips : List ℕ) (at n k : ℕ) → length chips ≡ RING → at + 64 ≤ RING → n ≡ 64
    → k + 16 ≤ 64 → AreEntries chips (at + k) (chunk k 16 (take n (drop at chips)))
entries_of chips at n k long within whole inside =
    let rest : length (drop at chips) ≡ RING - at = length-drop at chips ∙ rw long refl in
    let of : length (take n (drop at chips)) ≡ 64 =
    length-take-le n (drop at chips) (omega (arith, whole, within, rest)) ∙ whole in
    record {
      long = length-chunk k 16 (take n (drop at chips)) (omega (arith, of, inside));
      are = λ l h. get_or-chunk k 16 (take n (drop at chips)) l 0 h
          ∙ get_or-take n (drop at chips) (k + l) 0 (omega (arith, whole, inside, h))
          ∙ get_or-drop at chips (k + l) 0 ∙ ap (slice_index chips) (on at k l);
    }
  where
    on : (at k l : ℕ) → at + (k + l) ≡ at + k + l
    on at k l = omega arith

-- the sum of two entries of a table, in 32 bits
pub record IsChip (a b chip : ℤ) : Type 0 where
  pub fits : FitsSigned w32 (to_z w32 (of_z w32 a) +ℤ to_z w32 (of_z w32 b))
  pub value : chip ≡ a +ℤ b
  pub small : unsigned_abs chip ≤ RAISED

pub chip_is : (a b : ℤ) → unsigned_abs a ≤ MOST_PERIOD_SUM → unsigned_abs b ≤ MOST_PERIOD_SUM
    → IsChip a b (to_z w32 (of_z w32 (to_z w32 (of_z w32 a) +ℤ to_z w32 (of_z w32 b))))
chip_is a b small_a small_b =
    let kept_a : to_z w32 (of_z w32 a) ≡ a = kept a (omega (arith, small_a)) in
    let kept_b : to_z w32 (of_z w32 b) ≡ b = kept b (omega (arith, small_b)) in
    let small : unsigned_abs (a +ℤ b) ≤ RAISED =
    omega (arith, abs_add a b, small_a, small_b) in
    let whole : to_z w32 (of_z w32 (a +ℤ b)) ≡ a +ℤ b = kept (a +ℤ b) small in
    record {
      fits = rw (kept_a, kept_b) (fits_signed_from_abs w32 (a +ℤ b) (omega (arith, small)));
      value = rw (kept_a, kept_b) whole;
      small = rw (kept_a, kept_b, whole) small;
    }
  where
    kept : (z : ℤ) → unsigned_abs z ≤ RAISED → to_z w32 (of_z w32 z) ≡ z
    kept z small = to_z-of_z w32 z (fits_signed_from_abs w32 z (omega (arith, small)))

-- the chips that begin at the first n half chips are put in
abbrev pub AreSet : ℕ → List ℤ → List ℕ → Type 0
AreSet n table ring = (j : ℕ) → j < n
    → pos (slice_index ring (LAST - j)) ≡ pos RAISED +ℤ chip_from table j

pub set_next : (n : ℕ) (chip : ℤ) (table : List ℤ) (old new : List ℕ) → n < HALF_CHIPS
    → AreSet n table old → chip ≡ chip_from table n
    → pos (slice_index new (LAST - n)) ≡ pos RAISED +ℤ chip
    → ((i : ℕ) → (i ≡ LAST - n → ⊥) → slice_index new i ≡ slice_index old i)
    → AreSet (n + 1) table new
set_next n chip table old new below before is put others j h = elim (last_or_before j n h) [
  | inl same ↦ rw same (put ∙ rw is refl)
  | inr earlier ↦ rw (others (LAST - j) (λ e. absurd (omega (arith, earlier, below, e))))
      (before j earlier)
]
  where
    last_or_before : (j k : ℕ) → j < k + 1 → (j ≡ k) ⊎ (j < k)
    last_or_before j k h = grind arith

-- one more number is put in
pub put_next : (chips : List ℕ) (i put : ℕ) (f : ℕ → ℕ) → i < length chips
    → ((j : ℕ) → j < i → slice_index chips j ≡ f j) → put ≡ f i
    → (j : ℕ) → j < i + 1 → slice_index (slice_set chips i put) j ≡ f j
put_next chips i put f inside before is j h = elim (cases_lt j i) [
  | inl earlier ↦ get_or-set_other chips i j put 0 (λ e. absurd (omega (arith, earlier, e)))
      ∙ before j earlier
  | inr later ↦ let here : j ≡ i = omega (arith, later, h) in
      rw here (get_or-set_same chips i put 0 inside ∙ is)
]

-- and once all are, and the first ones again after the last
pub ring_is : (table : List ℤ) (old new : List ℕ) → AreSet HALF_CHIPS table old
    → ((i : ℕ) → HALF_CHIPS ≤ i → i < RING → slice_index new i ≡ slice_index old (i - HALF_CHIPS))
    → ((i : ℕ) → i < HALF_CHIPS → slice_index new i ≡ slice_index old i)
    → IsRing table new
ring_is table old new all after others i h = elim (cases_lt i HALF_CHIPS) [
  | inl low ↦ ap pos (others i low ∙ ap (slice_index old) (back i low))
      ∙ all (LAST - i) (omega arith)
      ∙ ap raised (first_turn i low)
  | inr high ↦ ap pos (after i high h ∙ ap (slice_index old) (back_again i high h))
      ∙ all (HALF_CHIPS + LAST - i) (omega (arith, high))
      ∙ ap raised (second_turn i high h)
]
  where
    raised : ℕ → ℤ
    raised k = pos RAISED +ℤ chip_from table k

    back : (i : ℕ) → i < HALF_CHIPS → i ≡ LAST - (LAST - i)
    back i h = omega (arith, h)

    back_again : (i : ℕ) → HALF_CHIPS ≤ i → i < RING
        → i - HALF_CHIPS ≡ LAST - (HALF_CHIPS + LAST - i)
    back_again i high h = omega (arith, high, h)

    first_turn : (i : ℕ) → i < HALF_CHIPS → LAST - i ≡ half_chip_in_ring i
    first_turn i low = omega (arith, low)

    second_turn : (i : ℕ) → HALF_CHIPS ≤ i → i < RING → HALF_CHIPS + LAST - i ≡ half_chip_in_ring i
    second_turn i low high = omega (arith, low, high)
