-- Worked examples of pushes, of the bit edge and of the bits after it.
use Rattle.std.proofs.Common.{◌≡◌, List, [], ◌∷◌, ◌++◌, refl}
use Rattle.std.specs.Prelude.{◌%◌, ◌==◌, ℤ, pos, negsuc, map, true, false, Some, replicate, ◌/◌}
use Rattle.std.specs.Prelude.{if◌then◌else◌}
use Rattle.std.specs.List.{range_with_len}
use Rattle.definitions.specs.Correlation.{Counts}
use Rattle.definitions.specs.Events.{pushes_of, pushes_by}
use Rattle.definitions.specs.Lock.{is_locked}
use Rattle.definitions.specs.BitEdge.{bits_after}
use Rattle.std.proofs.Common.{inl, inr, ℕ, zero, suc, ◌<◌, ◌≤◌, sym, arith}
use Rattle.std.specs.Prelude.{Bool, ◌||◌, not, ◌+◌}
use mathlib.Core.Bool.{xor}
use Rattle.std.specs.List.{list_all}
use Rattle.std.proofs.lemmas.Bool.{cases_lt, and_parts, eqb-true}
use Rattle.definitions.specs.BitEdge.{changes_at, is_change, is_edge}
use Rattle.definitions.proofs.SixteenthLemmas.{sixteenth}
use Rattle.std.specs.Prelude.{nat_lt}
use Rattle.definitions.specs.BitEdge.{is_crowded, push_at, reset_up_to}
use Rattle.std.specs.Int.{is_negative}
use Rattle.std.specs.Prelude.{nat_le}
use Rattle.std.specs.Prelude.{◌-◌, ◌&&◌}

-- pushes begin with the dump after a lock
abbrev dump : ℤ → ℤ → Counts
dump i q = record { ie = pos 0; qe = pos 0; ip = i; qp = q; il = pos 0; ql = pos 0 }

pushes_behind_lock : pushes_of (replicate 219 (dump (pos 2) (pos 1))
    ++ dump (pos 5) (pos 0) ∷ dump (negsuc 6) (pos 0) ∷ []) ≡ pos 5 ∷ negsuc 6 ∷ []
unfolding pushes_of pushes_by is_locked
pushes_behind_lock = refl

abbrev square_wave : List ℤ
square_wave = map (λ i. if i / 20 % 2 == 0 then pos 1 else negsuc 0) (range_with_len 0 361)

-- the bits after an edge at push 320
bits_behind_edge : bits_after square_wave (Some 320) ≡ false ∷ true ∷ []
bits_behind_edge = refl

-- the wave changes at place 0 modulo 20 alone: for the fifteenth time at push 300, for the
-- sixteenth at push 320, which is the edge
changes_of_wave : map (changes_at square_wave 0 0) (300 ∷ 320 ∷ []) ≡ 15 ∷ 16 ∷ []
unfolding xor
changes_of_wave = refl

abbrev is_at_place : ℕ → Bool
is_at_place i = not (is_change square_wave i) || (i % 20 == 0)

at_place : list_all is_at_place (range_with_len 0 361) ≡ true
unfolding xor
at_place = refl

range_passes : (test : ℕ → Bool) (a n i : ℕ) → list_all test (range_with_len a n) ≡ true → a ≤ i
    → i < a + n → test i ≡ true
range_passes test a zero i all low high = absurd (omega arith)
range_passes test a (suc n) i all low high = elim (cases_lt a i) [
  | inl later ↦ range_passes test (a + 1) n i (and_parts _ _ all).1 (omega (arith, later))
      (omega (arith, high))
  | inr here ↦ let same : a ≡ i = omega arith in rw (sym same) (and_parts _ _ all).0
]

one_place : (i : ℕ) → i ≤ 360 → is_change square_wave i ≡ true → i % 20 ≡ 0
one_place i h e = eqb-true (i % 20) 0
    (by_change (is_change square_wave i) (i % 20 == 0)
    (range_passes is_at_place 0 361 i at_place (omega arith) (omega arith)) e)
  where
    by_change : (b c : Bool) → (not b || c) ≡ true → b ≡ true → c ≡ true
    by_change true c all e = all
    by_change false c all e = cc

fifteenth_is_no_edge : is_edge square_wave 300 ≡ false
unfolding xor
fifteenth_is_no_edge = sixteenth square_wave 0 300 (λ i h e. one_place i (omega arith) e)

sixteenth_is_edge : is_edge square_wave 320 ≡ true
unfolding xor
sixteenth_is_edge = sixteenth square_wave 0 320 (λ i h e. one_place i (omega arith) e)

-- a bit whose sums add up to 0 is 0, to -1 is 1, each of its 20 pushes counts
zero_sums : bits_after (replicate 10 (pos 1) ++ replicate 10 (negsuc 0) ++ replicate 19 (pos 0)
    ++ negsuc 0 ∷ []) (Some 0) ≡ false ∷ true ∷ []
zero_sums = refl

-- the first push of a bit counts for it, and not for the bit before
first_pushes : bits_after (replicate 20 (pos 0) ++ negsuc 0 ∷ replicate 19 (pos 0)) (Some 0)
    ≡ false ∷ true ∷ []
first_pushes = refl

-- a bit of zeros between two pushes below zero, each of which counts for its own bit
bit_between : bits_after (replicate 19 (pos 0) ++ negsuc 0 ∷ replicate 20 (pos 0)
    ++ negsuc 0 ∷ replicate 19 (pos 0)) (Some 0) ≡ true ∷ false ∷ true ∷ []
bit_between = refl

-- no bit is whole without its last push
whole_bits : map (λ n. bits_after (replicate n (pos 0)) (Some 0)) (19 ∷ 20 ∷ 39 ∷ [])
    ≡ [] ∷ (false ∷ []) ∷ (false ∷ []) ∷ []
whole_bits = refl

-- two places with four changes each reset the counts, four and three don't
abbrev changing : List ℕ → ℕ → List ℤ
changing places n = map (λ k. at places k true) (range_with_len 0 n)
  where
    at : List ℕ → ℕ → Bool → ℤ
    at [] k sign = if sign then pos 1 else negsuc 0
    at (p ∷ ps) k sign =
        if nat_lt k p then (if sign then pos 1 else negsuc 0) else at ps k (xor sign true)

crowds : map (λ k. is_crowded (changing (1 ∷ 10 ∷ 21 ∷ 30 ∷ 41 ∷ 50 ∷ 61 ∷ 70 ∷ []) 72) 0 k)
    (69 ∷ 70 ∷ []) ≡ false ∷ true ∷ []
unfolding xor
crowds = refl

-- so it is at the first place, 0, and the last, 19
crowds_at_ends : map (λ k. is_crowded (changing (20 ∷ 39 ∷ 40 ∷ 59 ∷ 60 ∷ 79 ∷ 80 ∷ 99 ∷ []) 101) 0
    k)
    (98 ∷ 99 ∷ []) ≡ false ∷ true ∷ []
unfolding xor
crowds_at_ends = refl

-- 0 isn't below zero
changes_at_zero : map (is_change (pos 0 ∷ negsuc 0 ∷ pos 0 ∷ pos 1 ∷ [])) (range_with_len 0 4)
    ≡ false ∷ true ∷ true ∷ false ∷ []
unfolding xor
changes_at_zero = refl

-- a change at a reset isn't counted after it
change_at_reset : map (changes_at (pos 0 ∷ negsuc 0 ∷ pos 0 ∷ []) 1 1) (1 ∷ 2 ∷ []) ≡ 0 ∷ 0 ∷ []
unfolding xor
change_at_reset = refl

-- nor is one after the push up to which they are counted: push 21 here
change_after_push : map (changes_at (replicate 21 (pos 0) ++ negsuc 0 ∷ []) 1 20) (20 ∷ 21 ∷ [])
    ≡ 0 ∷ 1 ∷ []
unfolding xor
change_after_push = refl

-- changes before the sixteenth are no edge
no_early_edge : map (is_edge (pos 1 ∷ negsuc 0 ∷ pos 1 ∷ pos 1 ∷ [])) (range_with_len 0 4)
    ≡ replicate 4 false
unfolding xor reset_up_to
no_early_edge = refl

-- the first reset is at push 0, and a push that is crowded since the last one is the next
first_reset : (pushes : List ℤ) → reset_up_to pushes 0 ≡ 0
unfolding reset_up_to
first_reset pushes = refl

next_reset : (pushes : List ℤ) (k : ℕ) → is_crowded pushes (reset_up_to pushes k) (suc k) ≡ true
    → reset_up_to pushes (suc k) ≡ suc k
unfolding reset_up_to
next_reset pushes k crowded =
    if_true (is_crowded pushes (reset_up_to pushes k) (suc k)) (suc k) (reset_up_to pushes k)
    crowded
  where
    if_true : (b : Bool) (m n : ℕ) → b ≡ true → (if b then m else n) ≡ m
    if_true true m n e = refl
    if_true false m n e = cc

-- a change with the push after a reset is no edge, since those before the reset don't count
no_edge_after_reset : (pushes : List ℤ) (k : ℕ)
    → is_crowded pushes (reset_up_to pushes k) (suc k) ≡ true
    → is_edge pushes (suc (suc k)) ≡ false
no_edge_after_reset pushes k crowded =
    let here : suc (suc k) - 1 ≡ suc k = omega arith in
    rw here (after (suc k) (reset_up_to pushes (suc k)) (next_reset pushes k crowded))
  where
    few : (b c : Bool) → (b && (0 + (if c then 1 else 0) == 16)) ≡ false
    few true true = refl
    few true false = refl
    few false c = refl

    after : (n r : ℕ) → r ≡ n → ((nat_le 1 (suc n)
        && xor (is_negative (push_at pushes n)) (is_negative (push_at pushes (suc n))))
        && (changes_at pushes (suc n % 20) r (suc n) == 16)) ≡ false
    after n r e =
        let one : suc n - n ≡ 1 = omega arith in
        rw (e, one)
        (few (nat_le 1 (suc n)
        && xor (is_negative (push_at pushes n)) (is_negative (push_at pushes (suc n))))
        ((n + 1) % 20 == suc n % 20 && is_change pushes (n + 1)))
