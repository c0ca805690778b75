-- Worked examples of changes among pushes, by their places modulo 20.
use Rattle.std.proofs.Common.{◌≡◌, refl}
use Rattle.std.specs.Prelude.{List, None, Some, count_by, false, map, nat_le, negsuc, pos, take}
use Rattle.std.specs.Prelude.{true, ◌%◌, ◌∷◌, ◌==◌, if◌then◌else◌}
use Rattle.definitions.specs.BitEdge.{bit_of, bits_after, changes_at, is_crowded, is_edge, push_at}
use Rattle.definitions.specs.BitEdge.{reset_up_to}
use Rattle.std.specs.List.{range_with_len}
use mathlib.Core.Bool.{xor}
use Rattle.std.proofs.Common.{[], ℕ}
use Rattle.std.specs.Prelude.{ℤ}

-- a list of n pushes whose sign changes at these places
abbrev changing : List ℕ → ℕ → List ℤ
changing places n = map (λ k. if (count_by (λ place. nat_le place k) places) % 2 == 0 then pos 1
    else negsuc 0) (range_with_len 0 n)

-- past the last push there is 0, which isn't below zero
past_the_last : map (push_at (pos 5 ∷ negsuc 5 ∷ [])) (0 ∷ 1 ∷ 2 ∷ [])
    ≡ pos 5 ∷ negsuc 5 ∷ pos 0 ∷ []
past_the_last = refl

abbrev four_changes : List ℤ
four_changes = changing (1 ∷ 10 ∷ 21 ∷ 41 ∷ []) 45

-- changes at pushes 1, 21 and 41 have place 1, that at push 10 has place 10
changes_by_place : map (λ place. changes_at four_changes place 0 44) (0 ∷ 1 ∷ 10 ∷ 11 ∷ [])
    ≡ 0 ∷ 3 ∷ 1 ∷ 0 ∷ []
unfolding xor
changes_by_place = refl

-- those after push 1, up to 20, up to 21 and up to 41
changes_after_one : map (changes_at four_changes 1 1) (20 ∷ 21 ∷ 41 ∷ []) ≡ 0 ∷ 1 ∷ 2 ∷ []
unfolding xor
changes_after_one = refl

-- four changes at each of places 19 and 0 crowd them, and one place alone isn't crowded
crowded_ends : is_crowded (changing (19 ∷ 20 ∷ 39 ∷ 40 ∷ 59 ∷ 60 ∷ 79 ∷ 80 ∷ []) 81) 0 79
    ∷ is_crowded (changing (19 ∷ 20 ∷ 39 ∷ 40 ∷ 59 ∷ 60 ∷ 79 ∷ 80 ∷ []) 81) 0 80 ∷ []
    ≡ false ∷ true ∷ []
unfolding xor
crowded_ends = refl

-- push 62 resets the counts, for the change at push 1 counts
resets : map (reset_up_to (changing (1 ∷ 2 ∷ 21 ∷ 22 ∷ 41 ∷ 42 ∷ 61 ∷ 62 ∷ []) 64)) (61 ∷ 62 ∷ 63
    ∷ [])
    ≡ 0 ∷ 62 ∷ 62 ∷ []
unfolding reset_up_to xor
resets = refl

-- a first change is no edge
first_change_is_no_edge : map (is_edge (changing (1 ∷ []) 3)) (1 ∷ 2 ∷ []) ≡ false ∷ false ∷ []
unfolding reset_up_to xor
first_change_is_no_edge = refl

-- all pushes are 0 but one, which is -1
abbrev one_below : ℕ → List ℤ
one_below place = map (λ k. if k == place then negsuc 0 else pos 0) (range_with_len 0 60)

-- bit 1 after an edge at push 2 is made of pushes 22 to 41
second_bit : map (λ place. bit_of (one_below place) 2 1) (21 ∷ 22 ∷ 41 ∷ 42 ∷ [])
    ≡ false ∷ true ∷ true ∷ false ∷ []
second_bit = refl

-- from push 2 on 39 pushes are one whole bit, 40 are two
whole_bits : map (λ n. bits_after (take n (one_below 22)) (Some 2)) (41 ∷ 42 ∷ [])
    ≡ (false ∷ []) ∷ (false ∷ true ∷ []) ∷ []
whole_bits = refl

no_bits : bits_after (changing [] 60) None ≡ []
no_bits = refl
