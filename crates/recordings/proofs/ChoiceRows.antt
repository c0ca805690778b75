-- Worked examples of what is asked of a recording and of stretches of it, by docs/FORMATS.md.
use Rattle.std.proofs.Common.{inl, inr, ◌≡◌, ℕ, List, [], ◌∷◌, refl, arith}
use Rattle.std.specs.Prelude.{Bool, true, false, pos}
use Rattle.sample_planes.specs.declared.format.Format.{Format}
use Rattle.sample_planes.specs.declared.format.Format.TheVariants.{Real1, Real2, Iq1, Iq2}
use Rattle.recordings.specs.Choices.{Makes, LacksPairs, LacksSizes, AsksPart, IsWithoutSizes}
use Rattle.recordings.specs.Choices.{IsOfOnePart}
use Rattle.recordings.specs.Stretches.{Shows}
use Rattle.recordings.specs.declared.choice.Choice.{Choice}
use Rattle.recordings.specs.declared.value_kind.ValueKind.{ValueKind}
use Rattle.recordings.specs.declared.value_kind.ValueKind.TheVariants.{I8, Bits1Low, Bits2Low}
use Rattle.recordings.specs.declared.part.PartRecipe.{PartRecipe}
use Rattle.recordings.specs.declared.recipe.Recipe.{Recipe}
use Rattle.recordings.specs.declared.stretch.Stretch.{Stretch}

-- Of pairs or of real values a packing is asked, about the centres 1.5 in phase and 3.5 in
-- quadrature. The pairs may be swapped or conjugate, and one part may be asked for.
abbrev asked : ValueKind → Bool → Format → Bool → Bool → Bool → Choice
asked kind is_paired format is_swapped is_conjugate takes_quadrature = record {
  kind = kind;
  is_paired = is_paired;
  format = format;
  threshold = 5;
  centre = pos 3;
  centre_q = pos 7;
  is_swapped = is_swapped;
  is_conjugate = is_conjugate;
  takes_quadrature = takes_quadrature;
}

abbrev IsOf : PartRecipe → ℕ → ℕ → Bool → Type 0
IsOf part place centre is_turned =
    (part.place ≡ place) × (part.centre ≡ pos centre) × (part.is_turned ≡ is_turned)

-- the first value of a pair is in phase, and the second in quadrature
pairs_as_they_come : (recipe : Recipe) → Makes (asked I8 true Iq2 false false false) recipe
    → IsOf recipe.in_phase 0 3 false × IsOf recipe.quadrature 1 7 false × (recipe.threshold ≡ 5)
pairs_as_they_come recipe m =
    let i = m.in_phase refl in
    let q = m.quadrature refl in (
      (i.place_is, i.centre_is, i.turned_is),
      (q.place_is, q.centre_is, q.turned_is),
      m.threshold,
    )

-- the other way round, with the sign of the part in quadrature turned
swapped_conjugate_pairs : (recipe : Recipe) → Makes (asked I8 true Iq1 true true false) recipe
    → IsOf recipe.in_phase 1 3 false × IsOf recipe.quadrature 0 7 true
swapped_conjugate_pairs recipe m =
    let i = m.in_phase refl in
    let q = m.quadrature refl in
    ((i.place_is, i.centre_is, i.turned_is), (q.place_is, q.centre_is, q.turned_is))

-- real samples of one part: in phase, or in quadrature where that is asked for
part_in_phase : (recipe : Recipe) → Makes (asked I8 true Real1 false true false) recipe
    → IsOf recipe.in_phase 0 3 false
part_in_phase recipe m = let i = m.in_phase refl in (i.place_is, i.centre_is, i.turned_is)

part_in_quadrature : (recipe : Recipe) → Makes (asked I8 true Real1 false true true) recipe
    → IsOf recipe.in_phase 1 7 true
part_in_quadrature recipe m = let q = m.other refl in (q.place_is, q.centre_is, q.turned_is)

-- ---- what can't be had

-- real values make no complex samples, and aren't swapped, conjugate or in quadrature
complex_of_real : LacksPairs (asked I8 false Iq1 false false false)
complex_of_real = (refl, inl refl)

swapped_real : LacksPairs (asked I8 false Real1 true false false)
swapped_real = (refl, inr (inl refl))

conjugate_real : LacksPairs (asked I8 false Real1 false true false)
conjugate_real = (refl, inr (inr (inl refl)))

quadrature_of_real : LacksPairs (asked I8 false Real1 false false true)
quadrature_of_real = (refl, inr (inr (inr refl)))

real_of_real : LacksPairs (asked I8 false Real2 false false false) → ⊥
real_of_real (real, inl e) = cc
real_of_real (real, inr (inl e)) = cc
real_of_real (real, inr (inr (inl e))) = cc
real_of_real (real, inr (inr (inr e))) = cc

pairs_lack_no_pairs : LacksPairs (asked I8 true Iq2 true true false) → ⊥
pairs_lack_no_pairs (real, needs) = cc

-- values of one bit have no sizes; those of two have, and a packing of one bit asks for none
sizes_of_one_bit : IsWithoutSizes (asked Bits1Low true Iq2 false false true)
sizes_of_one_bit = (λ (real, needs). cc, (refl, refl))

sizes_of_two_bits : LacksSizes (asked Bits2Low true Iq2 false false false) → ⊥
sizes_of_two_bits (sizes, bits) = omega (arith, bits)

signs_of_one_bit : LacksSizes (asked Bits1Low false Real1 false false false) → ⊥
signs_of_one_bit (sizes, bits) = cc

-- one part makes real samples alone
both_of_one_part : IsOfOnePart (asked I8 true Iq1 false false true)
both_of_one_part = (λ (real, needs). cc, λ (sizes, bits). cc, (refl, refl))

real_of_one_part : AsksPart (asked I8 true Real2 false false true) → ⊥
real_of_one_part (complex, part) = cc

-- ---- stretches

-- after the first two of seven bytes three are wanted
stretch_within : (shown : List ℕ) (stretch : Stretch)
    → Shows 2 3 (10 ∷ 11 ∷ 12 ∷ 13 ∷ 14 ∷ 15 ∷ 16 ∷ []) shown stretch
    → (shown ≡ 12 ∷ 13 ∷ 14 ∷ []) × (stretch.skip ≡ 0)
stretch_within shown stretch s = (s.part, s.before)

-- two of the five bytes before the first that is wanted have come
stretch_to_come : (shown : List ℕ) (stretch : Stretch) → Shows 5 3 (10 ∷ 11 ∷ []) shown stretch
    → (shown ≡ []) × (stretch.skip ≡ 3)
stretch_to_come shown stretch s = (s.part, s.before)

-- one of the bytes that are wanted has come, so two are left
stretch_begun : (stretch : Stretch) → Shows 1 3 (10 ∷ 11 ∷ []) (11 ∷ []) stretch → stretch.left ≡ 2
stretch_begun stretch s = s.left
