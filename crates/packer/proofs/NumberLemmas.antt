-- Floats that are no numbers, in pieces of a recording.
use Rattle.std.proofs.Common.{◌≡◌, ℕ, ◌+◌, ◌*◌, ◌<◌, ◌≤◌, List, ◌++◌, length, take, drop}
use Rattle.std.proofs.Common.{refl, sym, ap, ◌∙◌, arith, subst, append_assoc}
use Rattle.std.proofs.Common.{length-append}
use Rattle.std.specs.Prelude.{true, Option, slice_index}
use Rattle.std.specs.Io.KnownBytes.{Consumes}
use Rattle.std.proofs.lemmas.List.{get_or_append_left, get_or-append-add}
use Rattle.std.proofs.lemmas.List.{take-append-drop, length-take-le}
use Rattle.std.proofs.Math.Nat.{div-mul-le_self}
use Rattle.recordings.specs.Readings.{AreNumbers, bits_of, has_nans, four_bytes}
use Rattle.recordings.specs.Recordings.{group_of, parts_of}
use Rattle.recordings.specs.Packers.{recipe_in, held_in}
use Rattle.recordings.specs.Stretches.{Shows}
use Rattle.recordings.specs.declared.value_kind.ValueKind.{ValueKind}
use Rattle.recordings.specs.declared.value_kind.ValueKind.TheVariants.{U8, I8, I16, I16Be, F32}
use Rattle.recordings.specs.declared.value_kind.ValueKind.TheVariants.{Bits2Low, SignSizeLow}
use Rattle.recordings.specs.declared.value_kind.ValueKind.TheVariants.{Bits1Low, Bits1High}
use Rattle.recordings.specs.declared.recipe.Recipe.{Recipe}
use Rattle.recordings.specs.declared.packer.Packer.{Packer}
use Rattle.recordings.specs.declared.stretch.Stretch.{Stretch}
use Rattle.recordings.proofs.StreamLemmas.{whole_group}
use Rattle.packer.specs.Runs.{HasCome, IsCourse}
use Rattle.packer.proofs.RunLemmas.{HasShown, shown_first, more_come}

byte_inside : (a b c : List ℕ) (at i : ℕ) → at ≡ length a + i → i < length b
    → slice_index (a ++ (b ++ c)) at ≡ slice_index b i
byte_inside a b c at i e h =
    rw e (get_or-append-add a (b ++ c) i 0 ∙ get_or_append_left b c 0 i h)

-- bytes after whole floats have numbers where all have
inside : (kind : ValueKind) (m : ℕ) (a b c : List ℕ) → length a ≡ 4 * m
    → AreNumbers kind (a ++ (b ++ c)) → AreNumbers kind b
inside kind m a b c e all nans i h =
    let long : 4 * (m + i + 1) ≤ length (a ++ (b ++ c)) =
    rw (length-append, length-append) (omega (arith, e, h)) in
    let x = byte_inside a b c (4 * (m + i)) (4 * i) (omega (arith, e)) (omega (arith, h)) in
    let y = byte_inside a b c (4 * (m + i) + 1) (4 * i + 1) (omega (arith, e)) (omega (arith, h)) in
    let z = byte_inside a b c (4 * (m + i) + 2) (4 * i + 2) (omega (arith, e)) (omega (arith, h)) in
    let w = byte_inside a b c (4 * (m + i) + 3) (4 * i + 3) (omega (arith, e)) (omega (arith, h)) in
    let is : four_bytes (a ++ (b ++ c)) (4 * (m + i)) ≡ four_bytes b (4 * i) =
    rw (x, y, z, w) refl in
    rw is at (all nans (m + i) long)

float_bits : (kind : ValueKind) → has_nans kind ≡ true → bits_of kind ≡ 32
float_bits U8 e = cc
float_bits I8 e = cc
float_bits I16 e = cc
float_bits I16Be e = cc
float_bits F32 e = refl
float_bits Bits2Low e = cc
float_bits SignSizeLow e = cc
float_bits Bits1Low e = cc
float_bits Bits1High e = cc

-- a number of groups of floats is a number of whole floats
whole_floats : (recipe : Recipe) (n : ℕ) → has_nans recipe.kind ≡ true
    → (m : ℕ) × (n * group_of recipe ≡ 4 * m)
whole_floats recipe n nans =
    counted _ (parts_of recipe) (bits_of recipe.kind) (group_of recipe)
    (float_bits recipe.kind nans) (whole_group recipe)
  where
    counted : (per parts bits group : ℕ) → bits ≡ 32 → per * (parts * bits) ≡ 8 * group
        → (m : ℕ) × (n * group ≡ 4 * m)
    counted per parts bits group b w =
        let e : per * (parts * 32) ≡ 8 * group = rw b at w in
        let k : per * (parts * 32) ≡ 32 * (per * parts) = grind arith in
        let g : group ≡ 4 * (per * parts) = omega arith in
        let t : n * (4 * (per * parts)) ≡ 4 * (n * (per * parts)) = grind arith in
        (n * (per * parts), ap (λ (x : ℕ). n * x) g ∙ t)

-- so where what is held and what is next has none, the stretch has none
pub none_in_stretch : (recipe : Recipe) (skip most : ℕ) (all : List ℕ)
    (start old_rest new_rest held : Option (List ℕ)) (old_stretch new_stretch : Stretch)
    (packer : Packer) (piece wanted : List ℕ)
    → IsCourse recipe skip most all start old_rest held old_stretch packer
    → Consumes old_rest new_rest piece
    → ((bytes shown : List ℕ) → Shows skip most bytes shown old_stretch
    → Shows skip most (bytes ++ piece) (shown ++ wanted) new_stretch)
    → (AreNumbers (recipe_in packer).kind (held_in packer ++ wanted) → ⊥)
    → AreNumbers recipe.kind (take most (drop skip all)) → ⊥
none_in_stretch recipe skip most all start old_rest new_rest held old_stretch new_stretch packer
    piece wanted c consumes shows none numbers =
    none (λ nans. let whole = whole_floats (recipe_in packer) (length c.written) nans in
    inside (recipe_in packer).kind whole.0 done (held_in packer ++ wanted) s.ahead
    (sized ∙ whole.1) is nans)
  where
    come : HasCome skip most all new_rest new_stretch
    come = more_come skip most all old_rest new_rest old_stretch new_stretch piece wanted c.come
        consumes shows

    s : HasShown skip most all (c.come.shown ++ wanted)
    s = shown_first skip most all come.came come.left come.shown come.split come.shows.part

    n : ℕ
    n = length c.written * group_of (recipe_in packer)

    done : List ℕ
    done = take n c.come.shown

    within : n ≤ length c.come.shown
    within =
        rw c.stands.packed.whole (div-mul-le_self (length c.come.shown) (group_of (recipe_in
        packer)))

    sized : length done ≡ n
    sized = length-take-le n c.come.shown within

    joined : take most (drop skip all) ≡ done ++ ((held_in packer ++ wanted) ++ s.ahead)
    joined =
        s.split
        ∙ ap (λ (xs : List ℕ). (xs ++ wanted) ++ s.ahead)
        (sym (take-append-drop n c.come.shown) ∙ ap (λ (xs : List ℕ). done ++ xs) (sym
        c.stands.held))
        ∙ ap (λ (xs : List ℕ). xs ++ s.ahead) (append_assoc done (held_in packer) wanted)
        ∙ append_assoc done (held_in packer ++ wanted) s.ahead

    is : AreNumbers (recipe_in packer).kind (done ++ ((held_in packer ++ wanted) ++ s.ahead))
    is =
        subst (λ (xs : List ℕ). AreNumbers (recipe_in packer).kind xs) joined
        (subst (λ (r : Recipe). AreNumbers r.kind (take most (drop skip all))) (sym c.recipe_is)
        numbers)
