-- Recordings in pieces.
use Rattle.std.proofs.Common.{◌≡◌, ℕ, zero, suc, ◌+◌, ◌*◌, ◌/◌, ◌%◌, ◌<◌, ◌≤◌, List, [], ◌∷◌}
use Rattle.std.proofs.Common.{◌++◌, length, take, drop, refl, sym, ap, ◌∙◌, arith, append_assoc}
use Rattle.std.proofs.Common.{length-append, length-drop}
use Rattle.std.specs.Prelude.{map, slice_index}
use Rattle.std.specs.List.{range_with_len}
use Rattle.std.proofs.lemmas.List.{get_or_append_left, get_or-append-add, map-append}
use Rattle.std.proofs.lemmas.List.{take-append-drop, length-take-le}
use Rattle.std.proofs.Math.Path.{ap₂}
use Rattle.std.proofs.Math.Nat.{mul-le-mul_left, mul-le-mul_right, mul-add-div_right}
use Rattle.std.proofs.Math.Nat.{div-mul-le_self}
use Rattle.std.specs.Prelude.{Bool, true, false, if◌then◌else◌}
use Rattle.recordings.proofs.RecipeLemmas.{some_bits, AreNames}
use Rattle.std.proofs.Math.Seq.{drop-append-add, split_at}
use Rattle.definitions.specs.Samples.{Sample, Packing, real1, real2, iq1, iq2}
use Rattle.definitions.specs.Samples.{sample, samples, samples_from, samples_per_byte, sample_count}
use Rattle.definitions.proofs.SampleLemmas.{samples-append, range-split}
use Rattle.recordings.specs.Readings.{bits_of, reading, two_bytes}
use Rattle.recordings.specs.Recordings.{sample_of, samples_of, sample_in, packing_in, parts_of}
use Rattle.recordings.specs.Recordings.{sample_bits, group_of, IsPacked}
use Rattle.recordings.specs.declared.value_kind.ValueKind.{ValueKind}
use Rattle.recordings.specs.declared.value_kind.ValueKind.TheVariants.{U8, I8, I16, I16Be, F32}
use Rattle.recordings.specs.declared.value_kind.ValueKind.TheVariants.{Bits2Low, SignSizeLow}
use Rattle.recordings.specs.declared.value_kind.ValueKind.TheVariants.{Bits1Low, Bits1High}
use Rattle.recordings.specs.declared.recipe.Recipe.{Recipe}

-- ---- values

byte_front : (front back : List ℕ) (i : ℕ) → i < length front
    → slice_index (front ++ back) i ≡ slice_index front i
byte_front front back i h = get_or_append_left front back 0 i h

byte_back : (front back : List ℕ) (at i : ℕ) → at ≡ length front + i
    → slice_index (front ++ back) at ≡ slice_index back i
byte_back front back at i e = rw e (get_or-append-add front back i 0)

four : ℕ → ℕ → ℕ → ℕ → ℕ
four a b c d = two_bytes a b + 65536 * two_bytes c d

-- a value that lies in the front of two lists
reading-front : (kind : ValueKind) (front back : List ℕ) (i : ℕ)
    → bits_of kind * (i + 1) ≤ 8 * length front
    → reading kind (front ++ back) i ≡ reading kind front i
unfolding reading
reading-front U8 front back i h =
    let a : slice_index (front ++ back) i ≡ slice_index front i =
    byte_front front back i (omega arith) in rw a refl
reading-front I8 front back i h =
    let a : slice_index (front ++ back) i ≡ slice_index front i =
    byte_front front back i (omega arith) in rw a refl
reading-front I16 front back i h =
    let a = byte_front front back (2 * i) (omega arith) in
    let b = byte_front front back (2 * i + 1) (omega arith) in rw (a, b) refl
reading-front I16Be front back i h =
    let a = byte_front front back (2 * i) (omega arith) in
    let b = byte_front front back (2 * i + 1) (omega arith) in rw (a, b) refl
reading-front F32 front back i h =
    let a = byte_front front back (4 * i) (omega arith) in
    let b = byte_front front back (4 * i + 1) (omega arith) in
    let c = byte_front front back (4 * i + 2) (omega arith) in
    let d = byte_front front back (4 * i + 3) (omega arith) in rw (a, b, c, d) refl
reading-front Bits2Low front back i h =
    let a = byte_front front back (i / 4) (omega arith) in rw a refl
reading-front SignSizeLow front back i h =
    let a = byte_front front back (i / 4) (omega arith) in rw a refl
reading-front Bits1Low front back i h =
    let a = byte_front front back (i / 8) (omega arith) in rw a refl
reading-front Bits1High front back i h =
    let a = byte_front front back (i / 8) (omega arith) in rw a refl

-- a value after the front, which has m values
reading-back : (kind : ValueKind) (front back : List ℕ) (m i : ℕ)
    → bits_of kind * m ≡ 8 * length front
    → reading kind (front ++ back) (m + i) ≡ reading kind back i
unfolding reading
reading-back U8 front back m i e =
    let a = byte_back front back (m + i) i (omega arith) in rw a refl
reading-back I8 front back m i e =
    let a = byte_back front back (m + i) i (omega arith) in rw a refl
reading-back I16 front back m i e =
    let a = byte_back front back (2 * (m + i)) (2 * i) (omega arith) in
    let b = byte_back front back (2 * (m + i) + 1) (2 * i + 1) (omega arith) in rw (a, b) refl
reading-back I16Be front back m i e =
    let a = byte_back front back (2 * (m + i)) (2 * i) (omega arith) in
    let b = byte_back front back (2 * (m + i) + 1) (2 * i + 1) (omega arith) in rw (a, b) refl
reading-back F32 front back m i e =
    let a = byte_back front back (4 * (m + i)) (4 * i) (omega arith) in
    let b = byte_back front back (4 * (m + i) + 1) (4 * i + 1) (omega arith) in
    let c = byte_back front back (4 * (m + i) + 2) (4 * i + 2) (omega arith) in
    let d = byte_back front back (4 * (m + i) + 3) (4 * i + 3) (omega arith) in rw (a, b, c, d) refl
reading-back Bits2Low front back m i e =
    let a = byte_back front back ((m + i) / 4) (i / 4) (omega arith) in
    let b : (m + i) % 4 ≡ i % 4 = omega arith in rw (a, b) refl
reading-back SignSizeLow front back m i e =
    let a = byte_back front back ((m + i) / 4) (i / 4) (omega arith) in
    let b : (m + i) % 4 ≡ i % 4 = omega arith in rw (a, b) refl
reading-back Bits1Low front back m i e =
    let a = byte_back front back ((m + i) / 8) (i / 8) (omega arith) in
    let b : (m + i) % 8 ≡ i % 8 = omega arith in rw (a, b) refl
reading-back Bits1High front back m i e =
    let a = byte_back front back ((m + i) / 8) (i / 8) (omega arith) in
    let b : (m + i) % 8 ≡ i % 8 = omega arith in rw (a, b) refl

-- ---- samples

-- samples of the same values are the same
same_values : (packing : Packing) (recipe : Recipe) (a b : List ℕ) (m n : ℕ)
    → ((place : ℕ) → place < parts_of recipe
    → reading recipe.kind a (parts_of recipe * m + place)
    ≡ reading recipe.kind b (parts_of recipe * n + place))
    → sample_in packing recipe a m ≡ sample_in packing recipe b n
same_values real1 recipe a b m n same =
    rw (same recipe.in_phase.place recipe.in_phase_is_there) refl
same_values real2 recipe a b m n same =
    rw (same recipe.in_phase.place recipe.in_phase_is_there) refl
same_values iq1 recipe a b m n same =
    rw (
      same recipe.in_phase.place recipe.in_phase_is_there,
      same recipe.quadrature.place recipe.quadrature_is_there,
    ) refl
same_values iq2 recipe a b m n same =
    rw (
      same recipe.in_phase.place recipe.in_phase_is_there,
      same recipe.quadrature.place recipe.quadrature_is_there,
    ) refl

pub sample-front : (recipe : Recipe) (front back : List ℕ) (n : ℕ)
    → sample_bits recipe * (n + 1) ≤ 8 * length front
    → sample_of recipe (front ++ back) n ≡ sample_of recipe front n
unfolding sample_of
sample-front recipe front back n h =
    same_values (packing_in recipe) recipe (front ++ back) front n n (λ place there.
    reading-front recipe.kind front back (parts_of recipe * n + place)
    (within (parts_of recipe) (bits_of recipe.kind) place there h))
  where
    within : (parts bits place : ℕ) → place < parts → parts * bits * (n + 1) ≤ 8 * length front
        → bits * (parts * n + place + 1) ≤ 8 * length front
    within parts bits place there w =
        let a : bits * (parts * n + place + 1) ≤ bits * (parts * (n + 1)) =
        mul-le-mul_left bits (omega arith) in
        let e : bits * (parts * (n + 1)) ≡ parts * bits * (n + 1) = grind arith in
        omega arith

pub sample-back : (recipe : Recipe) (front back : List ℕ) (m n : ℕ)
    → sample_bits recipe * m ≡ 8 * length front
    → sample_of recipe (front ++ back) (m + n) ≡ sample_of recipe back n
unfolding sample_of
sample-back recipe front back m n e =
    same_values (packing_in recipe) recipe (front ++ back) back (m + n) n (λ place there.
    behind (parts_of recipe) (bits_of recipe.kind) place e refl)
  where
    behind : (parts bits place : ℕ) → parts * bits * m ≡ 8 * length front
        → bits ≡ bits_of recipe.kind
        → reading recipe.kind (front ++ back) (parts * (m + n) + place)
        ≡ reading recipe.kind back (parts * n + place)
    behind parts bits place w is =
        let at : parts * (m + n) + place ≡ parts * m + (parts * n + place) = omega arith in
        let all : bits_of recipe.kind * (parts * m) ≡ 8 * length front =
        rw (← is) (omega arith) in
        rw at (reading-back recipe.kind front back (parts * m) (parts * n + place) all)

-- ---- lists of samples

matched : (f g : ℕ → Sample) (a b n : ℕ) → ((i : ℕ) → i < n → f (a + i) ≡ g (b + i))
    → map f (range_with_len a n) ≡ map g (range_with_len b n)
matched f g a b zero same = refl
matched f g a b (suc n) same =
    let here : f a ≡ g b =
    let x : a + 0 ≡ a = omega arith in let y : b + 0 ≡ b = omega arith in
    rw (x, y) at (same 0 (omega arith)) in
    rw (
      here,
      matched f g (a + 1) (b + 1) n (λ i h.
          let x : a + 1 + i ≡ a + (i + 1) = omega arith in
          let y : b + 1 + i ≡ b + (i + 1) = omega arith in
          rw (x, y) (same (i + 1) (omega (arith, h)))),
    ) refl

-- the samples of bytes after others
samples_of-split : (recipe : Recipe) (bytes : List ℕ) (m n : ℕ)
    → samples_of recipe bytes (m + n)
    ≡ samples_of recipe bytes m ++ map (sample_of recipe bytes) (range_with_len m n)
unfolding samples_of
samples_of-split recipe bytes m n =
    let z : 0 + m ≡ m = omega arith in
    ap (map (sample_of recipe bytes)) (range-split 0 m n ∙ ap (λ (k : ℕ).
    range_with_len 0 m ++ range_with_len k n) z)
    ∙ map-append (sample_of recipe bytes) (range_with_len 0 m) (range_with_len m n)

-- one more byte
pub one_more : (recipe : Recipe) (bytes written : List ℕ) (byte i : ℕ)
    → samples (packing_in recipe) written
    ≡ samples_of recipe bytes (samples_per_byte (packing_in recipe) * i)
    → ((k : ℕ) → k < samples_per_byte (packing_in recipe)
    → sample (packing_in recipe) (byte ∷ []) k
    ≡ sample_of recipe bytes (samples_per_byte (packing_in recipe) * i + k))
    → samples (packing_in recipe) (written ++ byte ∷ [])
    ≡ samples_of recipe bytes (samples_per_byte (packing_in recipe) * (i + 1))
unfolding samples_from
one_more recipe bytes written byte i same next =
    let packing : Packing = packing_in recipe in
    let per : ℕ = samples_per_byte packing in
    let one : per * 1 ≡ per = omega arith in
    let all : per * (i + 1) ≡ per * i + per = omega arith in
    samples-append packing written (byte ∷ [])
    ∙ ap₂ (λ (s t : List Sample). s ++ t) same
    (ap (λ (n : ℕ). map (sample packing (byte ∷ [])) (range_with_len 0 n)) one
    ∙ matched (sample packing (byte ∷ [])) (sample_of recipe bytes) 0 (per * i) per
    (λ k h. let z : 0 + k ≡ k = omega arith in rw z (next k h)))
    ∙ sym (samples_of-split recipe bytes (per * i) per)
    ∙ ap (samples_of recipe bytes) (sym all)

-- ---- how many bytes make one

pub whole_group : (recipe : Recipe)
    → samples_per_byte (packing_in recipe) * sample_bits recipe ≡ 8 * group_of recipe
whole_group recipe =
    exact (samples_per_byte (packing_in recipe) * sample_bits recipe) recipe.whole
  where
    exact : (n : ℕ) → n % 8 ≡ 0 → n ≡ 8 * (n / 8)
    exact n e = omega arith

-- the bits of so many samples are those of so many bytes
groups : (recipe : Recipe) (n : ℕ)
    → sample_bits recipe * (samples_per_byte (packing_in recipe) * n) ≡ 8 * (n * group_of recipe)
groups recipe n =
    turned (samples_per_byte (packing_in recipe)) (sample_bits recipe) (group_of recipe)
    (whole_group recipe)
  where
    turned : (per bits group : ℕ) → per * bits ≡ 8 * group → bits * (per * n) ≡ 8 * (n * group)
    turned per bits group e =
        let f : per * bits * n ≡ 8 * group * n = ap (λ (k : ℕ). k * n) e in
        let g : bits * (per * n) ≡ per * bits * n = grind arith in
        let h : 8 * group * n ≡ 8 * (n * group) = grind arith in
        g ∙ f ∙ h

-- the samples of byte number i are there
pub group_there : (recipe : Recipe) (bytes : List ℕ) (i : ℕ) → 0 < group_of recipe
    → i < length bytes / group_of recipe
    → sample_bits recipe
    * (samples_per_byte (packing_in recipe) * i + samples_per_byte (packing_in recipe))
    ≤ 8 * length bytes
group_there recipe bytes i some h =
    let all : samples_per_byte (packing_in recipe) * i + samples_per_byte (packing_in recipe)
    ≡ samples_per_byte (packing_in recipe) * (i + 1) = omega arith in
    let a : (i + 1) * group_of recipe ≤ length bytes / group_of recipe * group_of recipe =
    mul-le-mul_right (group_of recipe) (omega arith) in
    let b : length bytes / group_of recipe * group_of recipe ≤ length bytes =
    div-mul-le_self (length bytes) (group_of recipe) in
    rw (all, groups recipe (i + 1)) (omega arith)

-- where each byte becomes one, the samples of byte number i are those of that byte alone
pub alone : (recipe : Recipe) (bytes : List ℕ) (i k : ℕ) → group_of recipe ≡ 1 → i < length bytes
    → k < samples_per_byte (packing_in recipe)
    → sample_of recipe (slice_index bytes i ∷ []) k
    ≡ sample_of recipe bytes (samples_per_byte (packing_in recipe) * i + k)
alone recipe bytes i k one there h =
    let byte : List ℕ = slice_index bytes i ∷ [] in
    let rest : List ℕ = drop (suc i) bytes in
    let before : sample_bits recipe * (samples_per_byte (packing_in recipe) * i)
    ≡ 8 * length (take i bytes) =
    groups recipe i ∙ ap (λ (n : ℕ). 8 * (i * n)) one
    ∙ ap (λ (n : ℕ). 8 * n) (omega (arith, length-take-le i bytes (omega (arith, there)))) in
    sym (ap (λ (l : List ℕ). sample_of recipe l (samples_per_byte (packing_in recipe) * i + k))
    (split_at bytes i 0 there)
    ∙ sample-back recipe (take i bytes) (byte ++ rest) (samples_per_byte (packing_in recipe) * i) k
    before
    ∙ sample-front recipe byte rest k within)
  where
    within : sample_bits recipe * (k + 1) ≤ 8 * 1
    within =
        let all : sample_bits recipe * (samples_per_byte (packing_in recipe) * 1) ≡ 8 * 1 =
        groups recipe 1 ∙ ap (λ (n : ℕ). 8 * (1 * n)) one in
        let some : sample_bits recipe * (k + 1)
        ≤ sample_bits recipe * (samples_per_byte (packing_in recipe) * 1) =
        mul-le-mul_left (sample_bits recipe) (omega (arith, h)) in
        omega (arith, all, some)

-- how many bytes make one, by other names of the recipe and of its packing
pub group_is : (recipe own : Recipe) (packing : Packing) (paired : Bool) (bits group : ℕ)
    → AreNames recipe own packing paired → bits ≡ bits_of own.kind
    → group ≡ samples_per_byte packing * ((if paired then 2 else 1) * bits) / 8
    → group ≡ group_of recipe
group_is recipe own packing paired bits group names b e =
    e ∙ rw (b, names.recipe_is, names.packing_is, names.paired_is) refl

-- the bytes of group number i are there
pub group_within : (group len i : ℕ) → i < len / group → group * i + group ≤ len
group_within group len i h =
    let all : group * i + group ≡ (i + 1) * group = grind arith in
    let a : (i + 1) * group ≤ len / group * group = mul-le-mul_right group (omega (arith, h)) in
    rw all (omega (arith, a, div-mul-le_self len group))

-- the samples of group number i are those of its bytes alone
pub in_group : (recipe : Recipe) (bytes : List ℕ) (i k : ℕ)
    → group_of recipe * i + group_of recipe ≤ length bytes
    → k < samples_per_byte (packing_in recipe)
    → sample_of recipe (take (group_of recipe) (drop (group_of recipe * i) bytes)) k
    ≡ sample_of recipe bytes (samples_per_byte (packing_in recipe) * i + k)
in_group recipe bytes i k there h =
    let group : ℕ = group_of recipe in
    let front : List ℕ = take (group * i) bytes in
    let part : List ℕ = take group (drop (group * i) bytes) in
    let rest : List ℕ = drop group (drop (group * i) bytes) in
    let all : front ++ (part ++ rest) ≡ bytes =
    ap (λ (l : List ℕ). front ++ l) (take-append-drop group (drop (group * i) bytes))
    ∙ take-append-drop (group * i) bytes in
    let before : sample_bits recipe * (samples_per_byte (packing_in recipe) * i)
    ≡ 8 * length front =
    groups recipe i ∙ ap (λ (n : ℕ). 8 * n)
    (omega (arith, length-take-le (group * i) bytes (omega (arith, there)))) in
    sym (ap (λ (l : List ℕ). sample_of recipe l (samples_per_byte (packing_in recipe) * i + k))
    (sym all)
    ∙ sample-back recipe front (part ++ rest) (samples_per_byte (packing_in recipe) * i) k before
    ∙ sample-front recipe part rest k within)
  where
    within : sample_bits recipe * (k + 1)
        ≤ 8 * length (take (group_of recipe) (drop (group_of recipe * i) bytes))
    within =
        let left : group_of recipe ≤ length (drop (group_of recipe * i) bytes) =
        rw (length-drop (group_of recipe * i) bytes) (omega (arith, there)) in
        let long : length (take (group_of recipe) (drop (group_of recipe * i) bytes))
        ≡ group_of recipe = length-take-le (group_of recipe) (drop (group_of recipe * i) bytes) left
        in
        let some : sample_bits recipe * (k + 1)
        ≤ sample_bits recipe * (samples_per_byte (packing_in recipe) * 1) =
        mul-le-mul_left (sample_bits recipe) (omega (arith, h)) in
        rw long (omega (arith, groups recipe 1, some))

-- ---- pieces

pub record HasTaken (recipe : Recipe) (bytes piece held before written : List ℕ) : Type 0 where
  pub packed : IsPacked recipe (bytes ++ piece) (before ++ written)
  pub left : drop (length written * group_of recipe) (held ++ piece)
      ≡ drop (length (before ++ written) * group_of recipe) (bytes ++ piece)

pub taken : (recipe : Recipe) (bytes piece held before written : List ℕ) → 0 < group_of recipe
    → IsPacked recipe bytes before → held ≡ drop (length before * group_of recipe) bytes
    → IsPacked recipe (held ++ piece) written → HasTaken recipe bytes piece held before written
unfolding samples_of samples_from
taken recipe bytes piece held before written some p is q = record {
  packed = record { whole = whole; same = same };
  left = behind;
}
  where
    done : List ℕ
    done = take (length before * group_of recipe) bytes

    within : length before * group_of recipe ≤ length bytes
    within =
        rw p.whole (div-mul-le_self (length bytes) (group_of recipe))

    done_is : length done ≡ length before * group_of recipe
    done_is = length-take-le (length before * group_of recipe) bytes within

    joined : bytes ++ piece ≡ done ++ (held ++ piece)
    joined =
        ap (λ (xs : List ℕ). xs ++ piece)
        (sym (take-append-drop (length before * group_of recipe) bytes)
        ∙ ap (λ (xs : List ℕ). done ++ xs) (sym is))
        ∙ append_assoc done held piece

    whole : length (before ++ written) ≡ length (bytes ++ piece) / group_of recipe
    whole =
        length-append before written ∙ ap (λ (n : ℕ). length before + n) q.whole
        ∙ sym (mul-add-div_right some (length before) (length (held ++ piece)))
        ∙ ap (λ (n : ℕ). n / group_of recipe)
        (ap (λ (n : ℕ). n + length (held ++ piece)) (sym done_is)
        ∙ sym (length-append done (held ++ piece)) ∙ sym (ap length joined))

    behind : drop (length written * group_of recipe) (held ++ piece)
        ≡ drop (length (before ++ written) * group_of recipe) (bytes ++ piece)
    behind =
        let sum : length (before ++ written) * group_of recipe
        ≡ length done + length written * group_of recipe =
        rw (length-append, done_is) (omega arith) in
        rw (joined, sum) (sym (drop-append-add done (held ++ piece)
        (length written * group_of recipe)))

    per : ℕ
    per = samples_per_byte (packing_in recipe)

    front : (i : ℕ) → i < per * length before
        → sample_of recipe (bytes ++ piece) (0 + i) ≡ sample_of recipe bytes (0 + i)
    front i h =
        let z : 0 + i ≡ i = omega arith in
        let a : sample_bits recipe * (i + 1) ≤ sample_bits recipe * (per * length before) =
        mul-le-mul_left (sample_bits recipe) (omega arith) in
        let b = groups recipe (length before) in
        let c : length before * group_of recipe ≤ length bytes = within in
        rw z (sample-front recipe bytes piece i (omega arith))

    back : (i : ℕ) → sample_of recipe (bytes ++ piece) (per * length before + i)
        ≡ sample_of recipe (held ++ piece) (0 + i)
    back i =
        let z : 0 + i ≡ i = omega arith in
        let b : sample_bits recipe * (per * length before) ≡ 8 * length done =
        groups recipe (length before) ∙ ap (λ (n : ℕ). 8 * n) (sym done_is) in
        rw (joined, z) (sample-back recipe done (held ++ piece) (per * length before) i b)

    same : samples (packing_in recipe) (before ++ written)
        ≡ samples_of recipe (bytes ++ piece) (sample_count (packing_in recipe) (before ++ written))
    same =
        let count : per * length (before ++ written) ≡ per * length before + per * length written =
        rw length-append (omega arith) in
        samples-append (packing_in recipe) before written
        ∙ ap₂ (λ (s t : List Sample). s ++ t)
        (p.same ∙ sym (matched (sample_of recipe (bytes ++ piece)) (sample_of recipe bytes) 0 0
        (per * length before) front))
        (q.same ∙ sym (matched (sample_of recipe (bytes ++ piece))
        (sample_of recipe (held ++ piece)) (per * length before) 0 (per * length written)
        (λ i h. back i)))
        ∙ sym (samples_of-split recipe (bytes ++ piece) (per * length before)
        (per * length written))
        ∙ ap (samples_of recipe (bytes ++ piece)) (sym count)

-- ---- the beginning

pub none : (recipe : Recipe) (bytes : List ℕ)
    → samples (packing_in recipe) [] ≡ samples_of recipe bytes (samples_per_byte (packing_in
    recipe) * 0)
unfolding samples_of samples_from
none recipe bytes =
    let z : samples_per_byte (packing_in recipe) * 0 ≡ 0 = omega arith in rw z refl

pub nothing : (recipe : Recipe) → 0 < group_of recipe → IsPacked recipe [] []
nothing recipe some = record { whole = sym (div-zero (group_of recipe)); same = none recipe [] }
  where
    div-zero : (n : ℕ) → 0 / n ≡ 0
    div-zero n = omega arith

pub some_group : (recipe : Recipe) → 0 < group_of recipe
some_group recipe =
    positive (samples_per_byte (packing_in recipe)) (parts_of recipe) (bits_of recipe.kind)
    (group_of recipe) (per_some (packing_in recipe)) (parts_some recipe.is_paired)
    (some_bits recipe.kind) (whole_group recipe)
  where
    per_some : (packing : Packing) → 0 < samples_per_byte packing
    per_some real1 = omega arith
    per_some real2 = omega arith
    per_some iq1 = omega arith
    per_some iq2 = omega arith

    parts_some : (is_paired : Bool) → 0 < (if is_paired then 2 else 1)
    parts_some true = omega arith
    parts_some false = omega arith

    positive : (per parts bits group : ℕ) → 0 < per → 0 < parts → 0 < bits
        → per * (parts * bits) ≡ 8 * group → 0 < group
    positive per parts bits group a b c e =
        let d : parts * 1 ≤ parts * bits = mul-le-mul_left parts c in
        let f : per * 1 ≤ per * (parts * bits) = mul-le-mul_left per (omega arith) in
        omega arith

-- ---- all groups of bytes are written, by the group that the code has

pub all_groups : (i len group own : ℕ) → group ≡ own → i ≤ len / group → len / group ≤ i
    → i ≡ len / own
all_groups i len group own e most least =
    let all : i ≡ len / group = omega arith in all ∙ ap (λ (g : ℕ). len / g) e
