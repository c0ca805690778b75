-- What the samples of a recording become, and the bytes that they are packed into.
use Rattle.std.specs.Prelude.{◌≡◌, ℕ, ◌+◌, ◌*◌, ◌/◌, ℤ, pos, ◌*ℤ◌, ◌-ℤ◌, unsigned_abs}
use Rattle.std.specs.Prelude.{if◌then◌else◌, nat_lt, int_lt, List, [], ◌∷◌, length, map, Bool}
use Rattle.std.specs.Prelude.{◌<◌, slice_index}
use Rattle.std.specs.List.{range_with_len}
use Rattle.definitions.specs.Samples.{Sample, Packing, real1, real2, iq1, iq2, real, sign_of}
use Rattle.definitions.specs.Samples.{samples, sample, samples_per_byte, sample_count}
use Rattle.sample_planes.specs.Packings.{packing_of, has_sizes}
use Rattle.recordings.specs.Readings.{bits_of, reading}
use Rattle.recordings.specs.declared.part.PartRecipe.{PartRecipe}
use Rattle.recordings.specs.declared.recipe.Recipe.{Recipe}

-- 1 for a value below the centre, or where the sign is turned for any other
abbrev pub sign_bit : PartRecipe → ℤ → ℕ
sign_bit part value =
    if part.is_turned then (if int_lt value part.centre then 0 else 1)
    else (if int_lt value part.centre then 1 else 0)

-- 1 for a value farther from the centre than the threshold
abbrev pub size_bit : PartRecipe → ℕ → ℤ → ℕ
size_bit part threshold value =
    if nat_lt threshold (unsigned_abs (value -ℤ part.centre)) then 1 else 0

-- how many values each sample of the recording has: one, or one in phase and one in quadrature
abbrev pub parts_of : Recipe → ℕ
parts_of recipe = if recipe.is_paired then 2 else 1

-- the value from which a part of sample n is made
abbrev pub value_of : Recipe → PartRecipe → List ℕ → ℕ → ℤ
value_of recipe part bytes n = reading recipe.kind bytes (parts_of recipe * n + part.place)

-- the bits of its sign and of its size
abbrev pub sign_in : Recipe → PartRecipe → List ℕ → ℕ → ℕ
sign_in recipe part bytes n = sign_bit part (value_of recipe part bytes n)

abbrev pub size_in : Recipe → PartRecipe → List ℕ → ℕ → ℕ
size_in recipe part bytes n = size_bit part recipe.threshold (value_of recipe part bytes n)

abbrev pub sign_and_size : Recipe → PartRecipe → List ℕ → ℕ → ℕ
sign_and_size recipe part bytes n = 2 * sign_in recipe part bytes n + size_in recipe part bytes n

-- that part as a sign alone, and as a sign and a size of 1 or 3
abbrev pub one_bit : Recipe → PartRecipe → List ℕ → ℕ → ℤ
one_bit recipe part bytes n = sign_of (sign_in recipe part bytes n)

abbrev pub two_bits : Recipe → PartRecipe → List ℕ → ℕ → ℤ
two_bits recipe part bytes n =
    sign_of (sign_in recipe part bytes n) *ℤ pos (1 + 2 * size_in recipe part bytes n)

-- sample n, as it is written in a packing
abbrev pub sample_in : Packing → Recipe → List ℕ → ℕ → Sample
sample_in real1 recipe bytes n = real (one_bit recipe recipe.in_phase bytes n)
sample_in real2 recipe bytes n = real (two_bits recipe recipe.in_phase bytes n)
sample_in iq1 recipe bytes n = record {
  in_phase = one_bit recipe recipe.in_phase bytes n;
  quadrature = one_bit recipe recipe.quadrature bytes n;
}
sample_in iq2 recipe bytes n = record {
  in_phase = two_bits recipe recipe.in_phase bytes n;
  quadrature = two_bits recipe recipe.quadrature bytes n;
}

abbrev pub packing_in : Recipe → Packing
packing_in recipe = packing_of recipe.format

unfoldable pub sample_of : Recipe → List ℕ → ℕ → Sample
sample_of recipe bytes n = sample_in (packing_in recipe) recipe bytes n

-- the bits of that sample as a number, of which the first bit is the highest
abbrev pub code_in : Packing → Recipe → List ℕ → ℕ → ℕ
code_in real1 recipe bytes n = sign_in recipe recipe.in_phase bytes n
code_in real2 recipe bytes n = sign_and_size recipe recipe.in_phase bytes n
code_in iq1 recipe bytes n =
    2 * sign_in recipe recipe.in_phase bytes n + sign_in recipe recipe.quadrature bytes n
code_in iq2 recipe bytes n =
    4 * sign_and_size recipe recipe.in_phase bytes n
    + sign_and_size recipe recipe.quadrature bytes n

unfoldable pub code_of : Recipe → List ℕ → ℕ → ℕ
code_of recipe bytes n = code_in (packing_in recipe) recipe bytes n

-- the first samples of a recording, as they are written
unfoldable pub samples_of : Recipe → List ℕ → ℕ → List Sample
samples_of recipe bytes count = map (sample_of recipe bytes) (range_with_len 0 count)

-- how many bits of the recording a sample has, and how many bytes one written byte is made of
abbrev pub sample_bits : Recipe → ℕ
sample_bits recipe = parts_of recipe * bits_of recipe.kind

abbrev pub group_of : Recipe → ℕ
group_of recipe = samples_per_byte (packing_in recipe) * sample_bits recipe / 8

-- bytes are the packing of a recording: as many as its samples fill, and they unpack to its samples
pub record IsPacked (recipe : Recipe) (bytes written : List ℕ) : Type 0 where
  pub whole : length written ≡ length bytes / group_of recipe
  pub same : samples (packing_in recipe) written
      ≡ samples_of recipe bytes (sample_count (packing_in recipe) written)

-- what each of the first bytes becomes where a byte alone becomes one: that of its samples
abbrev pub IsTable : Recipe → ℕ → List ℕ → Type 0
IsTable recipe count table =
    (byte k : ℕ) → byte < count → k < samples_per_byte (packing_in recipe)
    → sample (packing_in recipe) (slice_index table byte ∷ []) k ≡ sample_of recipe (byte ∷ []) k

-- the part in phase, or that in quadrature
abbrev pub part_in : Recipe → Bool → PartRecipe
part_in recipe is_quadrature = if is_quadrature then recipe.quadrature else recipe.in_phase

-- how many bits a part has in a packing
abbrev pub code_width : Packing → ℕ
code_width packing = if has_sizes packing then 2 else 1

-- the bits of a part that is made of a value: that of its sign, and where there is one, then that
-- of its size
abbrev pub part_code : Packing → PartRecipe → ℕ → ℤ → ℕ
part_code packing part threshold value =
    if has_sizes packing then 2 * sign_bit part value + size_bit part threshold value
    else sign_bit part value

-- the codes of a part, by the first values of a byte
abbrev pub IsCodeTable : Recipe → PartRecipe → ℕ → List ℕ → Type 0
IsCodeTable recipe part count table =
    (byte : ℕ) → byte < count → slice_index table byte
    ≡ part_code (packing_in recipe) part recipe.threshold (reading recipe.kind (byte ∷ []) 0)
