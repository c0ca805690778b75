-- Codes of the parts of samples, a word of 64 samples after the other.
use Rattle.std.proofs.Common.{◌≡◌, ℕ, ◌+◌, ◌-◌, ◌*◌, ◌<◌, ◌∙◌, List, Bool, true, get_or}
use Rattle.std.proofs.Common.{sym, subst, arith, inl, inr}
use Rattle.std.proofs.lemmas.Bool.{cases_lt}
use Rattle.definitions.specs.Samples.{Packing}
use Rattle.sample_planes.specs.CodedParts.{code_in}
use Rattle.sample_planes.specs.Codes.{IsCodeNumber}
use Rattle.sample_planes.specs.Layouts.{IsLayout, AreBytes, AreCodesIn}
use Rattle.sample_planes.specs.declared.layout.WordLayout.{WordLayout}
use Rattle.sample_planes.specs.Packings.{width_of, has_sizes}
use Rattle.sample_planes.proofs.CodeLemmas.{is_code_in}
use Rattle.sample_planes.proofs.PlaneLemmas.{HasRoom}

-- the code of the part of sample i that begins at its bit `at`
abbrev pub code_of_part : Packing → ℕ → List ℕ → ℕ → ℕ
code_of_part packing at near i = code_in (has_sizes packing) near (width_of packing * i + at)

-- lanes have the codes of parts of a word of samples
pub record IsWord (packing : Packing) (at start w : ℕ) (near lanes : List ℕ) : Type 0 where
  pub each : (k : ℕ) → k < 64 → IsCodeNumber (get_or lanes k 0)
  pub codes : (j : ℕ) → j < 64
      → get_or lanes (63 - j) 0 ≡ code_of_part packing at near (start + (64 * w + j))

-- what lanes have that a layout gives of the bytes of a word
pub is_word : (packing : Packing) (at bit start w width : ℕ) (sizes : Bool) (l : WordLayout)
    (near bytes lanes : List ℕ) → HasRoom packing at → width ≡ width_of packing
    → sizes ≡ has_sizes packing → bit ≡ at → IsLayout width start l
    → ((width start : ℕ) → IsLayout width start l → AreBytes width (start + 64 * w) near bytes)
    → ((width start w : ℕ) (near : List ℕ) → IsLayout width start l → bit < width
    → (sizes ≡ true → bit + 1 < width) → AreBytes width (start + 64 * w) near bytes
    → AreCodesIn sizes width (start + 64 * w) bit near lanes)
    → IsWord packing at start w near lanes
is_word packing at bit start w width sizes l near bytes lanes room e f g layout found all =
    record { each = each; codes = codes }
  where
    inside : bit < width
    inside = rw (e, g) room.sign

    size : sizes ≡ true → bit + 1 < width
    size there = rw (e, g) (room.size (sym f ∙ there))

    codes : (j : ℕ) → j < 64
        → get_or lanes (63 - j) 0 ≡ code_of_part packing at near (start + (64 * w + j))
    codes j h =
        let place : start + 64 * w + j ≡ start + (64 * w + j) = omega arith in
        rw (e, f, g, place) at (all width start w near layout inside size
        (found width start layout) j h)

    number : (i : ℕ) → IsCodeNumber (code_of_part packing at near i)
    number i =
        let code = is_code_in (has_sizes packing) near (width_of packing * i + at) in
        record { fourth = code.fourth; few = code.few }

    each : (k : ℕ) → k < 64 → IsCodeNumber (get_or lanes k 0)
    each k h =
        let back : 63 - (63 - k) ≡ k = omega arith in
        rw back at (subst IsCodeNumber (sym (codes (63 - k) (omega arith)))
        (number (start + (64 * w + (63 - k)))))

-- one more word of codes
pub next_word : (old new f : ℕ → ℕ) (lanes : List ℕ) (w : ℕ)
    → ((i : ℕ) → i < 64 * w → old i ≡ f i) → ((i : ℕ) → i < 64 * w → new i ≡ old i)
    → ((j : ℕ) → j < 64 → new (64 * w + j) ≡ get_or lanes (63 - j) 0)
    → ((j : ℕ) → j < 64 → get_or lanes (63 - j) 0 ≡ f (64 * w + j))
    → (i : ℕ) → i < 64 * (w + 1) → new i ≡ f i
next_word old new f lanes w before kept there codes i h = elim (cases_lt i (64 * w)) [
  | inl early ↦ kept i early ∙ before i early
  | inr from ↦
      let place : 64 * w + (i - 64 * w) ≡ i = omega arith in
      rw place at (there (i - 64 * w) (omega arith) ∙ codes (i - 64 * w) (omega arith))
]
