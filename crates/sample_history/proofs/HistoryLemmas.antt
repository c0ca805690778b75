-- What a history holds after one more run.
use Rattle.std.proofs.Common.{inl, inr, ◌≡◌, ℕ, ◌+◌, ◌-◌, ◌*◌, ◌/◌, ◌%◌, ◌<◌, ◌≤◌, List, []}
use Rattle.std.proofs.Common.{◌∷◌, ◌++◌}
use Rattle.std.proofs.Common.{length, drop, sym, ap, ◌∙◌, arith}
use Rattle.std.specs.Int.{bit_at}
use Rattle.std.specs.Prelude.{pos}
use Rattle.std.proofs.lemmas.Bool.{cases_lt}
use Rattle.std.proofs.lemmas.List.{get_or_append_left, get_or-append-add, get_or-drop}
use Rattle.std.proofs.lemmas.List.FromFn.{get_or-map-range_with_len}
use Rattle.definitions.specs.Samples.{Sample, Packing, real, sample, sample_at, samples_from}
use Rattle.definitions.specs.Samples.{bit_in}
use Rattle.definitions.specs.Samples.{samples_per_byte}
use Rattle.sample_planes.specs.Packings.{width_of}
use Rattle.sample_planes.specs.Sources.{AreSamplesOf}
use Rattle.sample_planes.proofs.BitLemmas.{same_sample}
use Rattle.sample_history.specs.Shifts.{byte_from, bytes_from, byte_of_two, with_bits_behind}
use Rattle.sample_history.proofs.ShiftLemmas.{begun-bit, behind-bit}
use Rattle.sample_history.proofs.PlaceLemmas.{first_in, used_bits, old_place, new_place}
use Rattle.sample_history.proofs.PlaceLemmas.{few_used, some_bits}

-- ---- bits of bytes after bytes

bit_in-front : (front back : List ℕ) (place : ℕ) → place < 8 * length front
    → bit_in (front ++ back) place ≡ bit_in front place
bit_in-front front back place h =
    ap (λ (x : ℕ). bit_at x (7 - place % 8))
    (get_or_append_left front back 0 (place / 8) (omega (arith, h)))

bit_in-back : (front back : List ℕ) (place : ℕ)
    → bit_in (front ++ back) (8 * length front + place) ≡ bit_in back place
bit_in-back front back place =
    let byte : (8 * length front + place) / 8 ≡ length front + place / 8 = omega arith in
    let bit : (8 * length front + place) % 8 ≡ place % 8 = omega arith in
    rw (byte, bit)
    (ap (λ (x : ℕ). bit_at x (7 - place % 8)) (get_or-append-add front back (place / 8) 0))

bit_in-drop : (d : ℕ) (bytes : List ℕ) (place : ℕ)
    → bit_in (drop d bytes) place ≡ bit_in bytes (8 * d + place)
bit_in-drop d bytes place =
    let byte : (8 * d + place) / 8 ≡ d + place / 8 = omega arith in
    let bit : (8 * d + place) % 8 ≡ place % 8 = omega arith in
    rw (byte, bit)
    (ap (λ (x : ℕ). bit_at x (7 - place % 8)) (get_or-drop d bytes (place / 8) 0))

-- ---- the bytes after one more run

old_bit : (ring : List ℕ) (partial : ℕ) (bytes : List ℕ) (start used whole q : ℕ) → used < 8
    → q < 8 * length ring + used
    → bit_in (with_bits_behind ring partial used bytes start whole) q
    ≡ bit_in (ring ++ partial ∷ []) q
old_bit ring partial bytes start used whole q few h =
    let rest : List ℕ =
    byte_of_two partial (byte_from bytes start) used ∷ bytes_from bytes (start + 8 - used) whole in
    elim (cases_lt q (8 * length ring)) [
      | inl inside ↦
          bit_in-front ring rest q inside ∙ sym (bit_in-front ring (partial ∷ []) q inside)
      | inr behind ↦
          let place : q ≡ 8 * length ring + (q - 8 * length ring) = omega (arith, behind) in
          ap (bit_in (ring ++ rest)) place ∙ bit_in-back ring rest (q - 8 * length ring)
          ∙ begun-bit partial (byte_from bytes start) used (q - 8 * length ring)
          (bytes_from bytes (start + 8 - used) whole) (omega (arith, behind, h)) few
          ∙ sym (bit_in-back ring (partial ∷ []) (q - 8 * length ring))
          ∙ ap (bit_in (ring ++ partial ∷ [])) (sym place)
    ]

new_bit : (ring : List ℕ) (partial : ℕ) (bytes : List ℕ) (start used whole m : ℕ) → used < 8
    → used + m < 8 * (1 + whole)
    → bit_in (with_bits_behind ring partial used bytes start whole) (8 * length ring + (used + m))
    ≡ bit_in bytes (start + m)
new_bit ring partial bytes start used whole m few h =
    let place : start + (used + m - used) ≡ start + m = omega arith in
    bit_in-back ring (byte_of_two partial (byte_from bytes start) used ∷ bytes_from bytes
    (start + 8 - used) whole) (used + m)
    ∙ behind-bit partial bytes start used whole (used + m) few (omega arith) h
    ∙ ap (bit_in bytes) place

-- ---- the samples after one more run

pub held_on : (packing : Packing) (xs : List Sample) (ring : List ℕ) (partial : ℕ)
    (bytes : List ℕ) (taken first len d whole : ℕ)
    → whole ≡ (taken % samples_per_byte packing + len) / samples_per_byte packing
    → length ring ≤ taken / samples_per_byte packing → d ≤ length ring + whole
    → taken ≡ length xs
    → AreSamplesOf xs (first_in packing taken (length ring)) taken
    (λ n. sample packing (ring ++ partial ∷ []) (n - first_in packing taken (length ring)))
    → AreSamplesOf (xs ++ samples_from packing bytes first len)
    (first_in packing (taken + len) (length ring + whole - d)) (taken + len)
    (λ n. sample packing (drop d (with_bits_behind ring partial (used_bits packing taken) bytes
    (width_of packing * first) whole))
    (n - first_in packing (taken + len) (length ring + whole - d)))
unfolding samples_from
held_on packing xs ring partial bytes taken first len d whole is_whole some fits all before n from
    to =
    let r : ℕ = length ring in
    let w : ℕ = width_of packing in
    let start : ℕ = w * first in
    let used : ℕ = used_bits packing taken in
    let few : used_bits packing taken < 8 = few_used packing taken in
    let next : ℕ = first_in packing (taken + len) (length ring + whole - d) in
    let bs : List ℕ = with_bits_behind ring partial used bytes start whole in
    elim (cases_lt n taken) [
      | inl old ↦
          let inside : n < length xs = omega (arith, old, all) in
          same_sample packing (drop d bs) (ring ++ partial ∷ []) (n - next)
          (n - first_in packing taken r) (λ k bit.
          let p = old_place packing taken len r d whole n k is_whole some fits from old bit in
          bit_in-drop d bs (w * (n - next) + k) ∙ ap (bit_in bs) p.place
          ∙ old_bit ring partial bytes start used whole (w * (n - first_in packing taken r) + k)
          few p.short)
          ∙ before n (old_place packing taken len r d whole n 0 is_whole some fits from old
          (some_bits packing)).held old
          ∙ sym (get_or_append_left xs (samples_from packing bytes first len) (real (pos 0)) n
          inside)
      | inr behind ↦
          let place : n ≡ length xs + (n - taken) = omega (arith, behind, all) in
          same_sample packing (drop d bs) bytes (n - next) (first + (n - taken)) (λ k bit.
          let p = new_place packing taken len r d whole first n k is_whole some fits from behind
          to bit in
          bit_in-drop d bs (w * (n - next) + k) ∙ ap (bit_in bs) p.place
          ∙ new_bit ring partial bytes start used whole (w * (n - taken) + k) few p.short
          ∙ ap (bit_in bytes) p.there)
          ∙ sym (get_or-map-range_with_len (sample packing bytes) first len (n - taken)
          (first + (n - taken)) (real (pos 0)) (omega (arith, behind, to)) (omega arith))
          ∙ sym (get_or-append-add xs (samples_from packing bytes first len) (n - taken)
          (real (pos 0)))
          ∙ ap (sample_at (xs ++ samples_from packing bytes first len)) (sym place)
    ]

-- the same for the bytes that a ring comes to hold
pub held_next : (packing : Packing) (xs : List Sample) (ring : List ℕ) (partial : ℕ)
    (bytes : List ℕ) (taken first len used start whole : ℕ) (new : List ℕ) (next : ℕ)
    → used ≡ used_bits packing taken → start ≡ width_of packing * first
    → whole ≡ (taken % samples_per_byte packing + len) / samples_per_byte packing
    → length ring ≤ taken / samples_per_byte packing → length new ≤ length ring + whole
    → new ++ next ∷ []
    ≡ drop (length ring + whole - length new) (with_bits_behind ring partial used bytes start whole)
    → taken ≡ length xs
    → AreSamplesOf xs (first_in packing taken (length ring)) taken
    (λ n. sample packing (ring ++ partial ∷ []) (n - first_in packing taken (length ring)))
    → AreSamplesOf (xs ++ samples_from packing bytes first len)
    (first_in packing (taken + len) (length new)) (taken + len)
    (λ n. sample packing (new ++ next ∷ []) (n - first_in packing (taken + len) (length new)))
held_next packing xs ring partial bytes taken first len used start whole new next is_used is_start
    is_whole some short is_new all before =
    let d : ℕ = length ring + whole - length new in
    let left : length ring + whole - (length ring + whole - length new) ≡ length new =
    omega (arith, short) in
    let is_drop : new ++ next ∷ [] ≡ drop (length ring + whole - length new)
    (with_bits_behind ring partial (used_bits packing taken) bytes (width_of packing * first)
    whole) =
    rw (is_used, is_start) at is_new in
    rw is_drop (rw left at (held_on packing xs ring partial bytes taken first len
    (length ring + whole - length new) whole is_whole some (omega arith) all before))
