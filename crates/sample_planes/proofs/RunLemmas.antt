-- A run of packed samples in parts, and by the numbers of its samples.
use Rattle.std.proofs.Common.{◌≡◌, ℕ, zero, suc, ◌+◌, ◌-◌, ◌/◌, ◌%◌, ◌<◌, ◌≤◌, List, ◌∷◌, ◌++◌}
use Rattle.std.proofs.Common.{length, take, drop, refl, sym, ap, ◌∙◌, arith}
use Rattle.std.specs.Prelude.{map, pos}
use Rattle.std.specs.List.{range_with_len}
use Rattle.std.proofs.Math.Seq.{take-append_seam, drop-append_seam}
use Rattle.std.proofs.lemmas.List.{drop_more, length-drop, length-take-le}
use Rattle.definitions.specs.Samples.{Sample, Packing, real1, real2, iq1, iq2, real, samples_from}
use Rattle.definitions.specs.Samples.{sample_at, sample_count, samples_per_byte}
use Rattle.definitions.proofs.SampleLemmas.{samples_from-length, samples_from-split}
use Rattle.sample_planes.proofs.ByteLemmas.{samples_from-drop, place_of}

-- the first n samples of a run, and those after them
parts : (packing : Packing) (bytes : List ℕ) (first len n : ℕ) → n ≤ len
    → samples_from packing bytes first len
    ≡ samples_from packing bytes first n ++ samples_from packing bytes (first + n) (len - n)
parts packing bytes first len n h =
    let whole : len ≡ n + (len - n) = omega (arith, h) in
    ap (samples_from packing bytes first) whole ∙ samples_from-split packing bytes first n (len - n)

pub run-front : (packing : Packing) (bytes : List ℕ) (first len n : ℕ) → n ≤ len
    → samples_from packing bytes first n ≡ take n (samples_from packing bytes first len)
run-front packing bytes first len n h =
    let xs : List Sample = samples_from packing bytes first n in
    let ys : List Sample = samples_from packing bytes (first + n) (len - n) in
    sym (ap (take n) (parts packing bytes first len n h)
    ∙ ap (λ (k : ℕ). take k (xs ++ ys)) (sym (samples_from-length packing bytes first n))
    ∙ take-append_seam xs ys)

pub run-back : (packing : Packing) (bytes : List ℕ) (first len n : ℕ) → n ≤ len
    → samples_from packing bytes (first + n) (len - n)
    ≡ drop n (samples_from packing bytes first len)
run-back packing bytes first len n h =
    let xs : List Sample = samples_from packing bytes first n in
    let ys : List Sample = samples_from packing bytes (first + n) (len - n) in
    sym (ap (drop n) (parts packing bytes first len n h)
    ∙ ap (λ (k : ℕ). drop k (xs ++ ys)) (sym (samples_from-length packing bytes first n))
    ∙ drop-append_seam xs ys)

-- bytes from one on
abbrev pub bytes_from : List ℕ → ℕ → List ℕ
bytes_from bytes k = take (length bytes - k) (drop k bytes)

-- a run, counted from the byte of its first sample on
pub run-counted_on : (packing : Packing) (bytes : List ℕ) (per first n : ℕ)
    → per ≡ samples_per_byte packing → first + n ≤ sample_count packing bytes
    → samples_from packing (bytes_from bytes (first / per)) (first % per) n
    ≡ samples_from packing bytes first n
run-counted_on packing bytes per first n is_per within =
    let place = place_of packing bytes per first n is_per within in
    samples_from-drop packing bytes _ per (first / per) (first % per) first n is_per place.within
    refl place.whole

bytes_left : (bytes : List ℕ) (k : ℕ) → length (bytes_from bytes k) ≡ length bytes - k
bytes_left bytes k = length-take-le (length bytes - k) (drop k bytes) (rw length-drop (omega arith))

-- where it lies there
pub record IsWithin (packing : Packing) (bytes : List ℕ) (first n most : ℕ) : Type 0 where
  pub start : first < samples_per_byte packing
  pub within : first + n ≤ sample_count packing bytes
  pub few : first + n ≤ most

within_rest : (packing : Packing) (bytes rest : List ℕ) (per first n : ℕ)
    → per ≡ samples_per_byte packing → first + n ≤ sample_count packing bytes
    → length rest ≡ length bytes - first / per → IsWithin packing rest (first % per) n (first + n)
within_rest real1 bytes rest per first n e h is =
    record {
      start = rw e (omega arith);
      within = rw (is, e) (omega arith);
      few = rw e (omega arith);
    }
within_rest real2 bytes rest per first n e h is =
    record {
      start = rw e (omega arith);
      within = rw (is, e) (omega arith);
      few = rw e (omega arith);
    }
within_rest iq1 bytes rest per first n e h is =
    record {
      start = rw e (omega arith);
      within = rw (is, e) (omega arith);
      few = rw e (omega arith);
    }
within_rest iq2 bytes rest per first n e h is =
    record {
      start = rw e (omega arith);
      within = rw (is, e) (omega arith);
      few = rw e (omega arith);
    }

pub run-within : (packing : Packing) (bytes : List ℕ) (per first n : ℕ)
    → per ≡ samples_per_byte packing → first + n ≤ sample_count packing bytes
    → IsWithin packing (bytes_from bytes (first / per)) (first % per) n (first + n)
run-within packing bytes per first n e h = within_rest packing bytes _ per first n e h
    (bytes_left bytes (first / per))

-- a part of a list, by the numbers of its samples
pub part-numbered : (xs : List Sample) (first from len : ℕ) → from + len ≤ length xs
    → take len (drop from xs)
    ≡ map (λ k. sample_at xs (k - first)) (range_with_len (first + from) len)
part-numbered xs first from zero h = refl
part-numbered xs first from (suc len) h =
    let here : first + from - first ≡ from = omega arith in
    let next : first + from + 1 ≡ first + (from + 1) = omega arith in
    let cut : drop from xs ≡ sample_at xs from ∷ drop (from + 1) xs =
    drop_more xs from (real (pos 0)) (omega (arith, h)) in
    rw (cut, here, next) (ap (λ (r : List Sample). sample_at xs from ∷ r)
    (part-numbered xs first (from + 1) len (omega (arith, h))))

-- what is known of a run that is short
pub short_run : (packing : Packing) (bytes : List ℕ) (first len : ℕ) (xs : List Sample)
    → samples_from packing bytes first len ≡ xs → (most : ℕ) → length xs ≤ most → len ≤ most
short_run packing bytes first len xs is most h =
    rw (← is, samples_from-length packing bytes first len) at h

-- and of one that has n samples
pub record HasPart (packing : Packing) (bytes : List ℕ) (first len n : ℕ) : Type 0 where
  pub enough : n ≤ len
  pub front : first + n ≤ sample_count packing bytes
  pub back : first + n + (len - n) ≤ sample_count packing bytes

pub has_part : (packing : Packing) (bytes : List ℕ) (first len n : ℕ) (xs : List Sample)
    → samples_from packing bytes first len ≡ xs → n ≤ length xs
    → first + len ≤ sample_count packing bytes → HasPart packing bytes first len n
has_part packing bytes first len n xs is h within =
    let enough : n ≤ len = rw (← is, samples_from-length packing bytes first len) at h in
    record {
      enough = enough;
      front = omega (arith, enough, within);
      back = omega (arith, enough, within);
    }
