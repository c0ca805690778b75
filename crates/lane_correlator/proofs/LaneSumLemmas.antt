-- The sum of all lanes, as it is computed.
use Rattle.std.proofs.Common.{◌≡◌, ℕ, suc, ◌+◌, ◌-◌, ◌*◌, ◌%◌, ◌<◌, ◌≤◌, refl, sym, ap}
use Rattle.std.proofs.Common.{◌∙◌}
use Rattle.std.proofs.Common.{arith, ◌^◌, List, [], ◌∷◌, length, get_or, map, replicate, w32, to_z}
use Rattle.std.proofs.Common.{of_z}
use Rattle.std.specs.Prelude.{ℤ, pos, ◌+ℤ◌, ◌-ℤ◌, unsigned_abs, FitsSigned}
use Rattle.std.specs.Simd.Lanes.{zip2, fold_l, sum_l}
use Rattle.std.proofs.lemmas.Int.{ints, to_z_pos, to_z-of_z, fits_signed_from_abs}
use Rattle.std.proofs.lemmas.List.{get_or-replicate, get_or-map, length-map}
use Rattle.std.proofs.lemmas.Simd.{get_or-zip2, length-zip2}
use Rattle.std.proofs.Math.Nat.{mod-eq_of_lt}
use Rattle.definitions.specs.Sums.{total}
use Rattle.definitions.proofs.SumsLemmas.{total-same, total-split, total-bound}
use Rattle.lane_correlator.specs.Bytes.{signed_byte, lane_of, sum_of_lanes}
use Rattle.lane_correlator.proofs.ByteLemmas.{total-sum}

-- a sum that wraps, where it needn't
fold_wraps : (a : ℕ) (xs : List ℕ) → a + sum_l xs < 65536
    → fold_l (λ (s x : ℕ). (s + x) % 65536) a xs ≡ a + sum_l xs
fold_wraps a [] room = omega arith
fold_wraps a (x ∷ xs) room =
    let whole : (a + x) % 65536 ≡ a + x = mod-eq_of_lt (omega arith) in
    rw whole (fold_wraps (a + x) xs (omega (arith, room)) ∙ omega arith)

-- a sum of a list
sum_is_total : (xs : List ℕ) → pos (sum_l xs) ≡ total (λ k. pos (get_or xs k 0)) (length xs)
unfolding total
sum_is_total [] = refl
sum_is_total (x ∷ xs) =
    let one : suc (length xs) ≡ 1 + length xs = omega arith in
    let first : total (λ k. pos (get_or (x ∷ xs) k 0)) 1 ≡ pos x = omega (arith, ints) in
    let rest : total (λ j. pos (get_or (x ∷ xs) (1 + j) 0)) (length xs)
    ≡ total (λ k. pos (get_or xs k 0)) (length xs) =
    total-same (λ j. pos (get_or (x ∷ xs) (1 + j) 0)) (λ k. pos (get_or xs k 0)) (length xs)
    (λ j h. let next : 1 + j ≡ suc j = omega arith in
    ap (λ (i : ℕ). pos (get_or (x ∷ xs) i 0)) next) in
    joined x (sum_l xs) (total (λ k. pos (get_or xs k 0)) (length xs)) (sum_is_total xs)
    ∙ sym (ap (total (λ k. pos (get_or (x ∷ xs) k 0))) one
    ∙ total-split (λ k. pos (get_or (x ∷ xs) k 0)) 1 (length xs) ∙ rw (first, rest) refl)
  where
    joined : (x s : ℕ) (t : ℤ) → pos s ≡ t → pos (x + s) ≡ pos x +ℤ t
    joined x s t is = omega (arith, ints, is)

fixed : total (λ k. pos 128) 32 ≡ pos 4096
unfolding total
fixed = refl

-- ---- the lanes as they are summed

abbrev pub less : ℕ → ℕ → ℕ
less a b = (a + (256 - b)) % 256

abbrev pub add : ℕ → ℕ → ℕ
add a b = (a + b) % 256

-- less twice what turned products make
abbrev pub twice : List ℕ → List ℕ → List ℕ
twice all turned = zip2 less (zip2 less all turned) turned

abbrev pub lanes : List ℕ → List ℕ → List ℕ
lanes all_lanes turned = map (λ (n : ℕ). n) (zip2 add (twice all_lanes turned) (replicate 32 128))

abbrev pub all : List ℕ → List ℕ → ℕ
all all_lanes turned = fold_l (λ (s x : ℕ). (s + x) % 65536) 0 (lanes all_lanes turned)

module _ (all_lanes turned : List ℕ) (hs : length all_lanes ≡ 32) (hb : length turned ≡ 32) where
  once_long : length (zip2 less all_lanes turned) ≡ 32
  once_long = length-zip2 less all_lanes turned (hs ∙ sym hb) ∙ hs

  less_long : length (twice all_lanes turned) ≡ 32
  less_long = length-zip2 less (zip2 less all_lanes turned) turned (once_long ∙ sym hb) ∙ once_long

  all_long : length (zip2 add (twice all_lanes turned) (replicate 32 128)) ≡ 32
  all_long = length-zip2 add (twice all_lanes turned) (replicate 32 128) less_long ∙ less_long

  lanes_long : length (lanes all_lanes turned) ≡ 32
  lanes_long = length-map (zip2 add (twice all_lanes turned) (replicate 32 128)) (λ (n : ℕ). n)
      ∙ all_long

  lane_is : (k : ℕ) → k < 32 → pos (get_or (lanes all_lanes turned) k 0)
      ≡ lane_of all_lanes turned k +ℤ pos 128
  lane_is k h =
      let there : get_or (lanes all_lanes turned) k 0
      ≡ (((get_or all_lanes k 0 + (256 - get_or turned k 0)) % 256
      + (256 - get_or turned k 0)) % 256 + 128) % 256 =
      get_or-map (λ (n : ℕ). n) (zip2 add (twice all_lanes turned) (replicate 32 128)) k 0 0
      (omega (arith, all_long))
      ∙ get_or-zip2 add (twice all_lanes turned) (replicate 32 128) k 0 0 0
      (omega (arith, less_long)) h
      ∙ rw (
        get_or-zip2 less (zip2 less all_lanes turned) turned k 0 0 0 (omega (arith, once_long))
            (omega (arith, hb)),
        get_or-zip2 less all_lanes turned k 0 0 0 (omega (arith, hs)) (omega (arith, hb)),
        get_or-replicate {A = ℕ} 32 k 128 0 h,
      )
      refl
      in
      rw there (shifted (get_or all_lanes k 0) (get_or turned k 0))
    where
      shifted : (s b : ℕ) → pos ((((s + (256 - b)) % 256 + (256 - b)) % 256 + 128) % 256)
          ≡ signed_byte (s + 2 * (256 - b)) +ℤ pos 128
      shifted s b = omega (arith, ints)

  total_is : pos (sum_l (lanes all_lanes turned)) ≡ sum_of_lanes all_lanes turned +ℤ pos 4096
  unfolding sum_of_lanes
  total_is =
      sum_is_total (lanes all_lanes turned)
      ∙ ap (total (λ k. pos (get_or (lanes all_lanes turned) k 0))) lanes_long
      ∙ total-same (λ k. pos (get_or (lanes all_lanes turned) k 0))
      (λ k. lane_of all_lanes turned k +ℤ pos 128) 32 lane_is
      ∙ total-sum (lane_of all_lanes turned) (λ k. pos 128) 32
      ∙ ap (λ (z : ℤ). total (lane_of all_lanes turned) 32 +ℤ z) fixed

  pub small : unsigned_abs (sum_of_lanes all_lanes turned) ≤ 4096
  unfolding sum_of_lanes
  small = omega (
    arith,
    total-bound
        (lane_of all_lanes turned) 128 32 (λ k h. each (get_or all_lanes k 0) (get_or turned k 0)),
  )
    where
      each : (s b : ℕ) → unsigned_abs (signed_byte (s + 2 * (256 - b))) ≤ 128
      each s b = omega (arith, ints)

  few : sum_l (lanes all_lanes turned) ≤ 8192
  few = omega (arith, ints, total_is, small)

  pub folded : fold_l (λ (s x : ℕ). (s + x) % 65536) 0 (lanes all_lanes turned)
      ≡ sum_l (lanes all_lanes turned)
  folded = fold_wraps 0 (lanes all_lanes turned) (omega (arith, few)) ∙ omega arith

  pub folded_few : fold_l (λ (s x : ℕ). (s + x) % 65536) 0 (lanes all_lanes turned) ≤ 8192
  folded_few = rw folded few

  pub value : pos (fold_l (λ (s x : ℕ). (s + x) % 65536) 0 (lanes all_lanes turned)) -ℤ pos 4096
      ≡ sum_of_lanes all_lanes turned
  value =
      rw folded (moved (sum_l (lanes all_lanes turned)) (sum_of_lanes all_lanes turned) total_is)
    where
      moved : (n : ℕ) (t : ℤ) → pos n ≡ t +ℤ pos 4096 → pos n -ℤ pos 4096 ≡ t
      moved n t is = omega (arith, ints, is)

-- ---- as numbers with a sign

pub cast_fits : (n : ℕ) → n ≤ 8192 → FitsSigned w32 (pos n)
cast_fits n few =
    let small : unsigned_abs (pos n) < 2 ^ 31 = omega (arith, ints, few) in
    fits_signed_from_abs w32 (pos n) small

pub less_fits : (n : ℕ) → n ≤ 8192 → FitsSigned w32 (to_z w32 n -ℤ pos 4096)
less_fits n few =
    let small : unsigned_abs (pos n -ℤ pos 4096) < 2 ^ 31 = omega (arith, ints, few) in
    rw (to_z_pos w32 n (omega (arith, few))) (fits_signed_from_abs w32 (pos n -ℤ pos 4096) small)

pub written : (n : ℕ) (z : ℤ) → n ≤ 8192 → pos n -ℤ pos 4096 ≡ z
    → to_z w32 (of_z w32 (to_z w32 n -ℤ pos 4096)) ≡ z
written n z few is =
    to_z-of_z w32 (to_z w32 n -ℤ pos 4096) (less_fits n few)
    ∙ rw (to_z_pos w32 n (omega (arith, few))) is
