-- Codes of the parts of samples.
use Rattle.std.proofs.Common.{◌≡◌, ℕ, ◌+◌, ◌-◌, ◌*◌, ◌/◌, ◌%◌, ◌<◌, ◌≤◌, List, length, get_or}
use Rattle.std.proofs.Common.{refl, sym, ap, ◌∙◌, arith, take, drop, Bool, true, false}
use Rattle.std.proofs.Common.{inl, inr, zero, suc, [], ◌∷◌, ◌++◌}
use Rattle.std.specs.Prelude.{ℤ, slice_index}
use Rattle.std.specs.Simd.Lanes.{zip2, put_chunk, chunk}
use Rattle.std.proofs.lemmas.Simd.{get_or-zip2, get_or-chunk, length-chunk, get_or-put_chunk_below}
use Rattle.std.proofs.lemmas.Simd.{get_or-put_chunk_at, get_or-put_chunk_above}
use Rattle.std.proofs.lemmas.Nat.Bits.{bit_at-lt}
use Rattle.std.proofs.lemmas.Bool.{cases_lt}
use Rattle.std.proofs.lemmas.List.{drop_all, take_all, length-drop, append-nil}
use Rattle.definitions.specs.Samples.{bit_in}
use Rattle.sample_planes.specs.Signs.{part_of, part_in}
use Rattle.sample_planes.specs.Codes.{IsCode}
use Rattle.sample_planes.proofs.PlaneLemmas.{sign_written}
use Rattle.sample_planes.specs.CodedParts.{lane_of, code_in}

-- the code of an equal part
pub code_of : (part other : ℤ) (code : ℕ) → part ≡ other → IsCode other code → IsCode part code
code_of part other code is c =
    record { fourth = c.fourth; few = c.few; value = is ∙ c.value }

-- ---- a lane's code

pub sum_lane : (xs ys : List ℕ) (s z k : ℕ) → length xs ≡ 64 → length ys ≡ 64 → k < 64
    → get_or xs k 0 ≡ s * 4 → get_or ys k 0 ≡ z * 8 → s < 2 → z < 2
    → get_or (zip2 (λ (a b : ℕ). (a + b) % 256) xs ys) k 0 ≡ s * 4 + z * 8
sum_lane xs ys s z k hx hy h four eight hs hz =
    get_or-zip2 (λ (a b : ℕ). (a + b) % 256) xs ys k 0 0 0 (omega (arith, hx)) (omega (arith, hy))
    ∙ rw (four, eight) (omega arith)

pub code_with : (sizes : Bool) (bytes : List ℕ) (place code : ℕ) → sizes ≡ true
    → code ≡ bit_in bytes place * 4 + bit_in bytes (place + 1) * 8
    → code ≡ code_in sizes bytes place
unfolding code_in
code_with true bytes place code e is = is
code_with false bytes place code e is = cc

pub code_without : (sizes : Bool) (bytes : List ℕ) (place code : ℕ) → sizes ≡ false
    → code ≡ bit_in bytes place * 4 → code ≡ code_in sizes bytes place
unfolding code_in
code_without true bytes place code e is = cc
code_without false bytes place code e is = is

-- ---- what codes say

pub record IsCodeIn (sizes : Bool) (bytes : List ℕ) (place : ℕ) : Type 0 where
  pub few : code_in sizes bytes place < 16
  pub fourth : code_in sizes bytes place % 4 ≡ 0
  pub part : part_of (code_in sizes bytes place / 4 % 2) (code_in sizes bytes place / 8)
      ≡ part_in sizes bytes place

record IsPair (s z : ℕ) : Type 0 where
  pub few : s * 4 + z * 8 < 16
  pub fourth : (s * 4 + z * 8) % 4 ≡ 0
  pub sign : (s * 4 + z * 8) / 4 % 2 ≡ s
  pub size : (s * 4 + z * 8) / 8 ≡ z

pair : (s z : ℕ) → s < 2 → z < 2 → IsPair s z
pair s z hs hz = record {
  few = omega arith;
  fourth = omega arith;
  sign = omega arith;
  size = omega arith;
}

record IsSingle (s : ℕ) : Type 0 where
  pub few : s * 4 < 16
  pub fourth : s * 4 % 4 ≡ 0
  pub sign : s * 4 / 4 % 2 ≡ s
  pub size : s * 4 / 8 ≡ 0

single : (s : ℕ) → s < 2 → IsSingle s
single s h = record {
  few = omega arith;
  fourth = omega arith;
  sign = omega arith;
  size = omega arith;
}

pub bit_small : (bytes : List ℕ) (place : ℕ) → bit_in bytes place < 2
bit_small bytes place = bit_at-lt (slice_index bytes (place / 8)) (7 - place % 8)

pub is_code_in : (sizes : Bool) (bytes : List ℕ) (place : ℕ) → IsCodeIn sizes bytes place
unfolding code_in
is_code_in true bytes place =
    let p = pair (bit_in bytes place) (bit_in bytes (place + 1)) (bit_small bytes place)
    (bit_small bytes (place + 1)) in
    record { few = p.few; fourth = p.fourth; part = rw (p.sign, p.size) refl }
is_code_in false bytes place =
    let p = single (bit_in bytes place) (bit_small bytes place) in
    record {
      few = p.few;
      fourth = p.fourth;
      part = rw (p.sign, p.size) (sym (sign_written (bit_in bytes place)));
    }

-- ---- codes in an array

-- a store into an array from a place on, and one into the rest of the array from there on
moved : (a : ℕ) (xs ys : List ℕ)
    → take a xs ++ put_chunk 0 (drop a xs) ys ≡ put_chunk a xs ys
moved zero xs ys = refl
moved (suc a) [] ys = refl
moved (suc a) (x ∷ xs) ys = ap (λ (r : List ℕ). x ∷ r) (moved a xs ys)

pub put_word : (codes xs : List ℕ) (w : ℕ) → length codes ≡ 1024 → w < 16
    → take (64 * w) codes ++ (put_chunk 0 (take (1024 - 64 * w) (drop (64 * w) codes)) xs
    ++ drop (1024 - 64 * w) (drop (64 * w) codes))
    ≡ put_chunk (64 * w) codes xs
put_word codes xs w all few =
    let rest : length (drop (64 * w) codes) ≤ 1024 - 64 * w =
    omega (arith, all, length-drop (64 * w) codes) in
    rw (
      take_all (1024 - 64 * w) (drop (64 * w) codes) rest,
      drop_all (1024 - 64 * w) (drop (64 * w) codes) rest,
      append-nil (put_chunk 0 (drop (64 * w) codes) xs),
    )
    (moved (64 * w) codes xs)

-- 64 more
pub put_at : (codes xs : List ℕ) (w j : ℕ) → length codes ≡ 1024 → length xs ≡ 64 → w < 16 → j < 64
    → get_or (put_chunk (64 * w) codes xs) (lane_of (64 * w + j)) 0 ≡ get_or xs (63 - j) 0
put_at codes xs w j all long few h =
    let place : lane_of (64 * w + j) ≡ 64 * w + (63 - j) = omega arith in
    rw place (get_or-put_chunk_at (64 * w) codes xs (63 - j) 0 (omega (arith, long))
    (omega (arith, all)))

-- what was before them
pub put_before : (codes xs : List ℕ) (w i : ℕ) → i < 64 * w
    → get_or (put_chunk (64 * w) codes xs) (lane_of i) 0 ≡ get_or codes (lane_of i) 0
put_before codes xs w i h = get_or-put_chunk_below (64 * w) codes xs (lane_of i) 0 (omega arith)

-- what holds of each code of both holds of each place
pub put_each : (P : ℕ → Type 0) (codes xs : List ℕ) (w : ℕ) → length codes ≡ 1024 → length xs ≡ 64
    → w < 16 → ((k : ℕ) → k < 1024 → P (get_or codes k 0))
    → ((k : ℕ) → k < 64 → P (get_or xs k 0))
    → (k : ℕ) → k < 1024 → P (get_or (put_chunk (64 * w) codes xs) k 0)
put_each P codes xs w all long few old new k room = elim (cases_lt k (64 * w)) [
  | inl before ↦ rw (get_or-put_chunk_below (64 * w) codes xs k 0 before) (old k room)
  | inr from ↦ elim (cases_lt k (64 * w + 64)) [
    | inl inside ↦
        let place : 64 * w + (k - 64 * w) ≡ k = omega arith in
        let there : get_or (put_chunk (64 * w) codes xs) k 0 ≡ get_or xs (k - 64 * w) 0 =
        rw place at (get_or-put_chunk_at (64 * w) codes xs (k - 64 * w) 0 (omega (arith, long))
        (omega (arith, all))) in
        rw there (new (k - 64 * w) (omega arith))
    | inr behind ↦ rw (get_or-put_chunk_above (64 * w) codes xs k 0 (omega (arith, long, behind)))
        (old k room)
  ]
]

-- 64 codes of a part
pub loaded : (codes : List ℕ) (w k : ℕ) → w < 16 → k < 64
    → get_or (chunk 0 64 (take (1024 - 64 * w) (drop (64 * w) codes))) k 0
    ≡ get_or codes (64 * w + k) 0
loaded codes w k few h =
    let start : 0 + k ≡ k = omega arith in
    get_or-chunk 0 64 (take (1024 - 64 * w) (drop (64 * w) codes)) k 0 h
    ∙ ap (λ (i : ℕ). get_or (take (1024 - 64 * w) (drop (64 * w) codes)) i 0) start
    ∙ get_or-chunk (64 * w) (1024 - 64 * w) codes k 0 (omega arith)

pub loaded_long : (codes : List ℕ) (w : ℕ) → length codes ≡ 1024 → w < 16
    → length (chunk 0 64 (take (1024 - 64 * w) (drop (64 * w) codes))) ≡ 64
loaded_long codes w long few =
    let rest : length (take (1024 - 64 * w) (drop (64 * w) codes)) ≡ 1024 - 64 * w =
    length-chunk (64 * w) (1024 - 64 * w) codes (omega (arith, long)) in
    length-chunk 0 64 (take (1024 - 64 * w) (drop (64 * w) codes)) (omega (arith, rest))

pub is_code : (code : ℕ) → code < 16 → code % 4 ≡ 0
    → IsCode (part_of (code / 4 % 2) (code / 8)) code
is_code code few fourth = record { fourth = fourth; few = few; value = refl }
