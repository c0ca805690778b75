-- Numbers in lanes of bytes, where a bit of each is 1.
use Rattle.std.proofs.Common.{◌≡◌, ℕ, ◌*◌, ◌^◌, ◌<◌, List}
use Rattle.std.proofs.Common.{length, map, get_or, refl, sym, ap, ◌∙◌, arith, Bool, true, false, w8}
use Rattle.std.proofs.Common.{replicate}
use Rattle.std.specs.Prelude.{cond, not, eqb, bit_and}
use Rattle.std.specs.Int.{bit_at}
use Rattle.std.specs.Simd.Lanes.{zip2, top, sel_l}
use Rattle.std.proofs.lemmas.Simd.{tops_compared, get_or-zip2, length-zip2, get_or-sel_l}
use Rattle.std.proofs.lemmas.Simd.{length-sel_l, length-replicate}
use Rattle.std.proofs.lemmas.List.{get_or-replicate}
use Rattle.bit_planes.proofs.LaneLemmas.{masked_one}

-- a lane of a choice between two splats by a comparison
pub chosen_lane : (n : ℕ) (t : ℕ → ℕ → Bool) (xs ys : List ℕ) (a b k : ℕ) → length xs ≡ n
    → length ys ≡ n → k < n
    → get_or (sel_l (map (top 7) (zip2 (λ (x y : ℕ). cond (t x y) 255 0) xs ys)) (replicate n a)
    (replicate n b)) k 0
    ≡ cond (t (get_or xs k 0) (get_or ys k 0)) a b
chosen_lane n t xs ys a b k hx hy h =
    let lanes : map (top 7) (zip2 (λ (x y : ℕ). cond (t x y) 255 0) xs ys) ≡ zip2 t xs ys =
    tops_compared w8 t xs ys in
    let many : length (zip2 t xs ys) ≡ n = length-zip2 t xs ys (hx ∙ sym hy) ∙ hx in
    let ones : length (replicate {A = ℕ} n a) ≡ n = length-replicate n a in
    let others : length (replicate {A = ℕ} n b) ≡ n = length-replicate n b in
    rw lanes (get_or-sel_l (zip2 t xs ys) (replicate {A = ℕ} n a) (replicate {A = ℕ} n b) k 0
    (omega (arith, many)) (omega (arith, ones)) (omega (arith, others))
    ∙ rw (
      get_or-zip2 t xs ys k 0 0 false (omega (arith, hx)) (omega (arith, hy)),
      get_or-replicate {A = ℕ} n k a 0 h,
      get_or-replicate {A = ℕ} n k b 0 h,
    )
    refl)

-- a lane of a choice by the bits that masks name
pub marked_lane : (n : ℕ) (bytes masks : List ℕ) (ones k j : ℕ) → length bytes ≡ n
    → length masks ≡ n → k < n → get_or masks k 0 ≡ 2 ^ j
    → get_or (sel_l (map (top 7) (zip2 (λ (x y : ℕ). cond (not (eqb x y)) 255 0)
    (zip2 bit_and bytes masks) (replicate n 0))) (replicate n ones) (replicate n 0)) k 0
    ≡ bit_at (get_or bytes k 0) j * ones
marked_lane n bytes masks ones k j hb hm h mask =
    let long : length (zip2 bit_and bytes masks) ≡ n = length-zip2 bit_and bytes masks
    (hb ∙ sym hm) ∙ hb in
    let lane : get_or (zip2 bit_and bytes masks) k 0
    ≡ bit_and (get_or bytes k 0) (get_or masks k 0) =
    get_or-zip2 bit_and bytes masks k 0 0 0 (omega (arith, hb)) (omega (arith, hm)) in
    chosen_lane n (λ (x y : ℕ). not (eqb x y)) (zip2 bit_and bytes masks) (replicate n 0)
    ones 0 k long (length-replicate n 0) h
    ∙ rw (lane, get_or-replicate {A = ℕ} n k 0 0 h)
    (times (not (eqb (bit_and (get_or bytes k 0) (get_or masks k 0)) 0)) ones
    ∙ ap (λ (b : ℕ). b * ones) (masked_one (get_or bytes k 0) (get_or masks k 0) j mask))
  where
    times : (b : Bool) (n : ℕ) → cond {A = ℕ} b n 0 ≡ cond {A = ℕ} b 1 0 * n
    times true n = omega arith
    times false n = omega arith

pub marked_long : (n : ℕ) (bytes masks : List ℕ) (ones : ℕ) → length bytes ≡ n
    → length masks ≡ n
    → length (sel_l (map (top 7) (zip2 (λ (x y : ℕ). cond (not (eqb x y)) 255 0)
    (zip2 bit_and bytes masks) (replicate n 0))) (replicate n ones) (replicate n 0)) ≡ n
marked_long n bytes masks ones hb hm =
    let differs : ℕ → ℕ → Bool = λ (x y : ℕ). not (eqb x y) in
    let xs : List ℕ = zip2 bit_and bytes masks in
    let none : List ℕ = replicate n 0 in
    let long : length xs ≡ n = length-zip2 bit_and bytes masks (hb ∙ sym hm) ∙ hb in
    let zeros : length none ≡ n = length-replicate n 0 in
    let many : length (zip2 differs xs none) ≡ n = length-zip2 differs xs none (long ∙ sym zeros)
    ∙ long in
    ap (λ (ms : List Bool). length (sel_l ms (replicate n ones) none))
    (tops_compared w8 differs xs none)
    ∙ length-sel_l (zip2 differs xs none) (replicate {A = ℕ} n ones) none
    (many ∙ sym (length-replicate n ones)) (many ∙ sym zeros)
    ∙ many
