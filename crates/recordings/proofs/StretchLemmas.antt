-- Stretches of lists in pieces.
use Rattle.std.proofs.Common.{◌≡◌, ℕ, zero, suc, ◌-◌, List, [], ◌∷◌, ◌++◌, length, take, drop}
use Rattle.std.proofs.Common.{refl, sym, ap, ◌∙◌, arith, length-append}
use Rattle.std.specs.Prelude.{min}
use Rattle.std.proofs.lemmas.List.{length-take, length-take-le, take_rest}

pub drop-two : (n : ℕ) (xs ys : List ℕ) → drop n (xs ++ ys) ≡ drop n xs ++ drop (n - length xs) ys
drop-two zero xs ys = let e : zero - length xs ≡ zero = omega arith in rw e refl
drop-two (suc n) [] ys = let e : suc n - 0 ≡ suc n = omega arith in rw e refl
drop-two (suc n) (x ∷ xs) ys =
    let e : suc n - suc (length xs) ≡ n - length xs = omega arith in rw e (drop-two n xs ys)

pub take-two : (n : ℕ) (xs ys : List ℕ) → take n (xs ++ ys) ≡ take n xs ++ take (n - length xs) ys
take-two zero xs ys = let e : zero - length xs ≡ zero = omega arith in rw e refl
take-two (suc n) [] ys = let e : suc n - 0 ≡ suc n = omega arith in rw e refl
take-two (suc n) (x ∷ xs) ys =
    let e : suc n - suc (length xs) ≡ n - length xs = omega arith in
    rw e (ap (λ (zs : List ℕ). x ∷ zs) (take-two n xs ys))

drop-min : (n : ℕ) (xs : List ℕ) → drop (min n (length xs)) xs ≡ drop n xs
drop-min zero xs = let e : min zero (length xs) ≡ zero = omega arith in rw e refl
drop-min (suc n) [] = let e : min (suc n) 0 ≡ 0 = omega arith in rw e refl
drop-min (suc n) (x ∷ xs) =
    let e : min (suc n) (suc (length xs)) ≡ suc (min n (length xs)) = omega arith in
    rw e (drop-min n xs)

take-min : (n : ℕ) (xs : List ℕ) → take (min n (length xs)) xs ≡ take n xs
take-min zero xs = let e : min zero (length xs) ≡ zero = omega arith in rw e refl
take-min (suc n) [] = let e : min (suc n) 0 ≡ 0 = omega arith in rw e refl
take-min (suc n) (x ∷ xs) =
    let e : min (suc n) (suc (length xs)) ≡ suc (min n (length xs)) = omega arith in
    rw e (ap (λ (zs : List ℕ). x ∷ zs) (take-min n xs))

-- what is shown of a piece
abbrev pub shown_of : List ℕ → ℕ → ℕ → List ℕ
shown_of piece skipped wanted =
    take wanted (take (length piece - skipped) (drop skipped piece))

pub record IsNext (skip most : ℕ) (bytes shown piece next : List ℕ) (before left : ℕ) : Type 0 where
  pub part : shown ++ next ≡ take most (drop skip (bytes ++ piece))
  pub before_is : before ≡ skip - length (bytes ++ piece)
  pub left_is : left ≡ most - length (shown ++ next)

pub next : (skip most : ℕ) (bytes shown piece : List ℕ) (before left skipped wanted : ℕ)
    → shown ≡ take most (drop skip bytes) → before ≡ skip - length bytes
    → left ≡ most - length shown → skipped ≡ min before (length piece)
    → wanted ≡ min left (length (take (length piece - skipped) (drop skipped piece)))
    → IsNext skip most bytes shown piece (shown_of piece skipped wanted) (before - skipped)
    (left - wanted)
next skip most bytes shown piece before left skipped wanted is b l s w = record {
  part = sym (ap (take most) (drop-two skip bytes piece) ∙ take-two most front back ∙ joined);
  before_is = rw length-append (omega arith);
  left_is = rw (length-append, sized) (omega arith);
}
  where
    front : List ℕ
    front = drop skip bytes

    back : List ℕ
    back = drop (skip - length bytes) piece

    rest : take (length piece - skipped) (drop skipped piece) ≡ back
    rest =
        take_rest piece skipped
        ∙ ap (λ (k : ℕ). drop k piece) (s ∙ ap (λ (k : ℕ). min k (length piece)) b)
        ∙ drop-min (skip - length bytes) piece

    left_there : most - length front ≡ left
    left_there =
        let e : length shown ≡ min most (length front) = ap length is ∙ length-take most front in
        omega arith

    wanted_is : wanted ≡ min left (length back)
    wanted_is = w ∙ ap (λ (xs : List ℕ). min left (length xs)) rest

    joined : take most front ++ take (most - length front) back
        ≡ shown ++ shown_of piece skipped wanted
    joined =
        ap (λ (k : ℕ). take most front ++ take k back) left_there
        ∙ ap (λ (xs : List ℕ). xs ++ take left back) (sym is)
        ∙ ap (λ (xs : List ℕ). shown ++ xs)
        (sym (take-min left back) ∙ ap (λ (k : ℕ). take k back) (sym wanted_is)
        ∙ ap (take wanted) (sym rest))

    sized : length (shown_of piece skipped wanted) ≡ wanted
    sized =
        ap (λ (xs : List ℕ). length (take wanted xs)) rest
        ∙ length-take-le wanted back (let e = wanted_is in omega arith)
