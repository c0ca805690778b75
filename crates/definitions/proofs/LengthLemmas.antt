-- How long words and texts are.
use Rattle.std.proofs.Common.{◌≡◌, ℕ, zero, suc, ◌+◌, ◌*◌, ◌/◌, ◌%◌, ◌^◌, ◌≤◌, List, [], ◌∷◌}
use Rattle.std.proofs.Common.{length, map, refl, arith, length-append}
use Rattle.std.specs.Prelude.{Bool, true, false, ℤ, pos, negsuc, nat_eq, nat_le, unsigned_abs}
use Rattle.std.specs.Prelude.{if◌then◌else◌}
use Rattle.std.specs.List.{AllByRecursion}
use Rattle.std.specs.Fmt.{decimal, signed_decimal, digits, digits_onto, digit_glyph}
use Rattle.std.proofs.lemmas.Bool.{leb-true}
use Rattle.std.proofs.lemmas.Fmt.{length-decimal-le}
use Rattle.definitions.specs.Texts.{words_text, hex_of_bytes}

-- ---- numbers
pub length-if : (b : Bool) (x y : List ℕ) (m : ℕ) → length x ≤ m → length y ≤ m
    → length (if b then x else y) ≤ m
length-if true x y m hx hy = hx
length-if false x y m hx hy = hy

onto-length : (k n : ℕ) (acc : List ℕ) → length (digits_onto k 10 false n acc) ≤ k + length acc
onto-length zero n acc = omega arith
onto-length (suc k) n acc =
    let rest = onto-length k (n / 10) (digit_glyph false (n % 10) ∷ acc) in
    length-if (nat_eq (n / 10) 0) (digit_glyph false (n % 10) ∷ acc)
    (digits_onto k 10 false (n / 10) (digit_glyph false (n % 10) ∷ acc)) (suc k + length acc)
    (omega arith) (omega (arith, rest))

pub decimal-length : (n : ℕ) → length (decimal n) ≤ 64
unfolding digits
decimal-length n = let all = onto-length 64 n [] in omega (arith, all)

pub signed-length : (z : ℤ) → length (signed_decimal z) ≤ 65
signed-length (pos n) = let all = decimal-length n in omega (arith, all)
signed-length (negsuc n) = let all = decimal-length (suc n) in omega (arith, all)

-- a number of 32 bits and a sign
abbrev pub Small : ℤ → Type 0
Small z = unsigned_abs z ≤ 2 ^ 32

pub small-length : (z : ℤ) → Small z → length (signed_decimal z) ≤ 11
small-length (pos n) h =
    let all = length-decimal-le 10 n (omega arith) (omega (arith, h)) (omega (arith, h)) in
    omega (arith, all)
small-length (negsuc n) h =
    let all = length-decimal-le 10 (suc n) (omega arith) (omega (arith, h)) (omega (arith, h)) in
    omega (arith, all)

-- ---- words with a space after each
unfoldable pub size : List (List ℕ) → ℕ
size [] = 0
size (w ∷ ws) = suc (length w) + size ws

pub spaced-size : (ws : List (List ℕ)) → length (words_text ws) ≤ size ws
unfolding size
spaced-size [] = omega arith
spaced-size (w ∷ []) = omega arith
spaced-size (w ∷ v ∷ ws) =
    let rest = spaced-size (v ∷ ws) in let both = length-append w (32 ∷ words_text (v ∷ ws)) in
    omega (arith, rest, both)

pub size-none : size [] ≤ 0
unfolding size
size-none = omega arith

pub size-word : (a m : ℕ) (w : List ℕ) (ws : List (List ℕ)) → length w ≤ a → size ws ≤ m
    → size (w ∷ ws) ≤ suc a + m
unfolding size
size-word a m w ws h rest = omega (arith, h, rest)

pub size-written : (m : ℕ) (w : List ℕ) (ws : List (List ℕ)) → nat_le (length w) 10 ≡ true
    → size ws ≤ m → size (w ∷ ws) ≤ 11 + m
size-written m w ws e rest = size-word 10 m w ws (leb-true (length w) 10 e) rest

pub size-map : {A : Type 0} (f : A → List ℕ) (a : ℕ) (xs : List A)
    → AllByRecursion (λ x. length (f x) ≤ a) xs → size (map f xs) ≤ length xs * suc a
unfolding size
size-map f a [] all = omega arith
size-map f a (x ∷ xs) all = let rest = size-map f a xs all.1 in omega (arith, all.0, rest)

pub length-hex : (bytes : List ℕ) → length (hex_of_bytes bytes) ≡ 2 * length bytes
length-hex [] = refl
length-hex (b ∷ bytes) = let rest = length-hex bytes in omega (arith, rest)
