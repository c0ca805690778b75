-- Texts without some byte. A byte that ends lines, words or parts of words stands in no number, so
-- the pieces of a text are those that were put into it.
use Rattle.std.proofs.Common.{inl, inr, ◌≡◌, ℕ, zero, suc, ◌/◌, ◌%◌, ◌<◌, List, [], ◌∷◌, ◌++◌, refl}
use Rattle.std.proofs.Common.{◌+◌, arith, eq-eqb}
use Rattle.std.specs.Prelude.{Bool, true, false, not, nat_eq, nat_lt, if◌then◌else◌, flat_map}
use Rattle.std.specs.Prelude.{ℤ, pos, negsuc, ◌⊎◌}
use Rattle.std.specs.List.{AllByRecursion, list_all}
use Rattle.std.specs.Fmt.{decimal, signed_decimal, digits, digits_onto, digit_glyph}
use Rattle.std.proofs.lemmas.Bool.{ne_eqb, and_parts, not-true, ltb-true}
use Rattle.definitions.specs.Lines.{pieces_ended_by}
use Rattle.definitions.specs.Texts.{hex_of_bytes}

-- neither a digit in lower case, up to 16, nor a minus
abbrev pub IsMark : ℕ → Type 0
IsMark mark = (mark < 45) ⊎ ((57 < mark) × (mark < 87))

unfoldable pub IsOther : ℕ → ℕ → Type 0
IsOther mark b = nat_eq b mark ≡ false

unfoldable pub Without : ℕ → List ℕ → Type 0
Without mark text = AllByRecursion (IsOther mark) text

-- ---- lists

module _ {A : Type 0} (P : A → Type 0) where
  pub all-append : (xs ys : List A) → AllByRecursion P xs → AllByRecursion P ys
      → AllByRecursion P (xs ++ ys)
  all-append [] ys hx hy = hy
  all-append (x ∷ xs) ys hx hy = (hx.0, all-append xs ys hx.1 hy)

  pub all-flat_map : {B : Type 0} (f : B → List A) (xs : List B)
      → ((x : B) → AllByRecursion P (f x)) → AllByRecursion P (flat_map f xs)
  all-flat_map f [] h = tt
  all-flat_map f (x ∷ xs) h = all-append (f x) (flat_map f xs) (h x) (all-flat_map f xs h)

  pub by_if : (b : Bool) (x y : A) → P x → P y → P (if b then x else y)
  by_if true x y hx hy = hx
  by_if false x y hx hy = hy

-- ---- texts

abbrev pub is_without : ℕ → List ℕ → Bool
is_without mark text = list_all (λ b. not (nat_eq b mark)) text

-- a text that is written out
pub written : (mark : ℕ) (text : List ℕ) → is_without mark text ≡ true → Without mark text
unfolding Without IsOther
written mark [] e = tt
written mark (b ∷ text) e =
    let both = and_parts (not (nat_eq b mark)) (is_without mark text) e in
    (not-true (nat_eq b mark) both.0, written mark text both.1)

pub without-append : (mark : ℕ) (s t : List ℕ) → Without mark s → Without mark t
    → Without mark (s ++ t)
unfolding Without
without-append mark s t hs ht = all-append (IsOther mark) s t hs ht

module _ (mark : ℕ) (is : IsMark mark) where
  glyph : (d : ℕ) → IsOther mark (digit_glyph false d)
  unfolding IsOther
  glyph d = by_test (nat_lt d 10) refl
    where
      other : (b : Bool) → nat_lt d 10 ≡ b → (mark < 45) ⊎ ((57 < mark) × (mark < 87))
          → nat_eq (if b then 48 + d else 87 + d) mark ≡ false
      other true e (inl low) = ne_eqb (48 + d) mark (λ same. omega (arith, same, low))
      other true e (inr (above, below)) =
          ne_eqb (48 + d) mark (λ same. omega (arith, same, above, ltb-true d 10 e))
      other false e (inl low) = ne_eqb (87 + d) mark (λ same. omega (arith, same, low))
      other false e (inr (above, below)) =
          ne_eqb (87 + d) mark (λ same. omega (arith, same, below))

      by_test : (b : Bool) → nat_lt d 10 ≡ b
          → nat_eq (if b then 48 + d else 87 + d) mark ≡ false
      by_test b e = other b e is

  onto-without : (k n : ℕ) (acc : List ℕ) → Without mark acc
      → Without mark (digits_onto k 10 false n acc)
  unfolding Without
  onto-without zero n acc h = h
  onto-without (suc k) n acc h =
      by_if (Without mark) (nat_eq (n / 10) 0) (digit_glyph false (n % 10) ∷ acc)
      (digits_onto k 10 false (n / 10) (digit_glyph false (n % 10) ∷ acc)) (glyph (n % 10), h)
      (onto-without k (n / 10) (digit_glyph false (n % 10) ∷ acc) (glyph (n % 10), h))

  pub decimal-without : (n : ℕ) → Without mark (decimal n)
  unfolding digits Without
  decimal-without n = onto-without 64 n [] tt

  pub signed-without : (z : ℤ) → Without mark (signed_decimal z)
  unfolding Without IsOther
  signed-without (pos n) = decimal-without n
  signed-without (negsuc n) = (ne_eqb 45 mark (λ same. minus is same), decimal-without (suc n))
    where
      minus : (mark < 45) ⊎ ((57 < mark) × (mark < 87)) → 45 ≡ mark → ⊥
      minus (inl low) same = omega (arith, same, low)
      minus (inr (above, below)) same = omega (arith, same, above)

  pub hex-without : (bytes : List ℕ) → Without mark (hex_of_bytes bytes)
  unfolding Without
  hex-without bytes =
      all-flat_map (IsOther mark)
      (λ b. digit_glyph false (b / 16) ∷ digit_glyph false (b % 16) ∷ []) bytes
      (λ b. (glyph (b / 16), (glyph (b % 16), tt)))

-- ---- pieces

pub first-piece : (mark : ℕ) (piece rest : List ℕ) → Without mark piece
    → pieces_ended_by mark (piece ++ mark ∷ rest) ≡ piece ∷ pieces_ended_by mark rest
unfolding pieces_ended_by Without IsOther
first-piece mark [] rest h = rw (eq-eqb mark mark refl) refl
first-piece mark (b ∷ piece) rest h = rw (h.0, first-piece mark piece rest h.1) refl

pub last-piece : (mark b : ℕ) (piece : List ℕ) → Without mark (b ∷ piece)
    → pieces_ended_by mark (b ∷ piece) ≡ (b ∷ piece) ∷ []
unfolding pieces_ended_by Without IsOther
last-piece mark b [] h = rw h.0 refl
last-piece mark b (c ∷ piece) h = rw (h.0, last-piece mark c piece h.1) refl
