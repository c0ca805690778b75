-- What the option parser reads of an option's text.
use Rattle.std.proofs.Common.{◌≡◌, ℕ, ◌<◌, ◌^◌, List, [], ◌∷◌, length, refl, sym, map, Bor}
use Rattle.std.specs.Prelude.{Bool, true, false, Option, Some, None, unwrap_or, option_map, nat_lt}
use Rattle.std.specs.Str.Parse.{IsNumeral, AllDigits, ParsesUnsigned, ExplainsUnsignedError}
use Rattle.std.specs.Str.Parse.{HasUnsignedDigitsIfOk, digits_value, without_leading_plus}
use Rattle.std.specs.declared.num.ParseIntError.{ParseIntError}
use Rattle.std.specs.Char.{digit_value}
use Rattle.std.proofs.lemmas.Bool.{and_parts, and_from, ltb-true, lt-ltb}
use Rattle.clap.specs.Matches.{ReadsOne}
use Rattle.receiver_options.specs.Requests.{all_digits, is_number, number_in}

digits-are : (cs : List ℕ) → all_digits cs ≡ true → AllDigits 10 cs
digits-are [] e = tt
digits-are (c ∷ cs) e =
    let p = and_parts (nat_lt (digit_value c) 10) (all_digits cs) e in
    (ltb-true (digit_value c) 10 p.0, digits-are cs p.1)

are-digits : (cs : List ℕ) → AllDigits 10 cs → all_digits cs ≡ true
are-digits [] h = refl
are-digits (c ∷ cs) h =
    and_from (nat_lt (digit_value c) 10) (all_digits cs) (lt-ltb (digit_value c) 10 h.0)
    (are-digits cs h.1)

-- a text that is a number below 2^32
abbrev IsNumber : List ℕ → Type 0
IsNumber text =
    IsNumeral 10 (without_leading_plus text)
    × (digits_value 10 (without_leading_plus text) < 2 ^ 32)

is-number : (text : List ℕ) → IsNumber text → is_number text ≡ true
is-number text h =
    let digits : List ℕ = without_leading_plus text in
    and_from _ _ (and_from _ _ (lt-ltb 0 (length digits) h.0.0) (are-digits digits h.0.1))
    (lt-ltb (digits_value 10 digits) (2 ^ 32) h.1)

number-is : (text : List ℕ) → is_number text ≡ true → IsNumber text
number-is text e =
    let digits : List ℕ = without_leading_plus text in
    let p = and_parts _ (nat_lt (digits_value 10 digits) (2 ^ 32)) e in
    let q = and_parts (nat_lt 0 (length digits)) (all_digits digits) p.0 in (
      (ltb-true 0 (length digits) q.0, digits-are digits q.1),
      ltb-true (digits_value 10 digits) (2 ^ 32) p.1,
    )

-- the parser's number of an option is the text's
pub number-read : (o : Option (List ℕ)) (r : Option ℕ) (default : ℕ) → (o ≡ None → r ≡ None)
    → ((t : List ℕ) → o ≡ Some t
    → ReadsOne {T = ℕ} {E = ParseIntError}
    (λ bs x. ParsesUnsigned 32 10 bs x × ExplainsUnsignedError 10 bs x
    × HasUnsignedDigitsIfOk bs x) t r)
    → unwrap_or r default ≡ number_in o default
number-read None r default none some = rw (none refl) refl
number-read (Some text) r default none some = by_read r (some text refl)
  where
    by_read : (x : Option ℕ)
        → ReadsOne {T = ℕ} {E = ParseIntError}
        (λ bs x. ParsesUnsigned 32 10 bs x × ExplainsUnsignedError 10 bs x
        × HasUnsignedDigitsIfOk bs x) text x
        → unwrap_or x default ≡ number_in (Some text) default
    by_read (Some n) given = rw (is-number text given.0.0) given.0.1
    by_read None given = by_test (is_number text) refl given.1.0
      where
        by_test : (b : Bool) → is_number text ≡ b → (IsNumber text → ⊥)
            → default ≡ number_in (Some text) default
        by_test true is none = absurd (none (number-is text is))
        by_test false is none = rw is refl

-- the names of the scripts are those that the parser has, or there are none
pub paths-read : (r : Option (Bor (List (Bor (List ℕ))))) (none : Bor (List (Bor (List ℕ))))
    (found : Option (List (List ℕ)))
    → option_map (λ paths. map (λ path. path.now) paths.now) r ≡ found
    → none.now ≡ [] → map (λ path. path.now) (unwrap_or r none).now ≡ unwrap_or found []
paths-read None none found e is = rw (sym e, is) refl
paths-read (Some paths) none found e is = rw (sym e) refl
