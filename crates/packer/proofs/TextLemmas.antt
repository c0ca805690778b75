-- What the texts of options say.
use Rattle.std.proofs.Common.{◌≡◌, ℕ, ◌+◌, ◌-◌, ◌<◌, ◌≤◌, ◌^◌, List, [], ◌∷◌, ◌++◌, length, take}
use Rattle.std.proofs.Common.{drop, refl, sym, ap, ◌∙◌, arith, take-append-drop, length-append}
use Rattle.std.specs.Prelude.{Bool, true, false, Option, Some, None, Result, Ok, Err, unwrap_or}
use Rattle.std.specs.Prelude.{nat_lt, option_and_then, ◌==◌}
use Rattle.std.specs.Result.{result_ok}
use Rattle.std.specs.Str.{bytes_eq}
use Rattle.std.specs.Str.Parse.{IsNumeral, AllDigits, ParsesUnsigned, ExplainsUnsignedError}
use Rattle.std.specs.Str.Parse.{HasUnsignedDigitsIfOk, digits_value, without_leading_plus}
use Rattle.std.specs.declared.num.ParseIntError.{ParseIntError}
use Rattle.std.specs.Char.{digit_value}
use Rattle.std.specs.Float.Parse.{parse_float}
use Rattle.std.specs.Float.{Float, binary32}
use Rattle.std.proofs.lemmas.Bool.{and_parts, and_from, ltb-true, lt-ltb}
use Rattle.std.proofs.lemmas.Slice.Eq.{bytes_eq-Decides}
use Rattle.clap.specs.Matches.{ReadsOne}
use Rattle.packer.specs.Options.{all_digits, is_number, number_below, finite_bits, decimal_in}
use Rattle.packer.specs.Options.{twice_in, halves_in, has_half, has_minus, kind_in, named_kind}
use Rattle.packer.specs.Options.{is_pairs_name, bytes_in}
use Rattle.packer.specs.declared.halves.TheConstants.{MOST_WHOLE}
use Rattle.recordings.specs.Recordings.{sample_bits}
use Rattle.recordings.specs.declared.recipe.Recipe.{Recipe}
use Rattle.std.specs.Prelude.{pos, neg_ℤ, option_map, codes, nat_le, ◌*◌, ◌/◌, ◌%◌, ◌&&◌}
use Rattle.std.specs.Prelude.{if◌then◌else◌}
use Rattle.std.proofs.lemmas.Bool.{leb-true, le-leb, eqb-true, eq-eqb}

-- ---- fronts and ends

front_is : (n ys : List ℕ) → take (length n) (n ++ ys) ≡ n
front_is [] ys = refl
front_is (x ∷ xs) ys = ap (λ (l : List ℕ). x ∷ l) (front_is xs ys)

end_is : (a n : List ℕ) → drop (length a) (a ++ n) ≡ n
end_is [] n = refl
end_is (x ∷ xs) n = end_is xs n

pub begins : (n s : List ℕ) (k : ℕ) → s ≡ n ++ drop k s → bytes_eq (take (length n) s) n ≡ true
begins n s k e =
    (bytes_eq-Decides (take (length n) s) n).1
    (ap (take (length n)) e ∙ front_is n (drop k s))

pub begins_not : (n s : List ℕ) → ((rest : List ℕ) → s ≡ n ++ rest → ⊥)
    → bytes_eq (take (length n) s) n ≡ false
begins_not n s none = by_test (bytes_eq (take (length n) s) n) refl
  where
    by_test : (b : Bool) → bytes_eq (take (length n) s) n ≡ b → b ≡ false
    by_test false e = refl
    by_test true e =
        absurd (none (drop (length n) s)
        (sym (take-append-drop (length n) s)
        ∙ ap (λ (l : List ℕ). l ++ drop (length n) s)
        ((bytes_eq-Decides (take (length n) s) n).0 e)))

pub ends : (n s : List ℕ) (k : ℕ) → s ≡ take (length s - k) s ++ n
    → bytes_eq (drop (length s - length n) s) n ≡ true
ends n s k e =
    let a : List ℕ = take (length s - k) s in
    let sized : length s ≡ length a + length n = ap length e ∙ length-append a n in
    let at : length s - length n ≡ length a = omega (arith, sized) in
    (bytes_eq-Decides (drop (length s - length n) s) n).1
    (ap (λ (m : ℕ). drop m s) at ∙ ap (drop (length a)) e ∙ end_is a n)

pub ends_not : (n s : List ℕ) → ((front : List ℕ) → s ≡ front ++ n → ⊥)
    → bytes_eq (drop (length s - length n) s) n ≡ false
ends_not n s none = by_test (bytes_eq (drop m s) n) refl
  where
    m : ℕ
    m = length s - length n

    by_test : (b : Bool) → bytes_eq (drop m s) n ≡ b → b ≡ false
    by_test false e = refl
    by_test true e =
        absurd (none (take m s)
        (sym (take-append-drop m s)
        ∙ ap (λ (l : List ℕ). take m s ++ l) ((bytes_eq-Decides (drop m s) n).0 e)))

-- ---- numbers

digits-are : (cs : List ℕ) → all_digits cs ≡ true → AllDigits 10 cs
digits-are [] e = tt
digits-are (c ∷ cs) e =
    let p = and_parts (nat_lt (digit_value c) 10) (all_digits cs) e in
    (ltb-true (digit_value c) 10 p.0, digits-are cs p.1)

are-digits : (cs : List ℕ) → AllDigits 10 cs → all_digits cs ≡ true
are-digits [] h = refl
are-digits (c ∷ cs) h =
    and_from (nat_lt (digit_value c) 10) (all_digits cs) (lt-ltb (digit_value c) 10 h.0)
    (are-digits cs h.1)

-- a text that is a number below a limit
abbrev IsBelow : ℕ → List ℕ → Type 0
IsBelow limit text =
    IsNumeral 10 (without_leading_plus text)
    × (digits_value 10 (without_leading_plus text) < limit)

is-below : (limit : ℕ) (text : List ℕ) → IsBelow limit text → is_number limit text ≡ true
is-below limit text h =
    let digits : List ℕ = without_leading_plus text in
    and_from _ _ (and_from _ _ (lt-ltb 0 (length digits) h.0.0) (are-digits digits h.0.1))
    (lt-ltb (digits_value 10 digits) limit h.1)

below-is : (limit : ℕ) (text : List ℕ) → is_number limit text ≡ true → IsBelow limit text
below-is limit text e =
    let digits : List ℕ = without_leading_plus text in
    let p = and_parts _ (nat_lt (digits_value 10 digits) limit) e in
    let q = and_parts (nat_lt 0 (length digits)) (all_digits digits) p.0 in (
      (ltb-true 0 (length digits) q.0, digits-are digits q.1),
      ltb-true (digits_value 10 digits) limit p.1,
    )

pub number_found : (limit : ℕ) (text : List ℕ) (n : ℕ) → IsNumeral 10 (without_leading_plus text)
    → n ≡ digits_value 10 (without_leading_plus text) → n < limit
    → Some n ≡ number_below limit text
number_found limit text n is e h = rw (is-below limit text (is, rw e at h), e) refl

pub no_number : (limit : ℕ) (text : List ℕ) → (IsBelow limit text → ⊥)
    → None ≡ number_below limit text
no_number limit text none = by_test (is_number limit text) refl
  where
    by_test : (b : Bool) → is_number limit text ≡ b → None ≡ number_below limit text
    by_test true e = absurd (none (below-is limit text e))
    by_test false e = rw e refl

-- a number that the parser of 32 bits reads, within a limit or not, or doesn't read
pub read_within : {E : Type 0} (r : Result ℕ E) (text : List ℕ) (limit n : ℕ)
    → ParsesUnsigned 32 10 text r → result_ok r ≡ Some n → n < limit
    → Some n ≡ number_below limit text
read_within (Ok x) text limit n p e h =
    let same : x ≡ n = ap (λ (o : Option ℕ). unwrap_or o 0) e in
    number_found limit text n p.0.0 (sym same ∙ p.1) h
read_within (Err x) text limit n p e h = cc

pub read_beyond : {E : Type 0} (r : Result ℕ E) (text : List ℕ) (limit n : ℕ)
    → ParsesUnsigned 32 10 text r → result_ok r ≡ Some n → limit ≤ n
    → None ≡ number_below limit text
read_beyond (Ok x) text limit n p e h =
    let same : x ≡ n = ap (λ (o : Option ℕ). unwrap_or o 0) e in
    no_number limit text (λ b. let v = p.1 in omega (arith, b.1, h, same, v))
read_beyond (Err x) text limit n p e h = cc

pub read_none : {E : Type 0} (r : Result ℕ E) (text : List ℕ) (limit : ℕ)
    → ParsesUnsigned 32 10 text r → result_ok r ≡ None → limit ≤ 2 ^ 32
    → None ≡ number_below limit text
read_none (Ok x) text limit p e h = cc
read_none (Err x) text limit p e h =
    no_number limit text (λ b. p (b.0, omega (arith, b.1, h)))

-- the parser's number of an option is the text's
pub number_read : (o : Option (List ℕ)) (r : Option ℕ) (default : ℕ) → (o ≡ None → r ≡ None)
    → ((t : List ℕ) → o ≡ Some t
    → ReadsOne {T = ℕ} {E = ParseIntError}
    (λ bs x. ParsesUnsigned 64 10 bs x × ExplainsUnsignedError 10 bs x
    × HasUnsignedDigitsIfOk bs x) t r)
    → unwrap_or r default ≡ unwrap_or (option_and_then (number_below (2 ^ 64)) o) default
number_read None r default none some = rw (none refl) refl
number_read (Some text) r default none some = by_read r (some text refl)
  where
    by_read : (x : Option ℕ)
        → ReadsOne {T = ℕ} {E = ParseIntError}
        (λ bs x. ParsesUnsigned 64 10 bs x × ExplainsUnsignedError 10 bs x
        × HasUnsignedDigitsIfOk bs x) text x
        → unwrap_or x default ≡ unwrap_or (number_below (2 ^ 64) text) default
    by_read (Some n) given =
        let e : n ≡ digits_value 10 (without_leading_plus text) = given.0.1 in
        ap (λ (o : Option ℕ). unwrap_or o default)
        (number_found (2 ^ 64) text n given.0.0.0 e (rw e given.0.0.1))
    by_read None given =
        ap (λ (o : Option ℕ). unwrap_or o default) (no_number (2 ^ 64) text given.1.0)

-- ---- floats

pub decimal_found : (text : List ℕ) (x : Float) (o : Option ℕ)
    → parse_float binary32 text ≡ Some x → finite_bits x ≡ o → o ≡ decimal_in text
unfolding decimal_in
decimal_found text x o p h = rw p (sym h)

pub no_decimal : (text : List ℕ) → parse_float binary32 text ≡ None → None ≡ decimal_in text
unfolding decimal_in
no_decimal text p = rw p refl

-- ---- texts with halves

pub twice_half : (text front : List ℕ) (k : ℕ)
    → text ≡ take (length text - k) text ++ codes ".5" → k ≡ length (codes ".5")
    → front ≡ take (length text - k) text
    → twice_in text ≡ option_map (λ n. 2 * n + 1) (number_below (MOST_WHOLE + 1) front)
unfolding twice_in
twice_half text front k is size front_is =
    let half : has_half text ≡ true = ends (codes ".5") text k is in
    rw (half, front_is, size) refl

pub twice_whole : (text : List ℕ) → ((front : List ℕ) → text ≡ front ++ codes ".5" → ⊥)
    → twice_in text ≡ option_map (λ n. 2 * n) (number_below (MOST_WHOLE + 1) text)
unfolding twice_in
twice_whole text none =
    let half : has_half text ≡ false = ends_not (codes ".5") text none in rw half refl

pub halves_minus : (text digits : List ℕ) (k : ℕ) → text ≡ codes "-" ++ drop k text
    → k ≡ length (codes "-") → digits ≡ drop k text
    → halves_in text ≡ option_map (λ n. neg_ℤ (pos n)) (twice_in digits)
unfolding halves_in
halves_minus text digits k is size digits_is =
    let minus : has_minus text ≡ true = begins (codes "-") text k is in
    rw (minus, digits_is, size) refl

pub halves_plain : (text : List ℕ) → ((rest : List ℕ) → text ≡ codes "-" ++ rest → ⊥)
    → halves_in text ≡ option_map (λ n. pos n) (twice_in text)
unfolding halves_in
halves_plain text none =
    let minus : has_minus text ≡ false = begins_not (codes "-") text none in rw minus refl

-- ---- kinds

pub pairs_kind : (name rest : List ℕ) (k : ℕ) → name ≡ codes "iq-" ++ drop k name
    → k ≡ length (codes "iq-") → rest ≡ drop k name → named_kind rest ≡ kind_in name
unfolding kind_in
pairs_kind name rest k is size rest_is =
    let pairs : is_pairs_name name ≡ true = begins (codes "iq-") name k is in
    rw (pairs, rest_is, size) refl

pub plain_kind : (name : List ℕ) → ((rest : List ℕ) → name ≡ codes "iq-" ++ rest → ⊥)
    → named_kind name ≡ kind_in name
unfolding kind_in
plain_kind name none =
    let pairs : is_pairs_name name ≡ false = begins_not (codes "iq-") name none in rw pairs refl

-- ---- samples

pub bytes_given : (recipe : Recipe) (o : Option (List ℕ)) (n : ℕ) (a b : Bool)
    → n ≡ unwrap_or (option_and_then (number_below (2 ^ 64)) o) 0
    → nat_le n (2 ^ 40) ≡ a → (n * sample_bits recipe % 8 == 0) ≡ b
    → bytes_in recipe o ≡ (if a && b then Some (n * sample_bits recipe / 8) else None)
unfolding bytes_in
bytes_given recipe o n a b is few whole = rw (← is, few, whole) refl

pub bytes_beyond : (recipe : Recipe) (o : Option (List ℕ)) (n : ℕ)
    → n ≡ unwrap_or (option_and_then (number_below (2 ^ 64)) o) 0 → 2 ^ 40 < n
    → None ≡ bytes_in recipe o
bytes_beyond recipe o n is h = by_test (nat_le n (2 ^ 40)) refl
  where
    by_test : (b : Bool) → nat_le n (2 ^ 40) ≡ b → None ≡ bytes_in recipe o
    by_test true e = let l = leb-true n (2 ^ 40) e in absurd (omega (arith, l, h))
    by_test false e =
        sym (bytes_given recipe o n false (n * sample_bits recipe % 8 == 0) is e refl)

pub bytes_whole : (recipe : Recipe) (o : Option (List ℕ)) (n bits : ℕ)
    → n ≡ unwrap_or (option_and_then (number_below (2 ^ 64)) o) 0 → bits ≡ sample_bits recipe
    → n ≤ 2 ^ 40 → n * bits % 8 ≡ 0 → Some (n * bits / 8) ≡ bytes_in recipe o
bytes_whole recipe o n bits is b h w =
    ap (λ (k : ℕ). Some (n * k / 8)) b
    ∙ sym (bytes_given recipe o n true true is (le-leb n (2 ^ 40) h)
    (eq-eqb (n * sample_bits recipe % 8) 0 (rw b at w)))

pub bytes_split : (recipe : Recipe) (o : Option (List ℕ)) (n bits : ℕ)
    → n ≡ unwrap_or (option_and_then (number_below (2 ^ 64)) o) 0 → bits ≡ sample_bits recipe
    → n ≤ 2 ^ 40 → (n * bits % 8 ≡ 0 → ⊥) → None ≡ bytes_in recipe o
bytes_split recipe o n bits is b h w = by_test (n * sample_bits recipe % 8 == 0) refl
  where
    by_test : (t : Bool) → (n * sample_bits recipe % 8 == 0) ≡ t → None ≡ bytes_in recipe o
    by_test true e = absurd (w (rw b (eqb-true (n * sample_bits recipe % 8) 0 e)))
    by_test false e = sym (bytes_given recipe o n true false is (le-leb n (2 ^ 40) h) e)
