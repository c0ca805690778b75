-- The value of the word that is next.
use Rattle.std.proofs.Common.{◌≡◌, ◌<◌, ◌≤◌, ◌≤ℤ◌, ◌↔◌, ◌+◌, ◌-◌, ◌^◌, ℕ, List, [], ◌∷◌, length}
use Rattle.std.proofs.Common.{get_or}
use Rattle.std.proofs.Common.{drop, Bool, true, false, FitsSigned, refl, ap, sym, ◌∙◌, rules, arith}
use Rattle.std.specs.Prelude.{ℤ, pos, negsuc, unsigned_abs, int_le, ◌&&◌, if◌then◌else◌, Result, Ok}
use Rattle.std.specs.Prelude.{Err, Option, Some, None, ok_or, option_map, OkIff, MatchOption}
use Rattle.std.specs.Prelude.{IsSome, IfSome, IsErrAnd}
use Rattle.std.specs.Result.{result_ok}
use Rattle.std.specs.Option.{SomeIff}
use Rattle.std.specs.Int.{FitsUnsignedBits, Width}
use Rattle.std.proofs.lemmas.Bool.{eq-eqb}
use Rattle.std.proofs.lemmas.Int.{ints}
use Rattle.definitions.specs.Scripts.{Range, Verb, up_to, around_zero, signed_number_in}
use Rattle.definitions.specs.Scripts.{value_in, values_in, with_value, meant, command_with}
use Rattle.client_commands.specs.declared.refusal.LineRefusal.{LineRefusal}
use Rattle.client_commands.specs.declared.refusal.LineRefusal.TheVariants.{NotANumber, OutOfRange}
use Rattle.client_commands.specs.Entries.{number_of}
use Rattle.client_commands.specs.Reading.{with_integer, with_number}

first_word : (range : Range) (ranges : List Range) (words : List (List ℕ)) → 0 < length words
    → values_in (range ∷ ranges) words
    ≡ value_in range (signed_number_in (get_or words 0 [])) (values_in ranges (drop 1 words))
unfolding values_in
first_word range ranges [] some = absurd (omega arith)
first_word range ranges (word ∷ words) some = refl

none_refused : (range : Range) (o : Option ℤ) (refusal : LineRefusal)
    (others : Result (List ℤ) ℕ) → Err refusal ≡ ok_or o NotANumber
    → value_in range o others ≡ Err (number_of refusal)
none_refused range None refusal others is = let e : refusal ≡ NotANumber = cc in rw e refl
none_refused range (Some value) refusal others is = cc

-- a word that is no number
pub no_number : (range : Range) (ranges : List Range) (words : List (List ℕ))
    (refusal : LineRefusal) → 0 < length words
    → Err refusal ≡ ok_or (signed_number_in (get_or words 0 [])) NotANumber
    → values_in (range ∷ ranges) words ≡ Err (number_of refusal)
no_number range ranges words refusal some is = rw (first_word range ranges words some)
    (none_refused range (signed_number_in (get_or words 0 [])) refusal _ is)

found : (o : Option ℤ) (value : ℤ) → Ok value ≡ ok_or o NotANumber → o ≡ Some value
found None value is = cc
found (Some other) value is = cc

int_le-true : (a b : ℤ) → a ≤ℤ b → int_le a b ≡ true
int_le-true a b h = search (rules, arith, ints)

int_le-holds : (a b : ℤ) → int_le a b ≡ true → a ≤ℤ b
int_le-holds a b h = search (rules, arith, ints)

abbrev IsWithin : Range → ℤ → Type 0
IsWithin range value = (range.low ≤ℤ value) × (value ≤ℤ range.high)

neither : (low high : Bool) (value refused : Result (List ℤ) ℕ)
    → ((low ≡ true) × (high ≡ true) → ⊥) → refused ≡ (if low && high then value else refused)
neither true true value refused out = absurd (out (refl, refl))
neither true false value refused out = refl
neither false high value refused out = refl

in_range : (range : Range) (value : ℤ) (r : Option ℤ) (others : Result (List ℤ) ℕ)
    → SomeIff r (IsWithin range value) value
    → value_in range (Some value) others ≡ with_integer (ok_or r OutOfRange) others
in_range range value None others out = sym (neither (int_le range.low value)
    (int_le value range.high) _ _
    (λ both. out (int_le-holds range.low value both.0, int_le-holds value range.high both.1)))
in_range range value (Some other) others (within, is) =
    rw (int_le-true range.low value within.0, int_le-true value range.high within.1, is) refl

-- an integer, which is in its range or not
integer_read : (range : Range) (ranges : List Range) (words left : List (List ℕ)) (value : ℤ)
    (r : Option ℤ) → 0 < length words → left ≡ drop 1 words
    → Ok value ≡ ok_or (signed_number_in (get_or words 0 [])) NotANumber
    → SomeIff r (IsWithin range value) value
    → values_in (range ∷ ranges) words
    ≡ with_integer (ok_or r OutOfRange) (values_in ranges left)
integer_read range ranges words left value r some next is within =
    rw (
      first_word range ranges words some,
      next,
      found (signed_number_in (get_or words 0 [])) value is,
    ) (in_range range value r _ within)

as_integer : (r : Option ℕ) (others : Result (List ℤ) ℕ)
    → with_integer (ok_or (option_map pos r) OutOfRange) others
    ≡ with_number (ok_or r OutOfRange) others
as_integer None others = refl
as_integer (Some number) others = refl

module _ {E : Type 0} where
  tried_number : (o : Result ℕ E) (value : ℤ) (r : Option ℕ) (P : ℕ → Type 0) (k low high : ℕ)
      → high < 2 ^ k → ((n : ℕ) → P n ↔ ((low ≤ n) × (n ≤ high)))
      → OkIff o (FitsUnsignedBits k value) (unsigned_abs value)
      → MatchOption (result_ok o) (r ≡ None) (λ n. (IsSome r ↔ P n) × IfSome r (λ s. s ≡ n))
      → SomeIff (option_map pos r) (IsWithin (up_to low high) value) value
  tried_number (Ok n) (pos m) None P k low high room range (fits, is) (whether, same) = λ within.
      let inside = (range n).1 (omega (arith, ints), omega (arith, ints)) in
      let some : IsSome {T = ℕ} None = whether.1 inside in cc
  tried_number (Ok n) (pos m) (Some s) P k low high room range (fits, is) (whether, same) =
      let both = (range n).0 (whether.0 refl) in
      ((omega (arith, ints), omega (arith, ints)), ap pos (omega arith))
  tried_number (Ok n) (negsuc m) r P k low high room range (fits, is) tried = absurd fits
  tried_number (Err e) (pos m) r P k low high room range out none =
      rw none (λ within. out (omega (arith, ints, within)))
  tried_number (Err e) (negsuc m) r P k low high room range out none =
      rw none (λ within. absurd (omega (arith, ints, within)))

  -- a number that is tried by its type, and then by its range
  pub number_tried : (o : Result ℕ E) (value : ℤ) (r : Option ℕ) (P : ℕ → Type 0) (k low high : ℕ)
      (words left : List (List ℕ)) → high < 2 ^ k
      → ((n : ℕ) → P n ↔ ((low ≤ n) × (n ≤ high))) → 0 < length words
      → left ≡ drop 1 words → Ok value ≡ ok_or (signed_number_in (get_or words 0 [])) NotANumber
      → OkIff o (FitsUnsignedBits k value) (unsigned_abs value)
      → MatchOption (result_ok o) (r ≡ None) (λ n. (IsSome r ↔ P n) × IfSome r (λ s. s ≡ n))
      → (ranges : List Range) → values_in (up_to low high ∷ ranges) words
      ≡ with_number (ok_or r OutOfRange) (values_in ranges left)
  number_tried o value r P k low high words left room range some next is typed ranged ranges =
      integer_read (up_to low high) ranges words left value (option_map pos r) some next is
      (tried_number o value r P k low high room range typed ranged) ∙ as_integer r _

  tried_integer : (o : Result ℤ E) (value : ℤ) (r : Option ℤ) (w : Width) (size : ℕ)
      → (unsigned_abs value ≤ size → FitsSigned w value) → OkIff o (FitsSigned w value) value
      → MatchOption (result_ok o) (r ≡ None)
      (λ z. (IsSome r ↔ (unsigned_abs z ≤ size)) × IfSome r (λ s. s ≡ z))
      → SomeIff r (IsWithin (around_zero size) value) value
  tried_integer (Ok z) value None w size room (fits, is) (whether, same) = λ within.
      let some : IsSome {T = ℤ} None = whether.1 (rw is (omega (arith, ints, within))) in cc
  tried_integer (Ok z) value (Some s) w size room (fits, is) (whether, same) =
      let small = rw is at (whether.0 refl) in
      ((omega (arith, ints), omega (arith, ints)), same ∙ is)
  tried_integer (Err e) value r w size room out none =
      rw none (λ within. out (room (omega (arith, ints, within))))

  -- an integer that is tried so
  pub integer_tried : (o : Result ℤ E) (value : ℤ) (r : Option ℤ) (w : Width) (size : ℕ)
      (words left : List (List ℕ)) → (unsigned_abs value ≤ size → FitsSigned w value)
      → 0 < length words → left ≡ drop 1 words → Ok value ≡ ok_or (signed_number_in (get_or words 0
      [])) NotANumber
      → OkIff o (FitsSigned w value) value
      → MatchOption (result_ok o) (r ≡ None)
      (λ z. (IsSome r ↔ (unsigned_abs z ≤ size)) × IfSome r (λ s. s ≡ z))
      → (ranges : List Range) → values_in (around_zero size ∷ ranges) words
      ≡ with_integer (ok_or r OutOfRange) (values_in ranges left)
  integer_tried o value r w size words left room some next is typed ranged ranges =
      integer_read (around_zero size) ranges words left value r some next is
      (tried_integer o value r w size room typed ranged)

-- a refusal that is passed on
pub passed_on : {T : Type 0} (r : Result T LineRefusal) {refusal : LineRefusal}
    → IsErrAnd r (λ other. other ≡ refusal) → r ≡ Err refusal
passed_on (Ok value) is = absurd is
passed_on (Err other) is = ap Err is

-- a slot that is refused
pub no_slot : (verb : Verb) (share count : ℕ) (line words : List (List ℕ)) (refusal : ℕ)
    → count ≡ length verb.ranges + 1 → (length line ≡ count) × (words ≡ line)
    → values_in (up_to 0 (share - 1) ∷ verb.ranges) words ≡ Err refusal
    → Err refusal ≡ command_with share (Some verb) line
no_slot verb share count line words refusal all is refused =
    let whole : length line ≡ length verb.ranges + 1 = omega (arith, is) in
    rw (eq-eqb (length line) (length verb.ranges + 1) whole, sym is.1)
    (ap (meant verb) (sym refused))

-- what a verb asks of a slot with the words after it
pub asked : (verb : Verb) (share count : ℕ) (line words left : List (List ℕ)) (slot : ℕ)
    (values : Result (List ℤ) ℕ) → count ≡ length verb.ranges + 1
    → (length line ≡ count) × (words ≡ line)
    → values_in (up_to 0 (share - 1) ∷ verb.ranges) words
    ≡ with_value (pos slot) (values_in verb.ranges left)
    → values ≡ values_in verb.ranges left
    → meant verb (with_value (pos slot) values) ≡ command_with share (Some verb) line
asked verb share count line words left slot values all is named read =
    let whole : length line ≡ length verb.ranges + 1 = omega (arith, is) in
    rw (eq-eqb (length line) (length verb.ranges + 1) whole, sym is.1)
    (ap (meant verb) (ap (with_value (pos slot)) read ∙ sym named))
