-- The shares that digits write.
use Rattle.std.proofs.Common.{rules, ◌≡◌, ℕ, Bool, nat_cmp, ◌-◌, ◌≤◌, true, false, List, length}
use Rattle.std.proofs.Common.{map, take, refl}
use Rattle.std.proofs.lemmas.List.{take_all, length-map}
use Rattle.std.specs.Prelude.{Some, None, ◌==◌, Result, Ok, Err, IfErr}
use Rattle.std.specs.List.{list_all}
use Rattle.std.specs.Result.{IsErrAnd}
use Rattle.std.specs.Range.{range_inclusive_start, range_inclusive_end}
use Rattle.std.specs.Range.{range_inclusive_exhausted, range_inclusive_contains}
use Rattle.std.specs.declared.ops.RangeInclusive.{RangeInclusive}
use Rattle.std.proofs.lemmas.Bool.{and_from, and_left, and_right, eq-eqb, ne_eqb}
use Rattle.receiver_options.specs.Requests.{is_share_digit, shares_by}

pub count-of : (text items : List ℕ) (i count : ℕ) → length text ≤ i
    → items ≡ map (λ c. c - 0x30) (take i text) → count ≡ length items → count ≡ length text
count-of text items i count past are held =
    rw (held, are, take_all i text past) (length-map text (λ c. c - 0x30))

pub shares-none : (clients : ℕ) (text : List ℕ) → list_all is_share_digit text ≡ false
    → shares_by clients (Some text) ≡ None
shares-none clients text e =
    rw (and_right (length text == clients) (list_all is_share_digit text) e) refl

pub shares-other : (clients : ℕ) (text : List ℕ) → ¬ (length text ≡ clients)
    → shares_by clients (Some text) ≡ None
shares-other clients text other =
    rw (and_left (length text == clients) (list_all is_share_digit text)
    (ne_eqb (length text) clients other)) refl

pub shares-some : (clients : ℕ) (text : List ℕ) → length text ≡ clients
    → list_all is_share_digit text ≡ true
    → shares_by clients (Some text) ≡ Some (map (λ c. c - 0x30) text)
shares-some clients text same all =
    rw (and_from (length text == clients) (list_all is_share_digit text)
    (eq-eqb (length text) clients same) all) refl

pub IfErr-from_and : {T E : Type 0} {P Q : E → Type 0} (r : Result T E) → IsErrAnd r P
    → ((e : E) → P e → Q e) → IfErr r Q
IfErr-from_and (Ok x) h f = tt
IfErr-from_and (Err e) h f = f e h

pub share-digit : (r : RangeInclusive ℕ) (x : ℕ) (b : Bool) → range_inclusive_start r ≡ 0x31
    → range_inclusive_end r ≡ 0x38 → range_inclusive_exhausted r ≡ false
    → range_inclusive_contains (λ a b. Some (nat_cmp a b)) r x ≡ b → is_share_digit x ≡ b
share-digit r x b from to held is = search rules
