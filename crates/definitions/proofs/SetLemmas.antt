-- One more page, and what was reported so far.
use Rattle.std.proofs.Common.{◌≡◌, ℕ, zero, suc, ◌+◌, ◌-◌, ◌<◌, ◌≤◌, List, [], ◌∷◌, ◌++◌, length}
use Rattle.std.proofs.Common.{take, refl, arith, length-append}
use Rattle.std.specs.Prelude.{Some, None, slice_get, if◌then◌else◌}
use Rattle.std.proofs.lemmas.List.{take-append-le}
use Rattle.std.proofs.Math.Seq.{take-length}
use Rattle.definitions.specs.Pages.{Page}
use Rattle.definitions.specs.DataSets.{SetKind, last_reported, reported_so_far, new_set, differing}
use Rattle.definitions.specs.DataSets.{later}

slice_get-append : {A : Type 0} (xs ys : List A) (n : ℕ) → n < length xs
    → slice_get (xs ++ ys) n ≡ slice_get xs n
slice_get-append [] ys n h = absurd (omega arith)
slice_get-append (x ∷ xs) ys zero h = refl
slice_get-append (x ∷ xs) ys (suc n) h = slice_get-append xs ys n (omega arith)

slice_get-last : {A : Type 0} (xs : List A) (x : A) → slice_get (xs ++ x ∷ []) (length xs) ≡ Some x
slice_get-last [] x = refl
slice_get-last (y ∷ ys) x = slice_get-last ys x

-- what was reported with the first pages doesn't change by later ones
pub last_reported-append : (kind : SetKind) (pages more : List Page) (n : ℕ) → n ≤ length pages
    → last_reported kind (pages ++ more) n ≡ last_reported kind pages n
unfolding last_reported
last_reported-append kind pages more zero h = refl
last_reported-append kind pages more (suc n) h =
    rw (
      last_reported-append kind pages more n (omega arith),
      slice_get-append pages more n (omega arith),
      take-append-le (n + 1) pages more (omega arith),
    ) refl

-- the set that one more page makes reported, after what was reported so far
pub new_set-more : (kind : SetKind) (pages : List Page) (page : Page)
    → new_set kind (pages ++ page ∷ [])
    ≡ (if kind.is_looked_for page then differing (reported_so_far kind pages)
    (kind.values_of (pages ++ page ∷ [])) else None)
unfolding new_set
new_set-more kind pages page =
    let e : length (pages ++ page ∷ []) - 1 ≡ length pages = simp length-append (omega arith) in
    let f : length pages + 1 ≡ length (pages ++ page ∷ []) = simp length-append (omega arith) in
    let whole : take (length pages + 1) (pages ++ page ∷ []) ≡ pages ++ page ∷ [] =
    rw f (take-length (pages ++ page ∷ [])) in
    rw (
      e,
      last_reported-append kind pages (page ∷ []) (length pages) (omega arith),
      slice_get-last pages page,
      whole,
    ) refl

pub reported_so_far-more : (kind : SetKind) (pages : List Page) (page : Page)
    → reported_so_far kind (pages ++ page ∷ [])
    ≡ later (reported_so_far kind pages) (new_set kind (pages ++ page ∷ []))
unfolding new_set last_reported
reported_so_far-more kind pages page =
    let e : length (pages ++ page ∷ []) ≡ suc (length pages) = simp length-append (omega arith) in
    let f : length (pages ++ page ∷ []) - 1 ≡ length pages = simp length-append (omega arith) in
    rw (f, e, last_reported-append kind pages (page ∷ []) (length pages) (omega arith)) refl
