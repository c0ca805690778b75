use Rattle.std.proofs.Common.{◌≡◌, ℤ, pos, w64, FitsSigned, Some, refl, sym, ap, ◌∙◌, rules}
use Rattle.std.specs.Prelude.{ℕ, List, get_or}
use Rattle.std.proofs.lemmas.Int.{to_z-of_z}
use Rattle.definitions.specs.Pages as pages
use Rattle.definitions.specs.Pages.{fields_of}
use Rattle.definitions.specs.Fields.{place_of}
use Rattle.subframes.specs.Entries.{kind_with, name_of}
use Rattle.subframes.specs.PageViews.{kind_in, page_in}
use Rattle.subframes.specs.Values.{number_named, numbers_of}
use Rattle.subframes.specs.declared.fields.Field.{Field}
use Rattle.subframes.specs.declared.fields.Field.TheVariants.{Clock, Eph2, Eph3, Almanac, Utc}
use Rattle.subframes.specs.declared.fields.Field.TheVariants.{Health}
use Rattle.subframes.proofs.page.Page.value.Goals as goal

-- a field's number, on a page of its kind
named : (f : Field) (page : pages.Page) (values : List ℤ) (place : ℕ) → kind_with f ≡ page.kind
    → values ≡ numbers_of page → place ≡ place_of (name_of f) (fields_of (kind_with f))
    → Some (get_or values place (pos 0)) ≡ number_named f page
named (Clock f) page values place same are is = rw (are, is, ← same) refl
named (Eph2 f) page values place same are is = rw (are, is, ← same) refl
named (Eph3 f) page values place same are is = rw (are, is, ← same) refl
named (Almanac f) page values place same are is = rw (are, is, ← same) refl
named (Utc f) page values place same are is = rw (are, is, ← same) refl
named (Health f) page values place same are is = rw (are, is, ← same) refl

pub returns-then-eq : goal.returns-then-eq
returns-then-eq c =
    let number : ℤ = get_or c.values.result.now c.place.result (pos 0) in
    let fits : FitsSigned w64 (get_or c.values.result.now c.place.result (pos 0)) = search rules in
    let same : c.kind.result ≡ c.kind-2.result = search rules in
    ap (λ v. Some v) (to_z-of_z w64 number fits)
    ∙ named c.args.field (page_in c.args.self.now) c.values.result.now c.place.result
    (sym c.kind.ensures ∙ ap kind_in same ∙ c.kind-2.ensures) c.values.ensures.numbers
    c.place.ensures.place
