-- What one page more makes of the last almanacs and of the set that was reported last.
use Rattle.std.proofs.Common.{◌≡◌, ◌≢◌, List, [], ◌∷◌, ◌++◌, length, refl, ap, sym, ◌∙◌}
use Rattle.std.specs.Prelude.{Bool, true, false, ℤ, Option, Some, None, option_map}
use Rattle.std.specs.List.{AllByRecursion}
use Rattle.std.specs.Bool.{Decides}
use Rattle.std.specs.Cmp.Rules.{signed_items}
use Rattle.std.specs.Option.{option_eq}
use Rattle.std.specs.Ordering.{int_eq}
use Rattle.std.proofs.lemmas.List.FromFn.{length-map-range_with_len}
use Rattle.std.proofs.lemmas.Slice.Eq.{slice_eq-Decides}
use lib.Pointwise.{pointwise}
use Rattle.definitions.specs.Pages.{almanac, Page}
use Rattle.definitions.specs.DataSets as sets
use Rattle.definitions.specs.DataSets.{is_of, last_almanac, almanac_sets, almanacs_of, almanac_set}
use Rattle.definitions.specs.DataSets.{differing}
use Rattle.definitions.specs.DataSets.{later, reported_so_far, new_set, same_values}
use Rattle.definitions.proofs.SetLemmas.{new_set-more, reported_so_far-more}
use Rattle.subframes.specs.PageViews.{page_in}
use Rattle.subframes.specs.declared.page.Page.{Page as Shown}
use Rattle.subframes.specs.declared.page.Page.TheVariants.{Clock, Eph2, Eph3, Almanac, Utc, Health}
use Rattle.subframes.specs.declared.page.Page.TheVariants.{Message}
use Rattle.data_sets.specs.declared.almanacs.Almanacs.{Almanacs}
use Rattle.data_sets.specs.Standing.{last_almanacs, almanac_values, IsWhole, FollowsAlmanacs}
use Rattle.data_sets.proofs.LastAlmanacs.{other-kind, values-are}
use Rattle.data_sets.proofs.AlmanacsApart.{same-almanacs}

-- ---- lists of almanacs are compared value by value

same-almanac : (a b : Option (List ℤ))
    → Decides (option_eq (pointwise int_eq) a b) (a ≡ b)
same-almanac None None = (λ e. refl, λ e. refl)
same-almanac None (Some b) = (λ e. cc, λ e. cc)
same-almanac (Some a) None = (λ e. cc, λ e. cc)
same-almanac (Some a) (Some b) = (
  λ e. ap (λ (values : List ℤ). Some values) ((signed_items a b).0 e),
  λ e. (signed_items a b).1 cc,
)

pub compared : (xs ys : List (Option (List ℤ)))
    → Decides (pointwise (option_eq (pointwise int_eq)) xs ys) (xs ≡ ys)
compared xs ys = slice_eq-Decides same-almanac xs ys _ refl

pub apart : (xs ys : List (Option (List ℤ)))
    → false ≡ pointwise (option_eq (pointwise int_eq)) xs ys → xs ≢ ys
apart xs ys e same = let f : true ≡ false = sym ((compared xs ys).1 same) ∙ sym e in cc

-- ---- the pages of the definition

module _ (pages : List Page) (page : Page) where
  -- with a page of another kind
  other-none : is_of almanac page ≡ false → new_set almanac_sets (pages ++ page ∷ []) ≡ None
  other-none other = new_set-more almanac_sets pages page ∙ rw other refl

  reported-still : new_set almanac_sets (pages ++ page ∷ []) ≡ None
      → reported_so_far almanac_sets (pages ++ page ∷ []) ≡ reported_so_far almanac_sets pages
  reported-still none = reported_so_far-more almanac_sets pages page
      ∙ ap (later (reported_so_far almanac_sets pages)) none

  other-follows : (almanacs : Almanacs) → is_of almanac page ≡ false
      → FollowsAlmanacs pages almanacs → FollowsAlmanacs (pages ++ page ∷ []) almanacs
  other-follows almanacs other h = record {
    last = h.last ∙ sym (other-kind pages page other);
    reported = h.reported ∙ sym (reported-still (other-none other));
    long = h.long;
    whole = h.whole;
  }

  -- with an almanac
  module _ (is : is_of almanac page ≡ true) (old : Almanacs) (h : FollowsAlmanacs pages old)
      (last : List (Option (List ℤ))) (l : last ≡ last_almanacs (pages ++ page ∷ [])) where
    looked_for : new_set almanac_sets (pages ++ page ∷ [])
        ≡ differing (almanac_values old.reported) (almanac_values last)
    looked_for = new_set-more almanac_sets pages page
        ∙ rw (is, l, values-are (pages ++ page ∷ []), h.reported) refl

    -- no set is there
    pub none-there : almanac_values last ≡ None
        → new_set almanac_sets (pages ++ page ∷ []) ≡ None
    none-there none = looked_for ∙ ap (differing (almanac_values old.reported)) none

    -- it is the one that was reported last
    pub none-new : last ≡ old.reported → new_set almanac_sets (pages ++ page ∷ []) ≡ None
    none-new same = looked_for ∙ rw same (nothing-differs (almanac_values old.reported))
      where
        nothing-differs : (o : Option (List ℤ)) → differing o o ≡ None
        nothing-differs None = refl
        nothing-differs (Some values) =
            let same : same_values values values ≡ true = (signed_items values values).1 refl in
            rw same refl

    pub still-follows : new_set almanac_sets (pages ++ page ∷ []) ≡ None
        → FollowsAlmanacs (pages ++ page ∷ []) (record { last = last; reported = old.reported })
    still-follows none = record {
      last = l;
      reported = h.reported ∙ sym (reported-still none);
      long = h.long;
      whole = h.whole;
    }

    -- it is another
    module _ (set : sets.AlmanacSet)
        (there : Some set ≡ option_map almanac_set (almanac_values last))
        (whole : AllByRecursion IsWhole last) (other : last ≢ old.reported) where
      all-long : length last ≡ 32
      unfolding last_almanacs
      all-long = ap length l ∙ length-map-range_with_len (λ sv. option_map (λ (p : Page). p.values)
          (last_almanac (pages ++ page ∷ []) sv)) 1 32

      pub set-new : new_set almanac_sets (pages ++ page ∷ []) ≡ almanac_values last
      set-new = looked_for ∙ by_set (almanac_values last) refl there
        where
          by_before : (values : List ℤ) (o : Option (List ℤ)) → almanac_values last ≡ Some values
              → almanac_values old.reported ≡ o → differing o (Some values) ≡ Some values
          by_before values None e f = refl
          by_before values (Some before) e f = by_test (same_values before values) refl
            where
              by_test : (b : Bool) → same_values before values ≡ b
                  → differing (Some before) (Some values) ≡ Some values
              by_test true g =
                  let same : before ≡ values = (signed_items before values).0 g in
                  absurd (other (same-almanacs last old.reported values e
                  (f ∙ ap (λ (v : List ℤ). Some v) same) whole h.whole
                  (all-long ∙ sym h.long)))
              by_test false g = rw g refl

          by_set : (o : Option (List ℤ)) → almanac_values last ≡ o
              → Some set ≡ option_map almanac_set o
              → differing (almanac_values old.reported) o ≡ o
          by_set None e f = cc
          by_set (Some values) e f = by_before values (almanac_values old.reported) e refl

      pub set-reported : Some set
          ≡ option_map almanac_set (new_set almanac_sets (pages ++ page ∷ []))
      set-reported = there ∙ ap (option_map almanac_set) (sym set-new)

      pub new-follows : FollowsAlmanacs (pages ++ page ∷ [])
          (record { last = last; reported = last })
      new-follows = record {
        last = l;
        reported = by_set (almanac_values last) refl there;
        long = all-long;
        whole = whole;
      }
        where
          by_set : (o : Option (List ℤ)) → almanac_values last ≡ o
              → Some set ≡ option_map almanac_set o
              → almanac_values last ≡ reported_so_far almanac_sets (pages ++ page ∷ [])
          by_set None e f = cc
          by_set (Some values) e f = e ∙ sym (reported_so_far-more almanac_sets pages page
              ∙ ap (later (reported_so_far almanac_sets pages)) (set-new ∙ e))

-- ---- the pages of the code

is_other : (page : Shown) → ((values : List ℤ) → page ≢ Almanac values)
    → is_of almanac (page_in page) ≡ false
is_other (Clock values) other = refl
is_other (Eph2 values) other = refl
is_other (Eph3 values) other = refl
is_other (Almanac values) other = absurd (other values refl)
is_other (Utc values) other = refl
is_other (Health values) other = refl
is_other (Message characters) other = refl

pub other-shown : (page : Shown) → ((values : List ℤ) → page ≢ Almanac values)
    → (pages : List Page) (almanacs : Almanacs) → FollowsAlmanacs pages almanacs
    → FollowsAlmanacs (pages ++ page_in page ∷ []) almanacs
other-shown page other pages almanacs h =
    other-follows pages (page_in page) almanacs (is_other page other) h

pub none-shown : (page : Shown) → ((values : List ℤ) → page ≢ Almanac values)
    → (pages : List Page) → new_set almanac_sets (pages ++ page_in page ∷ []) ≡ None
none-shown page other pages = other-none pages (page_in page) (is_other page other)

-- a set is there where its values are
pub none-of : (o : Option (List ℤ)) → None ≡ option_map almanac_set o → o ≡ None
none-of None e = refl
none-of (Some values) e = cc
