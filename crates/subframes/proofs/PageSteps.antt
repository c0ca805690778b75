-- The page that a subframe holds, by its kind.
use Rattle.std.proofs.Common.{◌≡◌, sym, ap, ◌∙◌}
use Rattle.std.specs.Prelude.{true, false, Option, Some, None, option_map}
use Rattle.std.proofs.lemmas.Bool.{cond-true, cond-false}
use Rattle.definitions.specs.Frames.{Subframe, is_complete}
use Rattle.definitions.specs.Pages.{Kind, Page, kind_of, page_of}
use Rattle.subframes.specs.PageViews.{page_as}

abbrev page_by : Subframe → Option Kind → Option Page
page_by s found = option_map (page_as s) found

pub page_of-incomplete : (s : Subframe) → is_complete s ≡ false → None ≡ page_of s
unfolding page_of
page_of-incomplete s h = sym (cond-false (is_complete s) (page_by s (kind_of s)) None h)

pub page_of-complete : (s : Subframe) (found : Option Kind) → is_complete s ≡ true
    → found ≡ kind_of s → option_map (page_as s) found ≡ page_of s
unfolding page_of
page_of-complete s found h e =
    ap (page_by s) e ∙ sym (cond-true (is_complete s) (page_by s (kind_of s)) None h)

pub page_of-unknown : (s : Subframe) → is_complete s ≡ true → None ≡ kind_of s → None ≡ page_of s
page_of-unknown s h e = page_of-complete s None h e

pub page_of-known : (s : Subframe) (k : Kind) (page : Page) → is_complete s ≡ true
    → Some k ≡ kind_of s → page ≡ page_as s k → Some page ≡ page_of s
page_of-known s k page h e same = ap (λ p. Some p) same ∙ page_of-complete s (Some k) h e

pub ruleset reading = (page_of-incomplete, page_of-unknown)
