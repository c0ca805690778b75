use Rattle.std.proofs.Common.{◌≡◌, ap, ◌∙◌, sym, rules}
use Rattle.std.specs.Prelude.{true, option_map}
use Rattle.definitions.specs.Frames.{is_complete}
use Rattle.subframes.specs.PageViews.{kind_in, page_in}
use Rattle.subframes.proofs.PageSteps.{page_of-known}
use Rattle.subframes.proofs.page.Page.read.Goals as goal

pub returns : goal.returns
returns c =
    let whole : is_complete c.args.subframe.now ≡ true = search rules in
    page_of-known c.args.subframe.now (kind_in c.in_ok-of.field-0) (page_in c.of-2.result) whole
    (sym (ap (option_map kind_in) c.in_ok-of.was) ∙ c.of.ensures) c.of-2.ensures
