use Rattle.std.proofs.Common.{map, sym, ap, ◌∙◌}
use Rattle.definitions.specs.Fields.{value_of}
use Rattle.definitions.specs.Pages.{eph2, health}
use Rattle.subframes.specs.Entries.{entry_of, name_of}
use Rattle.subframes.specs.PageViews.{kind_in, page_as}
use Rattle.subframes.proofs.Written.{entries_in_order}
use Rattle.subframes.proofs.page.Page.of.Goals as goal

pub returns-in-Health : goal.returns-in-Health
unfolding entry_of name_of
returns-in-Health c =
    ap (λ vs. record { kind = health; values = vs })
    (c.values-in-Health.ensures ∙ ap (map (value_of c.args.subframe.now)) entries_in_order)
    ∙ sym (ap (λ k. page_as c.args.subframe.now (kind_in k)) c.in-Health.is)

pub returns-in-Eph2 : goal.returns-in-Eph2
unfolding entry_of name_of
returns-in-Eph2 c =
    ap (λ vs. record { kind = eph2; values = vs }) c.values-in-Eph2.ensures
    ∙ sym (ap (λ k. page_as c.args.subframe.now (kind_in k)) c.in-Eph2.is)
