use Rattle.std.proofs.Common.{refl, sym, ◌∙◌, ap}
use Rattle.std.specs.Prelude.{option_map}
use Rattle.definitions.specs.DataSets.{ephemeris}
use Rattle.data_sets.specs.Reports.{report_in}
use Rattle.data_sets.proofs.PageReports.{other-page, set-reported}
use Rattle.data_sets.proofs.data_sets.DataSets.page_report.Goals as goal

pub returns-in-Almanac-clause-page : goal.returns-in-Almanac-clause-page
returns-in-Almanac-clause-page c pages h = rw c.in-Almanac.is (sym (other-page pages _ refl))

pub returns-in-Utc-clause-page : goal.returns-in-Utc-clause-page
returns-in-Utc-clause-page c pages h = rw c.in-Utc.is (sym (other-page pages _ refl))

pub returns-in-Health-clause-page : goal.returns-in-Health-clause-page
returns-in-Health-clause-page c pages h = rw c.in-Health.is (sym (other-page pages _ refl))

pub returns-in-Message-clause-page : goal.returns-in-Message-clause-page
returns-in-Message-clause-page c pages h = rw c.in-Message.is (sym (other-page pages _ refl))

pub returns-in_err-set-in-Clock-clause-page : goal.returns-in_err-set-in-Clock-clause-page
returns-in_err-set-in-Clock-clause-page c pages h =
    ap (option_map report_in) c.from_residual.ensures
    ∙ ap (option_map ephemeris) (sym c.in_err-set-in-Clock.was)
    ∙ set-reported pages c.args.page.now c.take-set.result c.in-Clock.is
    (c.take-set.ensures.set pages h)

pub returns-in_ok-set-in-Clock-clause-page : goal.returns-in_ok-set-in-Clock-clause-page
returns-in_ok-set-in-Clock-clause-page c pages h =
    ap (option_map ephemeris) (sym c.in_ok-set-in-Clock.was)
    ∙ set-reported pages c.args.page.now c.take-set.result c.in-Clock.is
    (c.take-set.ensures.set pages h)
