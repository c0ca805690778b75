use Rattle.std.proofs.Common.{refl}
use Rattle.definitions.specs.DataSets.{reports_of}
use Rattle.data_sets.specs.Standing.{StandsFor}
use Rattle.data_sets.proofs.data_sets.DataSets.take.Goals as goal

pub returns-clause-stands : goal.returns-clause-stands
unfolding StandsFor
returns-clause-stands c pages h = (
  c.page_report.ensures.follows pages h.0,
  c.take.ensures.follows pages (rw c.page_report.ensures.almanacs h.1),
)

pub returns-clause-reports : goal.returns-clause-reports
unfolding StandsFor reports_of
returns-clause-reports c pages h =
    rw (
      c.page_report.ensures.page pages h.0,
      c.take.ensures.set pages (rw c.page_report.ensures.almanacs h.1),
    ) refl
