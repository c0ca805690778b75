use Rattle.std.proofs.Common.{refl, ap, sym, ◌∙◌}
use Rattle.definitions.specs.DataSets.{differing}
use Rattle.subframes.specs.PageViews.{page_in}
use Rattle.data_sets.proofs.PageReports.{looked_for-set, other-set, reported-more}
use Rattle.data_sets.proofs.ephemerides.Ephemerides.take.Goals as goal

pub returns-then-take-clause-set : goal.returns-then-take-clause-set
returns-then-take-clause-set c pages h =
    looked_for-set pages (page_in c.args.page.now) c.take.new.self c.args.self.now.reported
    c.report.result
    (sym c.take.ensures.told ∙ c.if-take.true) (c.take.ensures.kept pages h.last) h.reported
    (c.report.ensures.set ∙ ap (differing c.args.self.now.reported) c.set-set.ensures)

pub returns-then-take-clause-follows : goal.returns-then-take-clause-follows
returns-then-take-clause-follows c pages h = record {
  last = rw c.report.ensures.last (c.take.ensures.kept pages h.last);
  reported = reported-more pages
      (page_in c.args.page.now) c.args.self.now.reported c.report.new.self.reported c.report.result
      h.reported (returns-then-take-clause-set c pages h) c.report.ensures.reported;
}

pub returns-else-take-clause-set : goal.returns-else-take-clause-set
returns-else-take-clause-set c pages h =
    sym (other-set pages (page_in c.args.page.now) (sym c.take.ensures.told ∙ c.if-take.false))

pub returns-else-take-clause-follows : goal.returns-else-take-clause-follows
returns-else-take-clause-follows c pages h = record {
  last = c.take.ensures.kept pages h.last;
  reported = reported-more pages
      (page_in c.args.page.now) c.args.self.now.reported c.args.self.now.reported _ h.reported
      (returns-else-take-clause-set c pages h) refl;
}
