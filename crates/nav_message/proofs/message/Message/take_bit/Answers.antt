use Rattle.std.proofs.Common.{sym}
use Rattle.data_sets.specs.Reports.{reports_in}
use Rattle.nav_message.proofs.PagesWithBit.{none-read, no_page-read, page-read, no_page-told}
use Rattle.nav_message.proofs.PagesWithBit.{page-told}
use Rattle.nav_message.proofs.message.Message.take_bit.Goals as goal
use Rattle.nav_message.proofs.message.Message.take_bit.Goals.{in-Some-read, in-None}

pub returns-in_default-clause-read : goal.returns-in_default-clause-read
returns-in_default-clause-read c bits h = record {
  frames = c.push.ensures.stands bits h.frames;
  sets = rw (none-read bits c.args.bit (c.in_default.ensures.found bits h.frames)) h.sets;
}

pub returns-clause-read : goal.returns-clause-read
returns-clause-read c bits h = elim c.match-read.branch [
  | in-Some-read w ↦ rw w.self-is (record {
    frames = c.push.ensures.stands bits h.frames;
    sets = rw (page-read bits c.args.bit _ (c.in-Some.ensures.found bits h.frames) _
        (sym w.in-Some-read.ensures)) (w.take-reports.ensures.stands _ h.sets);
  })
  | in-None w ↦ rw w.self-is (record {
    frames = c.push.ensures.stands bits h.frames;
    sets = rw (no_page-read bits c.args.bit _ (c.in-Some.ensures.found bits h.frames)
        (sym w.in-None.ensures)) h.sets;
  })
]

pub returns-clause-news : goal.returns-clause-news
returns-clause-news c bits h = elim c.match-read.branch [
  | in-Some-read w ↦ rw w.reports-is
      (page-told bits c.args.bit _ (c.in-Some.ensures.found bits h.frames) _
      (sym w.in-Some-read.ensures) (reports_in w.take-reports.result)
      (w.take-reports.ensures.reports _ h.sets))
  | in-None w ↦ rw w.reports-is
      (no_page-told bits c.args.bit _ (c.in-Some.ensures.found bits h.frames)
      (sym w.in-None.ensures))
]
