use Rattle.std.proofs.Common.{refl, ◌∙◌, sym, arith}
use Rattle.lane_correlator.specs.Counting.{counts_in}
use Rattle.tracking_loops.proofs.NewsLemmas.{part-watching, part-news, whole-watching, whole-news}
use Rattle.tracking_loops.proofs.lock.Lock.take.Goals as goal

pub returns-in-Some-clause-goes_on : goal.returns-in-Some-clause-goes_on
returns-in-Some-clause-goes_on c dumps late h =
    let whole = sym (c.in-Some.ensures.whole dumps late h.window) in
    let filling = rw (← c.take_window.ensures.window) at
    (c.take.ensures.goes_on dumps late h.window) in
    whole-watching dumps (counts_in c.args.counts.now) (omega (arith, late)) c.in-Some.is_good
    whole c.args.self.now c.take_window.new.self h c.take_window.ensures.run
    c.take_window.ensures.locked filling

pub returns-in-Some-clause-news : goal.returns-in-Some-clause-news
returns-in-Some-clause-news c dumps late h =
    let whole = sym (c.in-Some.ensures.whole dumps late h.window) in
    c.take_window.ensures.news
    ∙ whole-news dumps (counts_in c.args.counts.now) (omega (arith, late)) c.in-Some.is_good whole
    c.args.self.now c.take_window.new.self h c.take_window.ensures.run c.take_window.ensures.locked

pub returns-in-None-clause-goes_on : goal.returns-in-None-clause-goes_on
returns-in-None-clause-goes_on c dumps late h =
    let none = sym (c.in-None.ensures.whole dumps late h.window) in
    part-watching dumps (counts_in c.args.counts.now) (omega (arith, late)) c.args.self.now _ h none
    (c.take.ensures.goes_on dumps late h.window) refl refl

pub returns-in-None-clause-news : goal.returns-in-None-clause-news
returns-in-None-clause-news c dumps late h =
    part-news dumps (counts_in c.args.counts.now) (omega (arith, late))
    (sym (c.in-None.ensures.whole dumps late h.window))
