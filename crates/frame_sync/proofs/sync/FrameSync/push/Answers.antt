-- One more bit: it ends a header, or it is one of a subframe that is coming in, or that subframe's
-- last.
use Rattle.std.proofs.Common.{◌≡◌, ◌+◌, ◌-◌, ◌<◌, ◌≤◌, Some, None, arith}
use Rattle.frame_sync.proofs.PushedBits.{seen_now, counted_now, searching, still_open, made_whole}
use Rattle.frame_sync.proofs.sync.FrameSync.push.Goals as goal

pub returns-in_default-clause-stands : goal.returns-in_default-clause-stands
returns-in_default-clause-stands c = λ bits stood.
    let none : c.args.self.now.incoming ≡ None = cc in
    let step =
    searching bits c.args.bit c.args.self.now stood c.push.new.self.bits c.push.ensures none
    c.starting-self.result c.starting-self.ensures in
    record {
      counted =
          counted_now bits c.args.bit c.args.self.now stood c.push.new.self.bits c.push.ensures;
      seen = seen_now bits c.args.bit c.args.self.now stood c.push.new.self.bits c.push.ensures;
      searched = step.searched;
    }

pub returns-in_default-clause-found : goal.returns-in_default-clause-found
returns-in_default-clause-found c = λ bits stood.
    let none : c.args.self.now.incoming ≡ None = cc in
    let step =
    searching bits c.args.bit c.args.self.now stood c.push.new.self.bits c.push.ensures none
    c.starting-self.result c.starting-self.ensures in
    step.is_found

pub returns-then-self-incoming-lt-SUBFRAME_BITS-clause-stands :
    goal.returns-then-self-incoming-lt-SUBFRAME_BITS-clause-stands
returns-then-self-incoming-lt-SUBFRAME_BITS-clause-stands c = λ bits stood.
    let before : c.args.self.now.incoming ≡ Some c.in-Some.before = cc in
    let short : c.args.self.now.pushed + 1 - c.with_word-incoming.result.start < 300 =
    omega arith in
    let step =
    still_open bits c.args.bit c.args.self.now stood c.push.new.self.bits c.push.ensures
    c.in-Some.before c.with_word-incoming.result before c.with_word-incoming.ensures
    short in
    record {
      counted =
          counted_now bits c.args.bit c.args.self.now stood c.push.new.self.bits c.push.ensures;
      seen = seen_now bits c.args.bit c.args.self.now stood c.push.new.self.bits c.push.ensures;
      searched = step.searched;
    }

pub returns-then-self-incoming-lt-SUBFRAME_BITS-clause-found :
    goal.returns-then-self-incoming-lt-SUBFRAME_BITS-clause-found
returns-then-self-incoming-lt-SUBFRAME_BITS-clause-found c = λ bits stood.
    let before : c.args.self.now.incoming ≡ Some c.in-Some.before = cc in
    let short : c.args.self.now.pushed + 1 - c.with_word-incoming.result.start < 300 =
    omega arith in
    let step =
    still_open bits c.args.bit c.args.self.now stood c.push.new.self.bits c.push.ensures
    c.in-Some.before c.with_word-incoming.result before c.with_word-incoming.ensures
    short in
    step.is_found

pub returns-clause-stands : goal.returns-clause-stands
returns-clause-stands c = λ bits stood.
    let before : c.args.self.now.incoming ≡ Some c.in-Some.before = cc in
    let long : 300 ≤ c.args.self.now.pushed + 1 - c.with_word-incoming.result.start = omega arith in
    let step =
    made_whole bits c.args.bit c.args.self.now stood c.push.new.self.bits c.push.ensures
    c.in-Some.before c.with_word-incoming.result before c.with_word-incoming.ensures long in
    record {
      counted =
          counted_now bits c.args.bit c.args.self.now stood c.push.new.self.bits c.push.ensures;
      seen = seen_now bits c.args.bit c.args.self.now stood c.push.new.self.bits c.push.ensures;
      searched = rw c.take-before.ensures.after step.searched;
    }

pub returns-clause-found : goal.returns-clause-found
returns-clause-found c = λ bits stood.
    let before : c.args.self.now.incoming ≡ Some c.in-Some.before = cc in
    let long : 300 ≤ c.args.self.now.pushed + 1 - c.with_word-incoming.result.start = omega arith in
    let step =
    made_whole bits c.args.bit c.args.self.now stood c.push.new.self.bits c.push.ensures
    c.in-Some.before c.with_word-incoming.result before c.with_word-incoming.ensures long in
    rw c.gap_between-gap.ensures step.is_found
