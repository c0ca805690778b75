use Rattle.std.proofs.Common.{rules}
use Rattle.tracking_loops.proofs.lock.Lock.take_window.Goals as goal

pub returns-then-self-eq-LOST_WINDOWS-clause-run : goal.returns-then-self-eq-LOST_WINDOWS-clause-run
returns-then-self-eq-LOST_WINDOWS-clause-run c = search rules

pub returns-else-self-eq-LOST_WINDOWS-clause-locked :
    goal.returns-else-self-eq-LOST_WINDOWS-clause-locked
returns-else-self-eq-LOST_WINDOWS-clause-locked c = search rules
