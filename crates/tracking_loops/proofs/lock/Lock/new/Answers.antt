use Rattle.std.proofs.Common.{refl}
use Rattle.tracking_loops.specs.Windows.{bad_run}
use Rattle.definitions.specs.Lock.{is_locked}
use Rattle.tracking_loops.proofs.lock.Lock.new.Goals as goal

pub returns : goal.returns
unfolding bad_run is_locked
returns c = record { window = c.new.ensures; bad_windows = refl; locked = refl }
