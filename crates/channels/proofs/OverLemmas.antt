-- A window that stands for the same is over the same samples.
use Rattle.std.proofs.Common.{List}
use Rattle.definitions.specs.Samples.{Sample}
use Rattle.channels.specs.declared.window.Window.{Window}
use Rattle.channels.specs.Windows.{IsOver, IsSame}

pub over-same : (xs : List Sample) (old new : Window) → IsSame old new → IsOver xs old
    → IsOver xs new
over-same xs old new same over = record {
  all = over.all;
  stands = same.stands over.all over.stands;
  begins = over.begins;
  within = over.within;
}
