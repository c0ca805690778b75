use Rattle.std.proofs.Common.{◌≡◌, ℕ, List, [], Some, length}
use Rattle.recordings.specs.Packers.{StandsFor, recipe_in}
use Rattle.recordings.specs.Stretches.{Shows}
use Rattle.recordings.specs.declared.packer.TheConstants.{MOST_PIECE}
use Rattle.devices.specs.Moments.{devices_at}
use Rattle.packer.specs.Devices.{NoneFailed}
use Rattle.packer.specs.Runs.{IsCourse, bytes_ahead}
use Rattle.packer.proofs.running.run.Given as goal

abbrev pub invariant-loop-written : goal.invariant-loop-written
invariant-loop-written g l = record {
  room : length l.buffer.items ≡ MOST_PIECE;
  none_failed : NoneFailed
      (devices_at g.R.Source g.W.Sink l.fn.reader l.fn.writer)
      (devices_at g.R.Source g.W.Sink l.reader l.writer);
  course : (skip most : ℕ) (all : List ℕ) → g.R.Source.remaining l.fn.reader ≡ Some all
      → Shows skip most [] [] l.fn.stretch → StandsFor [] [] l.fn.packer
      → IsCourse (recipe_in l.fn.packer) skip most all
      (g.W.Sink.contents l.fn.writer) (g.R.Source.remaining l.reader)
      (g.W.Sink.contents l.writer) l.stretch l.packer;
}

abbrev pub decreases-loop-written : goal.decreases-loop-written
decreases-loop-written g l = bytes_ahead l.stretch
