use Rattle.std.proofs.Common.{◌≡◌, ◌≤◌, ℕ, List, [], Some, length}
use Rattle.recordings.specs.Stretches.{Shows}
use Rattle.recordings.specs.declared.packer.TheConstants.{MOST_PIECE}
use Rattle.recordings.specs.declared.recipe.TheConstants.{MOST_BYTES}
use Rattle.packer.specs.Runs.{bytes_ahead}
use Rattle.packer.proofs.GatherLemmas.{HasGathered}
use Rattle.packer.proofs.measuring.gather.Given as goal

abbrev pub invariant-loop-bytes : goal.invariant-loop-bytes
invariant-loop-bytes g l = record {
  room : length l.buffer.items ≡ MOST_PIECE;
  few : length l.bytes.items ≤ MOST_BYTES;
  gathered : (skip most : ℕ) (all : List ℕ) → g.R.Source.remaining l.fn.reader ≡ Some all
      → Shows skip most [] [] l.fn.stretch
      → HasGathered skip most all (g.R.Source.remaining l.reader) l.stretch l.bytes.items;
}

abbrev pub decreases-loop-bytes : goal.decreases-loop-bytes
decreases-loop-bytes g l = bytes_ahead l.stretch
