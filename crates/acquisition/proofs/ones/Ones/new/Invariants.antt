use Rattle.std.proofs.Common.{◌-◌, ◌≤◌}
use Rattle.ca_codes.specs.declared.book.TheConstants.{CODE_CHIPS}
use Rattle.acquisition.specs.Ones.{AreOnes}
use Rattle.acquisition.proofs.ones.Ones.new.Given as goal

abbrev pub invariant-loop-chip : goal.invariant-loop-chip
invariant-loop-chip l = record {
  within : l.chip ≤ CODE_CHIPS;
  are : AreOnes l.fn.prn l.chip l.alone.items l.twos.items;
}

abbrev pub decreases-loop-chip : goal.decreases-loop-chip
decreases-loop-chip l = CODE_CHIPS - l.chip
