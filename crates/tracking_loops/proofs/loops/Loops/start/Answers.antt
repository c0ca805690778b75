use Rattle.std.proofs.Common.{ap, ◌∙◌, w64}
use Rattle.std.proofs.lemmas.Int.{to_z-of_z}
use Rattle.definitions.specs.Loops.{Loops, loops_start, loops_after}
use Rattle.tracking_loops.specs.Standing.{StandsFor, dump_count}
use Rattle.tracking_loops.proofs.loops.Loops.start.Goals as goal

pub returns-clause-stands : goal.returns-clause-stands
unfolding StandsFor loops_after
returns-clause-stands c = record {
  taken = ap (λ (l : Loops). l.taken) c.start.ensures;
  steering = c.start.ensures ∙ ap loops_start (to_z-of_z w64 c.args.v c.ranges.v);
  lock = c.new.ensures;
}

pub returns-clause-none : goal.returns-clause-none
unfolding dump_count
returns-clause-none c = ap (λ (l : Loops). l.taken) c.start.ensures
