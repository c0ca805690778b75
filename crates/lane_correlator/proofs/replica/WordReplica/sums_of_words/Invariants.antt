use Rattle.std.proofs.Common.{◌≤◌}
use Rattle.lane_correlator.specs.Adding.{AddsWords, GoesOn, first_word}
use Rattle.lane_correlator.proofs.replica.WordReplica.sums_of_words.Given as goal

abbrev pub invariant-loop-w : goal.invariant-loop-w
invariant-loop-w l = record {
  begun : first_word l.part ≤ l.w;
  goes : GoesOn (first_word l.part) l.w l.initial.self l.self;
  adds : AddsWords l.part (first_word l.part) l.w l.initial.self l.initial.tally l.tally;
}
