use Rattle.std.proofs.Common.{◌∙◌, ap, arith, refl, rules}
use Rattle.std.specs.Prelude.{not}
use Rattle.acquisition.proofs.search.Search.advance.Goals.{then-is_none, else-is_none}
use Rattle.acquisition.proofs.search.Search.advance.Goals as goal

pub loop-self-init : goal.loop-self-init
loop-self-init g c = elim c.if-is_none.branch [
  | then-is_none w ↦ rw w.self-is (record {
    plan = refl;
    dwell = refl;
    within = omega arith;
    ones = refl;
    stands = λ settings plan start xs same s. record {
      plan_is = s.plan_is;
      start_is = s.start_is;
      periods = s.periods;
      per_period = s.per_period;
      steps = s.steps;
      tally = s.tally;
      powers = s.powers;
    };
  })
  | else-is_none w ↦ rw w.self-is (record {
    plan = refl;
    dwell = refl;
    within = omega arith;
    ones = c.is_none.ensures ∙ ap not w.if-is_none.false;
    stands = λ settings plan start xs same s. s;
  })
]

pub returns-clause-done : goal.returns-clause-done
returns-clause-done c = search rules
