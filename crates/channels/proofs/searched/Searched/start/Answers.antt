use Rattle.std.proofs.lemmas.Grind.{common_steps}
use Rattle.std.proofs.Common.{refl, arith}
use Rattle.channels.proofs.searched.Searched.start.Goals as goal

pub returns-clause-stands : goal.returns-clause-stands
returns-clause-stands c xs same = record {
  recorded = refl;
  search = c.new.ensures.stands xs;
  begins = omega (arith, same);
  done = omega (arith, same, c.new.ensures.done);
}

pub returns-clause-begins : goal.returns-clause-begins
returns-clause-begins c = grind (arith, common_steps)
