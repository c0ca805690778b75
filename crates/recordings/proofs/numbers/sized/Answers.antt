use Rattle.std.proofs.Common.{arith}
use Rattle.recordings.proofs.ReadingLemmas.{sized-0, sized-1, sized-2, sized-3}
use Rattle.recordings.proofs.numbers.sized.Goals as goal

pub returns-in-0-clause-value : goal.returns-in-0-clause-value
returns-in-0-clause-value c = sized-0 c.args.bits c.in-0.is

pub returns-in-1-clause-value : goal.returns-in-1-clause-value
returns-in-1-clause-value c = sized-1 c.args.bits c.in-1.is

pub returns-in-2-clause-value : goal.returns-in-2-clause-value
returns-in-2-clause-value c = sized-2 c.args.bits c.in-2.is

pub returns-in_default-clause-value : goal.returns-in_default-clause-value
returns-in_default-clause-value c =
    sized-3 c.args.bits (omega (arith, c.requires, c.in_default))
