use Rattle.recordings.proofs.ReadingLemmas.{of_16_bits}
use Rattle.recordings.proofs.numbers.of_16_bits.Goals as goal

pub returns-clause-value : goal.returns-clause-value
returns-clause-value c = of_16_bits c.args.n c.requires
