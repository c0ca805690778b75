use Rattle.lane_correlator.proofs.replica.WordReplica.sums_of_long_steps.Goals as goal

pub returns-clause-sums : goal.returns-clause-sums
returns-clause-sums c = c.sums_of_words.ensures.sums
