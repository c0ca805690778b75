use Rattle.lane_correlator.proofs.replica.WordReplica.sums.Goals as goal

pub returns-in-true-false-clause-sums : goal.returns-in-true-false-clause-sums
returns-in-true-false-clause-sums c = c.sums_of_words-in-true-false.ensures.sums
