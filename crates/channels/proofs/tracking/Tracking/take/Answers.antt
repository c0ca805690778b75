use Rattle.std.proofs.Common.{refl, rules}
use Rattle.channels.proofs.TrackingLemmas.{tells}
use Rattle.channels.proofs.tracking.Tracking.take.Goals as goal

pub returns-clause-tells : goal.returns-clause-tells
returns-clause-tells c settings v dumps s =
    tells settings v dumps c.args.self.now c.take-dump.new.self _ c.locked.result s
    c.take-dump.ensures.stands
    c.locked.ensures c.take-dump.ensures.news c.take.ensures.news

pub returns-clause-counts : goal.returns-clause-counts
returns-clause-counts c = refl

pub returns-clause-stands : goal.returns-clause-stands
returns-clause-stands c = search rules
