use Rattle.std.proofs.Common.{◌-◌}
use Rattle.recordings.proofs.StretchLemmas.{next, IsNext, shown_of}
use Rattle.recordings.proofs.stretch.Stretch.part.Goals as goal

pub returns-clause-shows : goal.returns-clause-shows
returns-clause-shows c skip most bytes shown stands =
    let n : IsNext skip most bytes shown c.args.piece.now
    (shown_of c.args.piece.now c.min-skipped.result c.min-wanted.result)
    (c.args.self.now.skip - c.min-skipped.result) (c.args.self.now.left - c.min-wanted.result) =
    next skip most bytes shown c.args.piece.now c.args.self.now.skip c.args.self.now.left
    c.min-skipped.result c.min-wanted.result stands.part stands.before stands.left
    c.min-skipped.ensures c.min-wanted.ensures in
    record { part = n.part; before = n.before_is; left = n.left_is }
