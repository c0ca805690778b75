use Rattle.receiver.specs.LastLines.{last_text}
use Rattle.receiver.specs.Outputs.{promised}
use Rattle.receiver.proofs.OutputLemmas.{adds-kept, writes-then}
use Rattle.receiver.proofs.writing.finish.Goals as goal

pub returns-clause-adds : goal.returns-clause-adds
returns-clause-adds g c = let s = g.W.Sink in
    adds-kept (promised s c.args.out.now) (promised s c.put_last.new.out)
    (promised s c.finish.new.self) (last_text c.args.stop c.args.session.now) c.finish.result
    c.in_ok-put_last.ensures.adds c.finish.ensures.kept

pub returns-clause-writes : goal.returns-clause-writes
returns-clause-writes g c =
    writes-then g.W.Sink c.args.out.now c.put_last.new.out c.finish.new.self _ c.finish.result
    c.in_ok-put_last.ensures.writes c.finish.ensures.writes
