use Rattle.receiver_cli.proofs.CommandLineLemmas.{without-memory}
use Rattle.receiver_cli.proofs.program.carry_out.Goals as goal

pub returns-in-Err : goal.returns-in-Err
returns-in-Err g c = record {
  ended =
      without-memory g.R.Source g.W.Sink (g.C.CommandLine.given c.args.line.now) _ _ _
      c.tell.ensures.status;
}
