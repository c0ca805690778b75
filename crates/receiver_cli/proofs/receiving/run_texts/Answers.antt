use Rattle.std.proofs.Common.{◌∙◌, ap, map}
use Rattle.receiver_cli.proofs.ReceivingLemmas.{ran-handed}
use Rattle.receiver_cli.proofs.receiving.run_texts.Goals as goal

pub returns-in-Ok : goal.returns-in-Ok
returns-in-Ok g c = record {
  runs =
      ran-handed (λ script. script.now) g.R.Source g.W.Sink c.args.settings c.args.shares.now
      c.deref.result.now _ _ _ _ (ap (map (λ script. script.now)) c.deref.ensures.value
      ∙ c.in_ok-scripts.ensures.scripts) c.in-Ok.ensures.runs;
}

pub returns : goal.returns
returns g c = record {
  runs =
      ran-handed (λ script. script.now) g.R.Source g.W.Sink c.args.settings c.args.shares.now
      c.deref.result.now _ _ _ _ (ap (map (λ script. script.now)) c.deref.ensures.value
      ∙ c.in_ok-scripts.ensures.scripts) c.in-Err.ensures.runs;
}
