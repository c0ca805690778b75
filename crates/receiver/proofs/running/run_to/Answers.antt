use Rattle.std.proofs.Common.{◌≡◌, ◌≤◌, ℕ, List, length, map, ap, sym, ◌∙◌, arith}
use Rattle.std.specs.Prelude.{replicate, min}
use Rattle.std.proofs.lemmas.List.{length-map, take-replicate}
use Rattle.receiver.proofs.RefusalLemmas.{in-fours, fours-are-right}
use Rattle.receiver.proofs.running.run_to.Goals as goal

pub returns-clause-runs : goal.returns-clause-runs
returns-clause-runs g c =
    let texts : List (List ℕ) = map (λ script. script.now) c.args.scripts.now in
    let number : length texts ≡ length c.args.scripts.now = length-map c.args.scripts.now _ in
    let few : c.min.result ≤ 8 = omega (arith, c.min.ensures) in
    in-fours g.R.Source g.W.Sink c.args.settings texts c.args.limit _ _ _ _
    (take-replicate c.min.result 8 4 few
    ∙ ap (λ n. replicate n 4) (c.min.ensures ∙ ap (λ n. min n 8) (sym number)))
    c.run_shares.ensures.runs

pub returns-clause-shared : goal.returns-clause-shared
returns-clause-shared g c =
    fours-are-right g.R.Source g.W.Sink c.args.settings
    (map (λ script. script.now) c.args.scripts.now) c.args.limit _ _ _
    (returns-clause-runs g c)
