use Rattle.std.proofs.Common.{◌≡◌, ℕ, List, length, map, sym, ◌∙◌, arith, inl, inr}
use Rattle.std.proofs.lemmas.List.{length-map}
use Rattle.std.proofs.lemmas.Result.{IfOk-weaker, on_err_weaker}
use Rattle.receiver.specs.Runs.{task_of}
use Rattle.receiver.proofs.TableLemmas.{opened-for, refused-open, ran-or-broke}
use Rattle.receiver.proofs.TableLemmas.{without-clients, without-shares, wrong-number, no-fault}
use Rattle.receiver.proofs.TableLemmas.{some-of, none-of}
use Rattle.receiver.proofs.RefusalLemmas.{refused-task, begun-task, comes-to-reading}
use Rattle.receiver.proofs.running.run_shares.Goals as goal

pub returns-then-is_empty : goal.returns-then-is_empty
returns-then-is_empty g c =
    let a = c.args in
    let texts : List (List ℕ) = map (λ script. script.now) a.scripts.now in
    let number : length texts ≡ length a.scripts.now = length-map a.scripts.now _ in
    record {
      runs =
          refused-task g.R.Source g.W.Sink (task_of a.settings a.shares.now texts a.limit) _ _
          (without-clients a.settings a.shares.now texts a.limit _
          (elim c.then-is_empty.either [
            | inl none ↦ inl (number ∙ none-of (length a.scripts.now)
                (sym none ∙ c.is_empty.ensures))
            | inr many ↦ inr (omega (arith, number, many.1))
          ]));
    }

pub returns-then-shares-scripts : goal.returns-then-shares-scripts
returns-then-shares-scripts g c =
    let a = c.args in
    let texts : List (List ℕ) = map (λ script. script.now) a.scripts.now in
    let number : length texts ≡ length a.scripts.now = length-map a.scripts.now _ in
    let some = some-of (length a.scripts.now) c.if-is_empty.ensures in
    record {
      runs =
          refused-task g.R.Source g.W.Sink (task_of a.settings a.shares.now texts a.limit) _ _
          (without-shares a.settings a.shares.now texts a.limit _
          (no-fault (length texts) (omega (arith, number, some))
          (omega (arith, number, c.if-scripts-gt-MOST_CLIENTS.false)))
          (wrong-number a.shares.now texts (λ same. c.if-shares-scripts.true (same ∙ number))));
    }

pub returns-in-Ok : goal.returns-in-Ok
returns-in-Ok g c =
    let a = c.args in
    let texts : List (List ℕ) = map (λ script. script.now) a.scripts.now in
    let is = opened-for (λ script. script.now) a.settings a.shares.now a.scripts.now a.limit
    c.if-is_empty.ensures c.if-scripts-gt-MOST_CLIENTS.false c.if-shares-scripts.false
    c.open.result c.in-Ok.session c.in-Ok.is c.open.ensures.share c.open.ensures.stands in
    record {
      runs =
          rw c.answer.ensures
          (begun-task g.R.Source g.W.Sink (task_of a.settings a.shares.now texts a.limit) _ _ _
          (comes-to-reading c.time.result c.run_session.result) c.run_session.ensures.once
          (ran-or-broke a.settings a.shares.now texts a.limit c.run_session.result c.time.result
          c.run_session.new.session _ _ is.right c.time.ensures is.few
          (IfOk-weaker c.run_session.result _ _
          (λ stop ran. ran a.settings a.shares.now texts is.is_open) c.run_session.ensures.ran)
          (on_err_weaker c.run_session.result
          (λ broke. broke a.settings a.shares.now texts is.is_open)
          c.run_session.ensures.broken)));
    }

pub returns : goal.returns
returns g c =
    let a = c.args in
    let texts : List (List ℕ) = map (λ script. script.now) a.scripts.now in
    record {
      runs =
          rw c.from.ensures
          (refused-task g.R.Source g.W.Sink (task_of a.settings a.shares.now texts a.limit) _ _
          (refused-open (λ script. script.now) a.settings a.shares.now a.scripts.now a.limit
          c.if-is_empty.ensures c.if-scripts-gt-MOST_CLIENTS.false c.if-shares-scripts.false
          c.open.result _ _ c.in-Err.is c.open.ensures.clients c.open.ensures.share));
    }
