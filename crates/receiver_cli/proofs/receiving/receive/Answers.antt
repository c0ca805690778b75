use Rattle.std.proofs.Common.{◌≡◌, ◌∙◌, ap, sym, subst, ℕ, List, map}
use Rattle.std.specs.Prelude.{Option}
use Rattle.std.proofs.lemmas.Simd.{map-map}
use Rattle.receiver_options.specs.CommandLines.{options_in}
use Rattle.receiver_options.specs.Requests.{paths_in}
use Rattle.receiver_options.specs.ScriptTexts.{AreTextsOf}
use Rattle.receiver_cli.specs.Programs.{clients_of}
use Rattle.receiver_cli.specs.declared.failure.Failure.TheVariants.{Options}
use Rattle.receiver_cli.proofs.ReceivingLemmas.{failed-before, failed-at-shares, received, err-is}
use Rattle.receiver_cli.proofs.ReceivingLemmas.{is-some, as-many-clients}
use Rattle.receiver_cli.proofs.receiving.receive.Goals as goal

pub returns-in_err-shares : goal.returns-in_err-shares
returns-in_err-shares g c =
    let known : List ℕ → Option (List ℕ) = λ path. g.S.ScriptFiles.bytes_of c.args.files.now path in
    let many : c.max.result ≡ clients_of (map known (paths_in (options_in c.args.matches.now))) =
    as-many-clients known (λ path. path.now) c.scripts-paths.result.now _ c.max.result
    c.scripts-paths.ensures c.max.ensures in
    record {
      receives =
          failed-at-shares g.R.Source g.W.Sink _ _ _ c.in_err-shares.field-0.0
          c.from_residual.result
          (err-is c.from_residual.result (Options c.in_err-shares.field-0.0)
          c.from_residual.ensures.1)
          c.in-Ok.ensures.allowed (rw many at c.in_err-shares.ensures.fault);
    }

pub returns-in_err-texts : goal.returns-in_err-texts
returns-in_err-texts g c =
    let known : List ℕ → Option (List ℕ) = λ path. g.S.ScriptFiles.bytes_of c.args.files.now path in
    let files : map (λ path. known path.now) c.scripts-paths.result.now
    ≡ map known (paths_in (options_in c.args.matches.now)) =
    sym (map-map known (λ path. path.now) c.scripts-paths.result.now)
    ∙ ap (map known) c.scripts-paths.ensures in
    let many : c.max.result ≡ clients_of (map known (paths_in (options_in c.args.matches.now))) =
    as-many-clients known (λ path. path.now) c.scripts-paths.result.now _ c.max.result
    c.scripts-paths.ensures c.max.ensures in
    record {
      receives =
          failed-before g.R.Source g.W.Sink _ _ _ c.in_err-texts.field-0.0
          c.from_residual-in_err-texts.result
          (err-is c.from_residual-in_err-texts.result (Options c.in_err-texts.field-0.0)
          c.from_residual-in_err-texts.ensures.1)
          c.in-Ok.ensures.allowed
          (is-some _ c.in_ok-shares.shares.items (rw many at c.in_ok-shares.ensures.given))
          (rw files at c.in_err-texts.ensures.fault);
    }

pub returns : goal.returns
returns g c =
    let known : List ℕ → Option (List ℕ) = λ path. g.S.ScriptFiles.bytes_of c.args.files.now path in
    let texts : List (List ℕ) = map (λ text. text.items) c.in_ok-texts.texts.items in
    let files : map (λ path. known path.now) c.scripts-paths.result.now
    ≡ map known (paths_in (options_in c.args.matches.now)) =
    sym (map-map known (λ path. path.now) c.scripts-paths.result.now)
    ∙ ap (map known) c.scripts-paths.ensures in
    let many : c.max.result ≡ clients_of (map known (paths_in (options_in c.args.matches.now))) =
    as-many-clients known (λ path. path.now) c.scripts-paths.result.now _ c.max.result
    c.scripts-paths.ensures c.max.ensures in
    record {
      receives =
          received g.R.Source g.W.Sink _ _ c.in-Ok.settings c.in_ok-shares.shares.items texts _ _
          c.run_texts.result
          c.in-Ok.ensures.allowed (rw many at c.in_ok-shares.ensures.given)
          c.in-Ok.ensures.same (subst (λ l. AreTextsOf l texts) files c.in_ok-texts.ensures.each)
          (rw (c.deref.ensures.value, c.deref-2.ensures.value) at c.run_texts.ensures.runs);
    }
