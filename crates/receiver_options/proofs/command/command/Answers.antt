use Rattle.std.proofs.Common.{ap, ap₂, codes, true, ◌≡◌, ◌∙◌}
use Rattle.std.proofs.lemmas.Result.{IfOk-weaker}
use Rattle.clap.specs.Simple.{App, app_of, app_of_fields, new_app, on_top, with_rule}
use Rattle.receiver_options.proofs.command.command.Goals as goal

abbrev with_version : App → App
with_version = on_top (λ shape. record shape { has_version = true })

pub returns : goal.returns
returns c =
    let begun : app_of c.after_help.result ≡ with_version (new_app (codes "receiver")) =
    ap app_of_fields c.after_help.ensures ∙ ap app_of_fields c.override_usage.ensures
    ∙ ap app_of_fields c.about.ensures ∙ ap app_of_fields c.version.ensures
    ∙ ap with_version c.new.ensures.app in
    let rate = c.in_ok-arg.ensures.shape c.hertz.ensures.local
    ∙ ap₂ with_rule begun c.hertz.ensures.rule in
    let offset = c.in_ok-arg-2.ensures.shape c.hertz-2.ensures.local
    ∙ ap₂ with_rule rate c.hertz-2.ensures.rule in
    let minus = c.in_ok-arg-3.ensures.shape c.minus.ensures.local
    ∙ ap₂ with_rule offset c.minus.ensures.rule in
    let names = c.format.ensures.rule in
    let format = c.in_ok-arg-4.ensures.shape c.format.ensures.local
    ∙ ap₂ with_rule minus names.2 in
    let shares = c.in_ok-arg-5.ensures.shape c.shares.ensures.local
    ∙ ap₂ with_rule format c.shares.ensures.rule in
    record {
      app =
          IfOk-weaker c.arg-6.result _ _
          (λ command added. (
            names.0,
            names.1,
            added.shape c.script.ensures.local
                ∙ ap₂ with_rule shares c.script.ensures.rule,
          )) c.arg-6.ensures;
    }
