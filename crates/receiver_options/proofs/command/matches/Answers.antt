use Rattle.std.proofs.Common.{rules}
use Rattle.clap.specs.Simple.{app_of}
use Rattle.receiver_options.proofs.CommandLineLemmas.{parses, without-command}
use Rattle.receiver_options.proofs.command.matches.Goals as goal

pub returns-in_err-command : goal.returns-in_err-command
returns-in_err-command c =
    record { parses = without-command _ c.from_residual.result (search rules) }

pub returns : goal.returns
returns c =
    let app = c.in_ok-command.ensures.app in
    record {
      parses =
          parses _ app.0 (app_of c.in_ok-command.field-0) c.try_get_matches_from.result app.1 app.2
          c.try_get_matches_from.ensures.matches c.try_get_matches_from.ensures.kinds;
    }
