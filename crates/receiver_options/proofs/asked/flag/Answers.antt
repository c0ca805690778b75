use Rattle.std.proofs.Common.{rules, ◌≡◌, ◌∙◌, ap}
use Rattle.clap.specs.Matches.{found_of, one_text}
use Rattle.clap.proofs.WalkLemmas.{one_text-rows}
use Rattle.receiver_options.specs.Requests.{flag_in}
use Rattle.receiver_options.proofs.asked.flag.Goals as goal

pub returns : goal.returns
returns c =
    let read : c.unwrap_or.result
    ≡ flag_in (one_text (found_of c.args.matches.now) c.args.id.now) =
    search rules in
    read ∙ ap flag_in (one_text-rows (found_of c.args.matches.now) c.args.id.now)
