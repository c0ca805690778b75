use Rattle.std.proofs.Common.{◌∙◌, ap}
use Rattle.clap.specs.Matches.{found_of}
use Rattle.clap.proofs.WalkLemmas.{one_text-rows}
use Rattle.receiver_options.specs.Requests.{number_in}
use Rattle.receiver_options.proofs.OptionLemmas.{number-read}
use Rattle.receiver_options.proofs.asked.number.Goals as goal

pub returns : goal.returns
returns c =
    c.unwrap_or.ensures
    ∙ number-read _ c.get_one.result c.args.default c.get_one.ensures.none
    c.get_one.ensures.value
    ∙ ap (λ text. number_in text c.args.default)
    (one_text-rows (found_of c.args.matches.now) c.args.id.now)
