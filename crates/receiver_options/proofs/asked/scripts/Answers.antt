use Rattle.std.proofs.Common.{◌∙◌, ap, refl, map}
use Rattle.std.specs.Prelude.{codes}
use Rattle.clap.specs.Matches.{found_of}
use Rattle.clap.proofs.WalkLemmas.{raw_values-rows}
use Rattle.receiver_options.proofs.OptionLemmas.{paths-read}
use Rattle.receiver_options.proofs.asked.scripts.Goals as goal

pub returns : goal.returns
returns c =
    ap (λ paths. map (λ path. path.now) paths.now) c.unwrap_or.ensures
    ∙ paths-read c.get_strs.result _ _
    (c.get_strs.ensures ∙ raw_values-rows (found_of c.args.matches.now) (codes "script")) refl
