use Rattle.std.proofs.Common.{◌+◌, ap, ◌∙◌}
use Rattle.std.specs.Prelude.{pos}
use Rattle.definitions.specs.Fields.{bits}
use Rattle.subframes.proofs.Parts.{number_of_bits-alone}
use Rattle.subframes.proofs.message.character.Goals as goal

pub returns : goal.returns
returns c = ap (λ n. pos n)
    (c.number.ensures.number
    ∙ number_of_bits-alone c.args.subframe.now (bits c.args.first (c.args.first + 7)))
