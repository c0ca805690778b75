use Rattle.std.proofs.Common.{FitsSigned, w8, ap, ◌∙◌, rules}
use Rattle.std.proofs.lemmas.Int.{to_z-of_z}
use Rattle.definitions.specs.Fields as fields
use Rattle.subframes.proofs.fields.Field.exponent.Goals as goal

pub returns : goal.returns
returns c =
    let fits : FitsSigned w8 c.layout.result.exponent = search rules in
    to_z-of_z w8 c.layout.result.exponent fits
    ∙ ap (λ (f : fields.Field). f.exponent) c.layout.ensures.entry
