use Rattle.std.proofs.Common.{sym, ap, ◌∙◌, Some, rules, FitsSigned, w64}
use Rattle.std.proofs.lemmas.Int.{to_z-of_z}
use Rattle.subframes.specs.Layouts.{layout_in}
use Rattle.subframes.specs.Entries.{entry_of}
use Rattle.subframes.proofs.Presence.{field_of-there, field_of-missing}
use Rattle.subframes.proofs.reading.field.Goals as goal

pub returns-then-is_there : goal.returns-then-is_there
returns-then-is_there c =
    let fits : FitsSigned w64 c.value.result = search rules in
    ap (λ v. Some v) (to_z-of_z w64 c.value.result fits)
    ∙ field_of-there c.args.subframe.now (layout_in c.layout-layout.result)
    (entry_of c.args.field) c.value.result c.layout-layout.ensures.entry
    (sym c.is_there.ensures ∙ c.if-is_there.true) c.value.ensures

pub returns-else-is_there : goal.returns-else-is_there
returns-else-is_there c =
    field_of-missing c.args.subframe.now (layout_in c.layout-layout.result)
    (entry_of c.args.field) c.layout-layout.ensures.entry
    (sym c.is_there.ensures ∙ c.if-is_there.false)
