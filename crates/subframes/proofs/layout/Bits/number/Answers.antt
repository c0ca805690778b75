use Rattle.std.proofs.Common.{ap, ◌∙◌}
use Rattle.std.specs.Prelude.{unwrap_or}
use Rattle.subframes.specs.Layouts.{bits_in}
use Rattle.subframes.proofs.Numbers.{part_is_read}
use Rattle.subframes.proofs.layout.Bits.number.Goals as goal

pub returns-clause-number : goal.returns-clause-number
returns-clause-number c =
    part_is_read c.args.subframe.now
    (bits_in c.args.self) c.from-word.result c.len.result c.word.result c.requires
    c.word.ensures.word c.len.ensures
    (c.from-word.ensures ∙ c.unwrap_or.ensures ∙ ap (λ o. unwrap_or o 0) c.word-2.ensures.word)
