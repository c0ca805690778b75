use Rattle.std.proofs.Common.{◌∙◌, sym, ◌^◌, ◌<◌}
use Rattle.subframes.specs.Layouts.{layout_in}
use Rattle.subframes.proofs.Presence.{cast-small, cast-negative}
use Rattle.subframes.proofs.Parts.{value_of-negative, value_of-unsigned, value_of-positive}
use Rattle.subframes.proofs.layout.Layout.value.Goals as goal
use Rattle.subframes.proofs.layout.Layout.value.Goals.{else-self-via-then-self+else-number-len-eq1}
use Rattle.subframes.proofs.layout.Layout.value.Goals.{else-self-via-else-self}

pub returns-then-number-len-eq1 : goal.returns-then-number-len-eq1
returns-then-number-len-eq1 c =
    let fits : c.number-number.result < 2 ^ c.len-len.result =
    rw (c.len-len.ensures.len) c.number-number.ensures.in_range in
    cast-negative c.number-number.result c.len-len.result fits c.len-len.ensures.to_32
    ∙ sym (value_of-negative c.args.subframe.now
    (layout_in c.args.self.now) c.number-number.result c.len-len.result c.len-len.ensures.len
    c.len-len.ensures.from_one c.number-number.ensures.number c.if-self.true
    c.if-number-len-eq1.true)

pub returns-else-self : goal.returns-else-self
returns-else-self c =
    let fits : c.number-number.result < 2 ^ c.len-len.result =
    rw (c.len-len.ensures.len) c.number-number.ensures.in_range in
    cast-small c.number-number.result c.len-len.result fits c.len-len.ensures.to_32
    ∙ sym (elim c.else-self.branch [
      | else-self-via-then-self+else-number-len-eq1 w ↦ value_of-positive c.args.subframe.now
          (layout_in c.args.self.now) c.number-number.result c.len-len.result c.len-len.ensures.len
          c.len-len.ensures.from_one c.number-number.ensures.number w.if-self.true
          w.if-number-len-eq1.false
      | else-self-via-else-self w ↦ value_of-unsigned c.args.subframe.now
          (layout_in c.args.self.now) c.number-number.result c.len-len.result c.len-len.ensures.len
          c.len-len.ensures.from_one c.number-number.ensures.number w.if-self.false
    ])
