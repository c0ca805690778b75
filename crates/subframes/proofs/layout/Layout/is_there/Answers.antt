use Rattle.std.proofs.Common.{◌≡◌, sym, ap, ◌∙◌}
use Rattle.std.proofs.Math.Path.{ap₂}
use Rattle.std.specs.Prelude.{Bool, ◌&&◌, false, is_some}
use Rattle.definitions.specs.Fields.{word_at_place}
use Rattle.subframes.proofs.Presence.{is_there-one, is_there-two}
use Rattle.subframes.proofs.layout.Layout.is_there.Goals as goal

pub returns-in-None : goal.returns-in-None
returns-in-None c = c.is_there-head.ensures
    ∙ sym (is_there-one c.args.subframe.now c.args.self.now c.requires c.in-None.is)

pub returns-then-head : goal.returns-then-head
returns-then-head c =
    ap₂ (λ (x y : Bool). x && y) (sym c.if-head.true ∙ c.is_there-head.ensures) c.is_there.ensures
    ∙ sym (is_there-two c.args.subframe.now c.args.self.now c.in-Some.tail c.requires c.in-Some.is)

pub returns-else-head : goal.returns-else-head
returns-else-head c =
    let last : Bool = is_some (word_at_place c.args.subframe.now c.in-Some.tail.first) in
    let missing : false ≡ is_some (word_at_place c.args.subframe.now c.args.self.now.head.first) =
    sym c.if-head.false ∙ c.is_there-head.ensures in
    c.if-head.false ∙ ap (λ (x : Bool). x && last) missing
    ∙ sym (is_there-two c.args.subframe.now c.args.self.now c.in-Some.tail c.requires c.in-Some.is)
