use Rattle.std.proofs.Common.{◌≡◌, ◌++◌, ◌∷◌, ap, sym, ◌∙◌}
use Rattle.std.specs.Prelude.{ℕ, List}
use Rattle.definitions.specs.Texts.{event_text}
use Rattle.slot_protocol.specs.Events.{event_in}
use Rattle.slot_protocol.specs.declared.event.Event.{Event}
use Rattle.printed_lines.proofs.LineLemmas.{lock-text, unlock-text, lost-text, bits-text}
use Rattle.printed_lines.proofs.events.put_event.Goals as goal

-- the text of an event that is known
known : (line : List ℕ) (slot : ℕ) (event now : Event) → now ≡ event
    → line ++ 32 ∷ event_text slot (event_in event) ≡ line ++ 32 ∷ event_text slot (event_in now)
known line slot event now e =
    ap (λ (x : Event). line ++ 32 ∷ event_text slot (event_in x)) (sym e)

pub returns-in-Lock-clause-text : goal.returns-in-Lock-clause-text
returns-in-Lock-clause-text c =
    c.kind.ensures.text ∙ lock-text c.args.line.now c.args.slot
    ∙ known c.args.line.now c.args.slot _ c.args.event.now c.in-Lock.is

pub returns-in-Unlock-clause-text : goal.returns-in-Unlock-clause-text
returns-in-Unlock-clause-text c =
    c.kind-in-Unlock.ensures.text ∙ unlock-text c.args.line.now c.args.slot
    ∙ known c.args.line.now c.args.slot _ c.args.event.now c.in-Unlock.is

pub returns-in-Lost-clause-text : goal.returns-in-Lost-clause-text
returns-in-Lost-clause-text c =
    c.kind-in-Lost.ensures.text ∙ lost-text c.args.line.now c.args.slot
    ∙ known c.args.line.now c.args.slot _ c.args.event.now c.in-Lost.is

pub returns-in-Bits-clause-text : goal.returns-in-Bits-clause-text
returns-in-Bits-clause-text c =
    c.kind-in-Bits.ensures.text ∙ bits-text c.args.line.now c.args.slot
    ∙ known c.args.line.now c.args.slot _ c.args.event.now c.in-Bits.is
