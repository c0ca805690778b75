use Rattle.std.proofs.Common.{◌≡◌, ◌++◌, ◌∷◌, ap, sym, ◌∙◌, FitsSigned, w64, rules}
use Rattle.std.proofs.lemmas.Int.{to_z-of_z}
use Rattle.std.specs.Prelude.{ℕ, List}
use Rattle.definitions.specs.Answers.{shown}
use Rattle.definitions.specs.Texts.{answer_text}
use Rattle.slot_protocol.specs.Answers.{view_in, is_locked_in, has_edge_in}
use Rattle.slot_protocol.specs.declared.answer.SlotState.{SlotState}
use Rattle.printed_lines.proofs.LineLemmas.{acquire-text, idle-text, hold-text, track-text}
use Rattle.printed_lines.proofs.answers.put_state.Goals as goal

-- the text of a state that is known
known : (line : List ℕ) (slot : ℕ) (state now : SlotState) → now ≡ state
    → line ++ 32 ∷ answer_text slot (shown (view_in state))
    ≡ line ++ 32 ∷ answer_text slot (shown (view_in now))
known line slot state now e =
    ap (λ (x : SlotState). line ++ 32 ∷ answer_text slot (shown (view_in x))) (sym e)

pub returns-in-Idle-clause-text : goal.returns-in-Idle-clause-text
returns-in-Idle-clause-text c =
    rw c.kind.ensures.text at c.word.ensures.text ∙ idle-text c.args.line.now c.args.slot
    ∙ known c.args.line.now c.args.slot _ c.args.state c.in-Idle.is

pub returns-in-Acquire-clause-text : goal.returns-in-Acquire-clause-text
returns-in-Acquire-clause-text c =
    rw (c.put_followed.ensures.text, c.get.ensures.same, c.kind.ensures.text)
    at c.number.ensures.text
    ∙ acquire-text c.args.line.now c.args.slot c.in-Acquire.prn c.in-Acquire.done
    c.in-Acquire.cells ∙ known c.args.line.now c.args.slot _ c.args.state c.in-Acquire.is

pub returns-in-Hold-clause-text : goal.returns-in-Hold-clause-text
returns-in-Hold-clause-text c =
    rw (c.get-in-Hold.ensures.same, c.kind.ensures.text) at c.put_followed-in-Hold.ensures.text
    ∙ hold-text c.args.line.now c.args.slot c.in-Hold.prn c.in-Hold.dumps
    ∙ known c.args.line.now c.args.slot _ c.args.state c.in-Hold.is

pub returns-in-Track-clause-text : goal.returns-in-Track-clause-text
returns-in-Track-clause-text c =
    let v : FitsSigned w64 c.in-Track.v = search rules in
    let w : FitsSigned w64 c.in-Track.w = search rules in
    rw (
      c.word_of.ensures.word,
      c.signed-in-Track.ensures.text,
      to_z-of_z w64 c.in-Track.w w,
      c.signed.ensures.text,
      to_z-of_z w64 c.in-Track.v v,
      c.put_followed-in-Track.ensures.text,
      c.get-in-Track.ensures.same,
      c.kind.ensures.text,
    ) at c.word-in-Track.ensures.text
    ∙ track-text c.args.line.now c.args.slot c.in-Track.prn c.in-Track.dumps
    (record { v = c.in-Track.v; w = c.in-Track.w }) (is_locked_in c.in-Track.phase)
    (has_edge_in c.in-Track.phase)
    ∙ known c.args.line.now c.args.slot _ c.args.state c.in-Track.is
