use Rattle.std.proofs.Common.{◌≡◌, ◌++◌, ◌∷◌, ap, sym, ◌∙◌}
use Rattle.std.specs.Prelude.{ℕ, List}
use Rattle.definitions.specs.Texts.{answer_text, refusal_text}
use Rattle.slot_protocol.specs.Answers.{answer_in}
use Rattle.slot_protocol.specs.declared.answer.Answer.{Answer}
use Rattle.printed_lines.proofs.LineLemmas.{accepted-text, refused-text}
use Rattle.printed_lines.proofs.answers.put_answer.Goals as goal

-- the text of an answer that is known
known : (line : List ℕ) (slot : ℕ) (answer now : Answer) → now ≡ answer
    → line ++ 32 ∷ answer_text slot (answer_in answer)
    ≡ line ++ 32 ∷ answer_text slot (answer_in now)
known line slot answer now e =
    ap (λ (x : Answer). line ++ 32 ∷ answer_text slot (answer_in x)) (sym e)

pub returns-in-Accepted-clause-text : goal.returns-in-Accepted-clause-text
returns-in-Accepted-clause-text c =
    c.word.ensures.text ∙ accepted-text c.args.line.now c.args.slot
    ∙ known c.args.line.now c.args.slot _ c.args.answer.now c.in-Accepted.is

pub returns-in-Refused-clause-text : goal.returns-in-Refused-clause-text
returns-in-Refused-clause-text c =
    c.put_refusal.ensures.text
    ∙ ap (λ (n : ℕ). c.args.line.now ++ 32 ∷ refusal_text n) c.number.ensures
    ∙ refused-text c.args.line.now c.args.slot _
    ∙ known c.args.line.now c.args.slot _ c.args.answer.now c.in-Refused.is

pub returns-in-State-clause-text : goal.returns-in-State-clause-text
returns-in-State-clause-text c =
    c.put_state.ensures.text ∙ known c.args.line.now c.args.slot _ c.args.answer.now c.in-State.is
