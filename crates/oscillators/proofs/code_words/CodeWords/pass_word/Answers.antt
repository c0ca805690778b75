use Rattle.std.proofs.Common.{ℕ, ap}
use Rattle.oscillators.specs.Views.{Oscillation}
use Rattle.oscillators.proofs.code_words.CodeWords.pass_word.Goals as goal

pub returns : goal.returns
returns c =
    let i = c.self.inside in
    let at : ℕ → Oscillation = λ p. record { phase = p; step = i.step } in
    rw (← c.self.view_is) (ap at c.in_cycle-self-inside.ensures)
