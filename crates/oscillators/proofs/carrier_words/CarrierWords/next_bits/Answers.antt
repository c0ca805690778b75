use Rattle.std.proofs.Common.{◌≡◌, ◌+◌, ◌-◌, ◌<◌, ◌%◌, ℕ, ◌∙◌, arith, ap}
use Rattle.std.proofs.Math.Path.{ap₂}
use Rattle.std.specs.Int.{bit_at}
use Rattle.std.proofs.lemmas.Nat.Bits.{bit_at_xor}
use Rattle.oscillators.specs.CarrierWords.{eighth_after}
use Rattle.oscillators.proofs.carrier_words.CarrierWords.next_bits.Goals as goal

pub returns-clause-word : goal.returns-clause-word
returns-clause-word c =
    let phase : ℕ = c.args.self.now.phase in
    let step : ℕ = c.args.self.now.step in
    let lanes = c.next_eighths-eighths.ensures.eighths in
    let half : (j : ℕ) → j < 64 → bit_at c.bit_of_each-half.result (63 - j)
    ≡ bit_at (eighth_after phase step j) 2 = λ j h.
    c.bit_of_each-half.ensures (63 - j) (omega arith)
    ∙ ap (λ (n : ℕ). bit_at n 2) (lanes.eighths j h) in
    let quarter : (j : ℕ) → j < 64 → bit_at c.bit_of_each-quarter.result (63 - j)
    ≡ bit_at (eighth_after phase step j) 1 = λ j h.
    c.bit_of_each-quarter.ensures (63 - j) (omega arith)
    ∙ ap (λ (n : ℕ). bit_at n 1) (lanes.eighths j h) in
    let eighth : (j : ℕ) → j < 64 → bit_at c.bit_of_each-eighth.result (63 - j)
    ≡ bit_at (eighth_after phase step j) 0 = λ j h.
    c.bit_of_each-eighth.ensures (63 - j) (omega arith)
    ∙ ap (λ (n : ℕ). bit_at n 0) (lanes.eighths j h) in
    record {
      cos_sign = λ j h. bit_at_xor c.bit_of_each-half.result c.bit_of_each-quarter.result (63 - j)
          ∙ ap₂ (λ (a b : ℕ). (a + b) % 2) (half j h) (quarter j h);
      sin_sign = half;
      sin_size = λ j h. bit_at_xor c.bit_of_each-quarter.result c.bit_of_each-eighth.result (63 - j)
          ∙ ap₂ (λ (a b : ℕ). (a + b) % 2) (quarter j h) (eighth j h);
    }
