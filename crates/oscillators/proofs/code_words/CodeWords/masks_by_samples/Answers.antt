use Rattle.std.proofs.Common.{◌+◌, ◌-◌, ◌<◌, ◌^◌, ℕ, ◌∙◌, arith, rules}
use Rattle.oscillators.proofs.SampleLemmas.{chip_at, chip_before}
use Rattle.oscillators.proofs.code_words.CodeWords.masks_by_samples.Goals as goal

pub returns-clause-masks : goal.returns-clause-masks
returns-clause-masks c prn is =
    let i = c.loop-k.invariant in
    let phase : ℕ = c.args.self.now.phase in
    let step : ℕ = c.args.self.now.step in
    let all : (k : ℕ) → k < 64 → k < c.loop-k.k = λ k h. omega (arith, h, c.loop-k-test.false) in
    record {
      early = λ j h. i.early (63 - j) (all (63 - j) (omega arith))
          ∙ chip_at prn c.args.table.now is (phase + 2 ^ 31) step j h;
      prompt = λ j h. i.prompt (63 - j) (all (63 - j) (omega arith))
          ∙ chip_at prn c.args.table.now is phase step j h;
      late = λ j h. i.late (63 - j) (all (63 - j) (omega arith))
          ∙ chip_before prn c.args.table.now is (phase + 2 ^ 31) step j h;
    }

pub loop-k-preserved : goal.loop-k-preserved
loop-k-preserved c = search rules
