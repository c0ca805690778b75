use Rattle.std.proofs.Common.{◌≡◌, ◌+◌, ◌/◌, ◌∙◌, ℕ, get_or, ap, arith}
use Rattle.std.specs.Prelude.{bit_xor}
use Rattle.oscillators.proofs.ChipLaneLemmas.{pair_long}
use Rattle.oscillators.proofs.ChipSetLemmas.{turn_is}
use Rattle.oscillators.proofs.chip_set.ChipSet.new.Goals as goal

pub returns-clause-long : goal.returns-clause-long
returns-clause-long c = record {
  further = c.chips_after-further.ensures.long;
  turns = pair_long bit_xor _ _ c.chips_after-further.ensures.long c.chips_after.ensures.long;
}

pub returns-clause-chips : goal.returns-clause-chips
returns-clause-chips c k h small =
    let place : get_or c.args.half k 0 + (c.args.more + 1)
    ≡ get_or c.args.half k 0 + c.args.more + 1 = omega arith in
    let further : get_or c.chips_after-further.result k 0
    ≡ (get_or c.args.half k 0 + c.args.more + 1) / 2 =
    c.chips_after-further.ensures.chips k h (omega (arith, small)) ∙ ap (λ (n : ℕ). n / 2) place in
    record {
      further = further;
      turn = turn_is _ _ k _ _ c.chips_after-further.ensures.long c.chips_after.ensures.long h
          further (c.chips_after.ensures.chips k h (omega (arith, small)));
    }
