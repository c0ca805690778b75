use Rattle.std.proofs.Common.{◌≡◌, ◌+◌, ◌/◌, ◌^◌, ◌<◌, ◌≤◌, ℕ, ◌∙◌, ap, arith, rules}
use Rattle.oscillators.specs.Ways.{half_at, half_to}
use Rattle.oscillators.proofs.ChipSetLemmas.{half_few, moved}
use Rattle.oscillators.proofs.code_strides.CodeStrides.chips.Goals as goal

pub returns-clause-early : goal.returns-clause-early
returns-clause-early c step short is k h =
    let m = moved c.args.part step k _ h (c.stays-stays.ensures.stays step is k h) in
    let few : half_to step k ≤ 32 = half_few step k h short in
    let small : c.args.part < 2 ^ 32 = search (rules, c.ranges) in
    let set : ℕ = c.args.part / 2147483648 in
    c.kept.ensures.chips (half_to step k + set) k m.more h (omega (arith, few, small)) m.few
    (is.sets set k (omega (arith, small)) h) m.masked
    ∙ ap (λ (n : ℕ). n / 2) m.half

pub returns-clause-prompt : goal.returns-clause-prompt
returns-clause-prompt c step short is k h =
    let m = moved c.args.part step k _ h (c.stays-stays.ensures.stays step is k h) in
    let few : half_to step k ≤ 32 = half_few step k h short in
    let small : c.args.part < 2 ^ 32 = search (rules, c.ranges) in
    let set : ℕ = c.args.part / 2147483648 in
    let same : half_to step k + (set + 1) + m.more ≡ half_at c.args.part step k + 1 =
    omega (arith, m.half) in
    c.kept-2.ensures.chips (half_to step k + (set + 1)) k m.more h (omega (arith, few, small))
    m.few (is.sets (set + 1) k (omega (arith, small)) h) m.masked
    ∙ ap (λ (n : ℕ). n / 2) same
