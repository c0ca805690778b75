use Rattle.std.proofs.Common.{◌+◌, ◌*◌, ◌∙◌, sym, ap}
use Rattle.std.specs.Prelude.{option_map}
use Rattle.packer.proofs.TextLemmas.{twice_half, twice_whole}
use Rattle.packer.proofs.halves.twice.Goals as goal

pub returns-in_err-whole-in-Some-clause-value : goal.returns-in_err-whole-in-Some-clause-value
returns-in_err-whole-in-Some-clause-value c =
    let strip = c.in-Some.ensures.cases in
    c.from_residual.ensures
    ∙ sym (twice_half c.args.text.now c.in-Some.front.now strip.0 strip.1.1 strip.1.0 strip.2
    ∙ ap (option_map (λ n. 2 * n + 1)) (sym c.whole.ensures.value ∙ c.in_err-whole-in-Some.was))

pub returns-in_err-whole-in-None-clause-value : goal.returns-in_err-whole-in-None-clause-value
returns-in_err-whole-in-None-clause-value c =
    c.from_residual-in_err-whole-in-None.ensures
    ∙ sym (twice_whole c.args.text.now c.in-None.ensures.cases
    ∙ ap (option_map (λ n. 2 * n))
    (sym c.whole-in-None.ensures.value ∙ c.in_err-whole-in-None.was))

pub returns-in_ok-whole-in-Some-clause-value : goal.returns-in_ok-whole-in-Some-clause-value
returns-in_ok-whole-in-Some-clause-value c =
    let strip = c.in-Some.ensures.cases in
    sym (twice_half c.args.text.now c.in-Some.front.now strip.0 strip.1.1 strip.1.0 strip.2
    ∙ ap (option_map (λ n. 2 * n + 1)) (sym c.whole.ensures.value ∙ c.in_ok-whole-in-Some.was))

pub returns-in_ok-whole-in-None-clause-value : goal.returns-in_ok-whole-in-None-clause-value
returns-in_ok-whole-in-None-clause-value c =
    sym (twice_whole c.args.text.now c.in-None.ensures.cases
    ∙ ap (option_map (λ n. 2 * n))
    (sym c.whole-in-None.ensures.value ∙ c.in_ok-whole-in-None.was))
