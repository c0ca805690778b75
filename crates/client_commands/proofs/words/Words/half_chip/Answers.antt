use Rattle.std.proofs.Common.{rules, ◌≤◌, arith, w64, FitsSigned}
use Rattle.std.proofs.lemmas.Int.{to_z-of_z}
use Rattle.oscillators.specs.declared.half_chip.TheConstants.{LAST_HALF_CHIP}
use Rattle.client_commands.proofs.ReadingLemmas.{passed_on, no_number, number_tried}
use Rattle.client_commands.proofs.words.Words.half_chip.Goals as goal

pub returns-in_err-number-clause-value : goal.returns-in_err-number-clause-value
returns-in_err-number-clause-value c = rw (passed_on _ c.from_residual.ensures.1)
    (λ ranges. no_number _ ranges c.args.self.now _ c.requires c.in_err-number.ensures.number)

pub returns-clause-value : goal.returns-clause-value
returns-clause-value c =
    let fits : FitsSigned w64 c.in_ok-number.field-0 = search rules in
    let typed = rw (to_z-of_z w64 c.in_ok-number.field-0 fits) at c.try_from.ensures in
    let ranged = rw c.ok-half_chips.ensures.value at c.and_then.ensures in
    rw c.ok_or.ensures.value (number_tried c.try_from.result c.in_ok-number.field-0
    c.and_then.result (λ n. n ≤ LAST_HALF_CHIP) 16 0 LAST_HALF_CHIP c.args.self.now
    c.number.new.self (omega arith)
    (λ n. (λ inside. (omega arith, omega arith), λ within. omega (arith, within)))
    c.requires c.in_ok-number.ensures.left c.in_ok-number.ensures.number typed ranged)
