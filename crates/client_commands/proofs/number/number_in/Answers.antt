use Rattle.std.proofs.Common.{◌≤◌, arith}
use Rattle.client_commands.proofs.DigitLemmas.{room_for_digit, short_number, power_of_one_more}
use Rattle.client_commands.proofs.DigitLemmas.{all_with_one_more, value_of_one_more}
use Rattle.client_commands.proofs.number.number_in.Goals as goal

pub overflow_mul-number : goal.overflow_mul-number
overflow_mul-number c =
    let room = room_for_digit c.loop-digit.number c.loop-digit.digit-index
    c.loop-digit.invariant.size (omega arith) in
    omega arith

pub overflow_add-number : goal.overflow_add-number
overflow_add-number c =
    let room = room_for_digit c.loop-digit.number c.loop-digit.digit-index
    c.loop-digit.invariant.size (omega arith) in
    let digit : c.from.result ≤ 9 = omega (arith, c.if-not-is_ascii_digit.ensures.cases) in
    omega arith

pub loop-digit-preserved : goal.loop-digit-preserved
loop-digit-preserved c =
    let range = c.if-not-is_ascii_digit.ensures.cases in
    let digit : c.from.result ≤ 9 = omega (arith, range) in
    record {
      digits = all_with_one_more c.args.word.now c.loop-digit.digit-index c.loop-digit-test.true
          c.loop-digit.invariant.digits c.if-not-is_ascii_digit.ensures.value;
      value = value_of_one_more c.args.word.now c.loop-digit.digit-index c.loop-digit.number
          c.from.result c.loop-digit-test.true c.loop-digit.invariant.value c.from.ensures range.0
          range.1;
      size = power_of_one_more c.loop-digit.number c.from.result c.loop-digit.digit-index
          c.loop-digit.invariant.size digit;
    }

pub returns-clause-short : goal.returns-clause-short
returns-clause-short c = short_number c.loop-digit.number c.loop-digit.digit-index
    c.loop-digit.invariant.size (omega arith)
