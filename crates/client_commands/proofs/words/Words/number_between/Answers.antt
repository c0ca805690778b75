use Rattle.std.proofs.Common.{rules, ◌≡◌, ◌≤◌, ◌↔◌, arith, w64, FitsSigned, None}
use Rattle.std.specs.Prelude.{MatchOption, IsSome, IfSome}
use Rattle.std.proofs.lemmas.Int.{to_z-of_z}
use Rattle.std.specs.Result.{result_ok}
use Rattle.client_commands.proofs.ReadingLemmas.{passed_on, no_number, number_tried}
use Rattle.client_commands.proofs.words.Words.number_between.Goals as goal

pub returns-in_err-number-clause-value : goal.returns-in_err-number-clause-value
returns-in_err-number-clause-value c = rw (passed_on _ c.from_residual.ensures.1)
    (λ ranges. no_number _ ranges c.args.self.now _ c.requires c.in_err-number.ensures.number)

pub returns-clause-value : goal.returns-clause-value
returns-clause-value c =
    let fits : FitsSigned w64 c.in_ok-number.field-0 = search rules in
    let typed = rw (to_z-of_z w64 c.in_ok-number.field-0 fits) at c.try_from.ensures in
    let filtered = rw c.ok-number.ensures.value at c.filter.ensures in
    let ranged : MatchOption (result_ok c.try_from.result) (c.filter.result ≡ None)
    (λ n. (IsSome c.filter.result ↔ ((c.args.low ≤ n) × (n ≤ c.args.high)))
    × IfSome c.filter.result (λ s. s ≡ n)) = search (rules, arith) in
    rw c.ok_or.ensures.value (number_tried c.try_from.result c.in_ok-number.field-0
    c.filter.result (λ n. (c.args.low ≤ n) × (n ≤ c.args.high)) 32 c.args.low c.args.high
    c.args.self.now c.number.new.self c.ranges.high.fits (λ n. (λ inside. inside, λ within. within))
    c.requires c.in_ok-number.ensures.left c.in_ok-number.ensures.number typed ranged)
