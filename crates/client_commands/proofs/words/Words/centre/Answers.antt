use Rattle.std.proofs.Common.{rules, ◌≡◌, ◌≤◌, ◌↔◌, arith, w32, w64, FitsSigned, None}
use Rattle.std.specs.Prelude.{MatchOption, IsSome, IfSome, unsigned_abs}
use Rattle.std.proofs.lemmas.Int.{to_z-of_z, ints}
use Rattle.std.specs.Result.{result_ok}
use Rattle.acquisition.specs.declared.plan.TheConstants.{MOST_CENTRE}
use Rattle.client_commands.proofs.ReadingLemmas.{passed_on, no_number, integer_tried}
use Rattle.client_commands.proofs.words.Words.centre.Goals as goal

pub returns-in_err-number-clause-value : goal.returns-in_err-number-clause-value
returns-in_err-number-clause-value c = rw (passed_on _ c.from_residual.ensures.1)
    (λ ranges. no_number _ ranges c.args.self.now _ c.requires c.in_err-number.ensures.number)

pub returns-clause-value : goal.returns-clause-value
returns-clause-value c =
    let fits : FitsSigned w64 c.in_ok-number.field-0 = search rules in
    let typed = rw (to_z-of_z w64 c.in_ok-number.field-0 fits) at c.try_from.ensures in
    let filtered = rw c.ok-hz.ensures.value at c.filter.ensures in
    let ranged : MatchOption (result_ok c.try_from.result) (c.filter.result ≡ None)
    (λ z. (IsSome c.filter.result ↔ (unsigned_abs z ≤ MOST_CENTRE))
    × IfSome c.filter.result (λ s. s ≡ z)) = search (rules, arith) in
    rw c.ok_or.ensures.value (integer_tried c.try_from.result c.in_ok-number.field-0
    c.filter.result w32 MOST_CENTRE c.args.self.now c.number.new.self (λ small. search (
      rules,
      arith,
      ints,
    ))
    c.requires c.in_ok-number.ensures.left c.in_ok-number.ensures.number typed ranged)
