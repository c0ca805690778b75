use Rattle.std.proofs.Common.{◌∙◌, sym, arith}
use Rattle.std.proofs.lemmas.Grind.{common_steps}
use Rattle.seldomplough.proofs.NanLemmas.{nan-at}
use Rattle.seldomplough.proofs.values.write_f32.Goals as goal

pub returns-then-is_nan-clause-nan : goal.returns-then-is_nan-clause-nan
returns-then-is_nan-clause-nan c is =
    nan-at c.args.values.now c.loop-value.value-index _ c.loop-value-test.true
    (sym c.is_nan.ensures.value ∙ c.if-is_nan.true)

pub returns-then-is_nan-clause-kind : goal.returns-then-is_nan-clause-kind
returns-then-is_nan-clause-kind c is = cc

pub loop-value-preserved : goal.loop-value-preserved
loop-value-preserved c = grind (arith, common_steps)
