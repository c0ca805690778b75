use Rattle.std.proofs.Common.{rules, ◌≡◌, ◌<◌, length, w64, FitsSigned, to_z, of_z, to_z-of_z}
use Rattle.std.proofs.Common.{map, ap, sym, ◌∙◌, arith, refl, slice_index_or}
use Rattle.std.specs.Prelude.{pos, option_map, take, None, Some}
use Rattle.definitions.specs.DataSets.{almanac_set}
use Rattle.std.proofs.Math.Seq.{take-length}
use Rattle.data_sets.proofs.SetsOfAlmanacs.{is_for, health_in, first-missing, for-another}
use Rattle.data_sets.proofs.SetsOfAlmanacs.{one-other}
use Rattle.data_sets.proofs.SetsOfAlmanacs.{set-found}
use Rattle.data_sets.proofs.FirstAlmanacs.{for_one-more, whole-more, health-more}
use Rattle.data_sets.proofs.almanac_set.AlmanacSet.of.Goals as goal

pub returns-in_err-toa : goal.returns-in_err-toa
returns-in_err-toa c =
    let none : slice_index_or c.args.last.now 0 None ≡ None = c.in_err-toa.was in
    rw (c.from_residual.ensures, first-missing c.args.last.now c.told-last none)
    (record { set = refl; whole = tt })

pub returns-in_err-almanac : goal.returns-in_err-almanac
returns-in_err-almanac c =
    let first : slice_index_or c.args.last.now 0 None ≡ Some c.in_ok-toa.field-0 =
    c.in_ok-toa.was in
    let none : slice_index_or c.args.last.now c.loop-k.k None ≡ None = c.in_err-almanac.was in
    let toa = slice_index_or c.in_ok-toa.field-0 3 (pos 0) in
    let within : c.loop-k.k < length c.args.last.now =
    omega (arith, c.told-last, c.loop-k-test.true) in
    rw (
      c.from_residual-in_err-almanac.ensures,
      one-other c.args.last.now c.in_ok-toa.field-0 toa c.loop-k.k first refl within
          (ap (is_for toa) none),
    ) (record { set = refl; whole = tt })

pub returns-then-almanac-toa-clause-set : goal.returns-then-almanac-toa-clause-set
returns-then-almanac-toa-clause-set c =
    let toa = slice_index_or c.in_ok-toa.field-0 3 (pos 0) in
    let first : slice_index_or c.args.last.now 0 None ≡ Some c.in_ok-toa.field-0 =
    c.in_ok-toa.was in
    let here : slice_index_or c.args.last.now c.loop-k.k None ≡ Some c.in_ok-almanac.field-0 =
    c.in_ok-almanac.was in
    let within : c.loop-k.k < length c.args.last.now =
    omega (arith, c.told-last, c.loop-k-test.true) in
    sym (ap (option_map almanac_set)
    (one-other c.args.last.now c.in_ok-toa.field-0 toa c.loop-k.k first refl within
    (ap (is_for toa) here ∙ for-another toa c.in_ok-almanac.field-0
    (λ same. c.if-almanac-toa.true (ap (of_z w64) (sym same))))))

pub loop-k-init : goal.loop-k-init
loop-k-init c = search rules

pub loop-k-preserved : goal.loop-k-preserved
loop-k-preserved c =
    let numbers = c.in_ok-almanac.field-0 in
    let first : FitsSigned w64 (slice_index_or c.in_ok-toa.field-0 3 (pos 0)) = search rules in
    let toa : FitsSigned w64 (slice_index_or numbers 3 (pos 0)) = search rules in
    let health : FitsSigned w64 (slice_index_or numbers 6 (pos 0)) = search rules in
    let long : length numbers ≡ 13 = search rules in
    let same : to_z w64 (of_z w64 (slice_index_or c.in_ok-toa.field-0 3 (pos 0)))
    ≡ slice_index_or numbers 3 (pos 0) = ap (to_z w64) (sym c.if-almanac-toa.false)
    ∙ to_z-of_z toa in
    let here : slice_index_or c.args.last.now c.loop-k.k None ≡ Some numbers =
    c.in_ok-almanac.was in
    let within : c.loop-k.k < length c.args.last.now =
    omega (arith, c.told-last, c.loop-k-test.true) in
    let room : c.loop-k.k < length c.loop-k.health =
    omega (arith, c.loop-k.invariant.long, c.loop-k-test.true) in
    record {
      long = search rules;
      within = search rules;
      for_one = for_one-more c.args.last.now c.loop-k.k numbers within here _
          c.loop-k.invariant.for_one same;
      whole = whole-more c.args.last.now c.loop-k.k numbers within here c.loop-k.invariant.whole
          long;
      health = rw (to_z-of_z health)
          (health-more c.args.last.now c.loop-k.k numbers within here c.loop-k.health room
          c.loop-k.invariant.health);
    }

pub returns : goal.returns
returns c =
    let toa : FitsSigned w64 (slice_index_or c.in_ok-toa.field-0 3 (pos 0)) = search rules in
    let first : slice_index_or c.args.last.now 0 None ≡ Some c.in_ok-toa.field-0 =
    c.in_ok-toa.was in
    let ended : c.loop-k.k ≡ 32 = search rules in
    let all : take c.loop-k.k c.args.last.now ≡ c.args.last.now =
    ap (λ k. take k c.args.last.now) (ended ∙ sym c.told-last) ∙ take-length c.args.last.now in
    let healths : take c.loop-k.k c.loop-k.health ≡ c.loop-k.health =
    ap (λ k. take k c.loop-k.health) (ended ∙ sym c.loop-k.invariant.long)
    ∙ take-length c.loop-k.health in
    let whole = rw all at c.loop-k.invariant.whole in
    record {
      set = rw (to_z-of_z toa) (set-found c.args.last.now c.in_ok-toa.field-0
          (slice_index_or c.in_ok-toa.field-0 3 (pos 0)) c.loop-k.health first refl
          (rw (all, to_z-of_z toa) at c.loop-k.invariant.for_one) whole c.told-last
          (sym healths ∙ c.loop-k.invariant.health ∙ ap (map health_in) all));
      whole = whole;
    }
