use Rattle.std.proofs.Common.{rules, ◌≡◌, ◌∙◌, w64, FitsSigned, to_z, of_z, to_z-of_z}
use Rattle.std.proofs.Common.{slice_index_or, ap, sym}
use Rattle.std.specs.Prelude.{Bool, true, pos, eqb, ◌&&◌}
use Rattle.std.specs.Ordering.{int_eq}
use Rattle.std.specs.Int.{int_rem_euclid}
use Rattle.std.proofs.lemmas.Bool.Decides.{Decides-int_eq}
use Rattle.data_sets.proofs.issue.are_of_one_issue.Goals as goal

pub returns-then-rem_euclid-eph2 : goal.returns-then-rem_euclid-eph2
returns-then-rem_euclid-eph2 c =
    let iodc = slice_index_or c.args.clock.now 4 (pos 0) in
    let iode = slice_index_or c.args.eph2.now 0 (pos 0) in
    let iode3 = slice_index_or c.args.eph3.now 7 (pos 0) in
    let clock : FitsSigned w64 iodc = search rules in
    let second : FitsSigned w64 iode = search rules in
    let rest : FitsSigned w64 c.rem_euclid.result = search rules in
    let same : int_rem_euclid iodc (pos 256) ≡ iode =
    sym (rw (to_z-of_z clock) at c.rem_euclid.ensures.value) ∙ sym (to_z-of_z rest)
    ∙ ap (to_z w64) c.if-rem_euclid-eph2.true ∙ to_z-of_z second in
    let first : int_eq (int_rem_euclid iodc (pos 256)) iode ≡ true =
    (Decides-int_eq (int_rem_euclid iodc (pos 256)) iode).1 same in
    let other : eqb (of_z w64 iode) (of_z w64 iode3) ≡ int_eq iode iode3 = search rules in
    other ∙ sym (ap (λ (b : Bool). b && int_eq iode iode3) first)
