use Rattle.std.proofs.Common.{refl, sym, rules}
use Rattle.data_sets.proofs.PageReports.{kept-last, other-last, is_other}
use Rattle.data_sets.proofs.last_pages.LastPages.take.Goals as goal

pub returns-in-Clock-clause-kept : goal.returns-in-Clock-clause-kept
returns-in-Clock-clause-kept c pages h =
    rw c.in-Clock.is (kept-last pages _ c.args.self.now _ h refl refl refl)

pub returns-in-Eph2-clause-kept : goal.returns-in-Eph2-clause-kept
returns-in-Eph2-clause-kept c pages h =
    rw c.in-Eph2.is (kept-last pages _ c.args.self.now _ h refl refl refl)

pub returns-in-Eph3-clause-kept : goal.returns-in-Eph3-clause-kept
returns-in-Eph3-clause-kept c pages h =
    rw c.in-Eph3.is (kept-last pages _ c.args.self.now _ h refl refl refl)

pub returns-in_default : goal.returns-in_default
returns-in_default c =
    let other = is_other c.args.page.now c.in_default.not-Clock c.in_default.not-Eph2
    c.in_default.not-Eph3 in
    record {
      kept = λ pages h. other-last pages c.args.page.now c.args.self.now other h;
      told = sym other;
    }

pub returns-in-Clock-clause-told : goal.returns-in-Clock-clause-told
returns-in-Clock-clause-told c = search rules
