use Rattle.std.proofs.Common.{◌≡◌, ◌∙◌, sym, ap, refl, None}
use Rattle.std.specs.Prelude.{option_map}
use Rattle.definitions.specs.DataSets.{almanac_set}
use Rattle.data_sets.specs.Reports.{almanacs_in}
use Rattle.data_sets.specs.Standing.{almanac_values}
use Rattle.data_sets.proofs.AlmanacReports.{other-shown, none-shown, none-there, none-new, none-of}
use Rattle.data_sets.proofs.AlmanacReports.{still-follows, set-reported, new-follows}
use Rattle.data_sets.proofs.AlmanacReports.{compared, apart}
use Rattle.data_sets.proofs.almanacs.Almanacs.take.Goals as goal

pub returns-in_default : goal.returns-in_default
returns-in_default c = record {
  follows = λ pages h. other-shown c.args.page.now c.in_default.not-Almanac pages c.args.self.now h;
  set = λ pages h. sym (ap (option_map almanac_set)
      (none-shown c.args.page.now c.in_default.not-Almanac pages));
}

pub returns-in_err-set-clause-set : goal.returns-in_err-set-clause-set
returns-in_err-set-clause-set c pages h =
    let none : almanac_values c.keep.new.self.last ≡ None =
    none-of (almanac_values c.keep.new.self.last) (c.in_err-set.ensures.set) in
    rw (c.from_residual.ensures, c.in-Almanac.is)
    (sym (ap (option_map almanac_set)
    (none-there pages _ refl c.args.self.now h c.keep.new.self.last
    (c.keep.ensures.last pages h.last) none)))

pub returns-in_err-set-clause-follows : goal.returns-in_err-set-clause-follows
returns-in_err-set-clause-follows c pages h =
    let none : almanac_values c.keep.new.self.last ≡ None =
    none-of (almanac_values c.keep.new.self.last) (c.in_err-set.ensures.set) in
    rw (c.keep.ensures.reported, c.in-Almanac.is)
    (still-follows pages _ refl c.args.self.now h c.keep.new.self.last
    (c.keep.ensures.last pages h.last)
    (none-there pages _ refl c.args.self.now h c.keep.new.self.last
    (c.keep.ensures.last pages h.last) none))

pub returns-then-eq-clause-set : goal.returns-then-eq-clause-set
returns-then-eq-clause-set c pages h =
    let equal : c.keep.new.self.last ≡ c.keep.new.self.reported =
    (compared c.keep.new.self.last c.keep.new.self.reported).0 (sym c.if-eq.ensures) in
    rw c.in-Almanac.is (sym (ap (option_map almanac_set)
    (none-new pages _ refl c.args.self.now h c.keep.new.self.last
    (c.keep.ensures.last pages h.last) (equal ∙ c.keep.ensures.reported))))

pub returns-then-eq-clause-follows : goal.returns-then-eq-clause-follows
returns-then-eq-clause-follows c pages h =
    let equal : c.keep.new.self.last ≡ c.keep.new.self.reported =
    (compared c.keep.new.self.last c.keep.new.self.reported).0 (sym c.if-eq.ensures) in
    rw (c.keep.ensures.reported, c.in-Almanac.is)
    (still-follows pages _ refl c.args.self.now h c.keep.new.self.last
    (c.keep.ensures.last pages h.last)
    (none-new pages _ refl c.args.self.now h c.keep.new.self.last
    (c.keep.ensures.last pages h.last) (equal ∙ c.keep.ensures.reported)))

pub returns-clause-set : goal.returns-clause-set
returns-clause-set c pages h =
    rw c.in-Almanac.is (set-reported pages _ refl c.args.self.now h c.keep.new.self.last
    (c.keep.ensures.last pages h.last) (almanacs_in c.in_ok-set.set) c.in_ok-set.ensures.set
    c.in_ok-set.ensures.whole
    (λ equal. apart c.keep.new.self.last c.keep.new.self.reported c.if-eq.ensures
    (equal ∙ sym c.keep.ensures.reported)))

pub returns-clause-follows : goal.returns-clause-follows
returns-clause-follows c pages h =
    rw c.in-Almanac.is (new-follows pages _ refl c.args.self.now h c.keep.new.self.last
    (c.keep.ensures.last pages h.last) (almanacs_in c.in_ok-set.set) c.in_ok-set.ensures.set
    c.in_ok-set.ensures.whole
    (λ equal. apart c.keep.new.self.last c.keep.new.self.reported c.if-eq.ensures
    (equal ∙ sym c.keep.ensures.reported)))
