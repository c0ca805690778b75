use Rattle.std.proofs.Common.{◌≡◌, ◌∙◌, ap, sym, refl, Err, inl, inr, rules}
use Rattle.seldomplough.proofs.KindLemmas.{other-kind}
use Rattle.seldomplough.proofs.NanLemmas.{nan-front, is-no-number}
use Rattle.seldomplough.specs.Packings.{bytes_of_f32, fault_of}
use Rattle.seldomplough.specs.declared.packing_fault.PackingFault.TheVariants.{NotANumber}
use Rattle.seldomplough.proofs.packing.Packing.take_f32.Goals as goal

pub returns-in_err-write_f32-clause-no_number : goal.returns-in_err-write_f32-clause-no_number
returns-in_err-write_f32-clause-no_number c is =
    inl (nan-front c.args.values.now c.split_at.result.0.now c.split_at.result.1.now
    c.split_at.ensures.by_index.0 (c.in_err-write_f32.ensures.nan (search rules)))

pub returns-in_err-take-clause-no_number : goal.returns-in_err-take-clause-no_number
returns-in_err-take-clause-no_number c is =
    inr record {
      taken = c.split_at.result.0.now;
      rest = c.split_at.result.1.now;
      split = c.split_at.ensures.by_index.0;
      none =
          let same : c.deref.result.now ≡ bytes_of_f32 c.split_at.result.0.now =
          c.deref.ensures.value ∙ c.in_ok-write_f32.ensures.bytes in
          let made : fault_of c.in_err-take.field-0.0 ≡ NotANumber = search rules in
          rw same at
          (c.in_err-take.ensures.fault (ap Err (is-no-number c.in_err-take.field-0.0 made)));
    }

pub returns-then-ne-clause-kind : goal.returns-then-ne-clause-kind
returns-then-ne-clause-kind c =
    other-kind _ _ _ (λ is. sym c.if-ne.true ∙ c.ne.ensures ∙ rw (c.kind.ensures, is) refl)
