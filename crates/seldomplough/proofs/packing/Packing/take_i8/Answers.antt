use Rattle.std.proofs.Common.{◌∙◌, sym, refl}
use Rattle.seldomplough.proofs.KindLemmas.{other-kind}
use Rattle.seldomplough.proofs.packing.Packing.take_i8.Goals as goal

pub returns-then-ne-clause-kind : goal.returns-then-ne-clause-kind
returns-then-ne-clause-kind c =
    other-kind _ _ _ (λ is. sym c.if-ne.true ∙ c.ne.ensures ∙ rw (c.kind.ensures, is) refl)
