use Rattle.std.proofs.Common.{refl, arith, w32}
use Rattle.std.proofs.lemmas.Int.{to_z-of_z, fits_signed_from_abs}
use Rattle.acquisition.proofs.sums.Sums.power.Goals as goal

pub returns-clause-value : goal.returns-clause-value
returns-clause-value c =
    let s = c.args.self in
    rw (
      c.square.ensures.value,
      c.square-2.ensures.value,
      to_z-of_z w32 s.in_phase
          (fits_signed_from_abs w32 s.in_phase (omega (arith, c.requires.in_phase))),
      to_z-of_z w32 s.quadrature
          (fits_signed_from_abs w32 s.quadrature (omega (arith, c.requires.quadrature))),
    )
    refl
