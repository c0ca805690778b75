use Rattle.std.proofs.Common.{◌≡◌, ◌^◌, pos, refl}
use Rattle.std.specs.Prelude.{◌+ℤ◌}
use Rattle.acquisition.proofs.CellLemmas.{kept_small}
use Rattle.acquisition.proofs.period_sums.PeriodSums.raised_whole.Goals as goal

pub raised-in_phase-requires : goal.raised-in_phase-requires
raised-in_phase-requires c =
    let small = c.args.self.now.in_phase_small c.requires.small in
    rw (kept_small c.args.self.now.whole.in_phase small) small

pub raised-quadrature-requires : goal.raised-quadrature-requires
raised-quadrature-requires c =
    let small = c.args.self.now.quadrature_small c.requires.small in
    rw (kept_small c.args.self.now.whole.quadrature small) small

pub returns : goal.returns
returns c =
    let sums = c.args.self.now in
    let in_phase : pos c.raised-in_phase.result ≡ sums.whole.in_phase +ℤ pos (2 ^ 16) =
    rw (kept_small sums.whole.in_phase (sums.in_phase_small c.requires.small))
    at c.raised-in_phase.ensures.value in
    let quadrature : pos c.raised-quadrature.result ≡ sums.whole.quadrature +ℤ pos (2 ^ 16) =
    rw (kept_small sums.whole.quadrature (sums.quadrature_small c.requires.small))
    at c.raised-quadrature.ensures.value in
    record {
      in_phase = c.raised-in_phase.result;
      quadrature = c.raised-quadrature.result;
      is_in_phase = in_phase;
      is_quadrature = quadrature;
      are_halves = c.pair.ensures;
      in_phase_rest = refl;
      quadrature_rest = refl;
    }
