use Rattle.std.proofs.Common.{refl}
use Rattle.definitions.specs.Scripts.{values_in}
use Rattle.client_commands.proofs.ReadingLemmas.{passed_on}
use Rattle.client_commands.proofs.signal.read_signal.Goals as goal

pub returns-in_err-prn : goal.returns-in_err-prn
returns-in_err-prn c = rw (passed_on _ c.from_residual.ensures.1)
    (simp c.in_err-prn.ensures.value refl)

pub returns-in_err-doppler : goal.returns-in_err-doppler
returns-in_err-doppler c = rw (passed_on _ c.from_residual-in_err-doppler.ensures.1)
    (simp (c.in_ok-prn.ensures.value, c.in_err-doppler.ensures.value) refl)

pub returns-in_err-half_chip : goal.returns-in_err-half_chip
returns-in_err-half_chip c = rw (passed_on _ c.from_residual-in_err-half_chip.ensures.1)
    (simp (
      c.in_ok-prn.ensures.value,
      c.in_ok-doppler.ensures.value,
      c.in_err-half_chip.ensures.value,
    ) refl)

pub returns : goal.returns
unfolding values_in
returns c =
    simp (c.in_ok-prn.ensures.value, c.in_ok-doppler.ensures.value, c.in_ok-half_chip.ensures.value)
    refl
