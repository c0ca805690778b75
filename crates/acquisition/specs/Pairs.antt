-- What pairs of sums stand for.
use Rattle.std.specs.Prelude.{◌≡◌, ◌+◌, ◌-◌, ◌*◌, ◌/◌, ◌%◌, ◌^◌, ℕ, pos, ◌+ℤ◌, ◌-ℤ◌}
use Rattle.definitions.specs.Acquisition.{square}
use Rattle.acquisition.specs.declared.chip_ring.TheConstants.{RAISED}
use Rattle.acquisition.specs.declared.pair_powers.RaisedWhole.{RaisedWhole}
use Rattle.acquisition.specs.declared.period_sums.PeriodSums.{PeriodSums}

-- the sums over all samples, each raised by 2^16: the pair of their halves, modulo 2^32, of which
-- the first is raised by what raises the sum over so many chips of 1, and what the halves leave
pub record IsRaisedWhole (sums : PeriodSums) (ones : ℕ) (whole : RaisedWhole) : Type 0 where
  pub in_phase : ℕ
  pub quadrature : ℕ
  pub is_in_phase : pos in_phase ≡ sums.whole.in_phase +ℤ pos (2 ^ 16)
  pub is_quadrature : pos quadrature ≡ sums.whole.quadrature +ℤ pos (2 ^ 16)
  pub are_halves : whole.halves
      ≡ (in_phase / 2 + RAISED * ones + 2 ^ 16 * (quadrature / 2)) % 2 ^ 32
  pub in_phase_rest : whole.in_phase_rest ≡ in_phase % 2
  pub quadrature_rest : whole.quadrature_rest ≡ quadrature % 2

-- half the pair of a cell: that of all samples less that at chips of 1, modulo 2^32
abbrev pub half_pair : ℕ → ℕ → ℕ
half_pair whole picked = (whole + (2 ^ 32 - picked)) % 2 ^ 32

-- the power of a cell, from half its pair and what the halves leave
abbrev pub power_of_pair : ℕ → RaisedWhole → ℕ
power_of_pair pair whole =
    square (pos (2 * (pair % 2 ^ 16) + whole.in_phase_rest) -ℤ pos (2 ^ 16))
    + square (pos (2 * (pair / 2 ^ 16) + whole.quadrature_rest) -ℤ pos (2 ^ 16))
