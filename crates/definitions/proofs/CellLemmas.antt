-- Cells come with samples.
use Rattle.std.proofs.Common.{ℕ, ◌+◌, ◌-◌, ◌/◌, ◌≤◌, arith}
use Rattle.std.specs.Prelude.{min}
use Rattle.definitions.specs.Acquisition.{cell_count, dwell_end}
use Rattle.definitions.specs.SlotLaws.{CellsComeWithSamples}

bounded : (cells end t m : ℕ)
    → min cells ((t + m - end) / 4) ≤ min cells ((t - end) / 4) + (m / 4 + 1)
bounded cells end t m = omega arith

pub cells-come : CellsComeWithSamples
cells-come settings plan start t m = bounded (cell_count plan) (dwell_end settings plan start) t m
