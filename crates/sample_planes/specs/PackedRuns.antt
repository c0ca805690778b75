-- Runs of packed samples.
use Rattle.std.specs.Prelude.{ℕ, List, take, drop}
use Rattle.definitions.specs.Samples.{Sample, Packing}

-- samples in order, and how they are packed
pub record PackedRun : Type 0 where
  pub packing : Packing
  pub samples : List Sample

-- the first n of them, and those after these
abbrev pub front_of : ℕ → PackedRun → PackedRun
front_of n run = record { packing = run.packing; samples = take n run.samples }

abbrev pub back_of : ℕ → PackedRun → PackedRun
back_of n run = record { packing = run.packing; samples = drop n run.samples }
