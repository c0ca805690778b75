-- What a history of samples holds.
use Rattle.std.specs.Prelude.{◌≡◌, ℕ, ◌-◌, ◌*◌, ◌/◌, ◌≤◌, List, [], ◌∷◌, ◌++◌, length}
use Rattle.definitions.specs.Samples.{Sample, Packing, sample, samples_per_byte}
use Rattle.sample_planes.specs.Packings.{packing_of}
use Rattle.sample_planes.specs.Sources.{AreSamplesOf}
use Rattle.sample_history.specs.declared.history.SampleHistory.{SampleHistory}

abbrev pub packing_in : SampleHistory → Packing
packing_in h = packing_of h.format

-- how many samples it has taken
abbrev pub taken_of : SampleHistory → ℕ
taken_of h = h.taken

-- how many of the last samples it holds at least, once it has taken them
abbrev pub room_of : SampleHistory → ℕ
room_of h = samples_per_byte (packing_in h) * h.whole.capacity

-- the number of the first sample that it holds
abbrev pub first_of : SampleHistory → ℕ
first_of h =
    samples_per_byte (packing_in h)
    * (h.taken / samples_per_byte (packing_in h) - length h.whole.items)

-- its bytes, the one that isn't full the last
abbrev pub bytes_of : SampleHistory → List ℕ
bytes_of h = h.whole.items ++ h.partial ∷ []

-- the sample with a number
abbrev pub held_in : SampleHistory → ℕ → Sample
held_in h n = sample (packing_in h) (bytes_of h) (n - first_of h)

-- it has taken the samples of a list, and holds the last of them
pub record StandsFor (xs : List Sample) (h : SampleHistory) : Type 0 where
  pub taken : taken_of h ≡ length xs
  pub held : AreSamplesOf xs (first_of h) (taken_of h) (held_in h)
  pub kept : first_of h ≤ taken_of h - room_of h
