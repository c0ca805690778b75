-- What a window stands for: the samples so far.
use Rattle.std.specs.Prelude.{◌≡◌, ◌≤◌, ◌<◌, ◌-◌, ℕ, List, length, take, drop}
use Rattle.definitions.specs.Samples.{Sample}
use Rattle.sample_history.specs.declared.history.SampleHistory.{SampleHistory}
use Rattle.sample_history.specs.Histories as histories
use Rattle.channels.specs.declared.dump.Dump.{Dump}
use Rattle.channels.specs.declared.window.Window.{Window}

-- all samples that it holds
abbrev pub history_of : Window → SampleHistory
history_of w = w.history

-- the number of the first open sample, and that after the last one
abbrev pub first_of : Window → ℕ
first_of w = w.first

abbrev pub end_of : Window → ℕ
end_of w = histories.taken_of w.history

-- the number after that of the last one that is unpacked
abbrev pub unpacked_of : Window → ℕ
unpacked_of w = w.unpacked

-- the open samples, as far as they are unpacked
abbrev pub planes_of : Window → List Sample
planes_of w = w.planes

-- the dump that came last
abbrev pub dump_of : Window → Dump
dump_of w = w.dump

-- the samples so far, of which the open ones are unpacked as far as is said
pub record StandsFor (xs : List Sample) (w : Window) : Type 0 where
  pub history : histories.StandsFor xs w.history
  pub planes : w.first < w.unpacked → planes_of w ≡ take (w.unpacked - w.first) (drop w.first xs)

-- it stands for these samples, and perhaps more after them
pub record IsOver (xs : List Sample) (w : Window) : Type 0 where
  pub all : List Sample
  pub stands : StandsFor all w
  pub begins : take (length xs) all ≡ xs
  pub within : length xs ≤ length all

-- it stands for the same, with the same samples open
pub record IsSame (old new : Window) : Type 0 where
  pub first : first_of new ≡ first_of old
  pub end : end_of new ≡ end_of old
  pub history : history_of new ≡ history_of old
  pub stands : (xs : List Sample) → StandsFor xs old → StandsFor xs new
