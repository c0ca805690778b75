-- What a message stands for: the prompt sums that were pushed.
use Rattle.std.specs.Prelude.{ℕ, ℤ, Bool, List}
use Rattle.definitions.specs.BitEdge.{bits_of}
use Rattle.definitions.specs.Events.{pages_among}
use Rattle.bit_sync.specs.Standing as bits
use Rattle.frame_sync.specs.Search as frames
use Rattle.data_sets.specs.Standing as sets
use Rattle.nav_message.specs.declared.message.Message.{Message}

-- the bits that it has read, and the pages among them
pub record HasRead (bits : List Bool) (message : Message) : Type 0 where
  pub frames : frames.StandsFor bits message.frames
  pub sets : sets.StandsFor (pages_among bits) message.sets

pub record StandsFor (pushes : List ℤ) (message : Message) : Type 0 where
  pub bits : bits.StandsFor pushes message.bits
  pub frames : frames.StandsFor (bits_of pushes) message.frames
  pub sets : sets.StandsFor (pages_among (bits_of pushes)) message.sets

-- how many bits it has had
abbrev pub bit_count : Message → ℕ
bit_count message = frames.pushed_of message.frames
