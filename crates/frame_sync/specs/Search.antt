-- What the search for subframes stands for, and what it finds, in the words of the definition.
use Rattle.std.specs.Prelude.{◌≡◌, ℕ, ◌+◌, ◌*◌, ◌%◌, ◌^◌, ◌<◌, ◌≤◌, Bool, nat_le, if◌then◌else◌}
use Rattle.std.specs.Prelude.{List, [], ◌∷◌, ◌++◌, map, length, Option, Some, None, option_map}
use Rattle.std.specs.Option.{ForSome}
use Rattle.std.specs.List.{range_with_len, AllByRecursion}
use Rattle.definitions.specs.Frames as frames
use Rattle.definitions.specs.Frames.{checked_at, starts_of}
use Rattle.frame_sync.specs.Bits.{number_of}
use Rattle.frame_sync.specs.declared.sync.Found.{Found}
use Rattle.frame_sync.specs.declared.incoming.Incoming.{Incoming}
use Rattle.frame_sync.specs.declared.sync.FrameSync.{FrameSync}

-- what a search found, in the words of the definition
abbrev pub found_in : Option Found → Option frames.Found
found_in found = option_map (λ (f : Found). record { subframe = f.subframe; gap = f.gap }) found

-- how many bits were pushed
abbrev pub pushed_of : FrameSync → ℕ
pushed_of sync = sync.pushed

-- the word at a place, as far as its bits are there
abbrev pub shown_at : List Bool → ℕ → Option ℕ
shown_at bits n = if nat_le (n + 30) (length bits) then checked_at bits n else None

-- a subframe whose 300 bits begin at a place, with two bits before it, and are not all there: its
-- header is, and it has the words
-- that are
pub record IsIncoming (bits : List Bool) (incoming : Incoming) : Type 0 where
  pub has_prior : 2 ≤ incoming.start
  pub has_header : incoming.start + 60 ≤ length bits
  pub is_open : length bits < incoming.start + 300
  pub words : incoming.subframe.words
      ≡ map (λ i. shown_at bits (incoming.start + 30 * i)) (range_with_len 0 10)

-- the start of a subframe that is incoming, as a list
abbrev pub open_start : Option Incoming → List ℕ
open_start None = []
open_start (Some incoming) = incoming.start ∷ []

-- the place after the last of these subframes, from where the next one is awaited
abbrev pub awaited_after : Option ℕ → List ℕ → Option ℕ
awaited_after place [] = place
awaited_after place (start ∷ starts) = awaited_after (Some (start + 300)) starts

-- the starts among the bits are those of subframes that are whole, and then of one that may be
-- incoming
pub record IsSearched (bits : List Bool) (awaited : Option ℕ) (incoming : Option Incoming) : Type
    0 where
  pub whole : List ℕ
  pub starts : starts_of bits ≡ whole ++ open_start incoming
  pub are_whole : AllByRecursion (λ start. start + 300 ≤ length bits) whole
  pub awaits : awaited ≡ awaited_after None whole
  pub comes : ForSome incoming (IsIncoming bits)

-- a search that these bits, and no others, were pushed to
pub record StandsFor (bits : List Bool) (sync : FrameSync) : Type 0 where
  pub counted : pushed_of sync ≡ length bits
  pub seen : sync.window.bits ≡ number_of bits % 2 ^ 64
  pub searched : IsSearched bits sync.awaited sync.incoming
