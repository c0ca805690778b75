-- What is left of the clients' scripts.
use Rattle.std.specs.Prelude.{◌≡◌, ◌≤◌, ◌<◌, ◌+◌, ◌-◌, ◌⊎◌, ℕ, List, [], ◌∷◌, ◌++◌, length, min}
use Rattle.std.specs.Prelude.{Bool, true, false, nat_lt, ◌&&◌, Result, Ok, Err}
use Rattle.std.specs.List.{list_all}
use Rattle.definitions.specs.Commands.{Command}
use Rattle.definitions.specs.Scripts.{Entry}
use Rattle.client_commands.specs.Entries.{entries_in, result_in}
use Rattle.receiver.specs.declared.queue.Queue.{Queue}
use Rattle.receiver.specs.declared.due.Due.{Due}

-- the entries to come
abbrev pub left_of : Queue → List Entry
left_of queue = entries_in queue.next ++ queue.rest

-- a command asks a slot of a share; a refused line asks none
abbrev pub asks_in_share : ℕ → Result Command ℕ → Bool
asks_in_share share (Ok command) = nat_lt command.slot share
asks_in_share share (Err refusal) = true

-- so for the entries that are left of each queue, with the share of its client
abbrev pub are_in_shares : List ℕ → List Queue → Bool
are_in_shares [] [] = true
are_in_shares [] (q ∷ qs) = false
are_in_shares (s ∷ ss) [] = false
are_in_shares (s ∷ ss) (q ∷ qs) =
    list_all (λ (e : Entry). asks_in_share s e.what) (left_of q) && are_in_shares ss qs

-- the first of these entries stands after a time
abbrev pub NoneDue : ℕ → List Entry → Type 0
NoneDue now [] = Unit {0}
NoneDue now (e ∷ es) = now < e.time

-- the samples until the first of them
abbrev pub gap : ℕ → List Entry → ℕ
gap now [] = 18446744073709551615
gap now (e ∷ es) = e.time - now

-- the samples until the first entry of any
abbrev pub least_gap_of : ℕ → List Queue → ℕ
least_gap_of now [] = 18446744073709551615
least_gap_of now (q ∷ qs) = min (gap now (left_of q)) (least_gap_of now qs)

-- how many entries are to come
abbrev pub all_left : List Queue → ℕ
all_left [] = 0
all_left (q ∷ qs) = length (left_of q) + all_left qs

-- the first entry of a queue was taken, which was due
pub record IsTaken (now : ℕ) (old new : Queue) (due : Due) : Type 0 where
  pub entry : Entry
  pub first : left_of old ≡ entry ∷ left_of new
  pub is_due : entry.time ≤ now
  pub what : entry.what ≡ result_in due.what

-- of queues whose clients are numbered from b on, the first that had an entry due gave it
abbrev pub TakesDue : ℕ → ℕ → List Queue → List Queue → Due → Type 0
TakesDue now b [] new due = ⊥
TakesDue now b (q ∷ qs) [] due = ⊥
TakesDue now b (q ∷ qs) (r ∷ rs) due =
    ((due.client ≡ b) × IsTaken now q r due × (rs ≡ qs))
    ⊎ (NoneDue now (left_of q) × (r ≡ q) × TakesDue now (b + 1) qs rs due)
