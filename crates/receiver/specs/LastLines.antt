-- The last lines of clients.
use Rattle.std.specs.Prelude.{ℕ, List, [], map, codes, length}
use Rattle.std.specs.List.{range_with_len}
use Rattle.definitions.specs.Lines.{as_bytes}
use Rattle.definitions.specs.Texts.{for_client, at_time}
use Rattle.channel_slots.specs.BankStates.{shares_of}
use Rattle.receiver.specs.Sessions.{time_of}
use Rattle.receiver.specs.declared.faults.Stop.{Stop}
use Rattle.receiver.specs.declared.faults.Stop.TheVariants.{AtEnd, ReadFailed, PastLimit}
use Rattle.receiver.specs.declared.session.Session.{Session}

-- the last lines of n clients that are numbered from b on
abbrev pub ends : ℕ → ℕ → ℕ → List (List ℕ)
ends time b n = map (λ client. for_client client (at_time time (codes "end"))) (range_with_len b n)

-- those of all clients of a session
abbrev pub all_ends : Session → List ℕ
all_ends session = as_bytes (ends (time_of session) 1 (length (shares_of session.bank)))

-- what comes last for a stop: the ends, where all was read
abbrev pub last_text : Stop → Session → List ℕ
last_text AtEnd session = all_ends session
last_text ReadFailed session = []
last_text PastLimit session = []
