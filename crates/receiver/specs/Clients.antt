-- The clients of a run.
use Rattle.std.specs.Prelude.{ℕ, List, map, zip, replicate, length}
use Rattle.definitions.specs.Receiver.{Client}

-- a client with a share of the slots and the text of its script
abbrev pub client_with : ℕ → List ℕ → Client
client_with slots script = record { slots = slots; script = script }

-- the clients that these shares and these scripts make
abbrev pub clients_with : List ℕ → List (List ℕ) → List Client
clients_with shares scripts =
    map (λ (slots, script). client_with slots script) (zip shares scripts)

-- a share of four slots for each script
abbrev pub four_each : List (List ℕ) → List ℕ
four_each scripts = replicate (length scripts) 4
