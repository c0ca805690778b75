-- What a bank answers to an entry, and what it then stands for.
use Rattle.std.proofs.Common.{◌≡◌, ℕ, List, [], ◌∷◌, ◌++◌, refl, sym, ap, ◌∙◌, append-nil}
use Rattle.std.specs.Prelude.{Bool, true, false, nat_eq, if◌then◌else◌, Option, Some, None, Ok, Err}
use Rattle.std.specs.Prelude.{filter_map}
use Rattle.std.proofs.lemmas.Bool.{eqb-true, ne_eqb, eq-eqb, eqb-false}
use Rattle.definitions.specs.Scripts.{Entry}
use Rattle.definitions.specs.Commands.{Command as DefinedCommand, TimedRequest}
use Rattle.definitions.specs.Receiver.{commands_to, command_to}
use Rattle.definitions.specs.Banks.{with_command}
use Rattle.receiver.specs.Sessions.{asked_of, with_entry}

given_to : ℕ → Entry → Option TimedRequest
given_to slot e = command_to slot e.time e.what

-- one entry more
one-more : (slot : ℕ) (entries : List Entry) (e : Entry)
    → filter_map (given_to slot) (entries ++ e ∷ [])
    ≡ filter_map (given_to slot) entries ++ filter_map (given_to slot) (e ∷ [])
one-more slot [] e = refl
one-more slot (d ∷ entries) e = by_first (given_to slot d) refl (one-more slot entries e)
  where
    by_first : (o : Option TimedRequest) → given_to slot d ≡ o
        → filter_map (given_to slot) (entries ++ e ∷ [])
        ≡ filter_map (given_to slot) entries ++ filter_map (given_to slot) (e ∷ [])
        → filter_map (given_to slot) ((d ∷ entries) ++ e ∷ [])
        ≡ filter_map (given_to slot) (d ∷ entries) ++ filter_map (given_to slot) (e ∷ [])
    by_first None is rest = rw is rest
    by_first (Some c) is rest = rw is (ap (λ (l : List TimedRequest). c ∷ l) rest)

-- a refused one asks nothing of any slot
pub refused-asks-nothing : (slot : ℕ) (entries : List Entry) (time number : ℕ)
    → commands_to slot (entries ++ record { time = time; what = Err number } ∷ [])
    ≡ commands_to slot entries
unfolding commands_to given_to
refused-asks-nothing slot entries time number =
    one-more slot entries (record { time = time; what = Err number })
    ∙ append-nil (filter_map (given_to slot) entries)

-- a command asks of its own slot alone
asks-own : (slot : ℕ) (entries : List Entry) (time : ℕ) (command : DefinedCommand)
    → command.slot ≡ slot
    → commands_to slot (entries ++ record { time = time; what = Ok command } ∷ [])
    ≡ commands_to slot entries ++ record { time = time; request = command.request } ∷ []
unfolding commands_to given_to
asks-own slot entries time command own =
    let here : nat_eq command.slot slot ≡ true = eq-eqb command.slot slot own in
    let last : filter_map (given_to slot) (record { time = time; what = Ok command } ∷ [])
    ≡ record { time = time; request = command.request } ∷ [] = rw here refl in
    one-more slot entries (record { time = time; what = Ok command })
    ∙ ap (λ (l : List TimedRequest). filter_map (given_to slot) entries ++ l) last

asks-not : (slot : ℕ) (entries : List Entry) (time : ℕ) (command : DefinedCommand)
    → (command.slot ≡ slot → ⊥)
    → commands_to slot (entries ++ record { time = time; what = Ok command } ∷ [])
    ≡ commands_to slot entries
unfolding commands_to given_to
asks-not slot entries time command other =
    let here : nat_eq command.slot slot ≡ false = ne_eqb command.slot slot other in
    let last : filter_map (given_to slot) (record { time = time; what = Ok command } ∷ []) ≡ [] =
    rw here refl in
    one-more slot entries (record { time = time; what = Ok command })
    ∙ ap (λ (l : List TimedRequest). filter_map (given_to slot) entries ++ l) last
    ∙ append-nil (filter_map (given_to slot) entries)

module _ (done : ℕ → List Entry) (client time : ℕ) where
  abbrev refused : ℕ → Entry
  refused number = record { time = time; what = Err number }

  abbrev given : DefinedCommand → Entry
  given command = record { time = time; what = Ok command }

  -- tables of commands that agree everywhere are one
  agree : (f g : ℕ → ℕ → List TimedRequest) → ((c s : ℕ) → f c s ≡ g c s) → f ≡ g
  agree f g e i = λ c s. e c s i

  pub refused-same : (number : ℕ)
      → asked_of done ≡ asked_of (with_entry done client (refused number))
  refused-same number =
      agree (asked_of done) (asked_of (with_entry done client (refused number)))
      (λ c s. at c s (nat_eq c client) refl)
    where
      at : (c s : ℕ) (b : Bool) → nat_eq c client ≡ b
          → commands_to s (done c)
          ≡ commands_to s (if nat_eq c client then done c ++ refused number ∷ [] else done c)
      at c s true is = rw is (sym (refused-asks-nothing s (done c) time number))
      at c s false is = rw is refl

  pub command-added : (command : DefinedCommand)
      → with_command (asked_of done) client command.slot time command.request
      ≡ asked_of (with_entry done client (given command))
  command-added command =
      agree (with_command (asked_of done) client command.slot time command.request)
      (asked_of (with_entry done client (given command)))
      (λ c s. at c s (nat_eq c client) refl (nat_eq s command.slot) refl)
    where
      at : (c s : ℕ) (b : Bool) → nat_eq c client ≡ b → (d : Bool) → nat_eq s command.slot ≡ d
          → with_command (asked_of done) client command.slot time command.request c s
          ≡ commands_to s (if nat_eq c client then done c ++ given command ∷ [] else done c)
      at c s false is d is_slot = rw is refl
      at c s true is true is_slot =
          rw (is, is_slot)
          (sym (asks-own s (done c) time command (sym (eqb-true s command.slot is_slot))))
      at c s true is false is_slot =
          rw (is, is_slot)
          (sym (asks-not s (done c) time command
          (λ same. eqb-false s command.slot is_slot (sym same))))
