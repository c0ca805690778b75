-- The verbs of the code, and the values of words that it reads, as the definitions have them.
use Rattle.std.specs.Prelude.{◌≡◌, ℕ, ℤ, pos, List, [], ◌∷◌, Result, Ok, Err}
use Rattle.definitions.specs.Acquisition.{Plan}
use Rattle.definitions.specs.Scripts.{Verb as DefinedVerb, hold_verb, track_verb, acquire_verb}
use Rattle.definitions.specs.Scripts.{counts_verb, state_verb, stop_verb, Range, values_in}
use Rattle.definitions.specs.Scripts.{with_value}
use Rattle.acquisition.specs.declared.signal.Signal.{Signal}
use Rattle.client_commands.specs.declared.refusal.LineRefusal.{LineRefusal}
use Rattle.client_commands.specs.declared.verb.Verb.{Verb}
use Rattle.client_commands.specs.declared.verb.Verb.TheVariants.{Hold, Track, Acquire, Counts}
use Rattle.client_commands.specs.declared.verb.Verb.TheVariants.{State, Stop}
use Rattle.client_commands.specs.Entries.{number_of}

-- a verb of the code
abbrev pub verb_in : Verb → DefinedVerb
verb_in Hold = hold_verb
verb_in Track = track_verb
verb_in Acquire = acquire_verb
verb_in Counts = counts_verb
verb_in State = state_verb
verb_in Stop = stop_verb

-- the values of words of which the first gives this integer, or is refused
abbrev pub with_integer : Result ℤ LineRefusal → Result (List ℤ) ℕ → Result (List ℤ) ℕ
with_integer (Ok integer) others = with_value integer others
with_integer (Err refusal) others = Err (number_of refusal)

abbrev pub with_number : Result ℕ LineRefusal → Result (List ℤ) ℕ → Result (List ℤ) ℕ
with_number (Ok number) others = with_value (pos number) others
with_number (Err refusal) others = Err (number_of refusal)

-- the first of the words was read so, by its range, whatever is to follow
abbrev pub ReadsInteger : Range → List (List ℕ) → Result ℤ LineRefusal → List (List ℕ) → Type 0
ReadsInteger range old first new = (ranges : List Range)
    → values_in (range ∷ ranges) old ≡ with_integer first (values_in ranges new)

abbrev pub ReadsNumber : Range → List (List ℕ) → Result ℕ LineRefusal → List (List ℕ) → Type 0
ReadsNumber range old first new = (ranges : List Range)
    → values_in (range ∷ ranges) old ≡ with_number first (values_in ranges new)

-- the values of the three words of a signal, or the refusal of one of them
abbrev pub values_of_signal : Result Signal LineRefusal → Result (List ℤ) ℕ
values_of_signal (Ok s) = Ok (pos s.prn ∷ s.doppler ∷ pos s.half ∷ [])
values_of_signal (Err refusal) = Err (number_of refusal)

-- the values of the five words of a plan, or the refusal of one of them
abbrev pub values_of_plan : Result Plan LineRefusal → Result (List ℤ) ℕ
values_of_plan (Ok p) =
    Ok (pos p.prn ∷ p.centre ∷ pos p.bins ∷ pos p.dwell ∷ pos p.threshold ∷ [])
values_of_plan (Err refusal) = Err (number_of refusal)
