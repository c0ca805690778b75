-- A writer with the text that is held back for it.
use Rattle.std.specs.Prelude.{◌≡◌, ℕ, List, drop, Option, Result, MatchResult}
use Rattle.std.specs.Io.KnownBytes.{Appends, Keeps, append_known}
use Rattle.devices.specs.Calls.{ReportsFailure}
use Rattle.receiver.specs.Texts.{AppendsPart, Grows}
use Rattle.devices.specs.declared.sink.Sink.{Ghosts as Sink}
use Rattle.receiver.specs.declared.output.Output.{Output}

-- what the writer hasn't taken yet
abbrev pub held : {W : Type 0} → Output W → List ℕ
held out = drop out.sent out.bytes.items

-- what the writer holds
abbrev pub contents_of : {W : Type 0} → Sink W → Output W → Option (List ℕ)
contents_of sink out = sink.contents out.writer.now

-- what the writer will hold when it has taken all that is held back for it
abbrev pub promised : {W : Type 0} → Sink W → Output W → Option (List ℕ)
promised sink out = append_known (contents_of sink out) (held out)

-- known bytes grew by a line, or stayed as they were where a write failed
abbrev pub Puts : {A E : Type 0} → Option (List ℕ) → Option (List ℕ) → List ℕ → Result A E
    → Type 0
Puts old new line result = MatchResult result (λ _. Appends old new line) (λ _. Keeps old new)

-- known bytes grew by a text, or by a front of it where a write failed
abbrev pub Adds : {A E : Type 0} → Option (List ℕ) → Option (List ℕ) → List ℕ → Result A E
    → Type 0
Adds old new text result =
    MatchResult result (λ _. Appends old new text) (λ _. AppendsPart old new text)

-- the same writer only grew, and it failed where the result says so
pub record Writes {W A E : Type 0} (sink : Sink W) (old new : Output W) (result : Result A E)
    : Type 0 where
  pub same : new.writer.ghost_name ≡ old.writer.ghost_name
  pub grows : Grows (contents_of sink old) (contents_of sink new)
  pub failure : ReportsFailure (sink.has_failed old.writer.now) (sink.has_failed new.writer.now)
      result
