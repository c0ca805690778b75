-- A run from its parts.
use Rattle.std.proofs.Common.{◌≡◌, ◌≤◌, ◌<◌, ℕ, List, [], take, refl, sym, ap, ◌∙◌, subst}
use Rattle.std.proofs.Common.{arith, ◌⊎◌, inl, inr, ◌++◌, append-nil}
use Rattle.std.specs.Prelude.{Option}
use Rattle.std.specs.Io.KnownBytes.{Appends, Keeps}
use Rattle.std.proofs.KnownBytes.{Appends-kept}
use Rattle.std.proofs.lemmas.List.{take_all}
use Rattle.definitions.specs.Oscillators.{Settings}
use Rattle.definitions.specs.Samples.{Sample, Packing, real1, real2, iq1, iq2, samples}
use Rattle.definitions.specs.Samples.{samples_from}
use Rattle.definitions.specs.Receiver.{Client}
use Rattle.definitions.specs.Lines.{as_bytes}
use Rattle.definitions.specs.Receiver.{body}
use Rattle.receiver.specs.declared.session.Session.{Session}
use Rattle.receiver.specs.declared.faults.Stop.{Stop}
use Rattle.receiver.specs.declared.faults.Stop.TheVariants.{AtEnd, ReadFailed, PastLimit}
use Rattle.receiver.specs.Texts.{AppendsPart}
use Rattle.receiver.proofs.HeldLemmas.{none-held}
use Rattle.receiver.proofs.AnswerLemmas.{full-is}
use Rattle.receiver.proofs.OpeningLemmas.{ends-are}
use Rattle.receiver.proofs.SessionLemmas.{same-number}
use Rattle.receiver.specs.LastLines.{ends, last_text}
use Rattle.receiver.specs.Outputs.{held, promised}
use Rattle.devices.specs.declared.sink.Sink.{Ghosts as Sink}
use Rattle.receiver.specs.declared.output.Output.{Output}
use Rattle.definitions.specs.Receiver.{answer_lines}
use Rattle.receiver.specs.Sessions.{StandsFor, time_of}
use Rattle.std.specs.Prelude.{Result, Ok, Err, ◌↔◌}
use Rattle.std.proofs.lemmas.Bool.{cases_lt}
use Rattle.receiver.specs.Runs.{IsOpen, IsWrittenTo, samples_read}
use Rattle.receiver.specs.Runs.{text_for}
use Rattle.receiver.proofs.TextLemmas.{wrote-all, wrote-text, wrote-part, wrote-front}

-- before the first read all answers at time 0 are written or held back, where nothing was held back
-- before
pub opened : (settings : Settings) (clients : List Client) (session answered : Session)
    (start a b : Option (List ℕ)) → a ≡ start → IsOpen settings clients session
    → Appends a b (as_bytes (answer_lines settings clients []))
    × StandsFor settings clients answered [] []
    → IsWrittenTo settings clients start answered b []
unfolding body
opened settings clients session answered start a b none open_is p = record {
  stands = p.1;
  written = subst (Appends start b) (ap as_bytes (sym open_is.first)) (rw none at p.0);
}

-- an output that was made holds nothing back
pub promised-new : {W : Type 0} (sink : Sink W) (out : Output W) (writer : W)
    → out.writer.now ≡ writer → held out ≡ [] → promised sink out ≡ sink.contents writer
promised-new sink out writer same none =
    none-held (sink.contents out.writer.now) (held out) none ∙ ap sink.contents same

-- the text for a stop ends with what comes last
pub text-whole : (settings : Settings) (clients : List Client) (session : Session)
    (xs : List Sample) (stop : Stop) → StandsFor settings clients session xs []
    → text_for stop settings xs clients
    ≡ body settings xs clients ++ last_text stop session
text-whole settings clients session xs AtEnd s =
    full-is settings xs clients
    ∙ ap (λ (l : List (List ℕ)). body settings xs clients ++ as_bytes l)
    (ends-are (time_of session) xs clients (sym s.bank.now))
    ∙ ap (λ (m : ℕ). body settings xs clients ++ as_bytes (ends (time_of session) 1 m))
    (same-number xs s.done 1 clients session.queues.items s.queues ∙ session.clients)
text-whole settings clients session xs ReadFailed s = sym (append-nil (body settings xs clients))
text-whole settings clients session xs PastLimit s = sym (append-nil (body settings xs clients))

-- what comes last was added to the lines, or a front of it
pub last-all : (settings : Settings) (clients : List Client) (start b c : Option (List ℕ))
    (session : Session) (xs : List Sample) (stop : Stop)
    → IsWrittenTo settings clients start session b xs → Appends b c (last_text stop session)
    → Appends start c (text_for stop settings xs clients)
last-all settings clients start b c session xs stop at p =
    wrote-all start c _ [] refl
    (wrote-text start b c _ (last_text stop session) (last_text stop session) []
    (wrote-front start b _ (body settings xs clients) (last_text stop session) at.written
    (text-whole settings clients session xs stop at.stands))
    (sym (append-nil (last_text stop session))) p)

pub last-part : (settings : Settings) (clients : List Client) (start b c : Option (List ℕ))
    (session : Session) (xs : List Sample) (stop : Stop)
    → IsWrittenTo settings clients start session b xs → AppendsPart b c (last_text stop session)
    → AppendsPart start c (text_for stop settings xs clients)
last-part settings clients start b c session xs stop at p =
    wrote-part start b c _ (last_text stop session) (last_text stop session) []
    (wrote-front start b _ (body settings xs clients) (last_text stop session) at.written
    (text-whole settings clients session xs stop at.stands))
    (sym (append-nil (last_text stop session))) p

pub samples-nil : (packing : Packing) → samples packing [] ≡ []
unfolding samples_from
samples-nil real1 = refl
samples-nil real2 = refl
samples-nil iq1 = refl
samples-nil iq2 = refl

pub none-read : (settings : Settings) (limit : ℕ) → [] ≡ samples_read settings limit []
none-read settings limit =
    sym (ap (take limit) (samples-nil settings.packing) ∙ take_all limit [] (omega arith))

-- what is written stays where the bytes are kept
pub written-kept : (settings : Settings) (clients : List Client) (start : Option (List ℕ))
    (session : Session) (b c : Option (List ℕ)) (xs : List Sample)
    → IsWrittenTo settings clients start session b xs → Keeps b c
    → IsWrittenTo settings clients start session c xs
written-kept settings clients start session b c xs at k =
    record {
      stands = at.stands;
      written = Appends-kept start b c (body settings xs clients) at.written k;
    }

-- what was opened isn't refused
pub not-both : {A E W : Type 0} (opened : A) (fault : E) → (Ok opened ≡ Err fault) ↔ W → W → ⊥
not-both {A} {E} opened fault when wrong =
    let no : 1 ≡ 0 = ap how (when.1 wrong) in omega (arith, no)
  where
    how : Result A E → ℕ
    how (Ok x) = 1
    how (Err e) = 0

-- a session was opened, so there were at most eight clients
pub few-clients : {A E : Type 0} (opened : A) (fault : E) (n : ℕ) → (Ok opened ≡ Err fault)
    ↔ ((n ≡ 0) ⊎ (8 < n)) → n ≤ 8
few-clients opened fault n when = elim (cases_lt 8 n) [
  | inl many ↦ absurd (not-both opened fault when (inr many))
  | inr few ↦ few
]
