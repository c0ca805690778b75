-- What the bank emits and answers, line by line.
use Rattle.std.proofs.Common.{◌≡◌, ℕ, suc, ◌<◌, ◌≤◌, List, [], ◌∷◌, ◌++◌, length, take, refl}
use Rattle.std.proofs.Common.{sym, ap, ◌∙◌, append_assoc, append-nil, arith}
use Rattle.std.specs.Prelude.{map}
use Rattle.std.proofs.lemmas.List.{length-take}
use Rattle.definitions.specs.Samples.{Sample}
use Rattle.definitions.specs.Oscillators.{Settings}
use Rattle.definitions.specs.Scripts.{Entry}
use Rattle.definitions.specs.Banks.{SlotEvent as DefinedSlotEvent, line_of as defined_line_of}
use Rattle.definitions.specs.Banks.{bank_events_at_end}
use Rattle.definitions.specs.Banks.{layout}
use Rattle.definitions.specs.Receiver.{Client, body_lines, lines_at, event_lines, answer_lines}
use Rattle.definitions.specs.Receiver.{at_each_sample}
use Rattle.definitions.proofs.BodyLemmas.{body_lines-more}
use Rattle.definitions.proofs.TellLemmas.{shares_of, at_each_sample-lines}
use Rattle.slot_protocol.specs.declared.event.SlotEvent.{SlotEvent}
use Rattle.slot_protocol.specs.Events.{AreEvents, line_of, slot_event_in}
use Rattle.receiver.specs.declared.queue.Queue.{Queue}
use Rattle.receiver.specs.Queues.{least_gap_of}
use Rattle.receiver.specs.Sessions.{AreQueues, asked_of}
use Rattle.receiver.proofs.SessionLemmas.{quiet, asked-each}

pub lines-told : (events : List SlotEvent) (told : List DefinedSlotEvent) → AreEvents events told
    → map line_of events ≡ map defined_line_of told
lines-told events told e = from_map events ∙ ap (map defined_line_of) e
  where
    from_map : (es : List SlotEvent) → map line_of es ≡ map defined_line_of (map slot_event_in es)
    from_map [] = refl
    from_map (e ∷ es) = ap (λ (l : List (List ℕ)). line_of e ∷ l) (from_map es)

-- the lines of a stretch of samples before the last of which nothing is answered
stretch : (settings : Settings) (cs : List Client) (xs ys : List Sample) → 0 < length ys
    → ((j : ℕ) → 0 < j → j < length ys → answer_lines settings cs (xs ++ take j ys) ≡ [])
    → body_lines settings (xs ++ ys) cs
    ≡ body_lines settings xs cs
    ++ at_each_sample (event_lines settings cs) xs ys
    ++ answer_lines settings cs (xs ++ ys)
unfolding at_each_sample lines_at
stretch settings cs xs [] some quiet = absurd (omega arith)
stretch settings cs xs (y ∷ []) some quiet =
    let told : List (List ℕ) = event_lines settings cs (xs ++ y ∷ []) in
    body_lines-more settings xs y cs
    ∙ sym (append_assoc (body_lines settings xs cs) told
    (answer_lines settings cs (xs ++ y ∷ [])))
    ∙ ap (λ (l : List (List ℕ)). body_lines settings xs cs ++ l
    ++ answer_lines settings cs (xs ++ y ∷ [])) (sym (append-nil told))
stretch settings cs xs (y ∷ z ∷ ys) some quiet =
    let one : List Sample = xs ++ y ∷ [] in
    let whole : (xs ++ y ∷ []) ++ (z ∷ ys) ≡ xs ++ (y ∷ z ∷ ys) =
    append_assoc xs (y ∷ []) (z ∷ ys) in
    let told : List (List ℕ) = event_lines settings cs one in
    let tells : List (List ℕ) = at_each_sample (event_lines settings cs) one (z ∷ ys) in
    let none : answer_lines settings cs one ≡ [] = quiet 1 (omega arith) (omega arith) in
    let first : body_lines settings one cs ≡ body_lines settings xs cs ++ told =
    body_lines-more settings xs y cs
    ∙ ap (λ (l : List (List ℕ)). body_lines settings xs cs ++ (told ++ l)) none
    ∙ ap (λ (l : List (List ℕ)). body_lines settings xs cs ++ l) (append-nil told) in
    let rest =
    stretch settings cs one (z ∷ ys) (omega arith)
    (λ j f b. ap (answer_lines settings cs)
    (append_assoc xs (y ∷ []) (take j (z ∷ ys)))
    ∙ quiet (suc j) (omega arith) (omega (arith, b))) in
    ap (λ (l : List Sample). body_lines settings l cs) (sym whole)
    ∙ rest
    ∙ ap (λ (l : List (List ℕ)). l ++ tells ++ answer_lines settings cs (one ++ (z ∷ ys)))
    first
    ∙ ap (λ (l : List (List ℕ)). l ++ answer_lines settings cs (one ++ (z ∷ ys)))
    (append_assoc (body_lines settings xs cs) told tells)
    ∙ ap (λ (l : List Sample). body_lines settings xs cs ++ (told ++ tells)
    ++ answer_lines settings cs l) whole

pub told-stretch : (settings : Settings) (cs : List Client) (qs : List Queue)
    (done : ℕ → List Entry) (xs ys : List Sample) (events_told : List SlotEvent) → 0 < length ys
    → AreQueues xs done 1 cs qs → length ys ≤ least_gap_of (length xs) qs
    → AreEvents events_told
    (at_each_sample (bank_events_at_end settings (layout (shares_of cs)) (asked_of done)) xs ys)
    → body_lines settings (xs ++ ys) cs
    ≡ body_lines settings xs cs ++ map line_of events_told
    ++ answer_lines settings cs (xs ++ ys)
told-stretch settings cs qs done xs ys events_told some all free told =
    let events : List DefinedSlotEvent =
    at_each_sample (bank_events_at_end settings (layout (shares_of cs)) (asked_of done)) xs
    ys in
    let lines : map line_of events_told ≡ at_each_sample (event_lines settings cs) xs ys =
    lines-told events_told events told
    ∙ at_each_sample-lines settings (asked_of done) cs xs ys
    (λ j more within k client found s. asked-each settings xs ys done some (take j ys)
    (omega (arith, length-take j ys)) (omega (arith, length-take j ys)) 1 cs qs all free k
    client found s) in
    stretch settings cs xs ys some
    (λ j f b. quiet settings xs ys done some (take j ys) (omega (arith, length-take j ys))
    (omega (arith, length-take j ys)) cs qs all free)
    ∙ ap (λ (l : List (List ℕ)). body_lines settings xs cs ++ l
    ++ answer_lines settings cs (xs ++ ys)) (sym lines)
