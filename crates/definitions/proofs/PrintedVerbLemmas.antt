-- What each line with a verb of an event is the line of.
use Rattle.std.proofs.Common.{inl, inr, ◌≡◌, ℕ, ◌+◌, List, sym, ap, ◌∙◌, refl}
use Rattle.std.specs.Prelude.{Bool, true, false, Option, Some, codes, take, bytes_eq, ◌||◌}
use Rattle.std.specs.Option.{option_map_or}
use Rattle.definitions.specs.Samples.{Sample}
use Rattle.definitions.specs.Oscillators.{Settings}
use Rattle.definitions.specs.Correlation.{Counts}
use Rattle.definitions.specs.Acquisition.{Cell}
use Rattle.definitions.specs.Frames.{Subframe}
use Rattle.definitions.specs.Pages.{Kind, clock, eph2, eph3, almanac, utc, health, message}
use Rattle.definitions.specs.DataSets.{Report, ephemeris, single, AlmanacSet}
use Rattle.definitions.specs.Events.{Event, acquired, count, locked, unlocked, signal_lost, edge}
use Rattle.definitions.specs.Events.{gap, subframe, reported, almanacs}
use Rattle.definitions.specs.Receiver.{Client, entries_of}
use Rattle.definitions.specs.PrintedLaws.{page_verb, verb_of, IsLineOf, IsOneOf, IsPrinted}
use Rattle.definitions.specs.PrintedLaws.{IsPageVerb}
use Rattle.definitions.specs.PrintedLaws.{PrintedCountsAreSums, PrintedAcquisitionsNameTheGreatest}
use Rattle.definitions.specs.PrintedLaws.{PrintedWordsPass, PrintedPagesPass, PrintedAlmanacsAgree}
use Rattle.definitions.proofs.PrintedLemmas.{lines-come}
use Rattle.definitions.proofs.VerbLemmas.{event_verb, event-verb, IsAnswerVerb}
use Rattle.definitions.proofs.VerbLemmas.{reply-verb, end-verb}

-- a verb is the one that is asked for
abbrev is_verb : List ℕ → Option (List ℕ) → Bool
is_verb w o = option_map_or (bytes_eq w) o false

abbrev is_page_verb : Option (List ℕ) → Bool
is_page_verb o =
    is_verb (codes "eph") o || is_verb (codes "alm") o || is_verb (codes "utc") o || is_verb
    (codes "hlt") o || is_verb (codes "msg") o

clash : {b : Bool} → b ≡ true → b ≡ false → ⊥
clash t f = cc

-- a test that no answer's verb passes and no end's
record IsOfEvents (test : Option (List ℕ) → Bool) : Type 0 where
  ok : test (Some (codes "ok")) ≡ false
  err : test (Some (codes "err")) ≡ false
  state : test (Some (codes "state")) ≡ false
  end : test (Some (codes "end")) ≡ false

module _ (settings : Settings) (clients : List Client) (xs : List Sample)
    (line : List ℕ) where
  -- a line with such a verb is that of an event with it, and passes the test
  of-event : (verb : List ℕ) (test : Option (List ℕ) → Bool) → test (Some verb) ≡ true
      → IsOfEvents test → IsPrinted settings clients xs line verb
      → (event : Event) × (IsLineOf settings clients xs line event)
      × (event_verb event ≡ Some verb) × (test (event_verb event) ≡ true)
  of-event verb test passes only printed =
      by_kind (lines-come settings clients xs printed.0.0 line printed.0.1)
    where
      holds : (o : Option (List ℕ)) → o ≡ Some verb → test o ≡ true
      holds o e = rw e passes

      no_answer : (o : Option (List ℕ)) → test o ≡ true → IsAnswerVerb o → ⊥
      no_answer o h (inl e) = clash (rw e at h) only.ok
      no_answer o h (inr (inl e)) = clash (rw e at h) only.err
      no_answer o h (inr (inr e)) = clash (rw e at h) only.state

      by_kind : IsOneOf settings clients xs line
          → (event : Event) × (IsLineOf settings clients xs line event)
          × (event_verb event ≡ Some verb) × (test (event_verb event) ≡ true)
      by_kind (inl (event, (t, k, slot, client, within, tells, is))) =
          let its : event_verb event ≡ Some verb =
          sym (event-verb (1 + k) t slot event) ∙ ap verb_of (sym is) ∙ printed.1 in (
            event,
            (t, k, slot, client, within, tells, is),
            its,
            holds (event_verb event) its,
          )
      by_kind (inr (inl (k, i, client, entry, a, b, c, is))) =
          absurd (no_answer _ (holds _ (ap verb_of (sym is) ∙ printed.1))
          (reply-verb (1 + k) entry.time settings (take entry.time xs)
          (take i (entries_of client)) entry.what))
      by_kind (inr (inr (k, below, is))) =
          absurd (clash (holds (Some (codes "end"))
          (sym (end-verb (1 + k) xs) ∙ ap verb_of (sym is) ∙ printed.1)) only.end)

-- ---- which event has the verb
no-page-count : (kind : Kind) → is_verb (codes "count") (page_verb kind) ≡ true → ⊥
no-page-count clock e = cc
no-page-count eph2 e = cc
no-page-count eph3 e = cc
no-page-count almanac e = cc
no-page-count utc e = cc
no-page-count health e = cc
no-page-count message e = cc

is-count : (event : Event) → is_verb (codes "count") (event_verb event) ≡ true
    → (c : Counts) × (event ≡ count c)
is-count (acquired prn cell) e = cc
is-count (count c) e = (c, refl)
is-count locked e = cc
is-count unlocked e = cc
is-count signal_lost e = cc
is-count edge e = cc
is-count (gap n) e = cc
is-count (subframe s) e = cc
is-count (reported (ephemeris values)) e = cc
is-count (reported (single page)) e = absurd (no-page-count page.kind e)
is-count (almanacs set) e = cc

no-page-acq : (kind : Kind) → is_verb (codes "acq") (page_verb kind) ≡ true → ⊥
no-page-acq clock e = cc
no-page-acq eph2 e = cc
no-page-acq eph3 e = cc
no-page-acq almanac e = cc
no-page-acq utc e = cc
no-page-acq health e = cc
no-page-acq message e = cc

is-acq : (event : Event) → is_verb (codes "acq") (event_verb event) ≡ true
    → (prn : ℕ) × (cell : Cell) × (event ≡ acquired prn cell)
is-acq (acquired prn cell) e = (prn, cell, refl)
is-acq (count c) e = cc
is-acq locked e = cc
is-acq unlocked e = cc
is-acq signal_lost e = cc
is-acq edge e = cc
is-acq (gap n) e = cc
is-acq (subframe s) e = cc
is-acq (reported (ephemeris values)) e = cc
is-acq (reported (single page)) e = absurd (no-page-acq page.kind e)
is-acq (almanacs set) e = cc

no-page-sub : (kind : Kind) → is_verb (codes "sub") (page_verb kind) ≡ true → ⊥
no-page-sub clock e = cc
no-page-sub eph2 e = cc
no-page-sub eph3 e = cc
no-page-sub almanac e = cc
no-page-sub utc e = cc
no-page-sub health e = cc
no-page-sub message e = cc

is-sub : (event : Event) → is_verb (codes "sub") (event_verb event) ≡ true
    → (s : Subframe) × (event ≡ subframe s)
is-sub (acquired prn cell) e = cc
is-sub (count c) e = cc
is-sub locked e = cc
is-sub unlocked e = cc
is-sub signal_lost e = cc
is-sub edge e = cc
is-sub (gap n) e = cc
is-sub (subframe s) e = (s, refl)
is-sub (reported (ephemeris values)) e = cc
is-sub (reported (single page)) e = absurd (no-page-sub page.kind e)
is-sub (almanacs set) e = cc

no-page-als : (kind : Kind) → is_verb (codes "als") (page_verb kind) ≡ true → ⊥
no-page-als clock e = cc
no-page-als eph2 e = cc
no-page-als eph3 e = cc
no-page-als almanac e = cc
no-page-als utc e = cc
no-page-als health e = cc
no-page-als message e = cc

is-als : (event : Event) → is_verb (codes "als") (event_verb event) ≡ true
    → (set : AlmanacSet) × (event ≡ almanacs set)
is-als (acquired prn cell) e = cc
is-als (count c) e = cc
is-als locked e = cc
is-als unlocked e = cc
is-als signal_lost e = cc
is-als edge e = cc
is-als (gap n) e = cc
is-als (subframe s) e = cc
is-als (reported (ephemeris values)) e = cc
is-als (reported (single page)) e = absurd (no-page-als page.kind e)
is-als (almanacs set) e = (set, refl)

is-report : (event : Event) → is_page_verb (event_verb event) ≡ true
    → (r : Report) × (event ≡ reported r)
is-report (acquired prn cell) e = cc
is-report (count c) e = cc
is-report locked e = cc
is-report unlocked e = cc
is-report signal_lost e = cc
is-report edge e = cc
is-report (gap n) e = cc
is-report (subframe s) e = cc
is-report (reported (ephemeris values)) e = (ephemeris values, refl)
is-report (reported (single page)) e = (single page, refl)
is-report (almanacs set) e = cc

-- ---- the laws
pub counts-printed : PrintedCountsAreSums
counts-printed settings clients xs line printed =
    let it =
    of-event settings clients xs line (codes "count") (is_verb (codes "count")) refl
    (record { ok = refl; err = refl; state = refl; end = refl }) printed in
    let c = is-count it.0 it.3 in
    (c.0, rw c.1 at it.1)

pub acquisitions-printed : PrintedAcquisitionsNameTheGreatest
acquisitions-printed settings clients xs line printed =
    let it =
    of-event settings clients xs line (codes "acq") (is_verb (codes "acq")) refl
    (record { ok = refl; err = refl; state = refl; end = refl }) printed in
    let a = is-acq it.0 it.3 in
    (a.0, a.1, rw a.2 at it.1)

pub words-printed : PrintedWordsPass
words-printed settings clients xs line printed =
    let it =
    of-event settings clients xs line (codes "sub") (is_verb (codes "sub")) refl
    (record { ok = refl; err = refl; state = refl; end = refl }) printed in
    let s = is-sub it.0 it.3 in
    (s.0, rw s.1 at it.1)

pub almanacs-printed : PrintedAlmanacsAgree
almanacs-printed settings clients xs line printed =
    let it =
    of-event settings clients xs line (codes "als") (is_verb (codes "als")) refl
    (record { ok = refl; err = refl; state = refl; end = refl }) printed in
    let s = is-als it.0 it.3 in
    (s.0, rw s.1 at it.1)

page-verb : (verb : List ℕ) → IsPageVerb verb → is_page_verb (Some verb) ≡ true
page-verb verb (inl e) = rw e refl
page-verb verb (inr (inl e)) = rw e refl
page-verb verb (inr (inr (inl e))) = rw e refl
page-verb verb (inr (inr (inr (inl e)))) = rw e refl
page-verb verb (inr (inr (inr (inr e)))) = rw e refl

pub pages-printed : PrintedPagesPass
pages-printed settings clients xs line verb is printed =
    let it =
    of-event settings clients xs line verb is_page_verb (page-verb verb is)
    (record { ok = refl; err = refl; state = refl; end = refl }) printed in
    let r = is-report it.0 it.3 in
    (r.0, rw r.1 at it.2, rw r.1 at it.1)
