-- Each event that a slot emits says what holds of the life that is on.
use Rattle.std.proofs.Common.{◌≡◌, ℕ, zero, suc, ◌-◌, ◌*◌, ◌≤◌, List, [], ◌∷◌, ◌++◌, length, map}
use Rattle.std.proofs.Common.{refl, sym, ap, ◌∙◌, arith}
use Rattle.std.specs.Prelude.{Bool, true, false, ℤ, ◌&&◌, Option, Some, None, slice_get, not}
use Rattle.std.specs.Prelude.{if◌then◌else◌, nat_lt, nat_le, nat_eq, sum, ◌↔◌}
use Rattle.std.specs.List.{AllByRecursion, range_with_len}
use Rattle.std.proofs.lemmas.Bool.{eqb-true, ltb-true, leb-true, le-leb}
use Rattle.definitions.specs.Samples.{Sample}
use Rattle.definitions.specs.Oscillators.{Settings}
use Rattle.definitions.specs.Segments.{Channel, Dump, counts_of}
use Rattle.definitions.specs.Lock.{News, nothing, lock, unlock, lost, news_of}
use Rattle.definitions.specs.Acquisition.{Plan, cell_count, power_of, named_cell, result_of}
use Rattle.definitions.specs.Acquisition.{due_time}
use Rattle.definitions.specs.BitEdge.{has_edge, bits_of}
use Rattle.definitions.specs.Frames.{Found, found_by}
use Rattle.definitions.specs.Pages.{Page, page_of}
use Rattle.definitions.specs.DataSets.{reports_of}
use Rattle.definitions.specs.Commands.{Start, hold, track, acquire}
use Rattle.definitions.specs.Lives.{Life, is_steered, dumps_of_life, life_now}
use Rattle.definitions.specs.Events.{Event, acquired, count, edge, gap, subframe, reported}
use Rattle.definitions.specs.Events.{almanacs, when, events_of, unprinted_count, last_of, front_of}
use Rattle.definitions.specs.Events.{news_events, pages_among, page_events, bit_events, push_events}
use Rattle.definitions.specs.Events.{steered_events, dump_events, last_dump_events, due_events}
use Rattle.definitions.specs.Events.{life_events, events_at_end}
use Rattle.definitions.specs.EventLaws.{counts_by, pushes_so_far, bits_so_far, IsCount, IsNamed}
use Rattle.definitions.specs.EventLaws.{IsSubframe, IsOfLife, IsRight, EventsAreRight}
use Rattle.definitions.specs.EventLaws.{CountsAreDumps, AcquisitionsNameTheGreatest}
use Rattle.definitions.specs.EventLaws.{EmittedWordsPass}
use Rattle.definitions.proofs.DumpLemmas.{are-dumps}
use Rattle.definitions.proofs.LifeDumpLemmas.{life-dump}
use Rattle.definitions.proofs.GreatestLemmas.{greatest_of-first}
use Rattle.definitions.proofs.FrameLemmas.{found-whole}
use Rattle.definitions.proofs.LastPageLemmas.{page-is-last, is-last-page}
use Rattle.definitions.proofs.ReportLemmas.{is-report, is-almanac_set, with-almanac}

-- ---- lists of events
abbrev pub All : (Event → Type 0) → List Event → Type 0
All P es = AllByRecursion P es

pub all-append : (P : Event → Type 0) (es fs : List Event) → All P es → All P fs → All P (es ++ fs)
all-append P [] fs he hf = hf
all-append P (e ∷ es) fs he hf = (he.0, all-append P es fs he.1 hf)

pub all-when : (P : Event → Type 0) (b : Bool) (e : Event) → (b ≡ true → P e) → All P (when b e)
all-when P true e h = (h refl, tt)
all-when P false e h = tt

all-events_of : {A : Type 0} (P : Event → Type 0) (f : A → Event) (o : Option A)
    → ((x : A) → o ≡ Some x → P (f x)) → All P (events_of f o)
all-events_of P f None h = tt
all-events_of P f (Some x) h = (h x refl, tt)

all-if : (P : Event → Type 0) (b : Bool) (es : List Event) → All P es → All P (if b then es else [])
all-if P true es h = h
all-if P false es h = tt

pub all-at : {A : Type 0} (P : A → Type 0) (xs : List A) → AllByRecursion P xs → (i : ℕ) (x : A)
    → slice_get xs i ≡ Some x → P x
all-at P [] all i x there = cc
all-at P (y ∷ ys) all zero x there = let it : y ≡ x = cc in rw (sym it) all.0
all-at P (y ∷ ys) all (suc i) x there = all-at P ys all.1 i x there

-- ---- an acquisition
pub named : (settings : Settings) (xs : List Sample) (plan : Plan) (start : ℕ)
    → (cell : ℕ) × IsNamed settings xs plan start cell (result_of settings plan xs start)
unfolding result_of named_cell
named settings xs plan start =
    let power : ℕ → ℕ = power_of settings plan xs start in
    let greatest = greatest_of-first power (cell_count plan) (omega arith) in (
      _,
      record {
        is_greatest = greatest;
        bin = refl;
        half_chip = refl;
        power = refl;
        found =
            both (plan.threshold * sum (map power (range_with_len 0 (cell_count plan))))
            (10 * _ * cell_count plan);
      },
    )
  where
    both : (a b : ℕ) → (nat_le a b ≡ true) ↔ (a ≤ b)
    both a b = (leb-true a b, le-leb a b)

-- ---- an edge
new-edge : (now before : Bool) → (now && not before) ≡ true → (now ≡ true) × (before ≡ false)
new-edge true false e = (refl, refl)
new-edge true true e = cc
new-edge false before e = cc

-- ---- all events of a life
all-bits : (P : Event → Type 0) (bits : List Bool) (found : Found) → All P (events_of gap found.gap)
    → P (subframe found.subframe) → All P (page_events bits (page_of found.subframe))
    → All P (bit_events bits (Some found))
all-bits P bits found gaps shown paged =
    all-append P (events_of gap found.gap ++ (subframe found.subframe ∷ []))
    (page_events bits (page_of found.subframe))
    (all-append P (events_of gap found.gap) (subframe found.subframe ∷ []) gaps (shown, tt)) paged

module _ (settings : Settings) (xs : List Sample) (life : Life) where
  P : Event → Type 0
  P e = IsOfLife settings xs life e

  dumps : List Dump
  dumps = dumps_of_life settings xs life

  bits-right : (o : Option Found) → found_by (bits_so_far settings xs life) ≡ o
      → All P (bit_events (bits_so_far settings xs life) o)
  unfolding P
  bits-right None e = tt
  bits-right (Some found) e =
      all-bits P bits found (all-events_of P gap found.gap (λ n is. rw e is)) shown
      (paged (page_of found.subframe) refl)
    where
      bits : List Bool
      bits = bits_so_far settings xs life

      shown : IsSubframe bits found.subframe
      shown = found-whole bits found e

      paged : (o : Option Page) → page_of found.subframe ≡ o → All P (page_events bits o)
      paged None is_page = tt
      paged (Some page) is_page =
          let is_last = page-is-last bits found page is_page e in
          let is_new = is-last-page bits found page is_page e in
          all-append P (events_of reported (reports_of (pages_among bits)).page)
          (events_of almanacs (reports_of (pages_among bits)).set)
          (all-events_of P reported (reports_of (pages_among bits)).page
          (λ r is. is-report bits page is_last is_new r is))
          (all-events_of P almanacs (reports_of (pages_among bits)).set
          (λ s is. (is-almanac_set bits s is, with-almanac bits page is_last is_new s is)))

  news-right : (n : News) → news_of (counts_by settings xs life) ≡ n → All P (news_events n)
  unfolding P
  news-right nothing e = tt
  news-right lock e = (e, tt)
  news-right unlock e = (e, tt)
  news-right lost e = (e, tt)

  edge-right : (pushes : List ℤ) → pushes_so_far settings xs life ≡ pushes
      → All P (when (has_edge pushes && not (has_edge (front_of pushes))) edge)
  unfolding P
  edge-right pushes e =
      all-when P (has_edge pushes && not (has_edge (front_of pushes))) edge
      (λ h. rw e (new-edge (has_edge pushes) (has_edge (front_of pushes)) h))

  steered-right : All P (steered_events (counts_of dumps))
  unfolding steered_events push_events dumps
  steered-right =
      let pushes : List ℤ = pushes_so_far settings xs life in
      let bits : List Bool = bits_so_far settings xs life in
      all-append P (news_events (news_of (counts_by settings xs life)))
      (when (has_edge pushes && not (has_edge (front_of pushes))) edge
      ++ (if nat_lt (length (bits_of (front_of pushes))) (length bits) then bit_events bits
      (found_by bits) else []))
      (news-right (news_of (counts_by settings xs life)) refl)
      (all-append P (when (has_edge pushes && not (has_edge (front_of pushes))) edge)
      (if nat_lt (length (bits_of (front_of pushes))) (length bits) then bit_events bits
      (found_by bits) else [])
      (edge-right pushes refl)
      (all-if P (nat_lt (length (bits_of (front_of pushes))) (length bits))
      (bit_events bits (found_by bits)) (bits-right (found_by bits) refl)))

  count-right : (d : Dump) → last_of dumps ≡ Some d → d.time ≡ length xs
      → nat_lt 0 (unprinted_count life (front_of dumps)) ≡ true
      → (channel : Channel) × (k : ℕ) × IsCount settings xs life channel k d.counts
  unfolding last_of dumps
  count-right d last time wanted =
      let it = life-dump settings xs life (length dumps - 1) d last in
      let dump = it.2 ∙ ap (λ t. Some (record { time = t; counts = d.counts })) time in (
        it.0,
        length dumps - 1,
        record {
          is_wanted = ltb-true 0 (unprinted_count life (front_of dumps)) wanted;
          is_followed = it.1;
          is_dump = dump;
          is_sum =
              (are-dumps settings it.0 xs).each (length dumps - 1)
              (record { time = length xs; counts = d.counts }) dump;
        },
      )

  dump-right : (o : Option Dump) → last_of dumps ≡ o
      → All P (last_dump_events life (length xs) dumps o)
  unfolding P
  dump-right None e = tt
  dump-right (Some d) e = by_time (nat_eq d.time (length xs)) refl
    where
      by_time : (b : Bool) → nat_eq d.time (length xs) ≡ b
          → All P (if b then dump_events life dumps d else [])
      by_time false is = tt
      by_time true is =
          all-append P (when (nat_lt 0 (unprinted_count life (front_of dumps))) (count d.counts))
          (if is_steered life.start then steered_events (counts_of dumps) else [])
          (all-when P (nat_lt 0 (unprinted_count life (front_of dumps))) (count d.counts)
          (λ wanted. count-right d e (eqb-true d.time (length xs) is) wanted))
          (all-if P (is_steered life.start) (steered_events (counts_of dumps)) steered-right)

  due-right : (start : Start) → life.start ≡ start → All P (due_events settings xs life.begun start)
  unfolding P
  due-right (hold prn doppler half_chip) e = tt
  due-right (track prn doppler half_chip) e = tt
  due-right (acquire plan) e =
      all-when P (nat_eq (due_time settings plan life.begun) (length xs))
      (acquired plan.prn (result_of settings plan xs life.begun))
      (λ due. let one = named settings xs plan life.begun in (
        plan,
        e,
        refl,
        eqb-true (due_time settings plan life.begun) (length xs) due,
        one.0,
        one.1,
      ))

  life-right : All P (life_events settings xs (Some life))
  unfolding life_events dumps
  life-right =
      all-append P (due_events settings xs life.begun life.start)
      (last_dump_events life (length xs) dumps (last_of dumps)) (due-right life.start refl)
      (dump-right (last_of dumps) refl)

pub events-right : EventsAreRight
unfolding events_at_end P life_events
events-right settings xs commands i event there =
    by_life (life_now settings (front_of xs) commands) refl there
  where
    by_life : (o : Option Life) → life_now settings (front_of xs) commands ≡ o
        → slice_get (life_events settings xs o) i ≡ Some event → IsRight settings xs commands event
    by_life None on there = cc
    by_life (Some life) on there = (
      life,
      on,
      all-at (P settings xs life) (life_events settings xs (Some life))
          (life-right settings xs life) i event there,
    )

-- ---- one kind of event
pub counts-right : CountsAreDumps
counts-right settings xs commands i c there =
    let it = events-right settings xs commands i (count c) there in
    (it.0, it.1, it.2.0, it.2.1, it.2.2)

pub acquisitions-right : AcquisitionsNameTheGreatest
acquisitions-right settings xs commands i prn cell there =
    events-right settings xs commands i (acquired prn cell) there

pub words-pass : EmittedWordsPass
words-pass settings xs commands i s there = events-right settings xs commands i (subframe s) there
