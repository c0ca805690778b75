-- Numbers of every size: dumps that are printed, dumps that are shown, cells.
use Rattle.std.proofs.Common.{◌≡◌, ℕ, ◌+◌, ◌-◌, ◌*◌, ◌/◌, ◌%◌, ◌<◌, ◌≤◌, List, [], ◌∷◌, ◌++◌}
use Rattle.std.proofs.Common.{length, refl}
use Rattle.std.proofs.Common.{sym, ap, ◌∙◌, arith, inl, inr, append-nil, take}
use Rattle.std.proofs.lemmas.List.{length-map}
use Rattle.std.specs.Prelude.{Bool, true, false, ℤ, pos, ◌+ℤ◌, ◌-ℤ◌, ◌*ℤ◌, not, ◌&&◌, Option, Some}
use Rattle.std.specs.Prelude.{None, filter}
use Rattle.std.specs.Prelude.{nat_lt, nat_eq, if◌then◌else◌, slice_get, codes, ◌⊎◌, fold}
use Rattle.std.specs.Fmt.{decimal, signed_decimal}
use Rattle.std.proofs.lemmas.Int.{ints}
use Rattle.std.proofs.lemmas.Bool.{eq-eqb, lt-ltb, le-ltb, cases_lt}
use Rattle.std.proofs.lemmas.List.Elements.{filter-append}
use Rattle.std.proofs.lemmas.List.Sums.{length-filter, fold_push}
use Rattle.definitions.specs.Samples.{Sample}
use Rattle.definitions.specs.Oscillators.{Settings}
use Rattle.definitions.specs.Correlation.{Counts}
use Rattle.definitions.specs.Segments.{Channel, Dump, Shift, counts_of}
use Rattle.definitions.specs.Lock.{News, nothing, lock, unlock, lost, news_of, is_locked}
use Rattle.definitions.specs.BitEdge.{has_edge, bits_of}
use Rattle.definitions.specs.Acquisition.{result_of, due_time}
use Rattle.definitions.specs.Frames.{Found, found_by}
use Rattle.definitions.specs.Pages.{Page, page_of}
use Rattle.definitions.specs.DataSets.{reports_of}
use Rattle.definitions.specs.Commands.{Start, TimedRequest, hold, track, acquire, counts}
use Rattle.definitions.specs.Lines.{words_of}
use Rattle.definitions.specs.Lives.{Life, is_steered, is_over, dumps_of_life, life_now}
use Rattle.definitions.specs.Lives.{life_of, life_after, life_with, life_wanting, still_on}
use Rattle.definitions.specs.Events.{Event, acquired, count, edge}
use Rattle.definitions.specs.Events.{gap, subframe, reported, almanacs, when, events_of, last_of}
use Rattle.definitions.specs.Events.{front_of, news_events, pages_among, page_events, bit_events}
use Rattle.definitions.specs.Events.{push_events, steered_events, dump_events, last_dump_events}
use Rattle.definitions.specs.Events.{due_events, life_events, events_at_end, unprinted_count}
use Rattle.definitions.specs.Events.{pushes_of}
use Rattle.definitions.specs.Answers.{answer_at_end, view_of, life_view}
use Rattle.definitions.specs.Answers.{tracking_view, tracking, holding}
use Rattle.definitions.specs.Texts.{answer_text, view_text}
use Rattle.definitions.specs.SizeLaws.{is_count, ended_after, with_counts, NextDumpsArePrinted}
use Rattle.definitions.specs.SizeLaws.{StatesCountAllDumps, CellsGoByBins}
use Rattle.definitions.proofs.OnLemmas.{over-stays}
use Rattle.definitions.proofs.VerbLemmas.{IsWord, word, decimal-word}
use Rattle.definitions.proofs.DistinctLemmas.{words-back, signed-word}

-- ---- cells
pub by-bins : CellsGoByBins
by-bins plan b h small =
    let bin : (2046 * b + h) / 2046 ≡ b = omega (arith, small) in
    let half : (2046 * b + h) % 2046 ≡ h = omega (arith, small) in (
      rw bin refl,
      half,
      rw bin (shifted plan.centre plan.bins b),
      ((λ k. omega (arith, small, k)), (λ k. omega (arith, small, k))),
    )
  where
    shifted : (c : ℤ) (n b : ℕ) → (c +ℤ pos 250 *ℤ (pos b -ℤ pos n)) *ℤ pos 65536
        ≡ (c -ℤ pos (250 * n) +ℤ pos (250 * b)) *ℤ pos 65536
    shifted c n b = omega (arith, ints)

-- ---- the events that are no count
no-count-when : (b : Bool) (e : Event) → is_count e ≡ false → filter is_count (when b e) ≡ []
no-count-when true e is = rw is refl
no-count-when false e is = refl

no-count-option : {A : Type 0} (f : A → Event) → ((x : A) → is_count (f x) ≡ false) → (o : Option A)
    → filter is_count (events_of f o) ≡ []
no-count-option f is None = refl
no-count-option f is (Some x) = rw (is x) refl

none-both : (es fs : List Event) → filter is_count es ≡ [] → filter is_count fs ≡ []
    → filter is_count (es ++ fs) ≡ []
none-both es fs e f = filter-append is_count es fs ∙ rw (e, f) refl

no-count-page : (bits : List Bool) (o : Option Page) → filter is_count (page_events bits o) ≡ []
no-count-page bits None = refl
no-count-page bits (Some page) =
    none-both (events_of reported (reports_of (pages_among bits)).page)
    (events_of almanacs (reports_of (pages_among bits)).set)
    (no-count-option reported (λ r. refl) (reports_of (pages_among bits)).page)
    (no-count-option almanacs (λ s. refl) (reports_of (pages_among bits)).set)

no-count-bits : (bits : List Bool) (o : Option Found) → filter is_count (bit_events bits o) ≡ []
no-count-bits bits None = refl
no-count-bits bits (Some found) =
    none-both (events_of gap found.gap ++ (subframe found.subframe ∷ []))
    (page_events bits (page_of found.subframe))
    (none-both (events_of gap found.gap) (subframe found.subframe ∷ [])
    (no-count-option gap (λ n. refl) found.gap) refl)
    (no-count-page bits (page_of found.subframe))

no-count-pushes : (pushes : List ℤ) → filter is_count (push_events pushes) ≡ []
unfolding push_events
no-count-pushes pushes =
    none-both (when (has_edge pushes && not (has_edge (front_of pushes))) edge)
    (if nat_lt (length (bits_of (front_of pushes))) (length (bits_of pushes))
    then bit_events (bits_of pushes) (found_by (bits_of pushes)) else [])
    (no-count-when (has_edge pushes && not (has_edge (front_of pushes))) edge refl)
    (by_new (nat_lt (length (bits_of (front_of pushes))) (length (bits_of pushes))))
  where
    by_new : (b : Bool) → filter is_count (if b
        then bit_events (bits_of pushes) (found_by (bits_of pushes)) else []) ≡ []
    by_new true = no-count-bits (bits_of pushes) (found_by (bits_of pushes))
    by_new false = refl

no-count-news : (n : News) → filter is_count (news_events n) ≡ []
no-count-news nothing = refl
no-count-news lock = refl
no-count-news unlock = refl
no-count-news lost = refl

no-count-steered : (b : Bool) (dumps : List Counts)
    → filter is_count (if b then steered_events dumps else []) ≡ []
unfolding steered_events
no-count-steered false dumps = refl
no-count-steered true dumps =
    none-both (news_events (news_of dumps)) (push_events (pushes_of dumps))
    (no-count-news (news_of dumps)) (no-count-pushes (pushes_of dumps))

no-count-due : (settings : Settings) (xs : List Sample) (begun : ℕ) (start : Start)
    → filter is_count (due_events settings xs begun start) ≡ []
no-count-due settings xs begun (hold prn doppler half_chip) = refl
no-count-due settings xs begun (track prn doppler half_chip) = refl
no-count-due settings xs begun (acquire plan) =
    no-count-when (nat_eq (due_time settings plan begun) (length xs))
    (acquired plan.prn (result_of settings plan xs begun)) refl

-- ---- what the last `counts` asks for
counts-wanted : (settings : Settings) (xs : List Sample) (commands : List TimedRequest)
    (time number : ℕ) (life : Life)
    → life_now settings xs (with_counts commands time number) ≡ Some life
    → (life.wanted ≡ number) × (life.wanted_from ≡ time)
unfolding life_now life_of
counts-wanted settings xs commands time number life e =
    by_latest (fold (life_after settings xs) None commands)
    (ap (still_on settings xs) (sym (fold_push (life_after settings xs) None commands
    (record { time = time; request = counts number }))) ∙ e)
  where
    by_over : (latest : Life) (b : Bool) → is_over settings (take time xs) latest ≡ b
        → still_on settings xs
        (life_with (Some latest) (if b then None else Some latest) time (counts number))
        ≡ Some life → (life.wanted ≡ number) × (life.wanted_from ≡ time)
    by_over latest true over e = absurd (clash (rw (over-stays settings xs time latest over) at e))
      where
        clash : None ≡ Some life → ⊥
        clash e = cc
    by_over latest false over e =
        by_end (is_over settings xs (life_wanting latest time number)) e
      where
        by_end : (b : Bool)
            → (if b then None else Some (life_wanting latest time number)) ≡ Some life
            → (life.wanted ≡ number) × (life.wanted_from ≡ time)
        by_end true e = cc
        by_end false e =
            let it : life_wanting latest time number ≡ life = cc in
            (ap (λ (l : Life). l.wanted) (sym it), ap (λ (l : Life). l.wanted_from) (sym it))

    by_latest : (o : Option Life) → still_on settings xs
        (life_after settings xs o (record { time = time; request = counts number })) ≡ Some life
        → (life.wanted ≡ number) × (life.wanted_from ≡ time)
    by_latest None e = cc
    by_latest (Some latest) e =
        by_over latest (is_over settings (take time xs) latest) refl e

printed-where : (life : Life) (time number : ℕ) (dumps : List Dump) → life.wanted ≡ number
    → life.wanted_from ≡ time
    → nat_lt 0 (unprinted_count life dumps) ≡ nat_lt (ended_after time dumps) number
unfolding unprinted_count
printed-where life time number dumps w f =
    rw (w, f, length-filter (λ (d : Dump). nat_lt time d.time) dumps)
    (by_order (ended_after time dumps) (cases_lt (ended_after time dumps) number))
  where
    by_order : (m : ℕ) → (m < number) ⊎ (number ≤ m) → nat_lt 0 (number - m) ≡ nat_lt m number
    by_order m (inl fewer) =
        lt-ltb 0 (number - m) (omega (arith, fewer)) ∙ sym (lt-ltb m number fewer)
    by_order m (inr all) =
        le-ltb 0 (number - m) (omega (arith, all)) ∙ sym (le-ltb m number all)

pub next-printed : NextDumpsArePrinted
unfolding events_at_end life_events
next-printed settings xs commands time number life d on last now =
    let dumps : List Dump = dumps_of_life settings xs life in
    let wanted = counts-wanted settings (front_of xs) commands time number life on in
    ap (λ (o : Option Life). filter is_count (life_events settings xs o)) on
    ∙ filter-append is_count (due_events settings xs life.begun life.start)
    (last_dump_events life (length xs) dumps (last_of dumps))
    ∙ ap (λ (es : List Event). es
    ++ filter is_count (last_dump_events life (length xs) dumps (last_of dumps)))
    (no-count-due settings xs life.begun life.start)
    ∙ ap (λ (o : Option Dump). filter is_count (last_dump_events life (length xs) dumps o)) last
    ∙ ap (λ (b : Bool). filter is_count (if b then dump_events life dumps d else []))
    (eq-eqb d.time (length xs) now)
    ∙ filter-append is_count
    (when (nat_lt 0 (unprinted_count life (front_of dumps))) (count d.counts))
    (if is_steered life.start then steered_events (counts_of dumps) else [])
    ∙ ap (λ (es : List Event). filter is_count
    (when (nat_lt 0 (unprinted_count life (front_of dumps))) (count d.counts)) ++ es)
    (no-count-steered (is_steered life.start) (counts_of dumps))
    ∙ append-nil (filter is_count
    (when (nat_lt 0 (unprinted_count life (front_of dumps))) (count d.counts)))
    ∙ ap (λ (b : Bool). filter is_count (when b (count d.counts)))
    (printed-where life time number (front_of dumps) wanted.0 wanted.1)
    ∙ kept (nat_lt (ended_after time (front_of dumps)) number)
  where
    kept : (b : Bool) → filter is_count (when b (count d.counts))
        ≡ (if b then count d.counts ∷ [] else [])
    kept true = refl
    kept false = refl

-- ---- the answer to `state`
held-fifth : (slot prn n : ℕ)
    → slice_get (words_of (view_text slot (holding prn n))) 4 ≡ Some (decimal n)
held-fifth slot prn n =
    ap (λ (words : List (List ℕ)). slice_get words 4)
    (words-back (codes "state" ∷ decimal slot ∷ codes "hold" ∷ decimal prn ∷ decimal n ∷ []) (
      word (codes "state") refl refl,
      (
        decimal-word slot,
        (word (codes "hold") refl refl, (decimal-word prn, (decimal-word n, tt))),
      ),
    ))

tracked-fifth : (slot prn n : ℕ) (shift : Shift) (has_lock has_bits : Bool)
    → slice_get (words_of (view_text slot (tracking prn n shift has_lock has_bits))) 4
    ≡ Some (decimal n)
tracked-fifth slot prn n shift has_lock has_bits =
    ap (λ (words : List (List ℕ)). slice_get words 4)
    (words-back (codes "state" ∷ decimal slot ∷ codes "track" ∷ decimal prn ∷ decimal n
    ∷ signed_decimal shift.v ∷ signed_decimal shift.w ∷ standing has_bits has_lock ∷ []) (
      word (codes "state") refl refl,
      (
        decimal-word slot,
        (
          word (codes "track") refl refl,
          (
            decimal-word prn,
            (
              decimal-word n,
              (signed-word shift.v, (signed-word shift.w, (stands has_bits has_lock, tt))),
            ),
          ),
        ),
      ),
    ))
  where
    standing : Bool → Bool → List ℕ
    standing has_bits has_lock =
        if has_bits then codes "bits" else if has_lock then codes "lock" else codes "open"

    stands : (has_bits has_lock : Bool) → IsWord (if has_bits then codes "bits" else if has_lock
        then codes "lock" else codes "open")
    stands true has_lock = word (codes "bits") refl refl
    stands false true = word (codes "lock") refl refl
    stands false false = word (codes "open") refl refl

pub all-counted : StatesCountAllDumps
unfolding answer_at_end answer_text view_of
all-counted settings xs commands slot life channel on follows =
    let dumps : List Dump = dumps_of_life settings xs life in
    ap (λ (o : Option Life). slice_get (words_of (view_text slot (view_of settings xs o))) 4) on
    ∙ ap (λ (o : Option Channel). slice_get
    (words_of (view_text slot (life_view settings xs life o))) 4) follows
    ∙ by_start dumps (is_steered life.start)
  where
    by_start : (dumps : List Dump) (b : Bool) → slice_get (words_of (view_text slot (if b
        then tracking_view channel.prn (channel.steering (counts_of dumps)) (counts_of dumps)
        else holding channel.prn (length dumps)))) 4 ≡ Some (decimal (length dumps))
    by_start dumps false = held-fifth slot channel.prn (length dumps)
    by_start dumps true =
        tracked-fifth slot channel.prn (length (counts_of dumps))
        (channel.steering (counts_of dumps)) (is_locked (counts_of dumps))
        (has_edge (pushes_of (counts_of dumps)))
        ∙ ap (λ n. Some (decimal n)) (length-map dumps (λ (d : Dump). d.counts))
