-- What the loops answer and the edge of the bits are emitted.
use Rattle.std.proofs.Common.{◌≡◌, ℕ, List, [], ◌∷◌, ◌++◌}
use Rattle.std.proofs.Common.{length, refl}
use Rattle.std.proofs.Common.{ap, ◌∙◌, append-nil}
use Rattle.std.specs.Prelude.{Bool, true, false, ℤ, not, ◌&&◌, Option, Some}
use Rattle.std.specs.Prelude.{None, filter}
use Rattle.std.specs.Prelude.{nat_lt, nat_eq, if◌then◌else◌}
use Rattle.std.proofs.lemmas.Bool.{eq-eqb}
use Rattle.std.proofs.lemmas.List.Elements.{filter-append}
use Rattle.definitions.specs.Samples.{Sample}
use Rattle.definitions.specs.Oscillators.{Settings}
use Rattle.definitions.specs.Segments.{Dump, counts_of}
use Rattle.definitions.specs.Lock.{News, nothing, lock, unlock, lost, news_of}
use Rattle.definitions.specs.BitEdge.{has_edge, bits_of}
use Rattle.definitions.specs.Acquisition.{result_of, due_time}
use Rattle.definitions.specs.Frames.{Found, found_by}
use Rattle.definitions.specs.Pages.{Page, page_of}
use Rattle.definitions.specs.DataSets.{reports_of}
use Rattle.definitions.specs.Commands.{Start, hold, track, acquire}
use Rattle.definitions.specs.Lives.{Life, is_steered, dumps_of_life}
use Rattle.definitions.specs.Events.{Event, acquired, count, edge}
use Rattle.definitions.specs.Events.{gap, subframe, reported, almanacs, when, events_of, last_of}
use Rattle.definitions.specs.Events.{front_of, news_events, pages_among, page_events, bit_events}
use Rattle.definitions.specs.Events.{push_events, steered_events, dump_events, last_dump_events}
use Rattle.definitions.specs.Events.{due_events, life_events, events_at_end, unprinted_count}
use Rattle.definitions.specs.Events.{pushes_of}
use Rattle.std.proofs.Math.Path.{ap₂}
use Rattle.definitions.specs.ReportLaws.{is_news, event_of_news, NewsIsEmitted}

-- ---- the other events
no-news-when : (b : Bool) (e : Event) → is_news e ≡ false → filter is_news (when b e) ≡ []
no-news-when true e is = rw is refl
no-news-when false e is = refl

no-news-option : {A : Type 0} (f : A → Event) → ((x : A) → is_news (f x) ≡ false) → (o : Option A)
    → filter is_news (events_of f o) ≡ []
no-news-option f is None = refl
no-news-option f is (Some x) = rw (is x) refl

none-both : (es fs : List Event) → filter is_news es ≡ [] → filter is_news fs ≡ []
    → filter is_news (es ++ fs) ≡ []
none-both es fs e f = filter-append is_news es fs ∙ rw (e, f) refl

no-news-page : (bits : List Bool) (o : Option Page) → filter is_news (page_events bits o) ≡ []
no-news-page bits None = refl
no-news-page bits (Some page) =
    none-both (events_of reported (reports_of (pages_among bits)).page)
    (events_of almanacs (reports_of (pages_among bits)).set)
    (no-news-option reported (λ r. refl) (reports_of (pages_among bits)).page)
    (no-news-option almanacs (λ s. refl) (reports_of (pages_among bits)).set)

no-news-bits : (bits : List Bool) (o : Option Found) → filter is_news (bit_events bits o) ≡ []
no-news-bits bits None = refl
no-news-bits bits (Some found) =
    none-both (events_of gap found.gap ++ (subframe found.subframe ∷ []))
    (page_events bits (page_of found.subframe))
    (none-both (events_of gap found.gap) (subframe found.subframe ∷ [])
    (no-news-option gap (λ n. refl) found.gap) refl)
    (no-news-page bits (page_of found.subframe))

no-news-due : (settings : Settings) (xs : List Sample) (begun : ℕ) (start : Start)
    → filter is_news (due_events settings xs begun start) ≡ []
no-news-due settings xs begun (hold prn doppler half_chip) = refl
no-news-due settings xs begun (track prn doppler half_chip) = refl
no-news-due settings xs begun (acquire plan) =
    no-news-when (nat_eq (due_time settings plan begun) (length xs))
    (acquired plan.prn (result_of settings plan xs begun)) refl

-- ---- news and edge
kept-news : (n : News) → filter is_news (news_events n) ≡ event_of_news n
kept-news nothing = refl
kept-news lock = refl
kept-news unlock = refl
kept-news lost = refl

kept-edge : (pushes : List ℤ) → filter is_news (push_events pushes)
    ≡ (if has_edge pushes && not (has_edge (front_of pushes)) then edge ∷ [] else [])
unfolding push_events
kept-edge pushes =
    filter-append is_news (when (has_edge pushes && not (has_edge (front_of pushes))) edge)
    (if nat_lt (length (bits_of (front_of pushes))) (length (bits_of pushes))
    then bit_events (bits_of pushes) (found_by (bits_of pushes)) else [])
    ∙ ap (λ (es : List Event). filter is_news
    (when (has_edge pushes && not (has_edge (front_of pushes))) edge) ++ es)
    (by_new (nat_lt (length (bits_of (front_of pushes))) (length (bits_of pushes))))
    ∙ append-nil (filter is_news
    (when (has_edge pushes && not (has_edge (front_of pushes))) edge))
    ∙ by_edge (has_edge pushes && not (has_edge (front_of pushes)))
  where
    by_new : (b : Bool) → filter is_news (if b
        then bit_events (bits_of pushes) (found_by (bits_of pushes)) else []) ≡ []
    by_new true = no-news-bits (bits_of pushes) (found_by (bits_of pushes))
    by_new false = refl

    by_edge : (b : Bool) → filter is_news (when b edge) ≡ (if b then edge ∷ [] else [])
    by_edge true = refl
    by_edge false = refl

behind : (es fs : List Event) → filter is_news es ≡ []
    → filter is_news (es ++ fs) ≡ filter is_news fs
behind es fs none =
    filter-append is_news es fs ∙ ap (λ (l : List Event). l ++ filter is_news fs) none

pub emitted-news : NewsIsEmitted
unfolding events_at_end life_events steered_events
emitted-news settings xs commands life d on steered last now =
    let dumps : List Dump = dumps_of_life settings xs life in
    ap (λ (o : Option Life). filter is_news (life_events settings xs o)) on
    ∙ behind (due_events settings xs life.begun life.start)
    (last_dump_events life (length xs) dumps (last_of dumps))
    (no-news-due settings xs life.begun life.start)
    ∙ ap (λ (o : Option Dump). filter is_news (last_dump_events life (length xs) dumps o)) last
    ∙ ap (λ (b : Bool). filter is_news (if b then dump_events life dumps d else []))
    (eq-eqb d.time (length xs) now)
    ∙ behind (when (nat_lt 0 (unprinted_count life (front_of dumps))) (count d.counts))
    (if is_steered life.start then steered_events (counts_of dumps) else [])
    (no-news-when (nat_lt 0 (unprinted_count life (front_of dumps))) (count d.counts) refl)
    ∙ ap (λ (b : Bool). filter is_news (if b then steered_events (counts_of dumps) else []))
    steered
    ∙ filter-append is_news (news_events (news_of (counts_of dumps)))
    (push_events (pushes_of (counts_of dumps)))
    ∙ ap₂ (λ (es fs : List Event). es ++ fs) (kept-news (news_of (counts_of dumps)))
    (kept-edge (pushes_of (counts_of dumps)))
