-- A slot emits few events with one sample.
use Rattle.std.proofs.Common.{inl, inr, ◌≡◌, ℕ, suc, ◌+◌, ◌≤◌, List, [], ◌∷◌, ◌++◌, length, refl}
use Rattle.std.proofs.Common.{sym, ap, ◌∙◌, arith, length-append}
use Rattle.std.specs.Prelude.{Bool, true, false, ℤ, not, ◌&&◌, Option, Some, None, filter, nat_eq}
use Rattle.std.specs.Prelude.{nat_lt, ◌⊎◌, if◌then◌else◌}
use Rattle.std.proofs.lemmas.Bool.{eqb-true, lt-leb}
use Rattle.std.proofs.lemmas.List.Elements.{filter-append}
use Rattle.definitions.specs.Sums.{least_below}
use Rattle.definitions.specs.Samples.{Sample}
use Rattle.definitions.specs.Oscillators.{Settings}
use Rattle.definitions.specs.Correlation.{Counts}
use Rattle.definitions.specs.Segments.{Dump, counts_of}
use Rattle.definitions.specs.Lock.{News, nothing, lock, unlock, lost, news_of}
use Rattle.definitions.specs.Acquisition.{Plan, result_of, due_time}
use Rattle.definitions.specs.BitEdge.{has_edge, edge_of, bits_of}
use Rattle.definitions.specs.Frames.{Found, found_by}
use Rattle.definitions.specs.Pages.{Page, page_of}
use Rattle.definitions.specs.DataSets.{reports_of}
use Rattle.definitions.specs.Commands.{Start, hold, track, acquire}
use Rattle.definitions.specs.Lives.{Life, is_steered, dumps_of_life, life_now}
use Rattle.definitions.specs.Events.{Event, acquired, count, locked, unlocked, signal_lost, edge}
use Rattle.definitions.specs.Events.{gap, subframe, reported, almanacs, when, events_of}
use Rattle.definitions.specs.Events.{unprinted_count}
use Rattle.definitions.specs.Events.{last_of, front_of, news_events, pushes_of, pages_among}
use Rattle.definitions.specs.Events.{page_events, bit_events, push_events, steered_events}
use Rattle.definitions.specs.Events.{dump_events, last_dump_events, due_events, life_events}
use Rattle.definitions.specs.Events.{events_at_end}
use Rattle.definitions.specs.SlotLaws.{is_set, SlotEmitsFew}
use Rattle.definitions.proofs.DueLemmas.{acquire-tells}
use Rattle.definitions.proofs.LockEndLemmas.{IsNews, news-is, news-pushes}
use Rattle.definitions.proofs.EdgeLemmas.{edge-alone}

-- at most a events that are no set, and at most b sets
abbrev Few : ℕ → ℕ → List Event → Type 0
Few a b es = (length (filter (λ e. not (is_set e)) es) ≤ a) × (length (filter is_set es) ≤ b)

few-append : (a b c d : ℕ) (es fs : List Event) → Few a b es → Few c d fs
    → Few (a + c) (b + d) (es ++ fs)
few-append a b c d es fs he hf =
    let plain : length (filter (λ e. not (is_set e)) (es ++ fs))
    ≡ length (filter (λ e. not (is_set e)) es) + length (filter (λ e. not (is_set e)) fs) =
    ap length (filter-append (λ e. not (is_set e)) es fs)
    ∙ length-append (filter (λ e. not (is_set e)) es) (filter (λ e. not (is_set e)) fs) in
    let sets : length (filter is_set (es ++ fs))
    ≡ length (filter is_set es) + length (filter is_set fs) =
    ap length (filter-append is_set es fs) ∙ length-append (filter is_set es) (filter is_set fs) in
    (omega (arith, plain, he.0, hf.0), omega (arith, sets, he.1, hf.1))

more : (a b c d : ℕ) (es : List Event) → a ≤ c → b ≤ d → Few a b es → Few c d es
more a b c d es h k few = (omega (arith, h, few.0), omega (arith, k, few.1))

few-none : (a b : ℕ) → Few a b []
few-none a b = (omega arith, omega arith)

few-one : (e : Event) → is_set e ≡ false → Few 1 0 (e ∷ [])
few-one e is = (rw is (omega arith), rw is (omega arith))

few-when : (b : Bool) (e : Event) → is_set e ≡ false → Few 1 0 (when b e)
few-when true e is = few-one e is
few-when false e is = few-none 1 0

few-option : {A : Type 0} (f : A → Event) → ((x : A) → is_set (f x) ≡ false) → (o : Option A)
    → Few 1 0 (events_of f o)
few-option f is None = few-none 1 0
few-option f is (Some x) = few-one (f x) (is x)

few-sets : (bits : List Bool) (o : Option _) → Few 0 1 (events_of almanacs o)
few-sets bits None = few-none 0 1
few-sets bits (Some set) = (omega arith, omega arith)

few-page : (bits : List Bool) (o : Option Page) → Few 1 1 (page_events bits o)
few-page bits None = few-none 1 1
few-page bits (Some page) =
    few-append 1 0 0 1 (events_of reported (reports_of (pages_among bits)).page)
    (events_of almanacs (reports_of (pages_among bits)).set)
    (few-option reported (λ r. refl) (reports_of (pages_among bits)).page)
    (few-sets bits (reports_of (pages_among bits)).set)

few-bits : (bits : List Bool) (o : Option Found) → Few 3 1 (bit_events bits o)
few-bits bits None = few-none 3 1
few-bits bits (Some found) =
    few-append 2 0 1 1 (events_of gap found.gap ++ (subframe found.subframe ∷ []))
    (page_events bits (page_of found.subframe))
    (few-append 1 0 1 0 (events_of gap found.gap) (subframe found.subframe ∷ [])
    (few-option gap (λ n. refl) found.gap) (few-one (subframe found.subframe) refl))
    (few-page bits (page_of found.subframe))

few-pushes : (pushes : List ℤ) → Few 3 1 (push_events pushes)
unfolding push_events
few-pushes pushes = by_edge (has_edge pushes && not (has_edge (front_of pushes))) refl
  where
    few-if : (b : Bool)
        → Few 3 1 (if b then bit_events (bits_of pushes) (found_by (bits_of pushes)) else [])
    few-if true = few-bits (bits_of pushes) (found_by (bits_of pushes))
    few-if false = few-none 3 1

    no-more : (n m : ℕ) → m ≡ 0 → nat_lt n m ≡ false
    no-more n m e = rw e (lt-leb (suc n) 0 (omega arith))

    by_edge : (b : Bool) → (has_edge pushes && not (has_edge (front_of pushes))) ≡ b
        → Few 3 1 (when b edge
        ++ (if nat_lt (length (bits_of (front_of pushes))) (length (bits_of pushes))
        then bit_events (bits_of pushes) (found_by (bits_of pushes)) else []))
    by_edge true e =
        rw (no-more (length (bits_of (front_of pushes))) (length (bits_of pushes))
        (edge-alone pushes e))
        (more 1 0 3 1 (edge ∷ [] ++ []) (omega arith) (omega arith)
        (few-append 1 0 0 0 (edge ∷ []) [] (few-one edge refl) (few-none 0 0)))
    by_edge false e = few-if (nat_lt (length (bits_of (front_of pushes))) (length (bits_of pushes)))

-- ---- all events of a life
none-pushed : Few 0 0 (push_events [])
unfolding push_events edge_of least_below front_of bits_of
none-pushed = (omega arith, omega arith)

few-behind : (settings : Settings) (xs : List Sample) (life : Life)
    → due_events settings xs life.begun life.start ≡ []
    → Few 4 1 (last_dump_events life (length xs) (dumps_of_life settings xs life)
    (last_of (dumps_of_life settings xs life))) → Few 4 1 (life_events settings xs (Some life))
unfolding life_events
few-behind settings xs life none few = rw none few

few-steered : (counts : List Counts) → Few 3 1 (steered_events counts)
unfolding steered_events
few-steered counts = by_news (news-is counts)
  where
    few-news : (n : News) → Few 1 0 (news_events n)
    few-news nothing = few-none 1 0
    few-news lock = few-one locked refl
    few-news unlock = few-one unlocked refl
    few-news lost = few-one signal_lost refl

    by_news : ((news_of counts ≡ nothing) ⊎ IsNews counts)
        → Few 3 1 (news_events (news_of counts) ++ push_events (pushes_of counts))
    by_news (inl none) =
        few-append 0 0 3 1 (news_events (news_of counts)) (push_events (pushes_of counts))
        (quiet (news_of counts) none) (few-pushes (pushes_of counts))
      where
        quiet : (n : News) → n ≡ nothing → Few 0 0 (news_events n)
        quiet n e = rw e (few-none 0 0)
    by_news (inr news) =
        rw (news-pushes counts news)
        (more 1 0 3 1 (news_events (news_of counts) ++ push_events []) (omega arith)
        (omega arith)
        (few-append 1 0 0 0 (news_events (news_of counts)) (push_events [])
        (few-news (news_of counts)) nothing-pushed))
      where
        nothing-pushed : Few 0 0 (push_events [])
        nothing-pushed = none-pushed

few-dump : (life : Life) (dumps : List Dump) (d : Dump) → Few 4 1 (dump_events life dumps d)
few-dump life dumps d =
    few-append 1 0 3 1 (when (nat_lt 0 (unprinted_count life (front_of dumps))) (count d.counts))
    (if is_steered life.start then steered_events (counts_of dumps) else [])
    (few-when (nat_lt 0 (unprinted_count life (front_of dumps))) (count d.counts) refl)
    (few-if (is_steered life.start))
  where
    few-if : (b : Bool) → Few 3 1 (if b then steered_events (counts_of dumps) else [])
    few-if true = few-steered (counts_of dumps)
    few-if false = few-none 3 1

few-last : (life : Life) (n : ℕ) (dumps : List Dump) (o : Option Dump)
    → Few 4 1 (last_dump_events life n dumps o)
few-last life n dumps None = few-none 4 1
few-last life n dumps (Some d) = few-if (nat_eq d.time n)
  where
    few-if : (b : Bool) → Few 4 1 (if b then dump_events life dumps d else [])
    few-if true = few-dump life dumps d
    few-if false = few-none 4 1

few-life : (settings : Settings) (xs : List Sample) (life : Life)
    → Few 4 1 (life_events settings xs (Some life))
few-life settings xs life = by_start life.start refl
  where
    dumps : List Dump
    dumps = dumps_of_life settings xs life

    rest : Few 4 1 (last_dump_events life (length xs) dumps (last_of dumps))
    rest = few-last life (length xs) dumps (last_of dumps)

    quiet : due_events settings xs life.begun life.start ≡ []
        → Few 4 1 (life_events settings xs (Some life))
    quiet none = few-behind settings xs life none rest

    due-none : (plan : Plan) → nat_eq (due_time settings plan life.begun) (length xs) ≡ false
        → due_events settings xs life.begun (acquire plan) ≡ []
    due-none plan e = rw e refl

    by_due : (plan : Plan) → life.start ≡ acquire plan → (b : Bool)
        → nat_eq (due_time settings plan life.begun) (length xs) ≡ b
        → Few 4 1 (life_events settings xs (Some life))
    by_due plan is true e =
        rw (acquire-tells settings xs life plan is
        (sym (eqb-true (due_time settings plan life.begun) (length xs) e)))
        (more 1 0 4 1 (acquired plan.prn (result_of settings plan xs life.begun) ∷ []) (omega arith)
        (omega arith) (few-one (acquired plan.prn (result_of settings plan xs life.begun))
        refl))
    by_due plan is false e = quiet (ap (due_events settings xs life.begun) is ∙ due-none plan e)

    by_start : (start : Start) → life.start ≡ start → Few 4 1 (life_events settings xs (Some life))
    by_start (hold prn doppler half_chip) e = quiet (ap (due_events settings xs life.begun) e)
    by_start (track prn doppler half_chip) e = quiet (ap (due_events settings xs life.begun) e)
    by_start (acquire plan) e =
        by_due plan e (nat_eq (due_time settings plan life.begun) (length xs)) refl

pub tells-few : SlotEmitsFew
unfolding events_at_end life_events
tells-few settings xs commands = by_life (life_now settings (front_of xs) commands)
  where
    by_life : (o : Option Life) → Few 4 1 (life_events settings xs o)
    by_life None = few-none 4 1
    by_life (Some life) = few-life settings xs life
