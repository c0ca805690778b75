-- What a slot emits with a bit, and that nothing of it is missing.
use Rattle.std.proofs.Common.{◌≡◌, ℕ, zero, suc, ◌+◌, ◌-◌, ◌<◌, ◌≤◌, List, [], ◌∷◌, ◌++◌, length}
use Rattle.std.proofs.Common.{refl}
use Rattle.std.proofs.Common.{sym, ap, ◌∙◌, arith, append-nil, take}
use Rattle.std.proofs.Math.Path.{ap₂}
use Rattle.std.proofs.Math.Seq.{take-length}
use Rattle.std.specs.Option.{option_map_or}
use Rattle.std.specs.Prelude.{option_and_then, is_some}
use Rattle.std.specs.Cmp.Rules.{signed_items}
use Rattle.std.specs.Prelude.{Bool, true, false, ℤ, not, ◌&&◌, ◌||◌, Option, Some, None, filter}
use Rattle.std.specs.Prelude.{nat_eq}
use Rattle.std.specs.Prelude.{nat_lt, if◌then◌else◌, slice_get, option_map, cond}
use Rattle.std.proofs.lemmas.Bool.{eqb-true, eq-eqb, ne_eqb, lt-ltb, ltb-true}
use Rattle.std.proofs.lemmas.List.Elements.{filter-append}
use Rattle.definitions.specs.Samples.{Sample}
use Rattle.definitions.specs.Oscillators.{Settings}
use Rattle.definitions.specs.Segments.{Dump, counts_of}
use Rattle.definitions.specs.Lock.{News, nothing, lock, unlock, lost, news_of}
use Rattle.definitions.specs.BitEdge.{has_edge, bits_of}
use Rattle.definitions.specs.Acquisition.{result_of, due_time}
use Rattle.definitions.specs.Frames.{Found, found_by, found_among, starts_of, subframe_at, gap_from}
use Rattle.definitions.specs.Pages.{Kind, Page, page_of, clock, eph2, eph3, almanac, utc, health}
use Rattle.definitions.specs.Pages.{message}
use Rattle.definitions.specs.DataSets.{reports_of, SetKind, ephemeris, single, kind_number}
use Rattle.definitions.specs.DataSets.{ephemeris_of, almanacs_of}
use Rattle.definitions.specs.DataSets.{ephemerides, almanac_sets, same_values, differing, later}
use Rattle.definitions.specs.DataSets.{reported_with, last_reported, new_set, almanac_set}
use Rattle.definitions.specs.DataSets.{page_report}
use Rattle.definitions.specs.Commands.{Start, TimedRequest, hold, track, acquire}
use Rattle.definitions.specs.Lives.{Life, is_steered, dumps_of_life, life_now}
use Rattle.definitions.specs.Events.{Event, acquired, count, locked, unlocked, signal_lost, edge}
use Rattle.definitions.specs.Events.{gap, subframe, reported, almanacs, when, events_of, last_of}
use Rattle.definitions.specs.Events.{front_of, news_events, pages_among, page_events, bit_events}
use Rattle.definitions.specs.Events.{push_events, steered_events, dump_events, last_dump_events}
use Rattle.definitions.specs.Events.{due_events, life_events, events_at_end, unprinted_count}
use Rattle.definitions.specs.EventLaws.{pushes_so_far, bits_so_far}
use Rattle.definitions.specs.SlotLaws.{is_set}
use Rattle.definitions.specs.ReportLaws.{BringsBit, BringsSubframe, is_framing, is_report}
use Rattle.definitions.specs.ReportLaws.{gap_between, gap_before, SubframesAreEmitted}
use Rattle.definitions.specs.ReportLaws.{ReportsComeWithSubframes, PagesAreReported, has_line}
use Rattle.definitions.specs.ReportLaws.{last_there, IsEmittedAnew, is_almanac}
use Rattle.definitions.specs.ReportLaws.{EphemeridesAreReported}
use Rattle.definitions.specs.ReportLaws.{AlmanacSetsAreReported}
use Rattle.definitions.proofs.LastPageLemmas.{page-is-last}
use Rattle.definitions.proofs.EdgeLemmas.{clash}
use Rattle.definitions.proofs.EventLemmas.{All, all-append, all-when, all-at}
use Rattle.definitions.proofs.StartLemmas.{Spaced, starts-spaced}

-- ---- the start that the last bit makes whole
later-start : (from : ℕ) (ns : List ℕ) (k n : ℕ) → Spaced from ns → slice_get ns k ≡ Some n
    → from ≤ n
later-start from [] k n spaced e = cc
later-start from (m ∷ ns) zero n spaced e = let it : m ≡ n = cc in omega (arith, spaced.0, it)
later-start from (m ∷ ns) (suc k) n spaced e =
    omega (arith, spaced.0, later-start (m + 300) ns k n spaced.1 e)

-- what was awaited at start number k
awaited_at : Option ℕ → List ℕ → ℕ → Option ℕ
awaited_at awaited ns zero = awaited
awaited_at awaited [] (suc k) = None
awaited_at awaited (m ∷ ns) (suc k) = awaited_at (Some (m + 300)) ns k

found-at : (bits : List Bool) (awaited : Option ℕ) (from : ℕ) (ns : List ℕ) (k n : ℕ)
    → Spaced from ns → slice_get ns k ≡ Some n → n + 300 ≡ length bits
    → found_among bits awaited ns
    ≡ Some (record { subframe = subframe_at bits n; gap = gap_from (awaited_at awaited ns k) n })
unfolding awaited_at
found-at bits awaited from [] k n spaced e last = cc
found-at bits awaited from (m ∷ ns) zero n spaced e last =
    let it : m ≡ n = cc in
    rw (it, eq-eqb (n + 300) (length bits) last) refl
found-at bits awaited from (m ∷ ns) (suc k) n spaced e last =
    let far : m + 300 ≤ n = later-start (m + 300) ns k n spaced.1 e in
    rw (ne_eqb (m + 300) (length bits) (λ same. omega (arith, far, same, last)))
    (found-at bits (Some (m + 300)) (m + 300) ns k n spaced.1 e last)

awaited-next : (awaited : Option ℕ) (ns : List ℕ) (k : ℕ)
    → awaited_at awaited ns (suc k) ≡ option_map (λ m. m + 300) (slice_get ns k)
unfolding awaited_at
awaited-next awaited [] k = refl
awaited-next awaited (m ∷ ns) zero = refl
awaited-next awaited (m ∷ ns) (suc k) = awaited-next (Some (m + 300)) ns k

gap-is : (ns : List ℕ) (k n : ℕ) → events_of gap (gap_from (awaited_at None ns k) n)
    ≡ gap_before ns k n
unfolding awaited_at
gap-is ns zero n = refl
gap-is ns (suc k) n =
    ap (λ (o : Option ℕ). events_of gap (gap_from o n)) (awaited-next None ns k)
    ∙ by_start (slice_get ns k)
  where
    by_start : (o : Option ℕ)
        → events_of gap (gap_from (option_map (λ m. m + 300) o) n) ≡ gap_between o n
    by_start None = refl
    by_start (Some m) = by_test (nat_eq (m + 300) n)
      where
        by_test : (b : Bool) → events_of gap (if b then None else Some (n - (m + 300)))
            ≡ (if b then [] else gap (n - (m + 300)) ∷ [])
        by_test true = refl
        by_test false = refl

-- ---- the events that no bit brings
record Quiet (f : Event → Bool) : Type 0 where
  acquired : (prn : ℕ) (cell : _) → f (acquired prn cell) ≡ false
  count : (c : _) → f (count c) ≡ false
  locked : f locked ≡ false
  unlocked : f unlocked ≡ false
  lost : f signal_lost ≡ false
  edge : f edge ≡ false

module _ (f : Event → Bool) (quiet : Quiet f) where
  none-when : (b : Bool) (e : Event) → f e ≡ false → filter f (when b e) ≡ []
  none-when true e is = rw is refl
  none-when false e is = refl

  none-news : (n : News) → filter f (news_events n) ≡ []
  none-news nothing = refl
  none-news lock = rw quiet.locked refl
  none-news unlock = rw quiet.unlocked refl
  none-news lost = rw quiet.lost refl

  none-due : (settings : Settings) (xs : List Sample) (begun : ℕ) (start : Start)
      → filter f (due_events settings xs begun start) ≡ []
  none-due settings xs begun (hold prn doppler half_chip) = refl
  none-due settings xs begun (track prn doppler half_chip) = refl
  none-due settings xs begun (acquire plan) =
      none-when (nat_eq (due_time settings plan begun) (length xs))
      (acquired plan.prn (result_of settings plan xs begun))
      (quiet.acquired plan.prn (result_of settings plan xs begun))

  behind : (es fs : List Event) → filter f es ≡ [] → filter f (es ++ fs) ≡ filter f fs
  behind es fs none = filter-append f es fs ∙ ap (λ (l : List Event). l ++ filter f fs) none

  pushed : (pushes : List ℤ) → length (bits_of (front_of pushes)) < length (bits_of pushes)
      → filter f (push_events pushes)
      ≡ filter f (bit_events (bits_of pushes) (found_by (bits_of pushes)))
  unfolding push_events
  pushed pushes new =
      rw (lt-ltb (length (bits_of (front_of pushes))) (length (bits_of pushes)) new)
      (behind (when (has_edge pushes && not (has_edge (front_of pushes))) edge)
      (bit_events (bits_of pushes) (found_by (bits_of pushes)))
      (none-when (has_edge pushes && not (has_edge (front_of pushes))) edge quiet.edge))

  module _ (settings : Settings) (xs : List Sample) (commands : List TimedRequest) (life : Life)
      (brings : BringsBit settings xs commands life) where
    dumps : List Dump
    dumps = dumps_of_life settings xs life

    of-dump : (d : Dump) → filter f (dump_events life dumps d)
        ≡ filter f (bit_events (bits_so_far settings xs life)
        (found_by (bits_so_far settings xs life)))
    unfolding dumps steered_events
    of-dump d =
        behind (when (nat_lt 0 (unprinted_count life (front_of dumps))) (count d.counts))
        (if is_steered life.start then steered_events (counts_of dumps) else [])
        (none-when (nat_lt 0 (unprinted_count life (front_of dumps))) (count d.counts)
        (quiet.count d.counts))
        ∙ ap (λ (b : Bool). filter f (if b then steered_events (counts_of dumps) else []))
        brings.is_steered
        ∙ behind (news_events (news_of (counts_of dumps)))
        (push_events (pushes_so_far settings xs life))
        (none-news (news_of (counts_of dumps)))
        ∙ pushed (pushes_so_far settings xs life) brings.is_new

    brought : filter f (events_at_end settings xs commands)
        ≡ filter f (bit_events (bits_so_far settings xs life)
        (found_by (bits_so_far settings xs life)))
    unfolding events_at_end life_events dumps
    brought =
        let d : Dump = brings.ends_now.0 in
        ap (λ (o : Option Life). filter f (life_events settings xs o)) brings.is_on
        ∙ behind (due_events settings xs life.begun life.start)
        (last_dump_events life (length xs) dumps (last_of dumps))
        (none-due settings xs life.begun life.start)
        ∙ ap (λ (o : Option Dump). filter f (last_dump_events life (length xs) dumps o))
        brings.ends_now.1
        ∙ ap (λ (b : Bool). filter f (if b then dump_events life dumps d else []))
        (eq-eqb d.time (length xs) brings.ends_now.2)
        ∙ of-dump d

-- ---- with the subframe
module _ (f : Event → Bool) (quiet : Quiet f) (settings : Settings) (xs : List Sample)
    (commands : List TimedRequest) (life : Life) (k n : ℕ)
    (brings : BringsSubframe settings xs commands life k n) where
  so_far : List Bool
  so_far = bits_so_far settings xs life

  whole : found_by so_far ≡ Some (record {
    subframe = subframe_at so_far n;
    gap =
        gap_from (awaited_at None (starts_of so_far) k) n;
  })
  unfolding found_by starts_of so_far
  whole = found-at (bits_so_far settings xs life) None 0 (starts_of (bits_so_far settings xs life))
      k n (starts-spaced (bits_so_far settings xs life) (length (bits_so_far settings xs life)) 0)
      brings.starts brings.is_last

  with-subframe : filter f (events_at_end settings xs commands)
      ≡ filter f (gap_before (starts_of so_far) k n ++ (subframe (subframe_at so_far n) ∷ []))
      ++ filter f (page_events so_far (page_of (subframe_at so_far n)))
  unfolding so_far
  with-subframe =
      brought f quiet settings xs commands life brings.brings
      ∙ ap (λ (o : Option Found). filter f (bit_events so_far o)) whole
      ∙ filter-append f (events_of gap (gap_from (awaited_at None (starts_of so_far) k) n)
      ++ (subframe (subframe_at so_far n) ∷ []))
      (page_events so_far (page_of (subframe_at so_far n)))
      ∙ ap (λ (es : List Event). filter f (es ++ (subframe (subframe_at so_far n) ∷ []))
      ++ filter f (page_events so_far (page_of (subframe_at so_far n))))
      (gap-is (starts_of so_far) k n)

quiet-framing : Quiet is_framing
quiet-framing = record {
  acquired = λ prn cell. refl;
  count = λ c. refl;
  locked = refl;
  unlocked = refl;
  lost = refl;
  edge = refl;
}

quiet-report : Quiet is_report
quiet-report = record {
  acquired = λ prn cell. refl;
  count = λ c. refl;
  locked = refl;
  unlocked = refl;
  lost = refl;
  edge = refl;
}

quiet-set : Quiet is_set
quiet-set = record {
  acquired = λ prn cell. refl;
  count = λ c. refl;
  locked = refl;
  unlocked = refl;
  lost = refl;
  edge = refl;
}

-- of the gap and the subframe a test keeps both or neither
framing : (f : Event → Bool) (b : Bool) → ((n : ℕ) → f (gap n) ≡ b) → ((s : _) → f (subframe s) ≡ b)
    → (ns : List ℕ) (k n : ℕ) (s : _)
    → filter f (gap_before ns k n ++ (subframe s ∷ []))
    ≡ (if b then gap_before ns k n ++ (subframe s ∷ []) else [])
framing f b gaps subframes ns k n s = by_number k
  where
    alone : (b : Bool) → f (subframe s) ≡ b
        → filter f (subframe s ∷ []) ≡ (if b then subframe s ∷ [] else [])
    alone true e = rw e refl
    alone false e = rw e refl

    both : (b : Bool) (m : ℕ) → f (gap m) ≡ b → f (subframe s) ≡ b
        → filter f (gap m ∷ subframe s ∷ []) ≡ (if b then gap m ∷ subframe s ∷ [] else [])
    both true m e g = rw (e, g) refl
    both false m e g = rw (e, g) refl

    by_gap : (here : Bool) (m : ℕ)
        → filter f ((if here then [] else gap m ∷ []) ++ (subframe s ∷ []))
        ≡ (if b then (if here then [] else gap m ∷ []) ++ (subframe s ∷ []) else [])
    by_gap true m = alone b (subframes s)
    by_gap false m = both b m (gaps m) (subframes s)

    by_start : (o : Option ℕ) → filter f (gap_between o n ++ (subframe s ∷ []))
        ≡ (if b then gap_between o n ++ (subframe s ∷ []) else [])
    by_start None = alone b (subframes s)
    by_start (Some m) = by_gap (nat_eq (m + 300) n) (n - (m + 300))

    by_number : (k : ℕ) → filter f (gap_before ns k n ++ (subframe s ∷ []))
        ≡ (if b then gap_before ns k n ++ (subframe s ∷ []) else [])
    by_number zero = alone b (subframes s)
    by_number (suc k) = by_start (slice_get ns k)

no-framing : (bits : List Bool) (o : Option Page) → filter is_framing (page_events bits o) ≡ []
no-framing bits None = refl
no-framing bits (Some page) =
    by_reports (reports_of (pages_among bits)).page (reports_of (pages_among bits)).set
  where
    by_reports : (r : Option _) (s : Option _)
        → filter is_framing (events_of reported r ++ events_of almanacs s) ≡ []
    by_reports None None = refl
    by_reports None (Some s) = refl
    by_reports (Some r) None = refl
    by_reports (Some r) (Some s) = refl

pub emitted-subframes : SubframesAreEmitted
unfolding so_far
emitted-subframes settings xs commands life k n brings =
    let bits : List Bool = bits_so_far settings xs life in
    with-subframe is_framing quiet-framing settings xs commands life k n brings
    ∙ ap (λ (es : List Event). es
    ++ filter is_framing (page_events bits (page_of (subframe_at bits n))))
    (framing is_framing true (λ m. refl) (λ s. refl) (starts_of bits) k n (subframe_at bits n))
    ∙ ap (λ (es : List Event). (gap_before (starts_of bits) k n
    ++ (subframe (subframe_at bits n) ∷ [])) ++ es)
    (no-framing bits (page_of (subframe_at bits n)))
    ∙ append-nil (gap_before (starts_of bits) k n ++ (subframe (subframe_at bits n) ∷ []))

-- ---- and its page
only-reports : (r : Option _) (s : Option _)
    → filter is_report (events_of reported r ++ events_of almanacs s) ≡ events_of reported r
only-reports None None = refl
only-reports None (Some s) = refl
only-reports (Some r) None = refl
only-reports (Some r) (Some s) = refl

only-sets : (r : Option _) (s : Option _)
    → filter is_set (events_of reported r ++ events_of almanacs s) ≡ events_of almanacs s
only-sets None None = refl
only-sets None (Some s) = refl
only-sets (Some r) None = refl
only-sets (Some r) (Some s) = refl

module _ (settings : Settings) (xs : List Sample) (commands : List TimedRequest) (life : Life)
    (k n : ℕ) (page : Page) (brings : BringsSubframe settings xs commands life k n)
    (is_page : page_of (subframe_at (bits_so_far settings xs life) n) ≡ Some page) where
  all_pages : List Page
  all_pages = pages_among (bits_so_far settings xs life)

  is-last : slice_get all_pages (length all_pages - 1) ≡ Some page
  unfolding all_pages so_far
  is-last = page-is-last (bits_so_far settings xs life) (record {
    subframe = subframe_at (bits_so_far settings xs life) n;
    gap =
        gap_from (awaited_at None (starts_of (bits_so_far settings xs life)) k) n;
  }) page is_page (whole is_framing quiet-framing settings xs commands life k n brings)

  paged : (f : Event → Bool) → Quiet f → ((m : ℕ) → f (gap m) ≡ false)
      → ((s : _) → f (subframe s) ≡ false) → filter f (events_at_end settings xs commands)
      ≡ filter f (events_of reported (reports_of all_pages).page
      ++ events_of almanacs (reports_of all_pages).set)
  unfolding all_pages so_far
  paged f quiet gaps subframes =
      let bits : List Bool = bits_so_far settings xs life in
      with-subframe f quiet settings xs commands life k n brings
      ∙ ap (λ (es : List Event). es ++ filter f (page_events bits (page_of (subframe_at bits n))))
      (framing f false gaps subframes (starts_of bits) k n (subframe_at bits n))
      ∙ ap (λ (o : Option Page). filter f (page_events bits o)) is_page

  reports-are : filter is_report (events_at_end settings xs commands)
      ≡ events_of reported (page_report all_pages page)
  unfolding reports_of
  reports-are = paged is_report quiet-report (λ m. refl) (λ s. refl)
      ∙ only-reports (reports_of all_pages).page (reports_of all_pages).set
      ∙ ap (λ (o : Option Page). events_of reported (option_and_then (page_report all_pages) o))
      is-last

  sets-are : filter is_set (events_at_end settings xs commands)
      ≡ events_of almanacs (option_map almanac_set (new_set almanac_sets all_pages))
  unfolding reports_of
  sets-are = paged is_set quiet-set (λ m. refl) (λ s. refl)
      ∙ only-sets (reports_of all_pages).page (reports_of all_pages).set

ephemeris-kind : (kind : Kind) → (nat_eq 0 (kind_number kind) || nat_eq 1 (kind_number kind)
    || nat_eq 2 (kind_number kind)) ≡ not (has_line kind)
ephemeris-kind clock = refl
ephemeris-kind eph2 = refl
ephemeris-kind eph3 = refl
ephemeris-kind almanac = refl
ephemeris-kind utc = refl
ephemeris-kind health = refl
ephemeris-kind message = refl

almanac-kind : (kind : Kind) → nat_eq 3 (kind_number kind) ≡ is_almanac kind
almanac-kind clock = refl
almanac-kind eph2 = refl
almanac-kind eph3 = refl
almanac-kind almanac = refl
almanac-kind utc = refl
almanac-kind health = refl
almanac-kind message = refl

pub reported-pages : PagesAreReported
unfolding all_pages
reported-pages settings xs commands life k n page brings is_page lined =
    reports-are settings xs commands life k n page brings is_page
    ∙ ap (λ (b : Bool). events_of reported (if b then option_map ephemeris
    (new_set ephemerides (pages_among (bits_so_far settings xs life))) else Some (single page)))
    (ephemeris-kind page.kind ∙ ap not lined)

-- ---- sets
module _ (kind : SetKind) (test : Page → Bool)
    (same : (page : Page) → kind.is_looked_for page ≡ test page) (pages : List Page) where
  was-there : (n : ℕ) → last_reported kind pages n ≡ last_there test kind.values_of pages n
  unfolding last_reported last_there
  was-there zero = refl
  was-there (suc n) = by_page (slice_get pages n) (last_reported kind pages n)
      (last_there test kind.values_of pages n) (kind.values_of (take (n + 1) pages)) (was-there n)
    where
      by_values : (before now : Option (List ℤ)) → later before (differing before now)
          ≡ (if is_some now then now else before)
      by_values before None = refl
      by_values None (Some now) = refl
      by_values (Some before) (Some now) = by_test (same_values before now) refl
        where
          by_test : (b : Bool) → same_values before now ≡ b
              → later (Some before) (if b then None else Some now) ≡ Some now
          by_test true e =
              ap (λ (v : List ℤ). Some v) ((signed_items before now).0 e)
          by_test false e = refl

      by_page : (o : Option Page) (before there now : Option (List ℤ)) → before ≡ there
          → later before (if option_map_or kind.is_looked_for o false then differing before now
          else None) ≡ (if option_map_or test o false && is_some now then now else there)
      by_page None before there now e = e
      by_page (Some page) before there now e = rw (same page) (by_test (test page))
        where
          by_test : (b : Bool) → later before (if b then differing before now else None)
              ≡ (if b && is_some now then now else there)
          by_test true = by_values before now
              ∙ ap (λ (o : Option (List ℤ)). if is_some now then now else o) e
          by_test false = e

  set-is : (page : Page) → slice_get pages (length pages - 1) ≡ Some page → test page ≡ true
      → new_set kind pages
      ≡ differing (last_there test kind.values_of pages (length pages - 1)) (kind.values_of pages)
  unfolding new_set
  set-is page last passes = by_pages pages refl last
    where
      by_pages : (ps : List Page) → pages ≡ ps → slice_get ps (length ps - 1) ≡ Some page
          → reported_with kind pages (length pages - 1)
          (last_reported kind pages (length pages - 1))
          ≡ differing (last_there test kind.values_of pages (length pages - 1))
          (kind.values_of pages)
      by_pages [] e there = cc
      by_pages (p ∷ ps) e there =
          let some : length pages ≡ suc (length ps) = ap length e in
          let n : length pages - 1 + 1 ≡ length pages = omega (arith, some) in
          let all : take (length pages - 1 + 1) pages ≡ pages = rw n (take-length pages) in
          ap (λ (o : Option Page). if option_map_or kind.is_looked_for o false
          then differing (last_reported kind pages (length pages - 1))
          (kind.values_of (take (length pages - 1 + 1) pages)) else None) last
          ∙ ap (λ (b : Bool). if b
          then differing (last_reported kind pages (length pages - 1))
          (kind.values_of (take (length pages - 1 + 1) pages)) else None)
          (same page ∙ passes)
          ∙ ap₂ differing (was-there (length pages - 1)) (ap kind.values_of all)

same-lists : (xs ys : List ℤ) → Some ys ≡ Some xs → xs ≡ ys
same-lists xs ys e = cc

emitted-anew : (make : List ℤ → Event) (before now : Option (List ℤ))
    → IsEmittedAnew make before now (events_of make (differing before now))
emitted-anew make before None = record {
  none = λ e. refl;
  same = λ e. refl;
  anew = λ values e other. cc;
}
emitted-anew make None (Some now) = record {
  none = λ e. cc;
  same = λ e. cc;
  anew = λ values e other. let it : now ≡ values = cc in ap (λ (v : List ℤ). make v ∷ []) it;
}
emitted-anew make (Some before) (Some now) = by_test (same_values before now) refl
  where
    by_test : (b : Bool) → same_values before now ≡ b
        → IsEmittedAnew make (Some before) (Some now)
        (events_of make (if b then None else Some now))
    by_test true e = record {
      none = λ e. refl;
      same = λ e. refl;
      anew =
          λ values f other. absurd
          (other (ap (λ (v : List ℤ). Some v) (sym ((signed_items before now).0 e))));
    }
    by_test false e = record {
      none = λ e. cc;
      same = λ f. absurd (clash ((signed_items before now).1 (same-lists before now f)) e);
      anew = λ values f other. let it : now ≡ values = cc in ap (λ (v : List ℤ). make v ∷ []) it;
    }

pub reported-ephemerides : EphemeridesAreReported
unfolding all_pages
reported-ephemerides settings xs commands life k n page brings is_page lined =
    let pages : List Page = pages_among (bits_so_far settings xs life) in
    let before : Option (List ℤ) = last_there (λ (p : Page). not (has_line p.kind)) ephemeris_of
    pages (length pages - 1) in
    let looked : not (has_line page.kind) ≡ true = ap not lined in
    let emitted : filter is_report (events_at_end settings xs commands)
    ≡ events_of (λ values. reported (ephemeris values)) (differing before (ephemeris_of pages)) =
    reports-are settings xs commands life k n page brings is_page
    ∙ ap (λ (b : Bool). events_of reported (if b then option_map ephemeris
    (new_set ephemerides pages) else Some (single page)))
    (ephemeris-kind page.kind ∙ looked)
    ∙ mapped (new_set ephemerides pages)
    ∙ ap (events_of (λ values. reported (ephemeris values)))
    (set-is ephemerides (λ (p : Page). not (has_line p.kind)) (λ p. ephemeris-kind p.kind) pages
    page (is-last settings xs commands life k n page brings is_page) looked) in
    rw emitted
    (emitted-anew (λ values. reported (ephemeris values)) before (ephemeris_of pages))
  where
    mapped : (o : Option (List ℤ)) → events_of reported (option_map ephemeris o)
        ≡ events_of (λ values. reported (ephemeris values)) o
    mapped None = refl
    mapped (Some values) = refl

pub reported-almanacs : AlmanacSetsAreReported
unfolding all_pages
reported-almanacs settings xs commands life k n page brings is_page looked =
    let pages : List Page = pages_among (bits_so_far settings xs life) in
    let before : Option (List ℤ) = last_there (λ (p : Page). is_almanac p.kind) almanacs_of
    pages (length pages - 1) in
    let emitted : filter is_set (events_at_end settings xs commands)
    ≡ events_of (λ values. almanacs (almanac_set values)) (differing before (almanacs_of pages)) =
    sets-are settings xs commands life k n page brings is_page
    ∙ mapped (new_set almanac_sets pages)
    ∙ ap (events_of (λ values. almanacs (almanac_set values)))
    (set-is almanac_sets (λ (p : Page). is_almanac p.kind) (λ p. almanac-kind p.kind) pages
    page (is-last settings xs commands life k n page brings is_page) looked) in
    rw emitted
    (emitted-anew (λ values. almanacs (almanac_set values)) before (almanacs_of pages))
  where
    mapped : (o : Option (List ℤ)) → events_of almanacs (option_map almanac_set o)
        ≡ events_of (λ values. almanacs (almanac_set values)) o
    mapped None = refl
    mapped (Some values) = refl

-- ---- nothing else
found-start : (bits : List Bool) (awaited : Option ℕ) (ns : List ℕ) (found : Found)
    → found_among bits awaited ns ≡ Some found
    → (k : ℕ) × (n : ℕ) × (slice_get ns k ≡ Some n) × (n + 300 ≡ length bits)
found-start bits awaited [] found e = cc
found-start bits awaited (m ∷ ns) found e =
    by_end (nat_eq (m + 300) (length bits)) refl e
    (λ f. found-start bits (Some (m + 300)) ns found f)
  where
    by_end : (b : Bool) → nat_eq (m + 300) (length bits) ≡ b
        → cond b (Some (record { subframe = subframe_at bits m; gap = gap_from awaited m }))
        (found_among bits (Some (m + 300)) ns) ≡ Some found
        → (found_among bits (Some (m + 300)) ns ≡ Some found
        → (k : ℕ) × (n : ℕ) × (slice_get ns k ≡ Some n) × (n + 300 ≡ length bits))
        → (k : ℕ) × (n : ℕ) × (slice_get (m ∷ ns) k ≡ Some n) × (n + 300 ≡ length bits)
    by_end true is e next = (0, m, refl, eqb-true (m + 300) (length bits) is)
    by_end false is e next = let it = next e in (suc it.0, it.1, it.2, it.3)

module _ (settings : Settings) (xs : List Sample) (commands : List TimedRequest) (life : Life)
    (on : life_now settings (front_of xs) commands ≡ Some life) where
  Brought : Type 0
  Brought = (l : Life) × (k : ℕ) × (n : ℕ) × BringsSubframe settings xs commands l k n

  Comes : Event → Type 0
  Comes e = (is_framing e || is_report e || is_set e) ≡ true → Brought

  all-come : Brought → (es : List Event) → All Comes es
  unfolding Comes
  all-come b [] = tt
  all-come b (e ∷ es) = ((λ is. b), all-come b es)

  news-come : (n : News) → All Comes (news_events n)
  unfolding Comes
  news-come nothing = tt
  news-come lock = ((λ e. cc), tt)
  news-come unlock = ((λ e. cc), tt)
  news-come lost = ((λ e. cc), tt)

  due-come : (start : Start) → All Comes (due_events settings xs life.begun start)
  unfolding Comes
  due-come (hold prn doppler half_chip) = tt
  due-come (track prn doppler half_chip) = tt
  due-come (acquire plan) = all-when Comes (nat_eq (due_time settings plan life.begun) (length xs))
      (acquired plan.prn (result_of settings plan xs life.begun)) (λ due e. cc)

  run : List Dump
  run = dumps_of_life settings xs life

  module _ (d : Dump) (steered : is_steered life.start ≡ true) (last : last_of run ≡ Some d)
      (now : d.time ≡ length xs) where
    found-come : (o : Option Found) → found_by (bits_so_far settings xs life) ≡ o
        → length (bits_of (front_of (pushes_so_far settings xs life)))
        < length (bits_so_far settings xs life)
        → All Comes (bit_events (bits_so_far settings xs life) o)
    unfolding found_by Brought run
    found-come None e new = tt
    found-come (Some found) e new =
        let bits : List Bool = bits_so_far settings xs life in
        let start = found-start bits None (starts_of bits) found e in
        all-come (
          life,
          start.0,
          start.1,
          record {
            brings = record {
              is_on = on;
              is_steered = steered;
              ends_now = (d, last, now);
              is_new = new;
            };
            starts = start.2;
            is_last = start.3;
          },
        ) (bit_events bits (Some found))

    pushes-come : All Comes (push_events (pushes_so_far settings xs life))
    unfolding push_events Comes
    pushes-come =
        let pushes : List ℤ = pushes_so_far settings xs life in
        all-append Comes (when (has_edge pushes && not (has_edge (front_of pushes))) edge)
        (if nat_lt (length (bits_of (front_of pushes))) (length (bits_of pushes))
        then bit_events (bits_of pushes) (found_by (bits_of pushes)) else [])
        (all-when Comes (has_edge pushes && not (has_edge (front_of pushes))) edge (λ is e. cc))
        (by_new (nat_lt (length (bits_of (front_of pushes))) (length (bits_of pushes))) refl)
      where
        by_new : (b : Bool) → nat_lt (length (bits_of (front_of (pushes_so_far settings xs life))))
            (length (bits_so_far settings xs life)) ≡ b
            → All Comes (if b then bit_events (bits_so_far settings xs life)
            (found_by (bits_so_far settings xs life)) else [])
        by_new false e = tt
        by_new true e = found-come (found_by (bits_so_far settings xs life)) refl
            (ltb-true _ _ e)

    steered-come : All Comes (steered_events (counts_of run))
    unfolding steered_events run
    steered-come = all-append Comes (news_events (news_of (counts_of run)))
        (push_events (pushes_so_far settings xs life)) (news-come (news_of (counts_of run)))
        pushes-come

  dump-come : (o : Option Dump) → last_of run ≡ o
      → All Comes (last_dump_events life (length xs) run o)
  unfolding Comes
  dump-come None e = tt
  dump-come (Some d) e = by_time (nat_eq d.time (length xs)) refl
    where
      by_steered : (b : Bool) → is_steered life.start ≡ b → d.time ≡ length xs
          → All Comes (if b then steered_events (counts_of run) else [])
      by_steered false is now = tt
      by_steered true is now = steered-come d is e now

      by_time : (b : Bool) → nat_eq d.time (length xs) ≡ b
          → All Comes (if b then dump_events life run d else [])
      by_time false is = tt
      by_time true is =
          all-append Comes (when (nat_lt 0 (unprinted_count life (front_of run))) (count d.counts))
          (if is_steered life.start then steered_events (counts_of run) else [])
          (all-when Comes (nat_lt 0 (unprinted_count life (front_of run))) (count d.counts)
          (λ is e. cc))
          (by_steered (is_steered life.start) refl (eqb-true d.time (length xs) is))

  life-come : All Comes (life_events settings xs (Some life))
  unfolding life_events run
  life-come = all-append Comes (due_events settings xs life.begun life.start)
      (last_dump_events life (length xs) run (last_of run)) (due-come life.start)
      (dump-come (last_of run) refl)

pub come-with-subframes : ReportsComeWithSubframes
unfolding events_at_end life_events Comes Brought
come-with-subframes settings xs commands i event there is =
    by_life (life_now settings (front_of xs) commands) refl there
  where
    by_life : (o : Option Life) → life_now settings (front_of xs) commands ≡ o
        → slice_get (life_events settings xs o) i ≡ Some event
        → (life : Life) × (k : ℕ) × (n : ℕ) × BringsSubframe settings xs commands life k n
    by_life None on there = cc
    by_life (Some life) on there =
        all-at (Comes settings xs commands life on) (life_events settings xs (Some life))
        (life-come settings xs commands life on) i event there is
