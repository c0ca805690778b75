-- The dumps of a channel are plain sums.
use Rattle.std.proofs.Common.{inl, inr, ◌≡◌, ℕ, zero, suc, ◌+◌, ◌-◌, ◌*◌, ◌<◌, ◌≤◌, List, [], ◌∷◌}
use Rattle.std.proofs.Common.{◌++◌, length, take, refl, sym, ap, ◌∙◌, arith, length-append}
use Rattle.std.specs.Prelude.{Bool, true, false, Option, Some, None, slice_get, ◌⊎◌}
use Rattle.std.proofs.lemmas.Bool.{and_parts, leb-true, ltb-true, cases_lt}
use Rattle.std.proofs.lemmas.List.{take-append-le}
use Rattle.std.proofs.Math.Seq.{take-length}
use Rattle.definitions.specs.Samples.{Sample}
use Rattle.definitions.specs.Oscillators.{Settings, code_cycle}
use Rattle.definitions.specs.Correlation.{Phases, phases_after, counts_over}
use Rattle.definitions.specs.Segments.{Channel, Dump, Segment, Progress, open_phases, is_through}
use Rattle.definitions.specs.Segments.{end_by, next_end, closed_at, progress, after_segments}
use Rattle.definitions.specs.Segments.{closed_if_ended, first_progress, next_segment}
use Rattle.definitions.specs.SlotLaws.{time_after_dumps, segment_after_dumps, phases_after_dumps}
use Rattle.definitions.specs.SlotLaws.{IsDump, DumpsArePlainSums}
use Rattle.definitions.proofs.SumsLemmas.{IsLeast, least_below-some, least_below-none}
use Rattle.definitions.proofs.SegmentsLemmas.{segments-preserve, closed-none, closed-some}
use Rattle.definitions.proofs.SegmentsLemmas.{end_by-at_start, end_by-above, is_through-is}

-- ---- lists
pub slice_get-append : {A : Type 0} (xs ys : List A) (n : ℕ) → n < length xs
    → slice_get (xs ++ ys) n ≡ slice_get xs n
slice_get-append [] ys n h = absurd (omega arith)
slice_get-append (x ∷ xs) ys zero h = refl
slice_get-append (x ∷ xs) ys (suc n) h = slice_get-append xs ys n (omega arith)

pub slice_get-last : {A : Type 0} (xs : List A) (x : A)
    → slice_get (xs ++ x ∷ []) (length xs) ≡ Some x
slice_get-last [] x = refl
slice_get-last (y ∷ ys) x = slice_get-last ys x

-- what is at a place of a list and one more: an element of the list, or the last
pub pushed-at : {A : Type 0} (xs : List A) (x y : A) (k : ℕ) → slice_get (xs ++ x ∷ []) k ≡ Some y
    → ((k < length xs) × (slice_get xs k ≡ Some y)) ⊎ ((k ≡ length xs) × (x ≡ y))
pushed-at [] x y zero e = inr (refl, cc)
pushed-at [] x y (suc k) e = cc
pushed-at (z ∷ zs) x y zero e = inl (omega arith, e)
pushed-at (z ∷ zs) x y (suc k) e =
    elim (pushed-at zs x y k e) [
      | inl old ↦ inl (omega (arith, old.0), old.1)
      | inr new ↦ inr (omega (arith, new.0), new.1)
    ]

clash : {b : Bool} → b ≡ true → b ≡ false → ⊥
clash t f = cc

module _ (settings : Settings) (channel : Channel) where
  segment-append : (ds more : List Dump) (k : ℕ) → k ≤ length ds
      → segment_after_dumps settings channel (ds ++ more) k
      ≡ segment_after_dumps settings channel ds k
  unfolding segment_after_dumps
  segment-append ds more zero h = refl
  segment-append ds more (suc k) h =
      rw (
        segment-append ds more k (omega arith),
        take-append-le k ds more (omega arith),
        slice_get-append ds more k (omega arith),
      ) refl

  pub phases-append : (ds more : List Dump) (k : ℕ) → k ≤ length ds
      → phases_after_dumps settings channel (ds ++ more) k
      ≡ phases_after_dumps settings channel ds k
  phases-append ds more k h = rw (segment-append ds more k h, take-append-le k ds more h) refl

  pub time-append : (ds more : List Dump) (k : ℕ) → k ≤ length ds
      → time_after_dumps channel (ds ++ more) k ≡ time_after_dumps channel ds k
  time-append ds more zero h = refl
  time-append ds more (suc k) h = rw (slice_get-append ds more k (omega arith)) refl

  start-is : (ds : List Dump) (k : ℕ)
      → (segment_after_dumps settings channel ds k).start ≡ time_after_dumps channel ds k
  unfolding segment_after_dumps
  start-is ds zero = refl
  start-is ds (suc k) = refl

  -- the segment after all of the dumps, when one more is pushed
  segment-push : (ds : List Dump) (d : Dump)
      → segment_after_dumps settings channel (ds ++ d ∷ []) (suc (length ds))
      ≡ next_segment (segment_after_dumps settings channel ds (length ds))
      (phases_after_dumps settings channel ds (length ds)) d.time
  unfolding segment_after_dumps
  segment-push ds d =
      rw (
        segment-append ds (d ∷ []) (length ds) (omega arith),
        take-append-le (length ds) ds (d ∷ []) (omega arith),
        slice_get-last ds d,
      ) refl

module _ (settings : Settings) (channel : Channel) (xs : List Sample) where
  Is : List Dump → ℕ → Dump → Type 0
  Is ds k d =
      IsDump channel xs (time_after_dumps channel ds k) (phases_after_dumps settings channel ds k) d

  record Stands (p : Progress) : Type 0 where
    each : (k : ℕ) (d : Dump) → slice_get p.dumps k ≡ Some d → Is p.dumps k d
    behind : p.open_segment ≡ segment_after_dumps settings channel p.dumps (length p.dumps)

  -- a dump is what it was when others come after it
  still : (ds more : List Dump) (k : ℕ) (d : Dump) → k ≤ length ds → Is ds k d → Is (ds ++ more) k d
  unfolding Is
  still ds more k d h it =
      rw (time-append settings channel ds more k h, phases-append settings channel ds more k h) it

  -- the dump of a segment that ends
  ended-dump : (s : Segment) (p : Phases) (e : ℕ) → p.code ≡ s.code
      → IsLeast (is_through s p.code_step) (length xs + 1) e
      → IsDump channel xs s.start p
      (record { time = e; counts = counts_over channel.prn p xs s.start e })
  unfolding is_through
  ended-dump s p e same least =
      let parts = and_parts _ _ least.passes in
      let ended : code_cycle ≤ s.code + (e - s.start) * p.code_step =
      leb-true code_cycle (s.code + (e - s.start) * p.code_step) parts.1 in
      record {
        later = ltb-true s.start e parts.0;
        within = omega (arith, least.below);
        through = rw same ended;
        not_sooner =
            λ j after before. elim (cases_lt (p.code + (j - s.start) * p.code_step) code_cycle) [
              | inl below ↦ below
              | inr above ↦ absurd
                  (clash (is_through-is s p.code_step j after (rw same at above))
                  (least.least j before))
            ];
        sums = refl;
      }

  stands-begun : Stands (first_progress channel)
  unfolding segment_after_dumps
  stands-begun = record { each = λ k d e. none k d e; behind = refl }
    where
      none : (k : ℕ) (d : Dump) → None ≡ Some d → Is [] k d
      none k d e = cc

  -- the dump that ends the open segment, after the others
  new-dump : (p : Progress) (e : ℕ) → Stands p → next_end settings channel xs p ≡ Some e
      → Is p.dumps (length p.dumps)
      (record {
        time = e;
        counts =
            counts_over channel.prn (open_phases settings channel p) xs p.open_segment.start e;
      })
  unfolding next_end end_by Is
  new-dump p e stands ends =
      let whole : take (length p.dumps) p.dumps ≡ p.dumps = take-length p.dumps in
      let phases : open_phases settings channel p
      ≡ phases_after_dumps settings channel p.dumps (length p.dumps) =
      rw (stands.behind, whole) refl in
      let start : p.open_segment.start ≡ time_after_dumps channel p.dumps (length p.dumps) =
      ap (λ (s : Segment). s.start) stands.behind
      ∙ start-is settings channel p.dumps (length p.dumps) in
      let least =
      least_below-some (is_through p.open_segment (open_phases settings channel p).code_step)
      (length xs + 1) e ends in
      moved start phases (ended-dump p.open_segment (open_phases settings channel p) e refl least)
    where
      moved : {a b : ℕ} {q r : Phases} {d : Dump} → a ≡ b → q ≡ r → IsDump channel xs a q d
          → IsDump channel xs b r d
      moved same also it = rw (sym same, sym also) it

  stands-closed : (p : Progress) (e : ℕ) → Stands p → next_end settings channel xs p ≡ Some e
      → Stands (closed_at settings channel xs p e)
  unfolding closed_at
  stands-closed p e stands ends =
      record {
        each = λ k d there. by_place k d (pushed-at p.dumps new d k there);
        behind = behind_it;
      }
    where
      new : Dump
      new =
          record {
            time = e;
            counts =
                counts_over channel.prn (open_phases settings channel p) xs p.open_segment.start
                e;
          }

      by_place : (k : ℕ) (d : Dump)
          → ((k < length p.dumps) × (slice_get p.dumps k ≡ Some d))
          ⊎ ((k ≡ length p.dumps) × (new ≡ d)) → Is (p.dumps ++ new ∷ []) k d
      by_place k d (inl old) =
          still p.dumps (new ∷ []) k d (omega (arith, old.0)) (stands.each k d old.1)
      by_place k d (inr last) =
          rw (last.0, sym last.1)
          (still p.dumps (new ∷ []) (length p.dumps) new (omega arith)
          (new-dump p e stands ends))

      behind_it : next_segment p.open_segment (open_phases settings channel p) e
          ≡ segment_after_dumps settings channel (p.dumps ++ new ∷ [])
          (length (p.dumps ++ new ∷ []))
      behind_it =
          let long : length (p.dumps ++ new ∷ []) ≡ suc (length p.dumps) =
          simp length-append (omega arith) in
          let whole : take (length p.dumps) p.dumps ≡ p.dumps = take-length p.dumps in
          rw (long, segment-push settings channel p.dumps new, whole, sym stands.behind) refl

  stands-progress : Stands (progress settings channel xs)
  unfolding progress
  stands-progress =
      segments-preserve settings channel xs Stands stands-begun stands-closed
      (length xs - channel.start)

  later : (p : Progress) (e : ℕ) → next_end settings channel xs p ≡ Some e
      → p.open_segment.start < (closed_at settings channel xs p e).open_segment.start
  unfolding next_end closed_at
  later p e some =
      (end_by-above p.open_segment (open_phases settings channel p).code_step (length xs) e some).0

  -- after k segments either no other ends, or k samples at least have passed since the start
  passed : (k : ℕ)
      → (next_end settings channel xs (after_segments settings channel xs k) ≡ None)
      ⊎ (k + channel.start ≤ (after_segments settings channel xs k).open_segment.start)
  unfolding after_segments
  passed zero = inr (omega arith)
  passed (suc k) =
      by_end (after_segments settings channel xs k)
      (next_end settings channel xs (after_segments settings channel xs k)) refl (passed k)
    where
      by_end : (p : Progress) (o : Option ℕ) → next_end settings channel xs p ≡ o
          → (next_end settings channel xs p ≡ None) ⊎ (k + channel.start ≤ p.open_segment.start)
          → (next_end settings channel xs (closed_if_ended settings channel xs p) ≡ None)
          ⊎ (suc k + channel.start ≤ (closed_if_ended settings channel xs p).open_segment.start)
      by_end p None none before = inl (rw (closed-none settings channel xs p none) none)
      by_end p (Some e) some (inl none) = absurd (neither none some)
        where
          neither : {o : Option ℕ} → o ≡ None → o ≡ Some e → ⊥
          neither f g = cc
      by_end p (Some e) some (inr far) =
          inr (rw (closed-some settings channel xs p e some) (omega (arith, far, later p e some)))

  -- after as many segments as there are samples since the start no other ends
  progress-done : next_end settings channel xs (progress settings channel xs) ≡ None
  unfolding progress next_end
  progress-done = elim (passed (length xs - channel.start)) [
    | inl none ↦ none
    | inr far ↦ end_by-at_start (progress settings channel xs).open_segment
        (open_phases settings channel (progress settings channel xs)).code_step (length xs)
        (omega (arith, far))
  ]

  not-through : (s : Segment) (step e : ℕ) → end_by s step (length xs) ≡ None → s.start < e
      → e ≤ length xs → s.code + (e - s.start) * step < code_cycle
  unfolding end_by
  not-through s step e none after within =
      elim (cases_lt (s.code + (e - s.start) * step) code_cycle) [
        | inl below ↦ below
        | inr above ↦ absurd
            (clash (is_through-is s step e after above)
            (least_below-none (is_through s step) (length xs + 1) none e (omega arith)))
      ]

  no-more : (p : Progress) → Stands p → next_end settings channel xs p ≡ None → (e : ℕ)
      → time_after_dumps channel p.dumps (length p.dumps) < e → e ≤ length xs
      → (phases_after (phases_after_dumps settings channel p.dumps (length p.dumps))
      (e - time_after_dumps channel p.dumps (length p.dumps))).code < code_cycle
  unfolding next_end
  no-more p stands none e after within =
      let whole : take (length p.dumps) p.dumps ≡ p.dumps = take-length p.dumps in
      let start : time_after_dumps channel p.dumps (length p.dumps) ≡ p.open_segment.start =
      sym (start-is settings channel p.dumps (length p.dumps))
      ∙ ap (λ (s : Segment). s.start) (sym stands.behind) in
      rw (whole, sym stands.behind, start)
      (not-through p.open_segment (open_phases settings channel p).code_step e none
      (omega (arith, start)) within)

pub are-dumps : DumpsArePlainSums
unfolding Is
are-dumps settings channel xs =
    let stands = stands-progress settings channel xs in
    record {
      each = stands.each;
      no_more =
          no-more settings channel xs (progress settings channel xs) stands
          (progress-done settings channel xs);
    }
