-- The lock and its news with one more dump.
use Rattle.std.proofs.Common.{◌≡◌, ℕ, suc, ◌+◌, ◌-◌, ◌%◌, ◌<◌, ◌≤◌, min, List, [], ◌∷◌, ◌++◌}
use Rattle.std.proofs.Common.{length, refl, ap, ◌∙◌, sym, arith, inl, inr, add-one}
use Rattle.std.specs.Prelude.{Bool, true, false, ◌&&◌, ◌||◌, not, ◌==◌, nat_le, nat_lt}
use Rattle.std.specs.Prelude.{if◌then◌else◌, Some, None, ◌⊎◌}
use Rattle.std.proofs.Math.Path.{ap₂}
use Rattle.std.proofs.lemmas.Bool.{and_left, and_right, and_from, and_parts, le-leb, lt-leb, eq-eqb}
use Rattle.std.proofs.lemmas.Bool.{eqb-true, ne_eqb, lt-ltb, le-ltb, cases_lt, both_ways}
use Rattle.definitions.specs.Correlation.{Counts}
use Rattle.definitions.specs.Lock.{is_good, window_count, is_locked_after, is_lost_after, is_locked}
use Rattle.definitions.specs.Lock.{news_of, nothing}
use Rattle.tracking_loops.specs.NewsIn.{news_by}
use Rattle.tracking_loops.specs.Windows.{ends_window, good_window, bad_run}
use Rattle.tracking_loops.specs.Standing.{IsFilling, IsWatching}
use Rattle.tracking_loops.specs.declared.lock.Lock.{Lock}
use Rattle.tracking_loops.proofs.WindowLemmas.{longer, early-count, early-filling, bad_run-append}
use Rattle.tracking_loops.proofs.WindowLemmas.{bad_run-le, any_good-run}

-- ---- what a window that ends means

no_window : (ds : List Counts) → good_window ds ≡ None → ends_window ds ≡ false
unfolding good_window
no_window ds e = by_test (ends_window ds) (is_good ds (window_count ds - 1)) e
  where
    by_test : (b g : Bool) → (if b then Some g else None) ≡ None → b ≡ false
    by_test true g e = cc
    by_test false g e = refl

some_window : (ds : List Counts) (good : Bool) → good_window ds ≡ Some good
    → (ends_window ds ≡ true) × (is_good ds (window_count ds - 1) ≡ good)
unfolding good_window
some_window ds good e = by_test (ends_window ds) (is_good ds (window_count ds - 1)) e
  where
    by_test : (b g : Bool) → (if b then Some g else None) ≡ Some good → (b ≡ true) × (g ≡ good)
    by_test true g e = (refl, cc)
    by_test false g e = cc

-- ---- the run and the lock after one more window, in plain numbers

pub run_kept : (good : Bool) (r : ℕ) → (if good then 0 else min 50 (min 50 r + 1))
    ≡ min 50 (if good then 0 else suc r)
run_kept true r = refl
run_kept false r = omega arith

pub lock_kept : (good : Bool) (r w : ℕ) → r ≤ w → (good ||
    (nat_lt r (min w 10) && nat_lt (min 50 (if good then 0 else suc r)) 10))
    ≡ nat_lt (if good then 0 else suc r) (min (w + 1) 10)
lock_kept true r w h = sym (lt-ltb 0 (min (w + 1) 10) (omega arith))
lock_kept false r w h = by_order (cases_lt (suc r) (min (w + 1) 10))
  where
    by_order : (suc r < min (w + 1) 10) ⊎ (min (w + 1) 10 ≤ suc r)
        → (nat_lt r (min w 10) && nat_lt (min 50 (suc r)) 10) ≡ nat_lt (suc r) (min (w + 1) 10)
    by_order (inl below) = and_from _ _ (lt-ltb r (min w 10) (omega arith))
        (lt-ltb (min 50 (suc r)) 10 (omega arith)) ∙ sym (lt-ltb (suc r) (min (w + 1) 10) below)
    by_order (inr above) = by_window (cases_lt (min 50 (suc r)) 10)
      where
        by_window : (min 50 (suc r) < 10) ⊎ (10 ≤ min 50 (suc r))
            → (nat_lt r (min w 10) && nat_lt (min 50 (suc r)) 10) ≡ nat_lt (suc r) (min (w + 1) 10)
        by_window (inl short) = and_left _ _ (le-ltb r (min w 10) (omega arith))
            ∙ sym (le-ltb (suc r) (min (w + 1) 10) above)
        by_window (inr long) = and_right _ _ (le-ltb (min 50 (suc r)) 10 long)
            ∙ sym (le-ltb (suc r) (min (w + 1) 10) above)

pub lost_kept : (good : Bool) (r w : ℕ) → r ≤ w → (min 50 (if good then 0 else suc r) == 50)
    ≡ (nat_le 50 (w + 1) && not (nat_lt (if good then 0 else suc r) (min (w + 1) 50)))
lost_kept true r w h = sym (and_right (nat_le 50 (w + 1)) _
    (ap not (lt-ltb 0 (min (w + 1) 50) (omega arith))))
lost_kept false r w h = by_order (cases_lt (suc r) 50)
  where
    by_order : (suc r < 50) ⊎ (50 ≤ suc r) → (min 50 (suc r) == 50)
        ≡ (nat_le 50 (w + 1) && not (nat_lt (suc r) (min (w + 1) 50)))
    by_order (inl short) = ne_eqb (min 50 (suc r)) 50 (λ e. omega arith)
        ∙ sym (by_windows (cases_lt w 49))
      where
        by_windows : (w < 49) ⊎ (49 ≤ w) → (nat_le 50 (w + 1) && not
            (nat_lt (suc r) (min (w + 1) 50))) ≡ false
        by_windows (inl few) = and_left _ _ (lt-leb 50 (w + 1) (omega arith))
        by_windows (inr many) = and_right (nat_le 50 (w + 1)) _
            (ap not (lt-ltb (suc r) (min (w + 1) 50) (omega arith)))
    by_order (inr long) = eq-eqb (min 50 (suc r)) 50 (omega arith)
        ∙ sym (and_from _ _ (le-leb 50 (w + 1) (omega arith))
        (ap not (le-ltb (suc r) (min (w + 1) 50) (omega arith))))

-- ---- one more dump

module _ (ds : List Counts) (d : Counts) where
  locked_by_run : (n : ℕ) → n ≤ window_count ds → is_locked_after (ds ++ d ∷ []) n
      ≡ nat_lt (bad_run ds n) (min n 10)
  locked_by_run n h = any_good-run (ds ++ d ∷ []) 10 n
      ∙ ap (λ r. nat_lt r (min n 10)) (bad_run-append ds d n h)

  -- no window ends with the dump
  same-locked : window_count (ds ++ d ∷ []) ≡ window_count ds → is_locked (ds ++ d ∷ [])
      ≡ is_locked ds
  unfolding is_locked
  same-locked n = ap (is_locked_after (ds ++ d ∷ [])) n
      ∙ locked_by_run (window_count ds) (omega arith) ∙ sym (any_good-run ds 10 (window_count ds))

  same-run : window_count (ds ++ d ∷ []) ≡ window_count ds
      → bad_run (ds ++ d ∷ []) (window_count (ds ++ d ∷ [])) ≡ bad_run ds (window_count ds)
  same-run n = ap (bad_run (ds ++ d ∷ [])) n ∙ bad_run-append ds d (window_count ds) (omega arith)

  same-watching : (s new : Lock) → IsWatching ds s → window_count (ds ++ d ∷ []) ≡ window_count ds
      → IsFilling (ds ++ d ∷ []) new.window → new.bad_windows ≡ s.bad_windows → new.is_locked
      ≡ s.is_locked → IsWatching (ds ++ d ∷ []) new
  same-watching s new h n filling run locked = record {
    window = filling;
    bad_windows = run ∙ h.bad_windows ∙ ap (min 50) (sym (same-run n));
    locked = locked ∙ h.locked ∙ sym (same-locked n);
  }

  quiet-news : ends_window (ds ++ d ∷ []) ≡ false → nothing ≡ news_of (ds ++ d ∷ [])
  unfolding news_of
  quiet-news e = rw e refl

  -- the first 199 dumps
  pub early-watching : (s : Lock) → length ds < 199 → IsWatching ds s → IsWatching (ds ++ d ∷ []) s
  early-watching s early h =
      let n : window_count (ds ++ d ∷ []) ≡ window_count ds = early-count ds d early
      ∙ sym (few ds (omega arith)) in
      same-watching s s h n (early-filling ds d s.window early h.window) refl refl
    where
      few : (xs : List Counts) → length xs < 199 → window_count xs ≡ 0
      few xs h = omega arith

  pub early-news : length ds < 199 → nothing ≡ news_of (ds ++ d ∷ [])
  early-news early = quiet-news (and_left _ _ (lt-leb 219 (length (ds ++ d ∷ []))
      (rw (longer ds d) (omega arith))))

module _ (ds : List Counts) (d : Counts) (late : 199 ≤ length ds) where
  part-count : good_window (ds ++ d ∷ []) ≡ None → window_count (ds ++ d ∷ []) ≡ window_count ds
  part-count none = by_place (cases_lt 0 ((length ds + 1 - 199) % 20))
    where
      by_place : (0 < (length ds + 1 - 199) % 20) ⊎ ((length ds + 1 - 199) % 20 ≤ 0)
          → window_count (ds ++ d ∷ []) ≡ window_count ds
      by_place (inl inside) = rw (longer ds d) (omega arith)
      by_place (inr end) = absurd (both_ways (ends_window (ds ++ d ∷ []))
          (no_window (ds ++ d ∷ []) none) (and_from _ _
          (le-leb 219 (length (ds ++ d ∷ [])) (rw (longer ds d) (omega arith)))
          (eq-eqb ((length (ds ++ d ∷ []) - 199) % 20) 0 (rw (longer ds d) (omega arith)))))

  pub part-watching : (s new : Lock) → IsWatching ds s → good_window (ds ++ d ∷ []) ≡ None
      → IsFilling (ds ++ d ∷ []) new.window → new.bad_windows ≡ s.bad_windows → new.is_locked
      ≡ s.is_locked → IsWatching (ds ++ d ∷ []) new
  part-watching s new h none filling run locked = same-watching ds d s new h (part-count none)
      filling run locked

  pub part-news : good_window (ds ++ d ∷ []) ≡ None → nothing ≡ news_of (ds ++ d ∷ [])
  part-news none = quiet-news ds d (no_window (ds ++ d ∷ []) none)

  module _ (good : Bool) (whole : good_window (ds ++ d ∷ []) ≡ Some good) where
    ends : ends_window (ds ++ d ∷ []) ≡ true
    ends = (some_window (ds ++ d ∷ []) good whole).0

    whole-count : window_count (ds ++ d ∷ []) ≡ window_count ds + 1
    whole-count =
        let parts = and_parts (nat_le 219 (length (ds ++ d ∷ [])))
        ((length (ds ++ d ∷ []) - 199) % 20 == 0) ends in
        let place = eqb-true ((length (ds ++ d ∷ []) - 199) % 20) 0 parts.1 in
        omega (arith, longer ds d, place)

    is_good-last : is_good (ds ++ d ∷ []) (window_count ds) ≡ good
    is_good-last =
        let last : window_count ds ≡ window_count (ds ++ d ∷ []) - 1 = omega (arith, whole-count) in
        ap (is_good (ds ++ d ∷ [])) last ∙ (some_window (ds ++ d ∷ []) good whole).1

    run_with : bad_run (ds ++ d ∷ []) (window_count ds + 1)
        ≡ (if good then 0 else suc (bad_run ds (window_count ds)))
    unfolding bad_run
    run_with = rw (add-one, is_good-last, bad_run-append ds d (window_count ds) (omega arith)) refl

    locked_with : is_locked_after (ds ++ d ∷ []) (window_count ds + 1)
        ≡ nat_lt (if good then 0 else suc (bad_run ds (window_count ds)))
        (min (window_count ds + 1) 10)
    locked_with = any_good-run (ds ++ d ∷ []) 10 (window_count ds + 1)
        ∙ ap (λ r. nat_lt r (min (window_count ds + 1) 10)) run_with

    lost_with : is_lost_after (ds ++ d ∷ []) (window_count ds + 1)
        ≡ (nat_le 50 (window_count ds + 1) && not (nat_lt
        (if good then 0 else suc (bad_run ds (window_count ds))) (min (window_count ds + 1) 50)))
    lost_with = ap (λ (b : Bool). nat_le 50 (window_count ds + 1) && not b)
        (any_good-run (ds ++ d ∷ []) 50 (window_count ds + 1)
        ∙ ap (λ r. nat_lt r (min (window_count ds + 1) 50)) run_with)

    module _ (s new : Lock) (h : IsWatching ds s) (run : new.bad_windows
        ≡ (if good then 0 else min 50 (s.bad_windows + 1)))
        (lock : new.is_locked ≡ (good || (s.is_locked && nat_lt new.bad_windows 10))) where
      new_run : new.bad_windows ≡ min 50 (if good then 0 else suc (bad_run ds (window_count ds)))
      new_run = run ∙ ap (λ n. if good then 0 else min 50 (n + 1)) h.bad_windows
          ∙ run_kept good (bad_run ds (window_count ds))

      was_locked : s.is_locked ≡ nat_lt (bad_run ds (window_count ds)) (min (window_count ds) 10)
      unfolding is_locked
      was_locked = h.locked ∙ any_good-run ds 10 (window_count ds)

      new_lock : new.is_locked ≡ is_locked_after (ds ++ d ∷ []) (window_count ds + 1)
      new_lock =
          lock
          ∙ ap₂ (λ (b : Bool) (n : ℕ). good || (b && nat_lt n 10)) was_locked new_run
          ∙ lock_kept good (bad_run ds (window_count ds)) (window_count ds)
          (bad_run-le ds (window_count ds))
          ∙ sym locked_with

      new_lost : (new.bad_windows == 50) ≡ is_lost_after (ds ++ d ∷ []) (window_count ds + 1)
      new_lost = ap (λ n. n == 50) new_run ∙ lost_kept good (bad_run ds (window_count ds))
          (window_count ds) (bad_run-le ds (window_count ds)) ∙ sym lost_with

      pub whole-watching : IsFilling (ds ++ d ∷ []) new.window → IsWatching (ds ++ d ∷ []) new
      unfolding is_locked
      whole-watching filling = record {
        window = filling;
        bad_windows = new_run ∙ ap (min 50) (sym (ap (bad_run (ds ++ d ∷ [])) whole-count
            ∙ run_with));
        locked = new_lock ∙ ap (is_locked_after (ds ++ d ∷ [])) (sym whole-count);
      }

      pub whole-news : news_by (new.bad_windows == 50) s.is_locked new.is_locked
          ≡ news_of (ds ++ d ∷ [])
      unfolding news_of
      whole-news =
          let before : window_count ds + 1 - 1 ≡ window_count ds = omega arith in
          let was = was_locked ∙ sym (locked_by_run ds d (window_count ds) (omega arith)) in
          rw (ends, whole-count, before) (rw (new_lost, was, new_lock) refl)
