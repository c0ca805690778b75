-- Windows with one more dump.
use Rattle.std.proofs.Common.{◌≡◌, ℕ, zero, suc, ◌+◌, ◌-◌, ◌*◌, ◌%◌, ◌<◌, ◌≤◌, min, List, [], ◌∷◌}
use Rattle.std.proofs.Common.{◌++◌, length, take, drop, refl, ap, ◌∙◌, sym, arith, inl, inr}
use Rattle.std.proofs.Common.{length-append, length-drop}
use Rattle.std.specs.Prelude.{Bool, true, false, ◌||◌, nat_le, nat_lt, if◌then◌else◌, unsigned_abs}
use Rattle.std.specs.Prelude.{sum_by, Some, None, ◌⊎◌}
use Rattle.std.specs.List.{list_any, range_with_len}
use Rattle.std.proofs.lemmas.List.{drop-append-le, drop_all, take_all, take-append-le, map-id}
use Rattle.std.proofs.lemmas.List.Sums.{sum_by_push}
use Rattle.std.proofs.lemmas.List.FromFn.{map-range_with_len_more}
use Rattle.std.proofs.lemmas.Bool.{and_right, and_from, le-leb, eq-eqb, ne_eqb, or_right, lt-ltb}
use Rattle.std.proofs.lemmas.Bool.{le-ltb, cases_lt}
use Rattle.definitions.specs.Correlation.{Counts}
use Rattle.definitions.specs.Lock.{is_good, window_count, any_good}
use Rattle.tracking_loops.specs.Windows.{unfinished_window, ends_window, good_window, bad_run}
use Rattle.tracking_loops.specs.Standing.{IsFilling}
use Rattle.tracking_loops.specs.declared.window.LockWindow.{LockWindow}

abbrev in_phase_size : Counts → ℕ
in_phase_size d = unsigned_abs d.ip

abbrev quadrature_size : Counts → ℕ
quadrature_size d = unsigned_abs d.qp

module _ (ds : List Counts) (d : Counts) where
  pub longer : length (ds ++ d ∷ []) ≡ length ds + 1
  longer = simp length-append refl

  -- before dump 200 there is no window
  pub early-count : length ds < 199 → window_count (ds ++ d ∷ []) ≡ 0
  early-count h = rw longer (omega arith)

  pub early-filling : (s : LockWindow) → length ds < 199 → IsFilling ds s
      → IsFilling (ds ++ d ∷ []) s
  early-filling s h f = record {
    count = rw longer (f.count ∙ omega arith);
    in_phase = f.in_phase ∙ ap (sum_by in_phase_size) same;
    quadrature = f.quadrature ∙ ap (sum_by quadrature_size) same;
  }
    where
      same : unfinished_window ds ≡ unfinished_window (ds ++ d ∷ [])
      same = drop_all (199 + 20 * window_count ds) ds (omega arith)
          ∙ sym (drop_all (199 + 20 * window_count (ds ++ d ∷ [])) (ds ++ d ∷ [])
          (rw longer (omega arith)))

  -- windows that were whole before stay
  is_good-append : (j : ℕ) → j < window_count ds → is_good (ds ++ d ∷ []) j ≡ is_good ds j
  is_good-append j below =
      let start : 199 + 20 * j ≤ length ds = omega arith in
      let end : 219 + 20 * j - (199 + 20 * j) ≤ length (drop (199 + 20 * j) ds) = simp length-drop
      (omega arith) in
      ap (λ (xs : List Counts). nat_le (2 * sum_by quadrature_size xs) (sum_by in_phase_size xs))
      (ap (take (219 + 20 * j - (199 + 20 * j))) (drop-append-le (199 + 20 * j) ds (d ∷ []) start)
      ∙ take-append-le (219 + 20 * j - (199 + 20 * j)) (drop (199 + 20 * j) ds) (d ∷ []) end)

  pub bad_run-append : (n : ℕ) → n ≤ window_count ds → bad_run (ds ++ d ∷ []) n ≡ bad_run ds n
  unfolding bad_run
  bad_run-append zero h = refl
  bad_run-append (suc n) h = rw (is_good-append n (omega arith), bad_run-append n (omega arith))
      refl

module _ (ds : List Counts) (d : Counts) (s : LockWindow) (h : IsFilling ds s)
    (late : 199 ≤ length ds)
  where
    more : length (ds ++ d ∷ []) ≡ length ds + 1
    more = longer ds d

    sums_with : drop (199 + 20 * window_count ds) (ds ++ d ∷ []) ≡ unfinished_window ds ++ d ∷ []
    sums_with = drop-append-le (199 + 20 * window_count ds) ds (d ∷ []) (omega arith)

    in_phase_with : sum_by in_phase_size (drop (199 + 20 * window_count ds) (ds ++ d ∷ []))
        ≡ s.in_phase + unsigned_abs d.ip
    in_phase_with = ap (sum_by in_phase_size) sums_with
        ∙ sum_by_push in_phase_size (unfinished_window ds) d
        ∙ ap (λ n. n + unsigned_abs d.ip) (sym h.in_phase)

    quadrature_with : sum_by quadrature_size (drop (199 + 20 * window_count ds) (ds ++ d ∷ []))
        ≡ s.quadrature + unsigned_abs d.qp
    quadrature_with = ap (sum_by quadrature_size) sums_with
        ∙ sum_by_push quadrature_size (unfinished_window ds) d
        ∙ ap (λ n. n + unsigned_abs d.qp) (sym h.quadrature)

    part-count : s.count + 1 < 20 → window_count (ds ++ d ∷ []) ≡ window_count ds
    part-count part = rw more (omega (arith, h.count))

    pub part-goes_on : (new : LockWindow) → s.count + 1 < 20 → new.count ≡ s.count + 1
        → new.in_phase ≡ s.in_phase + unsigned_abs d.ip
        → new.quadrature ≡ s.quadrature + unsigned_abs d.qp
        → IsFilling (ds ++ d ∷ []) new
    part-goes_on new part count in_phase quadrature = record {
      count = rw (more, count) (omega (arith, h.count));
      in_phase = in_phase ∙ sym (ap (λ n. sum_by in_phase_size (drop (199 + 20 * n) (ds ++ d ∷ [])))
          (part-count part) ∙ in_phase_with);
      quadrature = quadrature ∙ sym (ap (λ n. sum_by quadrature_size
          (drop (199 + 20 * n) (ds ++ d ∷ []))) (part-count part) ∙ quadrature_with);
    }

    pub part-ends : s.count + 1 < 20 → ends_window (ds ++ d ∷ []) ≡ false
    part-ends part = and_right (nat_le 219 (length (ds ++ d ∷ []))) _
        (ne_eqb ((length (ds ++ d ∷ []) - 199) % 20) 0 (λ e. omega (arith, more, h.count)))

    pub whole-count : s.count + 1 ≡ 20 → window_count (ds ++ d ∷ []) ≡ window_count ds + 1
    whole-count whole = rw more (omega (arith, h.count))

    pub whole-goes_on : (new : LockWindow) → s.count + 1 ≡ 20 → new.count ≡ 0 → new.in_phase ≡ 0
        → new.quadrature ≡ 0 → IsFilling (ds ++ d ∷ []) new
    whole-goes_on new whole count in_phase quadrature = record {
      count = rw (more, count) (omega (arith, h.count));
      in_phase = in_phase ∙ sym (ap (sum_by in_phase_size) none);
      quadrature = quadrature ∙ sym (ap (sum_by quadrature_size) none);
    }
      where
        none : unfinished_window (ds ++ d ∷ []) ≡ []
        none = drop_all (199 + 20 * window_count (ds ++ d ∷ [])) (ds ++ d ∷ [])
            (rw (whole-count whole, more) (omega (arith, h.count)))

    pub whole-ends : s.count + 1 ≡ 20 → ends_window (ds ++ d ∷ []) ≡ true
    whole-ends whole = and_from _ _ (le-leb 219 (length (ds ++ d ∷ []))
        (rw more (omega (arith, h.count)))) (eq-eqb ((length (ds ++ d ∷ []) - 199) % 20) 0
        (rw more (omega (arith, h.count))))

    pub whole-is_good : s.count + 1 ≡ 20 → is_good (ds ++ d ∷ []) (window_count ds)
        ≡ nat_le (2 * (s.quadrature + unsigned_abs d.qp)) (s.in_phase + unsigned_abs d.ip)
    whole-is_good whole =
        let all : length (drop (199 + 20 * window_count ds) (ds ++ d ∷ []))
        ≤ 219 + 20 * window_count ds - (199 + 20 * window_count ds) = simp
        (length-drop, length-append) (omega (arith, h.count)) in
        ap (λ (xs : List Counts). nat_le (2 * sum_by quadrature_size xs) (sum_by in_phase_size xs))
        (take_all (219 + 20 * window_count ds - (199 + 20 * window_count ds))
        (drop (199 + 20 * window_count ds) (ds ++ d ∷ [])) all)
        ∙ ap (λ n. nat_le (2 * n) (sum_by in_phase_size
        (drop (199 + 20 * window_count ds) (ds ++ d ∷ [])))) quadrature_with
        ∙ ap (λ n. nat_le (2 * (s.quadrature + unsigned_abs d.qp)) n) in_phase_with

    pub part-none : s.count + 1 < 20 → good_window (ds ++ d ∷ []) ≡ None
    unfolding good_window
    part-none part = rw (part-ends part) refl

    pub whole-some : s.count + 1 ≡ 20 → good_window (ds ++ d ∷ [])
        ≡ Some (nat_le (2 * (s.quadrature + unsigned_abs d.qp)) (s.in_phase + unsigned_abs d.ip))
    unfolding good_window
    whole-some whole =
        let last : window_count (ds ++ d ∷ []) - 1 ≡ window_count ds = rw (whole-count whole)
        (omega arith) in
        rw (whole-ends whole, last, whole-is_good whole) refl

-- ---- runs of bad windows

pub bad_run-le : (ds : List Counts) (n : ℕ) → bad_run ds n ≤ n
unfolding bad_run
bad_run-le ds zero = omega arith
bad_run-le ds (suc n) = by_test (is_good ds n) (bad_run ds n) (bad_run-le ds n)
  where
    by_test : (b : Bool) (r : ℕ) → r ≤ n → (if b then 0 else suc r) ≤ suc n
    by_test true r h = omega arith
    by_test false r h = omega arith

range_more : (a n : ℕ) → range_with_len a (n + 1) ≡ range_with_len a n ++ (a + n) ∷ []
range_more a n = simp map-id at (map-range_with_len_more (λ (x : ℕ). x) a n (a + n) refl)

or_false : (b : Bool) → (b || false) ≡ b
or_false true = refl
or_false false = refl

list_any-push : (p : ℕ → Bool) (xs : List ℕ) (x : ℕ) → list_any p (xs ++ x ∷ [])
    ≡ (list_any p xs || p x)
list_any-push p [] x = or_false (p x)
list_any-push p (y ∷ xs) x = ap (λ (b : Bool). p y || b) (list_any-push p xs x)
    ∙ or_assoc (p y) (list_any p xs) (p x)
  where
    or_assoc : (a b c : Bool) → (a || (b || c)) ≡ ((a || b) || c)
    or_assoc true b c = refl
    or_assoc false b c = refl

-- the run after one more window
run_step : (b : Bool) (r n k : ℕ) → (nat_lt r (min n k) || b)
    ≡ nat_lt (if b then 0 else suc r) (min (suc n) (suc k))
run_step true r n k = or_right (nat_lt r (min n k)) true refl
    ∙ sym (lt-ltb 0 (min (suc n) (suc k)) (omega arith))
run_step false r n k = or_false (nat_lt r (min n k)) ∙ by_order (cases_lt r (min n k))
  where
    by_order : (r < min n k) ⊎ (min n k ≤ r) → nat_lt r (min n k)
        ≡ nat_lt (suc r) (min (suc n) (suc k))
    by_order (inl below) = lt-ltb r (min n k) below
        ∙ sym (lt-ltb (suc r) (min (suc n) (suc k)) (omega arith))
    by_order (inr above) = le-ltb r (min n k) above
        ∙ sym (le-ltb (suc r) (min (suc n) (suc k)) (omega arith))

-- one of the last windows is good where the run of bad ones is shorter
pub any_good-run : (ds : List Counts) (k n : ℕ) → any_good ds k n ≡ nat_lt (bad_run ds n) (min n k)
unfolding bad_run
any_good-run ds k zero =
    let z : 0 - k ≡ 0 = omega arith in
    rw z (sym (le-ltb 0 (min 0 k) (omega arith)))
any_good-run ds zero (suc n) =
    let z : suc n - (suc n - 0) ≡ 0 = omega arith in
    rw z (sym (le-ltb (bad_run ds (suc n)) (min (suc n) 0) (omega arith)))
any_good-run ds (suc k) (suc n) =
    let first : suc n - suc k ≡ n - k = omega arith in
    let count : suc n - (n - k) ≡ (n - (n - k)) + 1 = omega arith in
    let last : (n - k) + (n - (n - k)) ≡ n = omega arith in
    rw (first, count)
    (ap (list_any (is_good ds)) (range_more (n - k) (n - (n - k)))
    ∙ list_any-push (is_good ds) (range_with_len (n - k) (n - (n - k))) ((n - k) + (n - (n - k)))
    ∙ ap (λ j. any_good ds k n || is_good ds j) last
    ∙ ap (λ (b : Bool). b || is_good ds n) (any_good-run ds k n)
    ∙ run_step (is_good ds n) (bad_run ds n) n k)
