-- What is pushed comes after the last lock.
use Rattle.std.proofs.Common.{inl, inr, ◌≡◌, ℕ, zero, suc, ◌+◌, ◌-◌, ◌*◌, ◌/◌, ◌%◌, ◌<◌, ◌≤◌, List}
use Rattle.std.proofs.Common.{[], ◌∷◌, ◌++◌, length, take, drop, refl, sym, ap, ◌∙◌, arith}
use Rattle.std.proofs.Common.{length-append, append_assoc, append-nil}
use Rattle.std.specs.Prelude.{Bool, true, false, not, ◌&&◌, ◌==◌, nat_le, nat_eq, Some, ◌⊎◌}
use Rattle.std.specs.Prelude.{if◌then◌else◌}
use Rattle.std.proofs.lemmas.Bool.{le-leb, eqb-true, eq-eqb, cases_lt}
use Rattle.std.proofs.lemmas.List.{take-append-le}
use Rattle.std.proofs.Math.Seq.{take-length}
use Rattle.definitions.specs.Correlation.{Counts}
use Rattle.definitions.specs.Lock.{nothing, lock, unlock, lost, news_of, window_count, is_locked}
use Rattle.definitions.specs.Lock.{is_locked_after, is_lost_after}
use Rattle.definitions.specs.Events.{pushes_of, pushes_by}
use Rattle.definitions.specs.SlotLaws.{is_lock, last_lock, prompt_sums, sums_after}
use Rattle.definitions.specs.SlotLaws.{PushesAreAfterLock}
use Rattle.definitions.proofs.PushLemmas.{pushes-more}
use Rattle.definitions.proofs.LockEndLemmas.{any_good-append, lost-unlocked}

clash : {b : Bool} → b ≡ true → b ≡ false → ⊥
clash t f = cc

-- ---- the loops with one more dump
-- not at the end of a window the lock stays as it is
module _ (ds : List Counts) (d : Counts) where
  longer : List Counts
  longer = ds ++ d ∷ []

  one-more : length longer ≡ suc (length ds)
  unfolding longer
  one-more = simp length-append (omega arith)

  after-same : (n : ℕ) → 20 * n + 199 ≤ length ds → is_locked_after longer n ≡ is_locked_after ds n
  unfolding longer
  after-same n h = any_good-append ds (d ∷ []) 10 n (omega (arith, h))

  same-windows : (m n : ℕ) → n ≡ suc m → (n < 219 → ⊥) → ((n - 199) % 20 ≡ 0 → ⊥)
      → ((n - 199) / 20 ≡ (m - 199) / 20) × (20 * ((m - 199) / 20) + 199 ≤ m)
  same-windows m n one enough whole = (grind (arith, whole, enough), omega (arith, one, enough'))
    where
      enough' : 219 ≤ n
      enough' = elim (cases_lt n 219) [ inl less ↦ absurd (enough less) | inr more ↦ more ]

  fewer-windows : (m n : ℕ) → n ≡ suc m → 219 ≤ n → (n - 199) % 20 ≡ 0
      → ((m - 199) / 20 ≡ (n - 199) / 20 - 1) × (20 * ((n - 199) / 20 - 1) + 199 ≤ m)
  fewer-windows m n one enough whole = (omega arith, omega arith)

  -- at its end it was that of the windows before
  before : 219 ≤ length longer → (length longer - 199) % 20 ≡ 0
      → is_locked ds ≡ is_locked_after longer (window_count longer - 1)
  unfolding is_locked
  before enough whole =
      let fewer = fewer-windows (length ds) (length longer) one-more enough whole in
      ap (is_locked_after ds) fewer.0 ∙ sym (after-same (window_count longer - 1) fewer.1)

  still : 219 ≤ length longer → ((length longer - 199) % 20 ≡ 0 → ⊥)
      → is_locked longer ≡ is_locked ds
  unfolding is_locked
  still enough whole =
      let same =
      same-windows (length ds) (length longer) one-more (λ less. omega (arith, less, enough))
      whole in
      ap (is_locked_after longer) same.0 ∙ after-same (window_count ds) same.1

locked-enough : (ds : List Counts) → is_locked ds ≡ true → 219 ≤ length ds
unfolding is_locked
locked-enough ds e = elim (cases_lt (length ds) 219) [
  | inl less ↦ let none : window_count ds ≡ 0 =
      omega (arith, less) in absurd (clash e (ap (is_locked_after ds) none))
  | inr more ↦ more
]

now-locked : (ds : List Counts) → is_locked ds ≡ true → is_locked_after ds (window_count ds) ≡ true
unfolding is_locked
now-locked ds e = e

-- ---- which news is a lock
chain : (w a b c : Bool) → Bool
chain w a b c =
    is_lock (if w then nothing else if a then lost else if b && not c then lock else if c
    && not b then unlock else nothing)

chain-locked : (w a b : Bool) → chain w a b true ≡ false
unfolding chain
chain-locked true a b = refl
chain-locked false true b = refl
chain-locked false false true = refl
chain-locked false false false = refl

news-chain : (ds : List Counts)
    → is_lock (news_of ds)
    ≡ chain (not (nat_le 219 (length ds) && (length ds - 199) % 20 == 0))
    (is_lost_after ds (window_count ds)) (is_locked_after ds (window_count ds))
    (is_locked_after ds (window_count ds - 1))
unfolding news_of chain
news-chain ds = refl

no-lock : (ds : List Counts) → is_locked_after ds (window_count ds - 1) ≡ true
    → is_lock (news_of ds) ≡ false
no-lock ds e =
    news-chain ds ∙ ap
    (chain (not (nat_le 219 (length ds) && (length ds - 199) % 20 == 0))
    (is_lost_after ds (window_count ds)) (is_locked_after ds (window_count ds))) e
    ∙ chain-locked _ _ _

not-end : (ds : List Counts) → ((length ds - 199) % 20 ≡ 0 → ⊥) → is_lock (news_of ds) ≡ false
unfolding chain
not-end ds other =
    news-chain ds ∙ ap
    (λ w. chain (not w) (is_lost_after ds (window_count ds))
    (is_locked_after ds (window_count ds)) (is_locked_after ds (window_count ds - 1)))
    (off (nat_le 219 (length ds)) (nat_eq ((length ds - 199) % 20) 0) refl)
  where
    off : (a b : Bool) → nat_eq ((length ds - 199) % 20) 0 ≡ b → (a && b) ≡ false
    off true true e = absurd (other (eqb-true ((length ds - 199) % 20) 0 e))
    off true false e = refl
    off false b e = refl

a-lock : (ds : List Counts) → 219 ≤ length ds → (length ds - 199) % 20 ≡ 0
    → is_locked_after ds (window_count ds) ≡ true → is_locked_after ds (window_count ds - 1) ≡ false
    → is_lock (news_of ds) ≡ true
unfolding chain
a-lock ds enough whole now before =
    news-chain ds
    ∙ rw (
      le-leb 219 (length ds) enough,
      eq-eqb ((length ds - 199) % 20) 0 whole,
      not-lost (is_lost_after ds (window_count ds)) refl,
      now,
      before,
    ) refl
  where
    not-lost : (b : Bool) → is_lost_after ds (window_count ds) ≡ b
        → is_lost_after ds (window_count ds) ≡ false
    not-lost true e = absurd (clash now (lost-unlocked ds (window_count ds) e))
    not-lost false e = e

-- ---- the last lock
last-append : (ds es : List Counts) (k : ℕ) → k ≤ length ds
    → last_lock (ds ++ es) k ≡ last_lock ds k
unfolding last_lock
last-append ds es zero h = refl
last-append ds es (suc k) h =
    rw (take-append-le (suc k) ds es h, last-append ds es k (omega (arith, h))) refl

last-more : (ds : List Counts) (d : Counts)
    → last_lock (ds ++ d ∷ []) (length (ds ++ d ∷ []))
    ≡ (if is_lock (news_of (ds ++ d ∷ [])) then Some (suc (length ds)) else last_lock ds
    (length ds))
unfolding last_lock
last-more ds d =
    let n : length (ds ++ d ∷ []) ≡ suc (length ds) = simp length-append (omega arith) in
    let whole : take (suc (length ds)) (ds ++ d ∷ []) ≡ ds ++ d ∷ [] =
    rw (sym n) (take-length (ds ++ d ∷ [])) in
    rw (n, whole, last-append ds (d ∷ []) (length ds) (omega arith)) refl

dropped : (k : ℕ) (ds : List Counts) (d : Counts) → k ≤ length ds
    → prompt_sums (drop k (ds ++ d ∷ [])) ≡ prompt_sums (drop k ds) ++ d.ip ∷ []
dropped zero [] d h = refl
dropped zero (c ∷ ds) d h = ap (λ r. c.ip ∷ r) (dropped zero ds d (omega arith))
dropped (suc k) [] d h = absurd (omega (arith, h))
dropped (suc k) (c ∷ ds) d h = dropped k ds d (omega (arith, h))

all-dropped : (ds : List Counts) (d : Counts) → drop (suc (length ds)) (ds ++ d ∷ []) ≡ []
all-dropped [] d = refl
all-dropped (c ∷ ds) d = all-dropped ds d

-- ---- all dumps
record Behind (ds : List Counts) : Type 0 where
  locked : is_locked ds ≡ true → (k : ℕ) × (last_lock ds (length ds) ≡ Some k) × (k ≤ length ds)
  pushed : pushes_of ds ≡ (if is_locked ds then sums_after ds (last_lock ds (length ds)) else [])

step : (ds : List Counts) (d : Counts) → Behind ds → Behind (ds ++ d ∷ [])
unfolding longer
step ds d behind = by_locks (is_locked ds) (is_locked (ds ++ d ∷ [])) refl refl
  where
    long : length (ds ++ d ∷ []) ≡ suc (length ds)
    long = simp length-append (omega arith)

    at_end : (b : Bool) → nat_eq ((length (ds ++ d ∷ []) - 199) % 20) 0 ≡ b
        → ((length (ds ++ d ∷ []) - 199) % 20 ≡ 0) ⊎ ((length (ds ++ d ∷ []) - 199) % 20 ≡ 0 → ⊥)
    at_end true e = inl (eqb-true ((length (ds ++ d ∷ []) - 199) % 20) 0 e)
    at_end false e = inr (λ h. clash (eq-eqb ((length (ds ++ d ∷ []) - 199) % 20) 0 h) e)

    by_locks : (b a : Bool) → is_locked ds ≡ b → is_locked (ds ++ d ∷ []) ≡ a
        → Behind (ds ++ d ∷ [])
    by_locks true false eb ea =
        record { locked = λ e. absurd (clash e ea); pushed = pushes-more ds d ∙ rw (eb, ea) refl }
    by_locks false false eb ea =
        record { locked = λ e. absurd (clash e ea); pushed = pushes-more ds d ∙ rw (eb, ea) refl }
    by_locks true true eb ea =
        let it = behind.locked eb in
        let no : is_lock (news_of (ds ++ d ∷ [])) ≡ false =
        elim (at_end (nat_eq ((length (ds ++ d ∷ []) - 199) % 20) 0) refl) [
          | inl whole ↦ no-lock (ds ++ d ∷ [])
              (sym (before ds d (locked-enough (ds ++ d ∷ []) ea) whole) ∙ eb)
          | inr other ↦ not-end (ds ++ d ∷ []) other
        ] in
        let last : last_lock (ds ++ d ∷ []) (length (ds ++ d ∷ [])) ≡ Some it.0 =
        last-more ds d ∙ rw no it.1 in
        let old : pushes_of ds ≡ prompt_sums (drop it.0 ds) = behind.pushed ∙ rw (eb, it.1) refl in
        record {
          locked = λ e. (it.0, last, omega (arith, long, it.2));
          pushed = pushes-more ds d ∙ rw (eb, ea, last, old) (sym (dropped it.0 ds d it.2));
        }
    by_locks false true eb ea =
        let yes_lock : is_lock (news_of (ds ++ d ∷ [])) ≡ true =
        elim (at_end (nat_eq ((length (ds ++ d ∷ []) - 199) % 20) 0) refl) [
          | inl whole ↦ a-lock (ds ++ d ∷ []) (locked-enough (ds ++ d ∷ []) ea) whole
              (now-locked (ds ++ d ∷ []) ea)
              (sym (before ds d (locked-enough (ds ++ d ∷ []) ea) whole) ∙ eb)
          | inr other ↦ absurd (clash ea (still ds d (locked-enough (ds ++ d ∷ []) ea) other ∙ eb))
        ] in
        let last : last_lock (ds ++ d ∷ []) (length (ds ++ d ∷ [])) ≡ Some (suc (length ds)) =
        last-more ds d ∙ rw yes_lock refl in
        record {
          locked = λ e. (suc (length ds), last, omega (arith, long));
          pushed = pushes-more ds d ∙ rw (eb, ea, last, all-dropped ds d) refl;
        }

begin-behind : Behind []
unfolding is_locked pushes_of pushes_by
begin-behind = record { locked = λ e. absurd (clash e refl); pushed = refl }

each-behind : (first rest : List Counts) → Behind first → Behind (first ++ rest)
each-behind first [] behind = rw (append-nil first) behind
each-behind first (d ∷ rest) behind =
    rw (sym (append_assoc first (d ∷ []) rest))
    (each-behind (first ++ d ∷ []) rest (step first d behind))

pub pushes-behind : PushesAreAfterLock
pushes-behind dumps = (each-behind [] dumps begin-behind).pushed
