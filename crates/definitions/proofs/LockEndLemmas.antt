-- With a dump that answers news nothing is pushed.
use Rattle.std.proofs.Common.{inl, inr, ◌≡◌, ℕ, zero, suc, ◌+◌, ◌-◌, ◌*◌, ◌/◌, ◌%◌, ◌<◌, ◌≤◌, List}
use Rattle.std.proofs.Common.{[], ◌∷◌, ◌++◌, length, take, drop, refl, sym, ap, ◌∙◌, arith}
use Rattle.std.proofs.Common.{length-append}
use Rattle.std.specs.Prelude.{Bool, true, false, not, ◌&&◌, ◌||◌, ◌==◌, nat_le, ◌⊎◌, if◌then◌else◌}
use Rattle.std.specs.List.{range_with_len, list_any}
use Rattle.std.proofs.lemmas.Bool.{and_parts, leb-true, eqb-true}
use Rattle.std.proofs.lemmas.List.{take-append-le}
use Rattle.definitions.specs.Correlation.{Counts}
use Rattle.definitions.specs.Lock.{nothing, lock, unlock, lost, news_of, window, is_good}
use Rattle.definitions.specs.Lock.{window_count, any_good, is_locked, is_locked_after}
use Rattle.definitions.specs.Lock.{is_lost_after}
use Rattle.definitions.specs.Events.{pushes_of}
use Rattle.definitions.proofs.PushLemmas.{pushes-more}

-- ---- lists
pub snoc : {A : Type 0} (xs : List A) → (xs ≡ []) ⊎ ((ys : List A) × (y : A) × (xs ≡ ys ++ y ∷ []))
snoc [] = inl refl
snoc (x ∷ xs) = elim (snoc xs) [
  | inl none ↦ inr ([], x, ap (λ r. x ∷ r) none)
  | inr more ↦ inr (x ∷ more.0, more.1, ap (λ r. x ∷ r) more.2)
]

any-false : (f : ℕ → Bool) (a n : ℕ) → list_any f (range_with_len a n) ≡ false → (j : ℕ) → a ≤ j
    → j < a + n → f j ≡ false
any-false f a zero e j low high = absurd (omega (arith, low, high))
any-false f a (suc n) e j low high =
    by_first (f a) refl e (λ rest later. any-false f (a + 1) n rest j later (omega (arith, high)))
  where
    by_place : f a ≡ false → list_any f (range_with_len (a + 1) n) ≡ false → ((a ≡ j) ⊎ (a + 1 ≤ j))
        → ((a + 1 ≤ j) → f j ≡ false) → f j ≡ false
    by_place here rest (inl same) next = rw (sym same) here
    by_place here rest (inr later) next = next later

    first_or_later : (a j : ℕ) → a ≤ j → (a ≡ j) ⊎ (a + 1 ≤ j)
    first_or_later a j low = grind arith

    by_first : (b : Bool) → f a ≡ b → (b || list_any f (range_with_len (a + 1) n)) ≡ false
        → (list_any f (range_with_len (a + 1) n) ≡ false → a + 1 ≤ j → f j ≡ false) → f j ≡ false
    by_first true here e next = cc
    by_first false here e next = by_place here e (first_or_later a j low) (next e)

any-none : (f : ℕ → Bool) (a n : ℕ) → ((j : ℕ) → a ≤ j → j < a + n → f j ≡ false)
    → list_any f (range_with_len a n) ≡ false
any-none f a zero none = refl
any-none f a (suc n) none =
    rw (none a (omega arith) (omega arith))
    (any-none f (a + 1) n (λ j low high. none j (omega (arith, low)) (omega (arith, high))))

any-same : (f g : ℕ → Bool) (a n : ℕ) → ((j : ℕ) → j < a + n → f j ≡ g j)
    → list_any f (range_with_len a n) ≡ list_any g (range_with_len a n)
any-same f g a zero same = refl
any-same f g a (suc n) same =
    rw (same a (omega arith), any-same f g (a + 1) n (λ j h. same j (omega (arith, h)))) refl

slice-append : (a n : ℕ) (ds es : List Counts) → a + n ≤ length ds
    → take n (drop a (ds ++ es)) ≡ take n (drop a ds)
slice-append zero n ds es h = take-append-le n ds es (omega (arith, h))
slice-append (suc a) n [] es h = absurd (omega (arith, h))
slice-append (suc a) n (d ∷ ds) es h = slice-append a n ds es (omega (arith, h))

-- ---- windows
window-append : (ds es : List Counts) (j : ℕ) → 219 + 20 * j ≤ length ds
    → window (ds ++ es) j ≡ window ds j
window-append ds es j h =
    let n : 219 + 20 * j - (199 + 20 * j) ≡ 20 = omega arith in
    rw n (slice-append (199 + 20 * j) 20 ds es (omega (arith, h)))

good-append : (ds es : List Counts) (j : ℕ) → 219 + 20 * j ≤ length ds
    → is_good (ds ++ es) j ≡ is_good ds j
good-append ds es j h = rw (window-append ds es j h) refl

pub any_good-append : (ds es : List Counts) (k n : ℕ) → 199 + 20 * n ≤ length ds
    → any_good (ds ++ es) k n ≡ any_good ds k n
any_good-append ds es k n h =
    any-same (is_good (ds ++ es)) (is_good ds) (n - k) (n - (n - k))
    (λ j below. good-append ds es j (omega (arith, below, h)))

-- none of the last fifty is good, so none of the last ten
pub lost-unlocked : (ds : List Counts) (n : ℕ) → is_lost_after ds n ≡ true
    → is_locked_after ds n ≡ false
lost-unlocked ds n e =
    let parts = and_parts (nat_le 50 n) (not (any_good ds 50 n)) e in
    let enough : 50 ≤ n = leb-true 50 n parts.0 in
    any-none (is_good ds) (n - 10) (n - (n - 10))
    (λ j low high. any-false (is_good ds) (n - 50) (n - (n - 50))
    (not-any (any_good ds 50 n) parts.1) j (omega (arith, low))
    (omega (arith, high, enough)))
  where
    not-any : (b : Bool) → not b ≡ true → b ≡ false
    not-any true e = cc
    not-any false e = refl

-- a dump with news is the last of a window, and the loops are not locked after it, or were not
-- before
pub record IsNews (ds : List Counts) : Type 0 where
  pub enough : 219 ≤ length ds
  pub whole : (length ds - 199) % 20 ≡ 0
  pub either : (is_locked_after ds (window_count ds) ≡ false)
      ⊎ (is_locked_after ds (window_count ds - 1) ≡ false)

pub news-is : (ds : List Counts) → (news_of ds ≡ nothing) ⊎ IsNews ds
unfolding news_of
news-is ds = by_window (nat_le 219 (length ds)) ((length ds - 199) % 20 == 0) refl refl
  where
    n : ℕ
    n = window_count ds

    by_locks : 219 ≤ length ds → (length ds - 199) % 20 ≡ 0 → (a b c : Bool)
        → is_lost_after ds n ≡ a → is_locked_after ds n ≡ b → is_locked_after ds (n - 1) ≡ c
        → ((if a then lost else if b && not c then lock else if c && not b then unlock else nothing)
        ≡ nothing) ⊎ IsNews ds
    by_locks enough whole true b c f g h =
        inr (record { enough = enough; whole = whole; either = inl (lost-unlocked ds n f) })
    by_locks enough whole false true false f g h =
        inr (record { enough = enough; whole = whole; either = inr h })
    by_locks enough whole false false c f g h =
        inr (record { enough = enough; whole = whole; either = inl g })
    by_locks enough whole false true true f g h = inl refl

    by_window : (a b : Bool) → nat_le 219 (length ds) ≡ a → ((length ds - 199) % 20 == 0) ≡ b
        → ((if not (a && b) then nothing else if is_lost_after ds n then lost
        else if is_locked_after ds n
        && not (is_locked_after ds (n - 1)) then lock else if is_locked_after ds (n - 1)
        && not (is_locked_after ds n) then unlock else nothing) ≡ nothing) ⊎ IsNews ds
    by_window false b f g = inl refl
    by_window true false f g = inl refl
    by_window true true f g =
        by_locks (leb-true 219 (length ds) f) (eqb-true ((length ds - 199) % 20) 0 g)
        (is_lost_after ds n) (is_locked_after ds n) (is_locked_after ds (n - 1)) refl refl refl

-- the loops were not locked before it or are not after it
off : (ys : List Counts) (y : Counts) → IsNews (ys ++ y ∷ [])
    → (is_locked ys && is_locked (ys ++ y ∷ [])) ≡ false
unfolding is_locked
off ys y news =
    let ds : List Counts = ys ++ y ∷ [] in
    let long : length ds ≡ suc (length ys) = simp length-append (omega arith) in
    let enough : 219 ≤ length ds = news.enough in
    let whole : (length ds - 199) % 20 ≡ 0 = news.whole in
    let fewer : window_count ys ≡ window_count ds - 1 =
    fewer_windows (length ys) (length ds) long enough whole in
    let within : 199 + 20 * (window_count ds - 1) ≤ length ys =
    all_within (length ys) (length ds) long enough in
    let same : is_locked_after ds (window_count ds - 1) ≡ is_locked_after ys (window_count ds - 1) =
    any_good-append ys (y ∷ []) 10 (window_count ds - 1) within in
    elim news.either [
      | inl now ↦ second (is_locked_after ys (window_count ys))
          (is_locked_after ds (window_count ds)) now
      | inr before ↦ first (is_locked_after ys (window_count ys))
          (is_locked_after ds (window_count ds)) (ap (is_locked_after ys) fewer ∙ sym same ∙ before)
    ]
  where
    fewer_windows : (m n : ℕ) → n ≡ suc m → 219 ≤ n → (n - 199) % 20 ≡ 0
        → (m - 199) / 20 ≡ (n - 199) / 20 - 1
    fewer_windows m n long enough whole = omega arith

    all_within : (m n : ℕ) → n ≡ suc m → 219 ≤ n → 199 + 20 * ((n - 199) / 20 - 1) ≤ m
    all_within m n long enough = omega arith

    second : (b c : Bool) → c ≡ false → (b && c) ≡ false
    second true c e = e
    second false c e = refl

    first : (b c : Bool) → b ≡ false → (b && c) ≡ false
    first b c e = rw e refl

-- nothing is pushed with it
pub news-pushes : (ds : List Counts) → IsNews ds → pushes_of ds ≡ []
news-pushes ds news = by_last (snoc ds)
  where
    moved : (ys : List Counts) (y : Counts) → ds ≡ ys ++ y ∷ [] → IsNews (ys ++ y ∷ [])
    moved ys y e = rw (sym e) news

    by_last : ((ds ≡ []) ⊎ ((ys : List Counts) × (y : Counts) × (ds ≡ ys ++ y ∷ [])))
        → pushes_of ds ≡ []
    by_last (inl none) = absurd (omega (arith, news.enough, ap length none))
    by_last (inr (ys, y, e)) =
        ap pushes_of e ∙ pushes-more ys y
        ∙ ap (λ (b : Bool). if b then pushes_of ys ++ y.ip ∷ [] else [])
        (off ys y (moved ys y e))
