-- One more push: what it does to the changes since the last reset, and to the edge.
use Rattle.std.proofs.Common.{◌≡◌, ℕ, zero, suc, ◌+◌, ◌-◌, ◌%◌, ◌<◌, ◌≤◌, List, [], ◌∷◌, ◌++◌}
use Rattle.std.proofs.Common.{length, get_or, refl, ap, ◌∙◌, sym, arith, length-append, add-zero}
use Rattle.std.proofs.Common.{inl, inr}
use Rattle.std.specs.Prelude.{ℤ, pos, Bool, true, false, Some, None, ◌==◌, ◌&&◌, nat_le, count_by}
use Rattle.std.specs.Prelude.{cond, if◌then◌else◌, ◌⊎◌}
use Rattle.std.specs.Bool.{xor}
use Rattle.std.specs.Int.{is_negative}
use Rattle.std.proofs.Math.ListN.{get_or-append}
use Rattle.std.proofs.lemmas.List.{get_or_push}
use Rattle.std.proofs.lemmas.Bool.{and_right, le-leb, ne_eqb}
use Rattle.definitions.specs.BitEdge.{push_at, is_change, changes_at, is_crowded, reset_up_to}
use Rattle.definitions.specs.BitEdge.{is_edge, edge_of}
use Rattle.definitions.proofs.SumsLemmas.{least_below-none, least_below-none_is, least_below-is}
use Rattle.definitions.proofs.BitLemmas.{is_edge-append, reset_up_to-append}
use Rattle.bit_sync.specs.Changes.{sign_of_last, sign_turns, changes_since_reset}
use Rattle.bit_sync.proofs.CountLemmas.{count_by-range_same, count_by-range_more, count_by_places}

reset-within : (pushes : List ℤ) (k : ℕ) → reset_up_to pushes k ≤ k
unfolding reset_up_to
reset-within pushes zero = omega arith
reset-within pushes (suc k) =
    by_test (is_crowded pushes (reset_up_to pushes k) (suc k)) (reset_up_to pushes k)
    (reset-within pushes k)
  where
    by_test : (b : Bool) (r : ℕ) → r ≤ k → (if b then suc k else r) ≤ suc k
    by_test true r h = omega arith
    by_test false r h = omega arith

-- one more push of a range
changes_at-more : (pushes : List ℤ) (place r k : ℕ) → r ≤ k
    → changes_at pushes place r (k + 1)
    ≡ changes_at pushes place r k + cond (((k + 1) % 20 == place) && is_change pushes (k + 1)) 1
    0
changes_at-more pushes place r k h =
    let n : k + 1 - r ≡ (k - r) + 1 = omega arith in
    let here : r + 1 + (k - r) ≡ k + 1 = omega arith in
    rw n (count_by-range_more (λ i. (i % 20 == place) && is_change pushes i) (r + 1) (k - r)
    ∙ ap (λ i. changes_at pushes place r k + cond ((i % 20 == place) && is_change pushes i) 1 0)
    here)

-- there are none after a reset at the last push
changes_at-none : (pushes : List ℤ) (place k : ℕ) → changes_at pushes place k k ≡ 0
changes_at-none pushes place k = let n : k - k ≡ 0 = omega arith in rw n refl

none-crowded : (pushes : List ℤ) (k : ℕ) → is_crowded pushes k k ≡ false
none-crowded pushes k =
    ap (λ c. nat_le 2 c)
    (count_by-range_same (λ place. nat_le 4 (changes_at pushes place k k)) (λ place. false) 0 20
    (λ place below. ap (λ c. nat_le 4 c) (changes_at-none pushes place k)))

-- two places can't be crowded since a reset
pub not_crowded : (pushes : List ℤ) (k : ℕ) → is_crowded pushes (reset_up_to pushes k) k ≡ false
unfolding reset_up_to
not_crowded pushes zero = none-crowded pushes 0
not_crowded pushes (suc k) = by_test (is_crowded pushes (reset_up_to pushes k) (suc k)) refl
  where
    by_test : (b : Bool) → is_crowded pushes (reset_up_to pushes k) (suc k) ≡ b
        → is_crowded pushes (if b then suc k else reset_up_to pushes k) (suc k) ≡ false
    by_test true e = none-crowded pushes (suc k)
    by_test false e = e

module _ (pushes : List ℤ) (ip : ℤ) where
  push_at-append : (k : ℕ) → k < length pushes → push_at (pushes ++ ip ∷ []) k ≡ push_at pushes k
  push_at-append k h = get_or-append pushes (ip ∷ []) (pos 0) k h

  push_at-last : push_at (pushes ++ ip ∷ []) (length pushes) ≡ ip
  push_at-last = get_or_push pushes ip (pos 0) (length pushes) refl

  is_change-append : (k : ℕ) → k < length pushes
      → is_change (pushes ++ ip ∷ []) k ≡ is_change pushes k
  is_change-append k h = rw (push_at-append k h, push_at-append (k - 1) (omega arith)) refl

  changes_at-append : (place r k : ℕ) → r ≤ k → k < length pushes
      → changes_at (pushes ++ ip ∷ []) place r k ≡ changes_at pushes place r k
  changes_at-append place r k le h =
      count_by-range_same (λ i. (i % 20 == place) && is_change (pushes ++ ip ∷ []) i)
      (λ i. (i % 20 == place) && is_change pushes i) (r + 1) (k - r)
      (λ i below. ap (λ (b : Bool). (i % 20 == place) && b)
      (is_change-append i (omega (arith, le))))

-- the push is a change where its sign isn't that of the last
pub is_change-last : (pushes : List ℤ) (ip : ℤ)
    → is_change (pushes ++ ip ∷ []) (length pushes)
    ≡ sign_turns (sign_of_last pushes) (is_negative ip)
unfolding sign_of_last
is_change-last [] ip = refl
is_change-last (x ∷ xs) ip =
    rw (push_at-last (x ∷ xs) ip, push_at-append (x ∷ xs) ip (length (x ∷ xs) - 1) (omega arith))
    (by_tests (nat_le 1 (length (x ∷ xs))) (length (x ∷ xs) == 0)
    (is_negative (push_at (x ∷ xs) (length (x ∷ xs) - 1))) (is_negative ip)
    (le-leb 1 (length (x ∷ xs)) (omega arith)) (ne_eqb (length (x ∷ xs)) 0 (λ e. omega arith)))
  where
    by_tests : (t u a b : Bool) → t ≡ true → u ≡ false
        → (t && xor a b) ≡ sign_turns (if u then None else Some a) b
    by_tests t u a b e f = rw (e, f) refl

-- the changes at a place with the push, before a reset at it
abbrev pub changes_with : List ℤ → ℤ → ℕ → ℕ
changes_with pushes ip place =
    changes_at (pushes ++ ip ∷ []) place (reset_up_to (pushes ++ ip ∷ []) (length pushes - 1))
    (length pushes)

abbrev pub is_crowded_with : List ℤ → ℤ → Bool
is_crowded_with pushes ip =
    is_crowded (pushes ++ ip ∷ []) (reset_up_to (pushes ++ ip ∷ []) (length pushes - 1))
    (length pushes)

pub changes_with-more : (pushes : List ℤ) (ip : ℤ) (place : ℕ)
    → changes_with pushes ip place
    ≡ changes_since_reset pushes place + cond
    ((length pushes % 20 == place) && is_change (pushes ++ ip ∷ []) (length pushes)) 1 0
unfolding changes_since_reset reset_up_to
changes_with-more [] ip place =
    sym (ap (λ (b : Bool). 0 + cond b 1 0) (and_right (0 % 20 == place) false refl))
changes_with-more (x ∷ xs) ip place =
    let k : ℕ = length (x ∷ xs) in
    let j : ℕ = length (x ∷ xs) - 1 in
    let r : ℕ = reset_up_to (x ∷ xs) (length (x ∷ xs) - 1) in
    let e : length (x ∷ xs) ≡ (length (x ∷ xs) - 1) + 1 = omega arith in
    let below : length (x ∷ xs) - 1 < length (x ∷ xs) = omega arith in
    ap (λ m. changes_at ((x ∷ xs) ++ ip ∷ []) place m k)
    (reset_up_to-append (x ∷ xs) (ip ∷ []) j below)
    ∙ ap (λ n. changes_at ((x ∷ xs) ++ ip ∷ []) place r n) e
    ∙ changes_at-more ((x ∷ xs) ++ ip ∷ []) place r j (reset-within (x ∷ xs) j)
    ∙ ap (λ c. c + cond (((j + 1) % 20 == place) && is_change ((x ∷ xs) ++ ip ∷ []) (j + 1)) 1 0)
    (changes_at-append (x ∷ xs) ip place r j (reset-within (x ∷ xs) j) below)
    ∙ ap (λ n. changes_since_reset (x ∷ xs) place + cond
    ((n % 20 == place) && is_change ((x ∷ xs) ++ ip ∷ []) n) 1 0) (sym e)

-- no change, and no reset
pub unturned-crowded : (pushes : List ℤ) (ip : ℤ)
    → is_change (pushes ++ ip ∷ []) (length pushes) ≡ false → is_crowded_with pushes ip ≡ false
unfolding changes_since_reset
unturned-crowded pushes ip same =
    ap (λ c. nat_le 2 c)
    (count_by-range_same (λ place. nat_le 4 (changes_with pushes ip place))
    (λ place. nat_le 4 (changes_since_reset pushes place)) 0 20
    (λ place below. ap (λ c. nat_le 4 c) (unturned place)))
    ∙ not_crowded pushes (length pushes - 1)
  where
    unturned : (place : ℕ) → changes_with pushes ip place ≡ changes_since_reset pushes place
    unturned place =
        changes_with-more pushes ip place
        ∙ ap (λ (b : Bool). changes_since_reset pushes place + cond b 1 0)
        (and_right (length pushes % 20 == place)
        (is_change (pushes ++ ip ∷ []) (length pushes)) same)
        ∙ add-zero (changes_since_reset pushes place)

resets : (pushes : List ℤ) (k : ℕ)
    → reset_up_to pushes k
    ≡ (if is_crowded pushes (reset_up_to pushes (k - 1)) k then k else reset_up_to pushes
    (k - 1))
unfolding reset_up_to
resets pushes zero = by_test (is_crowded pushes 0 0)
  where
    by_test : (b : Bool) → let zero_push : ℕ = 0 in zero_push ≡ (if b then 0 else zero_push)
    by_test true = refl
    by_test false = refl
resets pushes (suc j) = let p : suc j - 1 ≡ j = omega arith in rw p refl

-- what is counted on from, after the push
pub since_reset-kept : (pushes : List ℤ) (ip : ℤ) (place : ℕ) → is_crowded_with pushes ip ≡ false
    → changes_since_reset (pushes ++ ip ∷ []) place ≡ changes_with pushes ip place
unfolding changes_since_reset
since_reset-kept pushes ip place e =
    let n : length (pushes ++ ip ∷ []) - 1 ≡ length pushes = simp length-append (omega arith) in
    rw (n, resets (pushes ++ ip ∷ []) (length pushes), e) refl

pub since_reset-crowded : (pushes : List ℤ) (ip : ℤ) (place : ℕ) → is_crowded_with pushes ip ≡ true
    → changes_since_reset (pushes ++ ip ∷ []) place ≡ 0
unfolding changes_since_reset
since_reset-crowded pushes ip place e =
    let n : length (pushes ++ ip ∷ []) - 1 ≡ length pushes = simp length-append (omega arith) in
    rw (n, resets (pushes ++ ip ∷ []) (length pushes), e)
    (changes_at-none (pushes ++ ip ∷ []) place (length pushes))

-- whether two places are crowded, from the list of the changes at each
pub crowded_with-places : (pushes : List ℤ) (ip : ℤ) (changes : List ℕ) → length changes ≡ 20
    → ((at : ℕ) → at < 20 → get_or changes at 0 ≡ changes_with pushes ip at)
    → is_crowded_with pushes ip ≡ nat_le 2 (count_by (λ n. nat_le 4 n) changes)
crowded_with-places pushes ip changes n each =
    ap (λ c. nat_le 2 c)
    (sym (count_by_places (λ n. nat_le 4 n) (changes_with pushes ip) changes 20 n each))

-- the push is the edge where it is a change and the sixteenth at its place
pub edge-last : (pushes : List ℤ) (ip : ℤ)
    → is_edge (pushes ++ ip ∷ []) (length pushes)
    ≡ (is_change (pushes ++ ip ∷ []) (length pushes)
    && (changes_with pushes ip (length pushes % 20) == 16))
edge-last pushes ip = refl

pub edge_of_push-some : (pushes : List ℤ) (ip : ℤ) → edge_of pushes ≡ None
    → is_edge (pushes ++ ip ∷ []) (length pushes) ≡ true
    → edge_of (pushes ++ ip ∷ []) ≡ Some (length pushes)
unfolding edge_of
edge_of_push-some pushes ip none here =
    let n : length (pushes ++ ip ∷ []) ≡ suc (length pushes) = simp length-append (omega arith) in
    rw n (least_below-is (is_edge (pushes ++ ip ∷ [])) (length pushes) here
    (λ j h. is_edge-append pushes (ip ∷ []) j h
    ∙ least_below-none (is_edge pushes) (length pushes) none j h))

pub edge_of_push-none : (pushes : List ℤ) (ip : ℤ) → edge_of pushes ≡ None
    → is_edge (pushes ++ ip ∷ []) (length pushes) ≡ false → edge_of (pushes ++ ip ∷ []) ≡ None
unfolding edge_of
edge_of_push-none pushes ip none here =
    let n : length (pushes ++ ip ∷ []) ≡ suc (length pushes) = simp length-append (omega arith) in
    rw n (least_below-none_is (is_edge (pushes ++ ip ∷ [])) (suc (length pushes))
    (λ j b. by_place j (lt_or_eq j (length pushes) b)))
  where
    lt_or_eq : (j n : ℕ) → j < suc n → (j < n) ⊎ (j ≡ n)
    lt_or_eq j n h = grind arith

    by_place : (j : ℕ) → (j < length pushes) ⊎ (j ≡ length pushes)
        → is_edge (pushes ++ ip ∷ []) j ≡ false
    by_place j (inl below) =
        is_edge-append pushes (ip ∷ []) j below
        ∙ least_below-none (is_edge pushes) (length pushes) none j below
    by_place j (inr same) = rw same here
