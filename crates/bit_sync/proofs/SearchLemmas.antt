-- The search for the edge, with one more push.
use Rattle.std.proofs.Common.{◌≡◌, ◌≢◌, ℕ, ◌+◌, ◌-◌, ◌%◌, ◌<◌, List, [], ◌∷◌, ◌++◌, length, get_or}
use Rattle.std.proofs.Common.{set, refl, ap, ◌∙◌, sym, arith, length-append, length-set, add-zero}
use Rattle.std.proofs.Common.{inl, inr}
use Rattle.std.specs.Prelude.{ℤ, Bool, true, false, pos, Some, replicate, ◌==◌, ◌&&◌, nat_le}
use Rattle.std.specs.Prelude.{count_by, cond}
use Rattle.std.specs.Int.{is_negative}
use Rattle.std.proofs.lemmas.List.{get_or_push, get_or-set_same, get_or-set_other, get_or-replicate}
use Rattle.std.proofs.lemmas.Bool.{and_left, and_right, and_from, eq-eqb, ne_eqb, cases_eq}
use Rattle.definitions.specs.BitEdge.{is_change, is_edge}
use Rattle.bit_sync.specs.Changes.{sign_of_last, sign_turns, changes_since_reset}
use Rattle.bit_sync.specs.Standing.{IsSearching}
use Rattle.bit_sync.specs.declared.edge_search.EdgeSearch.{EdgeSearch}
use Rattle.bit_sync.proofs.ChangeLemmas.{is_change-last, changes_with, is_crowded_with}
use Rattle.bit_sync.proofs.ChangeLemmas.{changes_with-more, unturned-crowded, since_reset-kept}
use Rattle.bit_sync.proofs.ChangeLemmas.{since_reset-crowded, crowded_with-places}
use Rattle.bit_sync.proofs.ChangeLemmas.{edge_of_push-none}

sign_of_last-push : (pushes : List ℤ) (ip : ℤ)
    → sign_of_last (pushes ++ ip ∷ []) ≡ Some (is_negative ip)
unfolding sign_of_last
sign_of_last-push pushes ip =
    let n : length (pushes ++ ip ∷ []) ≡ length pushes + 1 = simp length-append refl in
    let m : length pushes + 1 - 1 ≡ length pushes = omega arith in
    let some : (length pushes + 1 == 0) ≡ false = ne_eqb (length pushes + 1) 0 (λ e. omega arith) in
    rw (n, some, m, get_or_push pushes ip (pos 0) (length pushes) refl) refl

module _ (pushes : List ℤ) (ip : ℤ) (s : EdgeSearch) (h : IsSearching pushes s) where
  change_is : (b : Bool) → sign_turns s.last (is_negative ip) ≡ b
      → is_change (pushes ++ ip ∷ []) (length pushes) ≡ b
  change_is b t =
      is_change-last pushes ip ∙ ap (λ l. sign_turns l (is_negative ip)) (sym h.last) ∙ t

  place_in_range : s.place < 20
  place_in_range = rw h.place (omega arith)

  -- the changes with a push that is one
  turned_at : sign_turns s.last (is_negative ip) ≡ true → (at : ℕ) → at < 20
      → changes_with pushes ip at ≡ get_or s.changes at 0 + cond (s.place == at) 1 0
  turned_at t at below =
      changes_with-more pushes ip at
      ∙ ap (λ (b : Bool). changes_since_reset pushes at + cond ((length pushes % 20 == at) && b) 1
      0) (change_is true t)
      ∙ ap (λ (b : Bool). changes_since_reset pushes at + cond b 1 0)
      (and_true (length pushes % 20 == at))
      ∙ ap (λ n. changes_since_reset pushes at + cond (n == at) 1 0) (sym h.place)
      ∙ ap (λ n. n + cond (s.place == at) 1 0) (sym (h.changes at below))
    where
      and_true : (b : Bool) → (b && true) ≡ b
      and_true true = refl
      and_true false = refl

  turned_here : sign_turns s.last (is_negative ip) ≡ true
      → changes_with pushes ip (length pushes % 20) ≡ get_or s.changes s.place 0 + 1
  turned_here t =
      rw (← h.place) (turned_at t s.place place_in_range
      ∙ ap (λ (b : Bool). get_or s.changes s.place 0 + cond b 1 0)
      (eq-eqb s.place s.place refl))

  pub unturned-found : sign_turns s.last (is_negative ip) ≡ false
      → is_edge (pushes ++ ip ∷ []) (length pushes) ≡ false
  unturned-found t = and_left _ _ (change_is false t)

  pub turned-found : sign_turns s.last (is_negative ip) ≡ true → get_or s.changes s.place 0 + 1 ≡ 16
      → is_edge (pushes ++ ip ∷ []) (length pushes) ≡ true
  turned-found t e =
      and_from _ _ (change_is true t)
      (eq-eqb (changes_with pushes ip (length pushes % 20)) 16 (turned_here t ∙ e))

  pub turned-not_found : sign_turns s.last (is_negative ip) ≡ true
      → get_or s.changes s.place 0 + 1 ≢ 16 → is_edge (pushes ++ ip ∷ []) (length pushes) ≡ false
  turned-not_found t ne =
      and_right _ _ (ne_eqb (changes_with pushes ip (length pushes % 20)) 16
      (λ e. ne (sym (turned_here t) ∙ e)))

  next_place : (s.place + 1) % 20 ≡ length (pushes ++ ip ∷ []) % 20
  next_place =
      let n : length (pushes ++ ip ∷ []) ≡ length pushes + 1 = simp length-append refl in
      rw (n, h.place) (omega arith)

  pub unturned-goes_on : (new : EdgeSearch) → sign_turns s.last (is_negative ip) ≡ false
      → new.place ≡ (s.place + 1) % 20 → new.last ≡ Some (is_negative ip) → new.changes ≡ s.changes
      → IsSearching (pushes ++ ip ∷ []) new
  unturned-goes_on new t p l cs = record {
    no_edge = edge_of_push-none pushes ip h.no_edge (unturned-found t);
    place = p ∙ next_place;
    last = l ∙ sym (sign_of_last-push pushes ip);
    changes =
        λ at below. ap (λ (xs : List ℕ). get_or xs at 0) cs ∙ h.changes at below
        ∙ sym (since_reset-kept pushes ip at (unturned-crowded pushes ip (change_is false t))
        ∙ unturned at);
  }
    where
      unturned : (at : ℕ) → changes_with pushes ip at ≡ changes_since_reset pushes at
      unturned at =
          changes_with-more pushes ip at ∙ ap
          (λ (b : Bool). changes_since_reset pushes at + cond b 1 0)
          (and_right (length pushes % 20 == at) _ (change_is false t))
          ∙ add-zero (changes_since_reset pushes at)

  -- one more at its place
  more_at : (changes : List ℕ) → length s.changes ≡ 20
      → changes ≡ set s.changes s.place (get_or s.changes s.place 0 + 1) → (at : ℕ)
      → get_or changes at 0 ≡ get_or s.changes at 0 + cond (s.place == at) 1 0
  more_at changes n e at = elim (cases_eq s.place at) [
    | inl same ↦
        ap (λ (xs : List ℕ). get_or xs at 0) e
        ∙ ap (λ j. get_or (set s.changes s.place (get_or s.changes s.place 0 + 1)) j 0) (sym same)
        ∙ get_or-set_same s.changes s.place (get_or s.changes s.place 0 + 1) 0
        (omega (arith, place_in_range))
        ∙ ap (λ j. get_or s.changes j 0 + 1) same
        ∙ ap (λ (b : Bool). get_or s.changes at 0 + cond b 1 0) (sym (eq-eqb s.place at same))
    | inr other ↦
        ap (λ (xs : List ℕ). get_or xs at 0) e
        ∙ get_or-set_other s.changes s.place at (get_or s.changes s.place 0 + 1) 0
        (λ f. other (sym f))
        ∙ sym (add-zero (get_or s.changes at 0))
        ∙ ap (λ (b : Bool). get_or s.changes at 0 + cond b 1 0) (sym (ne_eqb s.place at other))
  ]

  counted : (changes : List ℕ) → sign_turns s.last (is_negative ip) ≡ true → length s.changes ≡ 20
      → changes ≡ set s.changes s.place (get_or s.changes s.place 0 + 1) → (at : ℕ) → at < 20
      → get_or changes at 0 ≡ changes_with pushes ip at
  counted changes t n e at below = more_at changes n e at ∙ sym (turned_at t at below)

  crowded_is : (changes : List ℕ) → sign_turns s.last (is_negative ip) ≡ true
      → length s.changes ≡ 20 → changes ≡ set s.changes s.place (get_or s.changes s.place 0 + 1)
      → (b : Bool) → nat_le 2 (count_by (λ n. nat_le 4 n) changes) ≡ b
      → is_crowded_with pushes ip ≡ b
  crowded_is changes t n e b is =
      crowded_with-places pushes ip changes (ap length e ∙ length-set s.changes s.place _ ∙ n)
      (counted changes t n e) ∙ is

  pub turned-goes_on : (new : EdgeSearch) → sign_turns s.last (is_negative ip) ≡ true
      → get_or s.changes s.place 0 + 1 ≢ 16 → length s.changes ≡ 20
      → new.changes ≡ set s.changes s.place (get_or s.changes s.place 0 + 1)
      → nat_le 2 (count_by (λ n. nat_le 4 n) new.changes) ≡ false
      → new.place ≡ (s.place + 1) % 20 → new.last ≡ Some (is_negative ip)
      → IsSearching (pushes ++ ip ∷ []) new
  turned-goes_on new t ne n cs crowded p l = record {
    no_edge = edge_of_push-none pushes ip h.no_edge (turned-not_found t ne);
    place = p ∙ next_place;
    last = l ∙ sym (sign_of_last-push pushes ip);
    changes =
        λ at below. counted new.changes t n cs at below
        ∙ sym (since_reset-kept pushes ip at (crowded_is new.changes t n cs false crowded));
  }

  pub crowded-goes_on : (new : EdgeSearch) (changes : List ℕ)
      → sign_turns s.last (is_negative ip) ≡ true → get_or s.changes s.place 0 + 1 ≢ 16
      → length s.changes ≡ 20
      → changes ≡ set s.changes s.place (get_or s.changes s.place 0 + 1)
      → nat_le 2 (count_by (λ n. nat_le 4 n) changes) ≡ true
      → new.place ≡ (s.place + 1) % 20 → new.last ≡ Some (is_negative ip)
      → new.changes ≡ replicate 20 0 → IsSearching (pushes ++ ip ∷ []) new
  crowded-goes_on new changes t ne n cs crowded p l zeros = record {
    no_edge = edge_of_push-none pushes ip h.no_edge (turned-not_found t ne);
    place = p ∙ next_place;
    last = l ∙ sym (sign_of_last-push pushes ip);
    changes =
        λ at below. ap (λ (xs : List ℕ). get_or xs at 0) zeros ∙ get_or-replicate 20 at 0 0 below
        ∙ sym (since_reset-crowded pushes ip at (crowded_is changes t n cs true crowded));
  }
