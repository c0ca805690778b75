-- The first piece of a text.
use Rattle.std.proofs.Common.{◌≡◌, ℕ, suc, ◌+◌, ◌-◌, ◌<◌, ◌≤◌, List, [], ◌∷◌, length, take, drop}
use Rattle.std.proofs.Common.{refl, ap, sym, arith, Bool, true, false}
use Rattle.std.specs.Prelude.{nat_eq, nat_lt, not, if◌then◌else◌, cond, position, Some, None}
use Rattle.std.specs.List.{position_or_len}
use Rattle.std.proofs.lemmas.Bool.{ltb-true, ltb-false, lt-ltb, le-ltb, eqb-true}
use Rattle.std.proofs.lemmas.Option.{cond_some}
use Rattle.std.proofs.lemmas.List.{take_rest}
use Rattle.definitions.specs.Lines.{pieces_ended_by, in_front}

-- one more byte before a text whose first piece is found
more_in_front : (pieces : List ℕ → List (List ℕ)) (t : Bool) (b : ℕ) (text : List ℕ) (n : ℕ)
    → nat_lt (cond (not t) (1 + n) 0) (length (b ∷ text)) ≡ true
    → (nat_lt n (length text) ≡ true → pieces text ≡ take n text ∷ pieces (drop (n + 1) text))
    → (if t then [] ∷ pieces text else in_front b (pieces text))
    ≡ take (cond (not t) (1 + n) 0) (b ∷ text)
    ∷ pieces (drop (cond (not t) (1 + n) 0 + 1) (b ∷ text))
more_in_front pieces true b text n h ih = refl
more_in_front pieces false b text n h ih =
    let s : 1 + n + 1 ≡ suc (n + 1) = omega arith in
    let t : 1 + n ≡ suc n = omega arith in
    let below = ltb-true (1 + n) (length (b ∷ text)) h in
    let inside : n < length text = omega arith in
    rw (s, t, ih (lt-ltb n (length text) inside)) refl

alone : (t : Bool) (b : ℕ) (text : List ℕ) (n : ℕ) (pieces : List (List ℕ))
    → nat_lt (cond (not t) (1 + n) 0) (length (b ∷ text)) ≡ false
    → (nat_lt n (length text) ≡ false → in_front b pieces ≡ (b ∷ text) ∷ [])
    → (if t then [] ∷ pieces else in_front b pieces) ≡ (b ∷ text) ∷ []
alone true b text n pieces h ih =
    let none = ltb-false 0 (length (b ∷ text)) h in absurd (omega arith)
alone false b text n pieces h ih =
    let past = ltb-false (1 + n) (length (b ∷ text)) h in
    let behind : length text ≤ n = omega arith in
    ih (le-ltb n (length text) behind)

module _ (end : ℕ) where
  abbrev pub ends : ℕ → Bool
  ends b = nat_eq b end

  -- the first piece ends at the first byte that ends it
  first_piece : (text : List ℕ) → nat_lt (position_or_len ends text) (length text) ≡ true
      → pieces_ended_by end text ≡ take (position_or_len ends text) text
      ∷ pieces_ended_by end (drop (position_or_len ends text + 1) text)
  unfolding pieces_ended_by
  first_piece [] h = cc
  first_piece (b ∷ text) h = more_in_front (pieces_ended_by end) (nat_eq b end) b text
      (position_or_len ends text) h (first_piece text)

  -- where no byte ends it, the text is one piece
  one_piece : (b : ℕ) (text : List ℕ) → nat_lt (position_or_len ends (b ∷ text)) (length (b ∷ text))
      ≡ false → pieces_ended_by end (b ∷ text) ≡ (b ∷ text) ∷ []
  unfolding pieces_ended_by
  one_piece b [] h = alone (nat_eq b end) b [] 0 [] h (λ _. refl)
  one_piece b (d ∷ text) h = alone (nat_eq b end) b (d ∷ text) (position_or_len ends (d ∷ text))
      (pieces_ended_by end (d ∷ text)) h (λ past. ap (in_front b) (one_piece d text past))

  pub piece_found : (text : List ℕ) (at : ℕ) → position ends text ≡ Some at
      → pieces_ended_by end text ≡ take at text
      ∷ pieces_ended_by end (take (length text - (at + 1)) (drop (at + 1) text))
  piece_found text at h =
      let found = cond_some (nat_lt (position_or_len ends text) (length text))
      (position_or_len ends text) at h in
      rw (take_rest text (at + 1), sym found.1) (first_piece text found.0)

  past_all : (test : Bool) (n : ℕ) → cond test (Some n) None ≡ None → test ≡ false
  past_all true n h = cc
  past_all false n h = refl

  pub last_piece : (text : List ℕ) → nat_eq (length text) 0 ≡ false → position ends text ≡ None
      → pieces_ended_by end text ≡ text ∷ pieces_ended_by end []
  unfolding pieces_ended_by
  last_piece [] some h = cc
  last_piece (b ∷ text) some h = one_piece b text
      (past_all (nat_lt (position_or_len ends (b ∷ text)) (length (b ∷ text)))
      (position_or_len ends (b ∷ text)) h)

  pub no_piece : (text : List ℕ) → nat_eq (length text) 0 ≡ true → pieces_ended_by end text ≡ []
  unfolding pieces_ended_by
  no_piece [] none = refl
  no_piece (b ∷ text) none =
      let e : suc (length text) ≡ 0 = eqb-true (suc (length text)) 0 none in absurd (omega arith)
