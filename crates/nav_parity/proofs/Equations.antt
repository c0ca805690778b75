-- What holds of each of the six equations, and of all six.
use Rattle.std.proofs.Common.{◌≡◌, ℕ, ◌+◌, ◌%◌, ◌<◌, ◌≤◌, Bool, true, List, [], ◌∷◌, refl, sym, ap}
use Rattle.std.proofs.Common.{◌∙◌}
use Rattle.std.proofs.Math.Path.{ap₂}
use Rattle.std.specs.Prelude.{◌&&◌, nat_lt, nat_le, sum_by}
use Rattle.std.specs.List.{AllByRecursion, list_all}
use Rattle.std.proofs.lemmas.Bool.{and_parts, and_from, ltb-true, leb-true, eqb-true, eq-eqb}
use Rattle.std.proofs.lemmas.List.Sums.{sum_by-cons}
use Rattle.definitions.specs.Parity.{Equation, equations, word_bit, data_bit, parity_bit, holds}
use Rattle.definitions.specs.Parity.{passes}

abbrev pub is_data_place : ℕ → Bool
is_data_place k = nat_lt 0 k && nat_le k 24

-- whether an equation's places are those of a word
abbrev pub has_places : Equation → Bool
has_places q =
    ((nat_le 25 q.place && nat_le q.place 30) && (nat_le 29 q.star && nat_le q.star 30))
    && list_all is_data_place q.data_places

pub places_are_known : list_all has_places equations ≡ true
places_are_known = refl

pub record Places (q : Equation) : Type 0 where
  pub from_25 : 25 ≤ q.place
  pub to_30 : q.place ≤ 30
  pub prior_from_29 : 29 ≤ q.star
  pub prior_to_30 : q.star ≤ 30
  pub in_data : list_all is_data_place q.data_places ≡ true

pub places_of : (q : Equation) → has_places q ≡ true → Places q
places_of q h =
    let own = nat_le 25 q.place && nat_le q.place 30 in
    let before = nat_le 29 q.star && nat_le q.star 30 in
    let all = and_parts (own && before) (list_all is_data_place q.data_places) h in
    let both = and_parts own before all.0 in
    let at = and_parts (nat_le 25 q.place) (nat_le q.place 30) both.0 in
    let prior = and_parts (nat_le 29 q.star) (nat_le q.star 30) both.1 in
    record {
      from_25 = leb-true 25 q.place at.0;
      to_30 = leb-true q.place 30 at.1;
      prior_from_29 = leb-true 29 q.star prior.0;
      prior_to_30 = leb-true q.star 30 prior.1;
      in_data = all.1;
    }

pub sum_by-same : (f g : ℕ → ℕ) → ((k : ℕ) → 0 < k → k ≤ 24 → f k ≡ g k) → (ks : List ℕ)
    → list_all is_data_place ks ≡ true → sum_by f ks ≡ sum_by g ks
sum_by-same f g same [] h = refl
sum_by-same f g same (k ∷ ks) h =
    let parts = and_parts (is_data_place k) (list_all is_data_place ks) h in
    let range = and_parts (nat_lt 0 k) (nat_le k 24) parts.0 in
    sum_by-cons f k ks
    ∙ ap₂ (λ (x y : ℕ). x + y) (same k (ltb-true 0 k range.0) (leb-true k 24 range.1))
    (sum_by-same f g same ks parts.1)
    ∙ sym (sum_by-cons g k ks)

-- an equation reads the data at 1 to 24 alone
pub parity_bit-same : (f g : ℕ → ℕ) → ((k : ℕ) → 0 < k → k ≤ 24 → f k ≡ g k)
    → (prior : ℕ) (q : Equation) → has_places q ≡ true → parity_bit f prior q ≡ parity_bit g prior q
parity_bit-same f g same prior q h =
    ap (λ (s : ℕ). (word_bit prior q.star + s) % 2)
    (sum_by-same f g same q.data_places (places_of q h).in_data)

-- a step that each equation allows
pub each : (P Q : Equation → Type 0) → ((q : Equation) → has_places q ≡ true → P q → Q q)
    → (qs : List Equation) → list_all has_places qs ≡ true → AllByRecursion P qs
    → AllByRecursion Q qs
each P Q step [] known h = h
each P Q step (q ∷ qs) known h =
    let parts = and_parts (has_places q) (list_all has_places qs) known in
    (step q parts.0 h.0, each P Q step qs parts.1 h.1)

pub each_of_two : (P Q R : Equation → Type 0)
    → ((q : Equation) → has_places q ≡ true → P q → Q q → R q) → (qs : List Equation)
    → list_all has_places qs ≡ true → AllByRecursion P qs → AllByRecursion Q qs
    → AllByRecursion R qs
each_of_two P Q R step [] known h i = h
each_of_two P Q R step (q ∷ qs) known h i =
    let parts = and_parts (has_places q) (list_all has_places qs) known in
    (step q parts.0 h.0 i.0, each_of_two P Q R step qs parts.1 h.1 i.1)

-- the word meets an equation, as a fact
abbrev pub IsMet : ℕ → ℕ → Equation → Type 0
IsMet word prior q = word_bit word q.place ≡ parity_bit (data_bit word prior) prior q

-- the word passes, as a fact on each equation
unfoldable pub Passes : ℕ → ℕ → Type 0
Passes word prior = AllByRecursion (IsMet word prior) equations

module _ (word prior : ℕ) where
  each_is_met : (qs : List Equation) → list_all (holds word prior) qs ≡ true
      → AllByRecursion (IsMet word prior) qs
  unfolding holds
  each_is_met [] h = tt
  each_is_met (q ∷ qs) h =
      let parts = and_parts (holds word prior q) (list_all (holds word prior) qs) h in (
        eqb-true (word_bit word q.place) (parity_bit (data_bit word prior) prior q) parts.0,
        each_is_met qs parts.1,
      )

  each_holds : (qs : List Equation) → AllByRecursion (IsMet word prior) qs
      → list_all (holds word prior) qs ≡ true
  unfolding holds
  each_holds [] h = refl
  each_holds (q ∷ qs) h =
      and_from (holds word prior q) (list_all (holds word prior) qs)
      (eq-eqb (word_bit word q.place) (parity_bit (data_bit word prior) prior q) h.0)
      (each_holds qs h.1)

  pub Passes-from_true : passes word prior ≡ true → Passes word prior
  unfolding Passes passes
  Passes-from_true h = each_is_met equations h

  pub passes-true : Passes word prior → passes word prior ≡ true
  unfolding Passes passes
  passes-true h = each_holds equations h
