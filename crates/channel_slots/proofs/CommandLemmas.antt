-- One slot of a bank takes a command; what the others stand for stays.
use Rattle.std.proofs.Common.{◌≡◌, ℕ, zero, suc, ◌<◌, List, length-set, []}
use Rattle.std.proofs.Common.{◌∷◌, ◌++◌, length, refl, sym, ap, ◌∙◌, arith, get_or, slice_set}
use Rattle.std.specs.Prelude.{Bool, true, false, nat_eq, Option, unwrap_or}
use Rattle.std.specs.List.{AllByRecursion}
use Rattle.std.proofs.lemmas.Bool.{ne_eqb, eqb-true, true_from_ne_false, eqb-false}
use Rattle.definitions.specs.Oscillators.{Settings}
use Rattle.definitions.specs.Commands.{TimedRequest, Request}
use Rattle.definitions.specs.Samples.{Sample}
use Rattle.definitions.specs.Banks.{with_command}
use Rattle.channel_slots.specs.declared.seat.Seat.{Seat}
use Rattle.channel_slots.specs.Slots.{StandsFor}
use Rattle.channel_slots.specs.Banks.{keys_of, BankStands, IsAt}

pub each-at : {A : Type 0} (P : A → Type 0) (xs : List A) (i : ℕ) (d : A) → i < length xs
    → AllByRecursion P xs → P (get_or xs i d)
each-at P [] i d h all = absurd (omega arith)
each-at P (x ∷ xs) zero d h all = all.0
each-at P (x ∷ xs) (suc i) d h all = each-at P xs i d (omega arith) all.1

-- ---- seats by their keys, of which no two are the same

abbrev pub Once : List (ℕ × ℕ) → Type 0
Once keys = (i j client number : ℕ) → IsAt keys i client number → IsAt keys j client number → i ≡ j

pub once-tail : (key : ℕ × ℕ) (keys : List (ℕ × ℕ)) → Once (key ∷ keys) → Once keys
once-tail key keys once i j client number a b =
    let same : suc i ≡ suc j = once (suc i) (suc j) client number a b in omega (arith, same)

-- the first key isn't that of a later seat
pub not-first : (key : ℕ × ℕ) (keys : List (ℕ × ℕ)) (i client number : ℕ) → Once (key ∷ keys)
    → IsAt keys i client number → key.0 ≡ client → key.1 ≡ number → ⊥
not-first key keys i client number once is c n =
    let here : IsAt (key ∷ keys) 0 client number = rw (c, n) refl in
    let same : 0 ≡ suc i = once 0 (suc i) client number here is in omega (arith, same)

-- a seat whose key is known
pub record IsSeat (ps : List Seat) (at client number : ℕ) (p : Seat) : Type 0 where
  pub within : at < length ps
  pub client_is : p.client ≡ client
  pub number_is : p.number ≡ number

pub found : (ps : List Seat) (at client number : ℕ) (p : Seat)
    → IsAt (keys_of ps) at client number → p ≡ get_or ps at p → IsSeat ps at client number p
found [] at client number p is e = cc
found (q ∷ ps) zero client number p is e = record {
  within = omega arith;
  client_is =
      ap (λ (x : Seat). x.client) e
      ∙ ap (λ (o : Option (ℕ × ℕ)). (unwrap_or o (q.client, q.number)).0) is;
  number_is =
      ap (λ (x : Seat). x.number) e
      ∙ ap (λ (o : Option (ℕ × ℕ)). (unwrap_or o (q.client, q.number)).1) is;
}
found (q ∷ ps) (suc at) client number p is e =
    let f = found ps at client number p is e in
    record {
      within = omega (arith, f.within);
      client_is = f.client_is;
      number_is = f.number_is;
    }

module _ (settings : Settings) (xs : List Sample) (asked : ℕ → ℕ → List TimedRequest)
    (client number time : ℕ) (request : Request) where
  abbrev longer : ℕ → ℕ → List TimedRequest
  longer = with_command asked client number time request

  other : (c n : ℕ) → (c ≡ client → n ≡ number → ⊥) → longer c n ≡ asked c n
  other c n ne = by_test (nat_eq c client) refl
    where
      by_test : (b : Bool) → nat_eq c client ≡ b → longer c n ≡ asked c n
      by_test true e = rw (e, ne_eqb n number (λ h. ne (eqb-true c client e) h))
      by_test false e = rw e

  own : longer client number
      ≡ asked client number ++ record { time = time; request = request } ∷ []
  own = rw (same client, same number)
    where
      same : (n : ℕ) → nat_eq n n ≡ true
      same n = true_from_ne_false (nat_eq n n) (λ e. eqb-false n n e refl)

  Each : (ℕ → ℕ → List TimedRequest) → List Seat → Type 0
  Each a ps = AllByRecursion (λ (p : Seat). StandsFor settings xs (a p.client p.number) p.slot) ps

  others : (ps : List Seat) → ((j : ℕ) → IsAt (keys_of ps) j client number → ⊥) → Each asked ps
      → Each longer ps
  unfolding Each
  others [] out each = tt
  others (p ∷ ps) out each = (
    rw (other p.client p.number (λ c n. out 0 (rw (c, n) refl))) each.0,
    others ps (λ j. out (suc j)) each.1,
  )

  at_seat : (ps : List Seat) (i : ℕ) (q : Seat) → Once (keys_of ps)
      → IsAt (keys_of ps) i client number → q.client ≡ client → q.number ≡ number
      → StandsFor settings xs
      (asked client number ++ record { time = time; request = request } ∷ []) q.slot
      → Each asked ps → Each longer (slice_set ps i q)
  unfolding Each
  at_seat [] i q once is c n stands each = tt
  at_seat (p ∷ ps) zero q once is c n stands each = (
    rw (c, n) (rw own stands),
    others ps (λ j at. absurd_at j (once 0 (suc j) client number is at)) each.1,
  )
    where
      absurd_at : (j : ℕ) → 0 ≡ suc j → ⊥
      absurd_at j e = omega (arith, e)
  at_seat (p ∷ ps) (suc i) q once is c n stands each = (
    rw (other p.client p.number
        (not-first (p.client, p.number) (keys_of ps) i client number once is)) each.0,
    at_seat ps i q (once-tail (p.client, p.number) (keys_of ps) once) is c n stands each.1,
  )

module _ (settings : Settings) (xs : List Sample) (asked : ℕ → ℕ → List TimedRequest)
    (ps : List Seat) (at client number time : ℕ) (p q : Seat) (once : Once (keys_of ps))
    (there : IsAt (keys_of ps) at client number) (is : p ≡ get_or ps at p) where
  pub stands-at : BankStands settings xs asked time ps
      → StandsFor settings xs (asked client number) p.slot
  stands-at stands =
      let f = found ps at client number p there is in
      let s =
      rw (sym is) at (each-at
      (λ (p : Seat). StandsFor settings xs (asked p.client p.number) p.slot) ps at p f.within
      stands.each) in
      rw (f.client_is, f.number_is) at s

  pub commanded : (request : Request) → BankStands settings xs asked time ps → q.client ≡ p.client
      → q.number ≡ p.number
      → ((commands : List TimedRequest) → StandsFor settings xs commands p.slot
      → StandsFor settings xs (commands ++ record { time = length xs; request = request } ∷ [])
      q.slot)
      → BankStands settings xs (with_command asked client number (length xs) request) time
      (slice_set ps at q)
  unfolding Each
  commanded request stands c n takes =
      let f = found ps at client number p there is in
      record {
        now = stands.now;
        each =
            at_seat settings xs asked client number (length xs) request ps at q once there
            (c ∙ f.client_is) (n ∙ f.number_is) (takes (asked client number) (stands-at stands))
            stands.each;
      }

keys-set : (ps : List Seat) (i : ℕ) (d q : Seat) → q.client ≡ (get_or ps i d).client
    → q.number ≡ (get_or ps i d).number → keys_of (slice_set ps i q) ≡ keys_of ps
keys-set [] i d q c n = refl
keys-set (p ∷ ps) zero d q c n = rw (c, n)
keys-set (p ∷ ps) (suc i) d q c n = rw (keys-set ps i d q c n)

each-set : (P : Seat → Type 0) (ps : List Seat) (i : ℕ) (q : Seat) → AllByRecursion P ps
    → P q → AllByRecursion P (slice_set ps i q)
each-set P [] i q all h = tt
each-set P (p ∷ ps) zero q all h = (h, all.1)
each-set P (p ∷ ps) (suc i) q all h = (all.0, each-set P ps i q all.1 h)

-- one of the seats has taken a command that keeps what is known of it
pub set-keeps : (P : Seat → Type 0) (ps : List Seat) (i : ℕ) (p q : Seat) → i < length ps
    → p ≡ get_or ps i p → (P p → P q) → AllByRecursion P ps → AllByRecursion P (slice_set ps i q)
set-keeps P ps i p q b is keeps all =
    each-set P ps i q all (keeps (rw (sym is) at (each-at P ps i p b all)))

-- the same by a test
-- what the bank keeps of itself
pub record Keeps (ps qs : List Seat) : Type 0 where
  pub size : length qs ≡ length ps
  pub keys : keys_of qs ≡ keys_of ps

pub keeps : (ps : List Seat) (i : ℕ) (p q : Seat) → p ≡ get_or ps i p
    → q.client ≡ p.client → q.number ≡ p.number → Keeps ps (slice_set ps i q)
keeps ps i p q is c m =
    record {
      size = length-set ps i q;
      keys =
          keys-set ps i p q (c ∙ ap (λ (x : Seat). x.client) is)
          (m ∙ ap (λ (x : Seat). x.number) is);
    }
