-- Where each slot of clients stands, whatever shares they have.
use Rattle.std.proofs.Common.{◌≡◌, ℕ, zero, suc, ◌+◌, ◌-◌, ◌*◌, ◌<◌, ◌≤◌, List, [], ◌∷◌, ◌++◌}
use Rattle.std.proofs.Common.{length, take, get_or, subst, refl, sym, ap, ◌∙◌, arith, map, ◌⊎◌, inl}
use Rattle.std.proofs.Common.{inr}
use Rattle.std.specs.Prelude.{Bool, true, false, nat_lt, flat_map, slice_get, Option, Some}
use Rattle.std.specs.Prelude.{unwrap_or}
use Rattle.std.specs.List.{range_with_len, enumerate_from, AllByRecursion}
use Rattle.std.proofs.lemmas.Bool.{ltb-true, ltb-false}
use Rattle.std.proofs.lemmas.Option.{slice_get-map}
use Rattle.std.proofs.lemmas.List.FromFn.{length-map-range_with_len, map-range_with_len_more}
use Rattle.std.proofs.lemmas.List.{length-map, map-append}
use Rattle.std.proofs.Common.{length-append}
use Rattle.std.proofs.lemmas.List.{append-nil, append_assoc}
use Rattle.circular_buffer.proofs.Places.{slice_get-append_left, slice_get-append_right}
use Rattle.definitions.specs.Banks.{layout}
use Rattle.channel_slots.specs.declared.seat.Seat.{Seat}
use Rattle.channel_slots.specs.Banks.{total, keys_of, IsAt, row_of as row, AddsIdle, AllIdle}
use Rattle.channel_slots.proofs.CommandLemmas.{Once}
use Rattle.channel_slots.specs.Slots.{StandsFor, is_idle}
use Rattle.slot_protocol.specs.declared.command.TheConstants.{MOST_SLOTS}
use Rattle.channel_slots.proofs.SlotLemmas.{stands-new}
use Rattle.definitions.specs.Oscillators.{Settings}
use Rattle.definitions.specs.Runs.{is_share}
use Rattle.std.specs.Prelude.{nat_le}
use Rattle.std.specs.List.{list_all}
use Rattle.std.proofs.lemmas.Bool.{and_parts, leb-true}

-- those of clients that are numbered from one on
abbrev rows : ℕ → List ℕ → List (ℕ × ℕ)
rows first shares =
    flat_map (λ (client, share). map (λ slot. (client, slot)) (range_with_len 0 share))
    (enumerate_from first shares)

range-at : (a n i : ℕ) → i < n → slice_get (range_with_len a n) i ≡ Some (a + i)
range-at a zero i h = absurd (omega arith)
range-at a (suc n) zero h = let e : a + 0 ≡ a = omega arith in rw e refl
range-at a (suc n) (suc i) h =
    let e : a + suc i ≡ a + 1 + i = omega arith in
    range-at (a + 1) n i (omega arith) ∙ ap Some (sym e)

row-length : (client share : ℕ) → length (row client share) ≡ share
row-length client share = length-map-range_with_len (λ slot. (client, slot)) 0 share

row-at : (client share i : ℕ) → i < share → slice_get (row client share) i ≡ Some (client, i)
row-at client share i h =
    let e : 0 + i ≡ i = omega arith in
    slice_get-map (λ slot. (client, slot)) (range_with_len 0 share) i
    ∙ rw (range-at 0 share i h) (rw e refl)

past-row : (first share : ℕ) (shares : List ℕ) (i m : ℕ) → i ≡ share + m
    → slice_get (rows first (share ∷ shares)) i ≡ slice_get (rows (first + 1) shares) m
past-row first share shares i m is =
    slice_get-append_right (row first share) (rows (first + 1) shares) i m
    (is ∙ ap (λ n. n + m) (sym (row-length first share)))

in-row : (first share : ℕ) (shares : List ℕ) (i : ℕ) → i < share
    → slice_get (rows first (share ∷ shares)) i ≡ Some (first, i)
in-row first share shares i h =
    slice_get-append_left (row first share) (rows (first + 1) shares) i
    (rw (row-length first share) h)
    ∙ row-at first share i h

-- slot s of client first + k comes after the slots of the clients before it
at-rows : (first : ℕ) (shares : List ℕ) (k s : ℕ) → s < get_or shares k 0
    → slice_get (rows first shares) (total (take k shares) + s) ≡ Some (first + k, s)
at-rows first [] k s h = absurd (omega arith)
at-rows first (share ∷ shares) zero s h =
    let e : first + 0 ≡ first = omega arith in
    let z : total (take 0 (share ∷ shares)) + s ≡ s = omega arith in
    ap (slice_get (rows first (share ∷ shares))) z ∙ in-row first share shares s h
    ∙ ap (λ n. Some (n, s)) (sym e)
at-rows first (share ∷ shares) (suc k) s h =
    let e : first + suc k ≡ first + 1 + k = omega arith in
    past-row first share shares (total (take (suc k) (share ∷ shares)) + s)
    (total (take k shares) + s) (omega arith)
    ∙ at-rows (first + 1) shares k s h ∙ ap (λ n. Some (n, s)) (sym e)

-- where a client's slot stands
pub record IsThere (first : ℕ) (shares : List ℕ) (i client slot : ℕ) : Type 0 where
  pub client_from : first ≤ client
  pub slot_within : slot < get_or shares (client - first) 0
  pub index : i ≡ total (take (client - first) shares) + slot

same-client : (a b c d : ℕ) → ◌≡◌ {A = Option (ℕ × ℕ)} (Some (a, b)) (Some (c, d)) → a ≡ c
same-client a b c d e = ap (λ (o : Option (ℕ × ℕ)). (unwrap_or o (a, b)).0) e

same-slot : (a b c d : ℕ) → ◌≡◌ {A = Option (ℕ × ℕ)} (Some (a, b)) (Some (c, d)) → b ≡ d
same-slot a b c d e = ap (λ (o : Option (ℕ × ℕ)). (unwrap_or o (a, b)).1) e

there-in-row : (first share : ℕ) (shares : List ℕ) (i client slot : ℕ) → i < share
    → slice_get (rows first (share ∷ shares)) i ≡ Some (client, slot)
    → IsThere first (share ∷ shares) i client slot
there-in-row first share shares i client slot h e =
    let is = sym (in-row first share shares i h) ∙ e in
    let c : first ≡ client = same-client first i client slot is in
    let s : i ≡ slot = same-slot first i client slot is in
    let zero_is : client - first ≡ 0 = omega (arith, c) in
    record {
      client_from = omega (arith, c);
      slot_within = rw zero_is (omega (arith, h, s));
      index = rw zero_is (omega (arith, s));
    }

there-past-row : (first share : ℕ) (shares : List ℕ) (i m client slot : ℕ) → i ≡ share + m
    → IsThere (first + 1) shares m client slot → IsThere first (share ∷ shares) i client slot
there-past-row first share shares i m client slot is r =
    let more : client - first ≡ suc (client - (first + 1)) = omega (arith, r.client_from) in
    record {
      client_from = omega (arith, r.client_from);
      slot_within = rw more r.slot_within;
      index = rw more (omega (arith, is, r.index));
    }

-- the only index at which a client's slot stands
there : (first : ℕ) (shares : List ℕ) (i client slot : ℕ)
    → slice_get (rows first shares) i ≡ Some (client, slot) → IsThere first shares i client slot
there first [] i client slot e = cc
there first (share ∷ shares) i client slot e =
    by_test (nat_lt i share) refl (there (first + 1) shares (i - share) client slot)
  where
    by_test : (b : Bool) → nat_lt i share ≡ b
        → (slice_get (rows (first + 1) shares) (i - share) ≡ Some (client, slot)
        → IsThere (first + 1) shares (i - share) client slot)
        → IsThere first (share ∷ shares) i client slot
    by_test true lt rest = there-in-row first share shares i client slot (ltb-true i share lt) e
    by_test false lt rest =
        let split : i ≡ share + (i - share) = omega (arith, ltb-false i share lt) in
        there-past-row first share shares i (i - share) client slot split
        (rest (sym (past-row first share shares i (i - share) split) ∙ e))

-- no client but these, and no slot but those of its share
pub not-there : (shares : List ℕ) (i client slot : ℕ)
    → (client ≡ 0) ⊎ (get_or shares (client - 1) 0 ≤ slot)
    → slice_get (layout shares) i ≡ Some (client, slot) → ⊥
not-there shares i client slot other e =
    let t = there 1 shares i client slot e in
    elim other [
      | inl zero_is ↦ omega (arith, zero_is, t.client_from)
      | inr past ↦ omega (arith, past, t.slot_within)
    ]

-- so each slot stands there once
pub only-once : (shares : List ℕ) → Once (layout shares)
only-once shares i j client slot at_i at_j =
    (there 1 shares i client slot at_i).index ∙ sym (there 1 shares j client slot at_j).index

-- where a client's slot stands
pub its-index : (shares : List ℕ) (client slot : ℕ) → 1 ≤ client
    → slot < get_or shares (client - 1) 0
    → IsAt (layout shares) (total (take (client - 1) shares) + slot) client slot
its-index shares client slot first h =
    let e : 1 + (client - 1) ≡ client = omega (arith, first) in
    at-rows 1 shares (client - 1) slot h ∙ ap (λ n. Some (n, slot)) e

rows-length : (first : ℕ) (shares : List ℕ) → length (rows first shares) ≡ total shares
rows-length first [] = refl
rows-length first (share ∷ shares) =
    let both : length (row first share ++ rows (first + 1) shares)
    ≡ length (row first share) + length (rows (first + 1) shares) =
    length-append (row first share) (rows (first + 1) shares) in
    omega (arith, both, row-length first share, rows-length (first + 1) shares)

-- as many seats as the clients have slots together
pub as-many : (shares : List ℕ) (ps : List Seat) → keys_of ps ≡ layout shares
    → length ps ≡ total shares
as-many shares ps keys =
    sym (length-map ps (λ (p : Seat). (p.client, p.number))) ∙ ap length keys
    ∙ rows-length 1 shares

-- clients with a share more
pub one-share-more : (shares : List ℕ) (share : ℕ)
    → layout (shares ++ share ∷ [])
    ≡ layout shares ++ row (length shares + 1) share
one-share-more shares share = more 1 shares
  where
    more : (first : ℕ) (ss : List ℕ) → rows first (ss ++ share ∷ [])
        ≡ rows first ss ++ row (length ss + first) share
    more first [] =
        let e : 0 + first ≡ first = omega arith in rw e (append-nil (row first share))
    more first (s ∷ ss) =
        let e : length ss + (first + 1) ≡ suc (length ss) + first = omega arith in
        ap (λ (l : List (ℕ × ℕ)). row first s ++ l) (more (first + 1) ss)
        ∙ sym (append_assoc (row first s) (rows (first + 1) ss)
        (row (length ss + (first + 1)) share))
        ∙ ap (λ n. (row first s ++ rows (first + 1) ss) ++ row n share) e

-- one more seat comes after others that were added
pub push-behind : (before added after pushed : List Seat) (p : Seat) → after ≡ before ++ added
    → pushed ≡ after ++ p ∷ [] → pushed ≡ before ++ (added ++ p ∷ [])
push-behind before added after pushed p behind push =
    push ∙ ap (λ (l : List Seat). l ++ p ∷ []) behind ∙ append_assoc before added (p ∷ [])

-- one slot of a client more
pub keys-push : (ps : List Seat) (p : Seat) (client n : ℕ) → keys_of ps ≡ row client n
    → p.client ≡ client → p.number ≡ n → keys_of (ps ++ p ∷ []) ≡ row client (n + 1)
keys-push ps p client n keys c m =
    let key : ℕ → ℕ × ℕ = λ slot. (client, slot) in
    let behind : 0 + n ≡ n = omega arith in
    map-append (λ (q : Seat). (q.client, q.number)) ps (p ∷ [])
    ∙ ap (λ (l : List (ℕ × ℕ)). l ++ (p.client, p.number) ∷ []) keys
    ∙ rw (c, m) (sym (map-range_with_len_more key 0 n n behind))

-- the seats of the first clients, and those of one more
pub keys-more : (shares : List ℕ) (share index : ℕ) (before after : List Seat)
    → length (take index shares) ≡ index
    → keys_of before ≡ layout (take index shares) → AddsIdle (index + 1) share before after
    → keys_of after ≡ layout (take index shares ++ share ∷ [])
keys-more shares share index before after long keys adds =
    ap keys_of adds.behind
    ∙ map-append (λ (p : Seat). (p.client, p.number)) before adds.added
    ∙ ap (λ (l : List (ℕ × ℕ)). l ++ keys_of adds.added) keys
    ∙ ap (λ (l : List (ℕ × ℕ)). layout (take index shares) ++ l) adds.keys
    ∙ sym (one-share-more (take index shares) share ∙ rw long refl)

pub idle-more : (client share : ℕ) (before after : List Seat) → AllIdle before
    → AddsIdle client share before after → AllIdle after
idle-more client share before after idle adds =
    rw adds.behind
    (all-append (λ (p : Seat). is_idle p.slot ≡ true) before adds.added idle adds.idle)
  where
    all-append : (P : Seat → Type 0) (xs ys : List Seat) → AllByRecursion P xs
        → AllByRecursion P ys → AllByRecursion P (xs ++ ys)
    all-append P [] ys a b = b
    all-append P (x ∷ xs) ys a b = (a.0, all-append P xs ys a.1 b)

-- ---- idle slots

pub idle-stand : (settings : Settings) (ps : List Seat) → AllIdle ps
    → AllByRecursion (λ (p : Seat). StandsFor settings [] [] p.slot) ps
idle-stand settings [] idle = tt
idle-stand settings (p ∷ ps) idle =
    (stands-new settings p.slot idle.0, idle-stand settings ps idle.1)

-- shares are few slots each
pub few-each : (shares : List ℕ) → list_all is_share shares ≡ true
    → AllByRecursion (λ (share : ℕ). share ≤ MOST_SLOTS) shares
few-each [] h = tt
few-each (share ∷ shares) h =
    let both = and_parts (is_share share) (list_all is_share shares) h in
    let most = and_parts (nat_le 1 share) (nat_le share 8) both.0 in
    (leb-true share 8 most.1, few-each shares both.1)

pub total-few : (shares : List ℕ) → AllByRecursion (λ (share : ℕ). share ≤ MOST_SLOTS) shares
    → total shares ≤ MOST_SLOTS * length shares
total-few [] few = omega arith
total-few (share ∷ shares) few = omega (arith, few.0, total-few shares few.1)

pub total-most : (shares : List ℕ) → list_all is_share shares ≡ true
    → total shares ≤ MOST_SLOTS * length shares
total-most shares h = total-few shares (few-each shares h)

pub few-take : (n : ℕ) (shares : List ℕ) → AllByRecursion (λ (share : ℕ). share ≤ MOST_SLOTS) shares
    → AllByRecursion (λ (share : ℕ). share ≤ MOST_SLOTS) (take n shares)
few-take zero shares few = tt
few-take (suc n) [] few = tt
few-take (suc n) (share ∷ shares) few = (few.0, few-take n shares few.1)

-- the slots of seats that are laid out so stand there once
pub once-of : (shares : List ℕ) (ps : List Seat) → keys_of ps ≡ layout shares
    → Once (keys_of ps)
once-of shares ps keys = rw keys (only-once shares)

-- no seat is that of another client, or of a slot past its share
pub nowhere : (shares : List ℕ) (ps : List Seat) (client slot : ℕ) → keys_of ps ≡ layout shares
    → (client ≡ 0) ⊎ (get_or shares (client - 1) 0 ≤ slot)
    → (j : ℕ) → IsAt (keys_of ps) j client slot → ⊥
nowhere shares ps client slot keys other j at =
    not-there shares j client slot other
    (subst (λ (l : List (ℕ × ℕ)). IsAt l j client slot) keys at)
