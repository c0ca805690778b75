-- Events that are inserted by time, and what a seat emits over a run that it takes by its own
-- events.
use Rattle.std.proofs.Common.{◌≡◌, ℕ, zero, suc, ◌+◌, ◌<◌, List, [], ◌∷◌, ◌++◌, length}
use Rattle.std.proofs.Common.{take, drop, refl, sym, ap, ◌∙◌, arith, length-append, append-nil}
use Rattle.std.proofs.Common.{append_assoc}
use Rattle.std.specs.Prelude.{Bool, true, false, map, nat_lt, if◌then◌else◌, pos}
use Rattle.std.proofs.Math.ListN.{get_or-append}
use Rattle.definitions.specs.Samples.{Sample, real}
use Rattle.sample_planes.specs.Sources.{AreSamplesOf}
use Rattle.definitions.specs.Banks.{SlotEvent as DefinedSlotEvent}
use Rattle.definitions.specs.Receiver.{at_each_sample}
use Rattle.slot_protocol.specs.declared.event.SlotEvent.{SlotEvent}
use Rattle.channel_slots.specs.Orders.{put_in, put_all}
use Rattle.slot_protocol.specs.Events.{AreEvents, slot_event_in, time_in, time_at}

module _ {A : Type 0} (tells : List Sample → List A) where
  pub at_each_sample-append : (xs ys zs : List Sample)
      → at_each_sample tells xs (ys ++ zs)
      ≡ at_each_sample tells xs ys ++ at_each_sample tells (xs ++ ys) zs
  unfolding at_each_sample
  at_each_sample-append xs [] zs = rw (append-nil xs)
  at_each_sample-append xs (y ∷ ys) zs =
      let split : (xs ++ y ∷ []) ++ ys ≡ xs ++ (y ∷ ys) = append_assoc xs (y ∷ []) ys in
      let rest : at_each_sample tells (xs ++ y ∷ []) (ys ++ zs)
      ≡ at_each_sample tells (xs ++ y ∷ []) ys ++ at_each_sample tells (xs ++ (y ∷ ys)) zs =
      rw split at (at_each_sample-append (xs ++ y ∷ []) ys zs) in
      ap (λ r. tells (xs ++ y ∷ []) ++ r) rest
      ∙ sym (append_assoc (tells (xs ++ y ∷ [])) (at_each_sample tells (xs ++ y ∷ []) ys)
      (at_each_sample tells (xs ++ (y ∷ ys)) zs))

  -- where nothing is emitted before the last
  pub at_each_sample-last : (xs ys : List Sample) → 0 < length ys
      → ((j : ℕ) → 0 < j → j < length ys → tells (xs ++ take j ys) ≡ [])
      → at_each_sample tells xs ys ≡ tells (xs ++ ys)
  unfolding at_each_sample
  at_each_sample-last xs [] some quiet = absurd (omega arith)
  at_each_sample-last xs (y ∷ []) some quiet = append-nil _
  at_each_sample-last xs (y ∷ z ∷ ys) some quiet =
      let first : tells (xs ++ y ∷ []) ≡ [] = quiet 1 (omega arith) (omega arith) in
      let rest =
      at_each_sample-last (xs ++ y ∷ []) (z ∷ ys) (omega arith)
      (λ j f b. rw (append_assoc xs (y ∷ []) (take j (z ∷ ys)))
      (quiet (suc j) (omega arith) (omega arith))) in
      rw first (rest ∙ ap tells (append_assoc xs (y ∷ []) (z ∷ ys)))

-- ---- events that are inserted by time
-- the code's events and the definitions' are inserted at the same places
one-put : (e : SlotEvent) (es : List SlotEvent)
    → map slot_event_in (put_in time_in e es)
    ≡ put_in time_at (slot_event_in e) (map slot_event_in es)
unfolding put_in
one-put e [] = refl
one-put e (x ∷ es) = by_test (nat_lt e.time x.time) refl (one-put e es)
  where
    by_test : (b : Bool) → nat_lt e.time x.time ≡ b
        → map slot_event_in (put_in time_in e es)
        ≡ put_in time_at (slot_event_in e) (map slot_event_in es)
        → map slot_event_in (if nat_lt e.time x.time then e ∷ x ∷ es else x ∷ put_in time_in e es)
        ≡ (if nat_lt e.time x.time then slot_event_in e ∷ slot_event_in x ∷ map slot_event_in es
        else slot_event_in x ∷ put_in time_at (slot_event_in e) (map slot_event_in es))
    by_test true is rest = rw is refl
    by_test false is rest = rw is (ap (λ (l : List DefinedSlotEvent). slot_event_in x ∷ l) rest)

all-put : (es fs : List SlotEvent)
    → map slot_event_in (put_all time_in es fs)
    ≡ put_all time_at (map slot_event_in es) (map slot_event_in fs)
unfolding put_all
all-put es [] = refl
all-put es (f ∷ fs) =
    all-put (put_in time_in f es) fs
    ∙ ap (λ (l : List DefinedSlotEvent). put_all time_at l (map slot_event_in fs)) (one-put f es)

pub all_put : (es fs : List SlotEvent) (ts us : List DefinedSlotEvent) → AreEvents es ts
    → AreEvents fs us
    → AreEvents (put_all time_in es fs) (put_all time_at ts us)
all_put es fs ts us a b =
    all-put es fs ∙ ap (λ (l : List DefinedSlotEvent). put_all time_at l (map slot_event_in fs)) a
    ∙ ap (put_all time_at ts) b

-- ---- runs in parts
pub take_part : (xs : List Sample) (n m : ℕ) → take (n + m) xs ≡ take n xs ++ take m (drop n xs)
take_part xs zero m = let z : 0 + m ≡ m = omega arith in ap (λ (k : ℕ). take k xs) z
take_part [] (suc n) zero =
    let e : suc n + 0 ≡ suc n = omega arith in ap (λ (k : ℕ). take {A = Sample} k []) e
take_part [] (suc n) (suc m) =
    let e : suc n + suc m ≡ suc (n + suc m) = omega arith in
    ap (λ (k : ℕ). take {A = Sample} k []) e
take_part (x ∷ xs) (suc n) m =
    let e : suc n + m ≡ suc (n + m) = omega arith in
    ap (λ (k : ℕ). take k (x ∷ xs)) e ∙ ap (λ (l : List Sample). x ∷ l) (take_part xs n m)

-- samples that were held are held without the last ones
pub earlier : (xs ys : List Sample) (first : ℕ) (held : ℕ → Sample)
    → AreSamplesOf (xs ++ ys) first (length (xs ++ ys)) held
    → AreSamplesOf xs first (length xs) held
earlier xs ys first held all n low high =
    all n low (simp length-append (omega (arith, high)))
    ∙ get_or-append xs ys (real (pos 0)) n high
