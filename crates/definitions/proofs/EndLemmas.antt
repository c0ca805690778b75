-- Dumps stay when samples are added, and so does what samples have ended.
use Rattle.std.proofs.Common.{◌≡◌, ℕ, zero, suc, ◌+◌, ◌-◌, ◌*◌, ◌^◌, ◌≤◌, List, [], ◌∷◌, ◌++◌}
use Rattle.std.proofs.Common.{length, take, map, refl, ap, ◌∙◌, sym, arith, length-append}
use Rattle.std.specs.Prelude.{Bool, true, false, Option, Some, None, nat_le}
use Rattle.std.specs.Option.{is_some}
use Rattle.std.proofs.lemmas.Bool.{le-leb, leb-true}
use Rattle.std.proofs.lemmas.List.{take-append-le, append_assoc, append-nil}
use Rattle.definitions.specs.Sums.{least_below}
use Rattle.definitions.specs.Samples.{Sample}
use Rattle.definitions.specs.Oscillators.{Settings}
use Rattle.definitions.specs.Correlation.{Counts, counts_over}
use Rattle.definitions.specs.Segments.{Channel, Progress, Dump, progress, closed_if_ended, next_end}
use Rattle.definitions.specs.Segments.{closed_at, open_phases, dumps_of, counts_of}
use Rattle.definitions.specs.Lock.{news_of, lost, nothing, lock, unlock}
use Rattle.definitions.specs.Acquisition.{Plan, Cell, result_of, due_time}
use Rattle.definitions.specs.Loops.{shift_after}
use Rattle.definitions.specs.Commands.{Start, hold, track, acquire}
use Rattle.definitions.specs.Lives.{Life, doppler_shift, dumps_of_life, is_over, is_lost_with}
use Rattle.definitions.specs.Lives.{lost_after, until_lost, found_channel}
use Rattle.definitions.proofs.SumsLemmas.{least_below-some, least_below-is, least_below-more}
use Rattle.definitions.proofs.SegmentsLemmas.{closed-none, closed-some, progress-more}
use Rattle.definitions.proofs.AcquisitionLemmas.{result_of-append}

closed-dumps : (settings : Settings) (channel : Channel) (xs : List Sample) (p : Progress) (e : ℕ)
    → (closed_at settings channel xs p e).dumps
    ≡ p.dumps ++ record {
      time = e;
      counts =
          counts_over channel.prn (open_phases settings channel p) xs p.open_segment.start e;
    }
    ∷ []
unfolding closed_at
closed-dumps settings channel xs p e = refl

-- one more segment
one-dump : (settings : Settings) (channel : Channel) (xs : List Sample) (p : Progress)
    → (rest : List Dump) × ((closed_if_ended settings channel xs p).dumps ≡ p.dumps ++ rest)
one-dump settings channel xs p = by_end (next_end settings channel xs p) refl
  where
    by_end : (o : Option ℕ) → next_end settings channel xs p ≡ o
        → (rest : List Dump) × ((closed_if_ended settings channel xs p).dumps ≡ p.dumps ++ rest)
    by_end None e = (
      [],
      ap (λ (q : Progress). q.dumps) (closed-none settings channel xs p e)
          ∙ sym (append-nil p.dumps),
    )
    by_end (Some t) e = (
      record {
        time = t;
        counts =
            counts_over channel.prn (open_phases settings channel p) xs p.open_segment.start t;
      }
          ∷ [],
      ap (λ (q : Progress). q.dumps) (closed-some settings channel xs p t e)
          ∙ closed-dumps settings channel xs p t,
    )

-- the dumps of more samples begin with those of fewer
pub dumps_of-append : (settings : Settings) (channel : Channel) (xs ys : List Sample)
    → (rest : List Dump)
    × (dumps_of settings channel (xs ++ ys) ≡ dumps_of settings channel xs ++ rest)
dumps_of-append settings channel xs [] = (
  [],
  ap (dumps_of settings channel) (append-nil xs)
      ∙ sym (append-nil (dumps_of settings channel xs)),
)
dumps_of-append settings channel xs (y ∷ ys) =
    let later = dumps_of-append settings channel (xs ++ y ∷ []) ys in
    let one = one-dump settings channel (xs ++ y ∷ []) (progress settings channel xs) in
    let e : xs ++ y ∷ ys ≡ (xs ++ y ∷ []) ++ ys = sym (append_assoc xs (y ∷ []) ys) in
    let f : dumps_of settings channel (xs ++ y ∷ []) ≡ dumps_of settings channel xs ++ one.0 =
    ap (λ (q : Progress). q.dumps) (progress-more settings channel xs y) ∙ one.1 in (
      one.0 ++ later.0,
      ap (dumps_of settings channel) e ∙ later.1 ∙ ap (λ ds. ds ++ later.0) f
          ∙ append_assoc (dumps_of settings channel xs) one.0 later.0,
    )

-- ---- lost

least_below-grows : (test : ℕ → Bool) (n m k : ℕ) → least_below test n ≡ Some k
    → least_below test (m + n) ≡ Some k
least_below-grows test n zero k e = let f : 0 + n ≡ n = omega arith in rw f e
least_below-grows test n (suc m) k e =
    let f : suc m + n ≡ suc (m + n) = omega arith in
    rw f (least_below-more test (m + n) k (least_below-grows test n m k e))

pub lost_with-append : (ds more : List Counts) (j : ℕ) → j ≤ length ds
    → is_lost_with (ds ++ more) j ≡ is_lost_with ds j
lost_with-append ds more j h =
    ap (λ (l : List Counts). elim (news_of l)
    [ lost ↦ true | nothing ↦ false | lock ↦ false | unlock ↦ false ])
    (take-append-le j ds more h)

lost-within : (ds : List Counts) (k : ℕ) → lost_after ds ≡ Some k → k ≤ length ds
lost-within ds k e =
    let l = least_below-some (is_lost_with ds) (length ds + 1) k e in omega (arith, l.below)

pub lost_after-append : (ds more : List Counts) (k : ℕ) → lost_after ds ≡ Some k
    → lost_after (ds ++ more) ≡ Some k
lost_after-append ds more k e =
    let l = least_below-some (is_lost_with ds) (length ds + 1) k e in
    let within : k ≤ length ds = omega (arith, l.below) in
    let here =
    least_below-is (is_lost_with (ds ++ more)) k (lost_with-append ds more k within ∙ l.passes)
    (λ j h. lost_with-append ds more j (omega (arith, h)) ∙ l.least j h) in
    let f : length (ds ++ more) + 1 ≡ (length ds + length more - k) + suc k =
    simp length-append (omega (arith, within)) in
    rw f (least_below-grows (is_lost_with (ds ++ more)) (suc k) (length ds + length more - k) k
    here)

map-append : {A B : Type 0} (f : A → B) (xs ys : List A) → map f (xs ++ ys) ≡ map f xs ++ map f ys
map-append f [] ys = refl
map-append f (x ∷ xs) ys = ap (λ r. f x ∷ r) (map-append f xs ys)

length-counts : (ds : List Dump) → length (counts_of ds) ≡ length ds
length-counts [] = refl
length-counts (d ∷ ds) = let e = length-counts ds in omega (arith, e)

until_lost-is : (ds : List Dump) (o : Option ℕ) → lost_after (counts_of ds) ≡ o
    → until_lost ds ≡ elim o [ Some k ↦ take k ds | None ↦ ds ]
until_lost-is ds o e = ap (λ (p : Option ℕ). elim p [ Some k ↦ take k ds | None ↦ ds ]) e

-- dumps after a lost signal don't matter
until_lost-append : (ds more : List Dump) (k : ℕ) → lost_after (counts_of ds) ≡ Some k
    → until_lost (ds ++ more) ≡ until_lost ds
until_lost-append ds more k e =
    let longer : lost_after (counts_of (ds ++ more)) ≡ Some k =
    ap lost_after (map-append (λ (d : Dump). d.counts) ds more)
    ∙ lost_after-append (counts_of ds) (counts_of more) k e in
    let within : k ≤ length ds = omega (arith, lost-within (counts_of ds) k e, length-counts ds) in
    until_lost-is (ds ++ more) (Some k) longer ∙ take-append-le k ds more within
    ∙ sym (until_lost-is ds (Some k) e)

pub lost-stays : (ds more : List Dump) → is_some (lost_after (counts_of (until_lost ds))) ≡ true
    → until_lost (ds ++ more) ≡ until_lost ds
lost-stays ds more e = by_lost (lost_after (counts_of ds)) refl
  where
    by_lost : (o : Option ℕ) → lost_after (counts_of ds) ≡ o
        → until_lost (ds ++ more) ≡ until_lost ds
    by_lost None none =
        absurd (clash (ap (λ (l : List Dump). is_some (lost_after (counts_of l)))
        (until_lost-is ds None none) ∙ ap is_some none) e)
      where
        clash : {b : Bool} → b ≡ false → b ≡ true → ⊥
        clash f t = cc
    by_lost (Some k) some = until_lost-append ds more k some

-- ---- ended lives

pub no_counts-not_lost : is_some (lost_after []) ≡ false
unfolding least_below news_of
no_counts-not_lost = refl

clash : {b : Bool} → b ≡ false → b ≡ true → ⊥
clash f t = cc

-- the end of an acquiring life, by whether it is due and has found the signal
module _ (settings : Settings) (plan : Plan) (begun : ℕ) (wanted wanted_from : ℕ) where
  acquiring_life : Life
  acquiring_life =
      record { begun = begun; start = acquire plan; wanted = wanted; wanted_from = wanted_from }

  tracked_from : Cell → Channel
  tracked_from cell = found_channel settings plan begun cell

  lost_dumps : List Dump → Bool
  lost_dumps dumps = is_some (lost_after (counts_of dumps))

  is_over-tracked : (xs : List Sample) → nat_le (due_time settings plan begun) (length xs) ≡ true
      → (result_of settings plan xs begun).found ≡ true
      → is_over settings xs acquiring_life
      ≡ lost_dumps (until_lost
      (dumps_of settings (tracked_from (result_of settings plan xs begun)) xs))
  unfolding is_over dumps_of_life acquiring_life tracked_from lost_dumps
  is_over-tracked xs due found = rw (due, found) refl

  is_over-not_found : (xs : List Sample) → nat_le (due_time settings plan begun) (length xs) ≡ true
      → (result_of settings plan xs begun).found ≡ false → is_over settings xs acquiring_life ≡ true
  unfolding is_over dumps_of_life acquiring_life
  is_over-not_found xs due found = rw (due, found) refl

  is_over-not_due : (xs : List Sample) → nat_le (due_time settings plan begun) (length xs) ≡ false
      → is_over settings xs acquiring_life ≡ false
  unfolding is_over dumps_of_life acquiring_life
  is_over-not_due xs due = rw due no_counts-not_lost

  acquiring-append : (xs ys : List Sample) → is_over settings xs acquiring_life ≡ true
      → is_over settings (xs ++ ys) acquiring_life ≡ true
  unfolding tracked_from least_below lost_dumps
  acquiring-append xs ys over =
      by_due (nat_le (due_time settings plan begun) (length xs))
      (result_of settings plan xs begun).found refl refl
    where
      by_due : (t f : Bool) → nat_le (due_time settings plan begun) (length xs) ≡ t
          → (result_of settings plan xs begun).found ≡ f
          → is_over settings (xs ++ ys) acquiring_life ≡ true
      by_due false f due found = absurd (clash (is_over-not_due xs due) over)
      by_due true f due found = by_found f found
        where
          is_due : due_time settings plan begun ≤ length xs
          is_due = leb-true (due_time settings plan begun) (length xs) due

          longer_due : nat_le (due_time settings plan begun) (length (xs ++ ys)) ≡ true
          longer_due =
              le-leb (due_time settings plan begun) (length (xs ++ ys))
              (simp length-append (omega (arith, is_due)))

          same : result_of settings plan (xs ++ ys) begun ≡ result_of settings plan xs begun
          same = result_of-append settings plan xs ys begun (omega (arith, is_due))

          by_found : (g : Bool) → (result_of settings plan xs begun).found ≡ g
              → is_over settings (xs ++ ys) acquiring_life ≡ true
          by_found false g =
              is_over-not_found (xs ++ ys) longer_due (ap (λ (c : Cell). c.found) same ∙ g)
          by_found true g =
              let c : Channel = tracked_from (result_of settings plan xs begun) in
              let more = dumps_of-append settings c xs ys in
              let was : lost_dumps (until_lost (dumps_of settings c xs)) ≡ true =
              sym (is_over-tracked xs due g) ∙ over in
              is_over-tracked (xs ++ ys) longer_due (ap (λ (c : Cell). c.found) same ∙ g)
              ∙ ap (λ (cell : Cell). lost_dumps
              (until_lost (dumps_of settings (tracked_from cell) (xs ++ ys)))) same
              ∙ ap (λ ds. lost_dumps (until_lost ds)) more.1
              ∙ ap lost_dumps (lost-stays (dumps_of settings c xs) more.0 was)
              ∙ was

-- what samples have ended stays ended, by what began the life
over-append : (settings : Settings) (xs ys : List Sample) (begun : ℕ) (start : Start)
    (wanted wanted_from : ℕ)
    → is_over settings xs
    (record { begun = begun; start = start; wanted = wanted; wanted_from = wanted_from }) ≡ true
    → is_over settings (xs ++ ys)
    (record { begun = begun; start = start; wanted = wanted; wanted_from = wanted_from }) ≡ true
unfolding is_over dumps_of_life acquiring_life
over-append settings xs ys begun (hold prn doppler half_chip) wanted wanted_from over =
    absurd (clash refl over)
over-append settings xs ys begun (track prn doppler half_chip) wanted wanted_from over =
    let c : Channel =
    record {
      prn = prn;
      start = begun;
      code = half_chip * 2 ^ 31;
      steering = shift_after (doppler_shift doppler);
    } in
    let more = dumps_of-append settings c xs ys in
    ap (λ (ds : List Dump). is_some (lost_after (counts_of (until_lost ds)))) more.1
    ∙ ap (λ (ds : List Dump). is_some (lost_after (counts_of ds)))
    (lost-stays (dumps_of settings c xs) more.0 over) ∙ over
over-append settings xs ys begun (acquire plan) wanted wanted_from over =
    acquiring-append settings plan begun wanted wanted_from xs ys over

-- whatever samples follow
pub is_over-append : (settings : Settings) (xs ys : List Sample) (life : Life)
    → is_over settings xs life ≡ true → is_over settings (xs ++ ys) life ≡ true
is_over-append settings xs ys life over =
    over-append settings xs ys life.begun life.start life.wanted life.wanted_from over
