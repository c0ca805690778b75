-- Lives, and what they emit, when samples or commands are added.
use Rattle.std.proofs.Common.{◌≡◌, ℕ, suc, ◌+◌, ◌-◌, ◌<◌, ◌≤◌, List, [], ◌∷◌, ◌++◌, length, take}
use Rattle.std.proofs.Common.{refl, sym, ap, ◌∙◌, arith, length-append, append-nil, true, false}
use Rattle.std.specs.Prelude.{ℤ, Option, Some, None, slice_get, nat_eq, nat_lt, filter, ◌&&◌, ◌||◌}
use Rattle.std.specs.Prelude.{if◌then◌else◌}
use Rattle.std.specs.List.{AllByRecursion}
use Rattle.std.proofs.lemmas.Bool.{ne_eqb, true_from_ne_false, eqb-false, lt-ltb, lt-leb, eq-eqb}
use Rattle.std.specs.Option.{is_some}
use Rattle.std.proofs.lemmas.List.Elements.{filter-append}
use Rattle.definitions.specs.Samples.{Sample}
use Rattle.definitions.specs.Oscillators.{Settings}
use Rattle.definitions.specs.Segments.{counts_of, Channel, Progress, Dump, progress, next_end}
use Rattle.definitions.specs.Segments.{closed_at}
use Rattle.definitions.specs.Commands.{Start, hold, TimedRequest, Request}
use Rattle.definitions.specs.Events.{due_events, dump_events, steered_events, last_of, front_of}
use Rattle.definitions.specs.Events.{unprinted_count, life_events, last_dump_events, when, count}
use Rattle.definitions.specs.Events.{events_at_end}
use Rattle.definitions.specs.Lives.{is_steered, found_nothing, is_over, lost_after, Life}
use Rattle.definitions.specs.Lives.{dumps_of_life, life_of, life_now, life_with, still_on}
use Rattle.definitions.specs.Lives.{held_channel}
use Rattle.definitions.proofs.SegmentsLemmas.{next_end-within, segments-preserve}
use Rattle.definitions.proofs.BodyLemmas.{life_of-append, life_of-more}

last_of-push : {A : Type 0} (xs : List A) (x : A) → last_of (xs ++ x ∷ []) ≡ Some x
unfolding last_of
last_of-push xs x =
    let e : length (xs ++ x ∷ []) - 1 ≡ length xs = simp length-append (omega arith) in
    rw e (at_end xs x)
  where
    at_end : {A : Type 0} (xs : List A) (x : A) → slice_get (xs ++ x ∷ []) (length xs) ≡ Some x
    at_end [] x = refl
    at_end (y ∷ ys) x = at_end ys x

front_of-push : {A : Type 0} (xs : List A) (x : A) → front_of (xs ++ x ∷ []) ≡ xs
unfolding front_of
front_of-push xs x =
    let e : length (xs ++ x ∷ []) - 1 ≡ length xs = simp length-append (omega arith) in
    rw e (front xs x)
  where
    front : {A : Type 0} (xs : List A) (x : A) → take (length xs) (xs ++ x ∷ []) ≡ xs
    front [] x = refl
    front (y ∷ ys) x = ap (λ r. y ∷ r) (front ys x)

-- all but the last of samples that were added
pub front_of-append : {A : Type 0} (xs ys : List A) → 0 < length ys
    → front_of (xs ++ ys) ≡ xs ++ front_of ys
unfolding front_of
front_of-append [] ys some = refl
front_of-append (x ∷ xs) ys some =
    let e : length (x ∷ xs ++ ys) - 1 ≡ suc (length (xs ++ ys) - 1) =
    simp length-append (omega (arith, some)) in
    rw e (ap (λ r. x ∷ r) (front_of-append xs ys some))

-- ---- the dumps of a channel lie within the samples, and the last ends where the open segment
-- starts
pushed : (ds : List Dump) (d' d : Dump) → last_of (ds ++ d' ∷ []) ≡ Some d → d.time ≡ d'.time
pushed ds d' d e =
    let f : Some d' ≡ Some d = sym (last_of-push ds d') ∙ e in let g : d' ≡ d = cc in
    ap (λ (x : Dump). x.time) (sym g)

IsBy : ℕ → Dump → Type 0
IsBy n d = d.time ≤ n

record LastEnds (p : Progress) (n : ℕ) : Type 0 where
  within : p.open_segment.start ≤ n
  last : (d : Dump) → last_of p.dumps ≡ Some d → d.time ≡ p.open_segment.start
  all : AllByRecursion (λ (d : Dump). d.time ≤ n) p.dumps

no_dump : (d : Dump) (n : ℕ) → last_of {A = Dump} [] ≡ Some d → d.time ≡ n
unfolding last_of
no_dump d n e = cc

all_push : (n : ℕ) (ds : List Dump) (d : Dump) → AllByRecursion (λ (d : Dump). d.time ≤ n) ds
    → d.time ≤ n → AllByRecursion (λ (d : Dump). d.time ≤ n) (ds ++ d ∷ [])
all_push n [] d all h = (h, all)
all_push n (e ∷ ds) d all h = (all.0, all_push n ds d all.1 h)

LastEnds-closed : (settings : Settings) (channel : Channel) (xs : List Sample) (p : Progress)
    (e : ℕ) → LastEnds p (length xs) → next_end settings channel xs p ≡ Some e
    → LastEnds (closed_at settings channel xs p e) (length xs)
unfolding closed_at
LastEnds-closed settings channel xs p e l found =
    let h = next_end-within settings channel xs p e found in
    record {
      within = h;
      last = λ d is. pushed p.dumps _ d is;
      all = all_push (length xs) p.dumps _ l.all h;
    }

LastEnds-progress : (settings : Settings) (channel : Channel) (xs : List Sample)
    → channel.start ≤ length xs → LastEnds (progress settings channel xs) (length xs)
unfolding progress
LastEnds-progress settings channel xs h =
    segments-preserve settings channel xs (λ p. LastEnds p (length xs))
    (record { within = h; last = λ d e. no_dump d channel.start e; all = tt })
    (LastEnds-closed settings channel xs) (length xs - channel.start)

-- ---- what a channel's dumps emit
same : (n : ℕ) → nat_eq n n ≡ true
same n = true_from_ne_false (nat_eq n n) (λ e. eqb-false n n e refl)

-- no dump ends with the last of the samples
quiet : (life : Life) (n m : ℕ) (p : Progress) → LastEnds p n → n < m
    → last_dump_events life m p.dumps (last_of p.dumps) ≡ []
quiet life n m p l later = by_last (last_of p.dumps) refl
  where
    by_last : (o : Option Dump) → last_of p.dumps ≡ o → last_dump_events life m p.dumps o ≡ []
    by_last None e = refl
    by_last (Some d) e = rw (ne_eqb d.time m (λ h. omega (arith, h, l.last d e, l.within, later)))

abbrev pub IsHold : Life → ℕ → ℤ → ℕ → Type 0
IsHold life prn doppler half_chip = life.start ≡ hold prn doppler half_chip

held_dumps : (settings : Settings) (xs : List Sample) (life : Life) (prn : ℕ) (doppler : ℤ)
    (half_chip : ℕ) → life.start ≡ hold prn doppler half_chip
    → dumps_of_life settings xs life
    ≡ (progress settings (held_channel life.begun prn doppler half_chip) xs).dumps
unfolding dumps_of_life
held_dumps settings xs life prn doppler half_chip e = rw e

due_none : (settings : Settings) (xs : List Sample) (begun : ℕ) (start : Start) (prn : ℕ)
    (doppler : ℤ) (half_chip : ℕ) → start ≡ hold prn doppler half_chip
    → due_events settings xs begun start ≡ []
due_none settings xs begun start prn doppler half_chip e = rw e

life_events-hold : (settings : Settings) (xs : List Sample) (life : Life) (prn : ℕ) (doppler : ℤ)
    (half_chip : ℕ) → life.start ≡ hold prn doppler half_chip
    → life_events settings xs (Some life)
    ≡ last_dump_events life (length xs) (dumps_of_life settings xs life)
    (last_of (dumps_of_life settings xs life))
unfolding life_events
life_events-hold settings xs life prn doppler half_chip e =
    ap (λ r. r ++ last_dump_events life (length xs) (dumps_of_life settings xs life)
    (last_of (dumps_of_life settings xs life)))
    (due_none settings xs life.begun life.start prn doppler half_chip e)

-- a held dump emits its sums and no more
dump_events-hold : (life : Life) (prn : ℕ) (doppler : ℤ) (half_chip : ℕ) (dumps : List Dump)
    (d : Dump) → life.start ≡ hold prn doppler half_chip
    → dump_events life dumps d
    ≡ when (nat_lt 0 (unprinted_count life (front_of dumps))) (count d.counts)
dump_events-hold life prn doppler half_chip dumps d e = by_start life.start e
  where
    by_start : (start : Start) → start ≡ hold prn doppler half_chip
        → when (nat_lt 0 (unprinted_count life (front_of dumps))) (count d.counts)
        ++ (if is_steered start then steered_events (counts_of dumps) else [])
        ≡ when (nat_lt 0 (unprinted_count life (front_of dumps))) (count d.counts)
    by_start start e = rw e (append-nil _)

pub hold-quiet : (settings : Settings) (xs ys : List Sample) (life : Life) (prn : ℕ) (doppler : ℤ)
    (half_chip : ℕ) → life.start ≡ hold prn doppler half_chip → life.begun ≤ length xs
    → 0 < length ys
    → progress settings (held_channel life.begun prn doppler half_chip) (xs ++ ys)
    ≡ progress settings (held_channel life.begun prn doppler half_chip) xs
    → life_events settings (xs ++ ys) (Some life) ≡ []
hold-quiet settings xs ys life prn doppler half_chip is h some stays =
    let l = LastEnds-progress settings (held_channel life.begun prn doppler half_chip) xs h in
    let e : length (xs ++ ys) ≡ length xs + length ys = simp length-append (omega arith) in
    life_events-hold settings (xs ++ ys) life prn doppler half_chip is
    ∙ rw (held_dumps settings (xs ++ ys) life prn doppler half_chip is, stays, e)
    (quiet life (length xs) (length xs + length ys)
    (progress settings (held_channel life.begun prn doppler half_chip) xs) l (omega arith))

event_lines : (life : Life) (n : ℕ) (dumps : List Dump) (d : Dump) → d.time ≡ n
    → last_dump_events life n dumps (Some d) ≡ dump_events life dumps d
event_lines life n dumps d e = let t : nat_eq d.time n ≡ true = eq-eqb d.time n e in rw t

-- a segment ends with it: its sums are emitted, where they are wanted
pub hold-tells : (settings : Settings) (xs : List Sample) (life : Life) (prn : ℕ) (doppler : ℤ)
    (half_chip : ℕ) → life.start ≡ hold prn doppler half_chip → (dumps : List Dump) (d : Dump)
    → (progress settings (held_channel life.begun prn doppler half_chip) xs).dumps ≡ dumps ++ d ∷ []
    → d.time ≡ length xs
    → life_events settings xs (Some life)
    ≡ when (nat_lt 0 (unprinted_count life dumps)) (count d.counts)
hold-tells settings xs life prn doppler half_chip is dumps d ends time =
    life_events-hold settings xs life prn doppler half_chip is
    ∙ rw (held_dumps settings xs life prn doppler half_chip is, ends, last_of-push dumps d)
    (event_lines life (length xs) (dumps ++ d ∷ []) d time)
    ∙ (dump_events-hold life prn doppler half_chip (dumps ++ d ∷ []) d is)
    ∙ ap (λ (ds : List Dump). when (nat_lt 0 (unprinted_count life ds)) (count d.counts))
    (front_of-push dumps d)

-- ---- how many dumps are still to be printed
pub unprinted-more : (life : Life) (dumps : List Dump) (d : Dump) → life.wanted_from < d.time
    → unprinted_count life (dumps ++ d ∷ []) ≡ unprinted_count life dumps - 1
unfolding unprinted_count
unprinted-more life dumps d later =
    let one : filter (λ (d : Dump). nat_lt life.wanted_from d.time) (d ∷ []) ≡ d ∷ [] =
    rw (lt-ltb life.wanted_from d.time later) in
    rw (filter-append, one) (simp length-append (omega arith))

none_later : (n : ℕ) (dumps : List Dump) → AllByRecursion (λ (d : Dump). d.time ≤ n) dumps
    → filter (λ (d : Dump). nat_lt n d.time) dumps ≡ []
none_later n [] all = refl
none_later n (d ∷ dumps) all = rw (le-leb_not n d.time all.0) (none_later n dumps all.1)
  where
    le-leb_not : (n t : ℕ) → t ≤ n → nat_lt n t ≡ false
    le-leb_not n t h = lt-leb (suc n) t (omega (arith, h))

pub unprinted-all : (life : Life) (dumps : List Dump)
    → AllByRecursion (λ (d : Dump). d.time ≤ life.wanted_from) dumps
    → unprinted_count life dumps ≡ life.wanted
unfolding unprinted_count
unprinted-all life dumps all = rw (none_later life.wanted_from dumps all) (omega arith)

pub dumps-within : (settings : Settings) (channel : Channel) (xs : List Sample)
    → channel.start ≤ length xs
    → AllByRecursion (λ (d : Dump). d.time ≤ length xs) (progress settings channel xs).dumps
dumps-within settings channel xs h = (LastEnds-progress settings channel xs h).all

-- ---- lives
take-all : (xs : List Sample) → take (length xs) xs ≡ xs
take-all [] = refl
take-all (x ∷ xs) = ap (λ r. x ∷ r) (take-all xs)

-- one more command, at the time of the last sample
pub life_of-command : (settings : Settings) (xs : List Sample) (commands : List TimedRequest)
    (request : Request)
    → life_of settings xs (commands ++ record { time = length xs; request = request } ∷ [])
    ≡ life_with (life_of settings xs commands) (life_now settings xs commands) (length xs)
    request
unfolding life_now
life_of-command settings xs commands request =
    life_of-more settings xs commands (record { time = length xs; request = request })
    ∙ ap (λ ys. life_with (life_of settings xs commands)
    (still_on settings ys (life_of settings xs commands)) (length xs) request) (take-all xs)

-- what samples bring, in terms of the life that is on before the last
pub events-behind : (settings : Settings) (xs ys : List Sample) (commands : List TimedRequest)
    → 0 < length ys
    → events_at_end settings (xs ++ ys) commands
    ≡ life_events settings (xs ++ ys) (life_now settings (xs ++ front_of ys) commands)
unfolding events_at_end
events-behind settings xs ys commands some =
    ap (λ zs. life_events settings (xs ++ ys) (life_now settings zs commands))
    (front_of-append xs ys some)

-- a holding life stays on
still_on-hold : (settings : Settings) (xs : List Sample) (life : Life) (prn : ℕ) (doppler : ℤ)
    (half_chip : ℕ) → life.start ≡ hold prn doppler half_chip
    → still_on settings xs (Some life) ≡ Some life
unfolding is_over
still_on-hold settings xs life prn doppler half_chip e = by_start life.start e
  where
    by_start : (start : Start) → start ≡ hold prn doppler half_chip
        → (if found_nothing settings xs life.begun start ||
        (is_steered start && is_some (lost_after (counts_of (dumps_of_life settings xs life))))
        then None else Some life) ≡ Some life
    by_start start e = rw e

pub life_now-hold : (settings : Settings) (xs ys : List Sample) (commands : List TimedRequest)
    (life : Life) (prn : ℕ) (doppler : ℤ) (half_chip : ℕ) → life.start ≡ hold prn doppler half_chip
    → AllByRecursion (λ (c : TimedRequest). c.time ≤ length xs) commands
    → life_of settings xs commands ≡ Some life → life_now settings (xs ++ ys) commands ≡ Some life
unfolding life_now
life_now-hold settings xs ys commands life prn doppler half_chip is early on =
    ap (still_on settings (xs ++ ys)) (life_of-append settings xs ys commands early ∙ on)
    ∙ still_on-hold settings (xs ++ ys) life prn doppler half_chip is
