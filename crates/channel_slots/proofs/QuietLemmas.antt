-- What the dumps of a life emit, and lives that are on.
use Rattle.std.proofs.Common.{◌≡◌, ℕ, ◌-◌, ◌<◌, ◌≤◌, List, [], ◌∷◌, ◌++◌, length}
use Rattle.std.proofs.Common.{refl, ap, ◌∙◌, arith, length-append, append-nil, true, false}
use Rattle.std.specs.Prelude.{Option, Some, None}
use Rattle.std.specs.List.{AllByRecursion}
use Rattle.std.proofs.lemmas.Bool.{ne_eqb, eq-eqb}
use Rattle.definitions.specs.Samples.{Sample}
use Rattle.definitions.specs.Oscillators.{Settings}
use Rattle.definitions.specs.Segments.{Dump}
use Rattle.definitions.specs.Commands.{TimedRequest}
use Rattle.definitions.specs.Lives.{Life, is_over, life_of, life_now, still_on}
use Rattle.definitions.specs.Events.{last_of, front_of, last_dump_events, dump_events}
use Rattle.definitions.proofs.BodyLemmas.{life_of-append}
use Rattle.definitions.proofs.DumpLemmas.{slice_get-last}
use Rattle.definitions.proofs.EventLemmas.{all-at}
use Rattle.definitions.proofs.LifeLemmas.{front_of-append}

-- dumps that all end before the last sample emit nothing
pub no-dump-now : (life : Life) (n m : ℕ) (dumps : List Dump)
    → AllByRecursion (λ (d : Dump). d.time ≤ n) dumps → n < m
    → last_dump_events life m dumps (last_of dumps) ≡ []
unfolding last_of
no-dump-now life n m dumps all later = by_last (last_of dumps) refl
  where
    by_last : (o : Option Dump) → last_of dumps ≡ o → last_dump_events life m dumps o ≡ []
    by_last None e = refl
    by_last (Some d) e =
        let early : d.time ≤ n =
        all-at (λ (d : Dump). d.time ≤ n) dumps all (length dumps - 1) d e in
        rw (ne_eqb d.time m (λ h. omega (arith, h, early, later)))

pub last-pushed : (dumps : List Dump) (d : Dump) → last_of (dumps ++ d ∷ []) ≡ Some d
unfolding last_of
last-pushed dumps d =
    let e : length (dumps ++ d ∷ []) - 1 ≡ length dumps = simp length-append (omega arith) in
    rw e (slice_get-last dumps d)

pub front-pushed : (dumps : List Dump) (d : Dump) → front_of (dumps ++ d ∷ []) ≡ dumps
unfolding front_of
front-pushed dumps d = front_of-append dumps (d ∷ []) (omega arith) ∙ append-nil dumps

-- the last of them, where it ends with the last sample
pub dump-now : (life : Life) (n : ℕ) (dumps : List Dump) (d : Dump) → d.time ≡ n
    → last_dump_events life n (dumps ++ d ∷ []) (last_of (dumps ++ d ∷ []))
    ≡ dump_events life (dumps ++ d ∷ []) d
dump-now life n dumps d e =
    ap (last_dump_events life n (dumps ++ d ∷ [])) (last-pushed dumps d)
    ∙ rw (eq-eqb d.time n e) refl

-- the life that the commands leave is on where samples haven't ended it
pub on-now : (settings : Settings) (xs ys : List Sample) (commands : List TimedRequest)
    (life : Life) → AllByRecursion (λ (c : TimedRequest). c.time ≤ length xs) commands
    → life_of settings xs commands ≡ Some life → is_over settings (xs ++ ys) life ≡ false
    → life_now settings (xs ++ ys) commands ≡ Some life
unfolding life_now
on-now settings xs ys commands life early of on =
    ap (still_on settings (xs ++ ys)) (life_of-append settings xs ys commands early ∙ of)
    ∙ rw on refl

-- and is none where they have
pub over-now : (settings : Settings) (xs ys : List Sample) (commands : List TimedRequest)
    (life : Life) → AllByRecursion (λ (c : TimedRequest). c.time ≤ length xs) commands
    → life_of settings xs commands ≡ Some life → is_over settings (xs ++ ys) life ≡ true
    → life_now settings (xs ++ ys) commands ≡ None
unfolding life_now
over-now settings xs ys commands life early of over =
    ap (still_on settings (xs ++ ys)) (life_of-append settings xs ys commands early ∙ of)
    ∙ rw over refl
