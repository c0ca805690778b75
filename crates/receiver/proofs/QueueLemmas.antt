-- The entries that are left of a script, and the lines of their answers.
use Rattle.std.proofs.Common.{◌≡◌, ℕ, ◌+◌, ◌-◌, ◌<◌, ◌≤◌, List, [], ◌∷◌, ◌++◌, length, refl, sym}
use Rattle.std.proofs.Common.{ap, ◌∙◌, append_assoc, append-nil, arith, length-append}
use Rattle.std.specs.Prelude.{true, false, nat_eq, nat_lt}
use Rattle.std.specs.List.{AllByRecursion}
use Rattle.std.proofs.lemmas.Bool.{ne_eqb, lt-ltb, le-ltb}
use Rattle.definitions.specs.Samples.{Sample}
use Rattle.definitions.specs.Oscillators.{Settings}
use Rattle.definitions.specs.Scripts.{Entry}
use Rattle.definitions.specs.Receiver.{Client, entries_of, entries_before, answer_texts}
use Rattle.definitions.proofs.EntryLemmas.{NoneBefore, AreByTime, none_before-less}
use Rattle.definitions.proofs.EntryLemmas.{entries_of-by_time, answers_left, answered-left}
use Rattle.definitions.proofs.EntryLemmas.{answers_left-none, answers_left-past}
use Rattle.receiver.specs.Queues.{NoneDue, gap}
use Rattle.receiver.specs.Sessions.{IsQueue}

-- none of these entries stands at a time
abbrev pub NoneAt : ℕ → List Entry → Type 0
NoneAt now entries = AllByRecursion (λ (e : Entry). nat_eq e.time now ≡ false) entries

later-by_time : (done left : List Entry) → AreByTime (done ++ left) → AreByTime left
later-by_time [] left all = all
later-by_time (e ∷ done) left all = later-by_time done left all.1

none-after : (now t : ℕ) (es : List Entry) → now < t → NoneBefore t es → NoneAt now es
none-after now t [] h all = tt
none-after now t (e ∷ es) h all =
    (ne_eqb e.time now (λ same. omega (arith, same, h, all.0)), none-after now t es h all.1)

none-due : (now : ℕ) (left : List Entry) → NoneDue now left → AreByTime left → NoneAt now left
none-due now [] due by_time = tt
none-due now (e ∷ es) due by_time =
    (ne_eqb e.time now (λ same. omega (arith, same, due)), none-after now e.time es due by_time.0)

none-past : (now n : ℕ) (done : List Entry) → n < now
    → AllByRecursion (λ (e : Entry). e.time ≤ n) done → NoneAt now done
none-past now n [] h all = tt
none-past now n (e ∷ done) h all =
    (ne_eqb e.time now (λ same. omega (arith, same, h, all.0)), none-past now n done h all.1)

past-more : (n m : ℕ) (done : List Entry) → n ≤ m → AllByRecursion (λ (e : Entry). e.time ≤ n) done
    → AllByRecursion (λ (e : Entry). e.time ≤ m) done
past-more n m [] h all = tt
past-more n m (e ∷ done) h all = (omega (arith, h, all.0), past-more n m done h all.1)

past-one : (n : ℕ) (done : List Entry) (e : Entry) → e.time ≤ n
    → AllByRecursion (λ (e : Entry). e.time ≤ n) done
    → AllByRecursion (λ (e : Entry). e.time ≤ n) (done ++ e ∷ [])
past-one n [] e h all = (h, tt)
past-one n (d ∷ done) e h all = (all.0, past-one n done e h all.1)

none_at-both : (now : ℕ) (done left : List Entry) → NoneAt now done → NoneAt now left
    → NoneAt now (done ++ left)
none_at-both now [] left a b = b
none_at-both now (e ∷ done) left a b = (a.0, none_at-both now done left a.1 b)

-- entries with a gap before the first
after-gap : (now n : ℕ) (left : List Entry) → 0 < n → n ≤ gap now left → AreByTime left
    → NoneBefore (now + n) left
after-gap now n [] some h by_time = tt
after-gap now n (e ∷ es) some h by_time = (
  omega (arith, h, some),
  none_before-less (now + n) e.time es (omega (arith, h, some)) by_time.0,
)

module _ (settings : Settings) (client : Client) (xs : List Sample) (done left : List Entry)
    (q : IsQueue xs client done left) where
  by_time : AreByTime left
  by_time = later-by_time done left (rw q.all at (entries_of-by_time client))

  pub none-waits : NoneDue (length xs) left → answers_left settings xs done left ≡ []
  none-waits due = answers_left-none settings xs done left (none-due (length xs) left due by_time)

  -- one entry was answered
  pub one-answered : (e : Entry) (rest : List Entry) → left ≡ e ∷ rest → e.time ≤ length xs
      → IsQueue xs client (done ++ e ∷ []) rest
  one-answered e rest is h =
      let whole : done ++ left ≡ (done ++ e ∷ []) ++ rest =
      ap (λ (l : List Entry). done ++ l) is ∙ sym (append_assoc done (e ∷ []) rest) in
      let come : NoneBefore (length xs) (e ∷ rest) = rw is at q.to_come in
      record {
        all = q.all ∙ whole;
        past = past-one (length xs) done e h q.past;
        to_come = come.1;
      }

  pub at-now : (e : Entry) (rest : List Entry) → left ≡ e ∷ rest → e.time ≤ length xs
      → e.time ≡ length xs
  at-now e rest is h =
      let come : NoneBefore (length xs) (e ∷ rest) = rw is at q.to_come in omega (arith, h, come.0)

  module _ (ys : List Sample) (some : 0 < length ys) (free : length ys ≤ gap (length xs) left) where
    both : (zs : List Sample) → length (xs ++ zs) ≡ length xs + length zs
    both zs = length-append xs zs

    to_come : NoneBefore (length xs + length ys) left
    to_come = after-gap (length xs) (length ys) left some free by_time

    pub later : IsQueue (xs ++ ys) client done left
    later = record {
      all = q.all;
      past = past-more (length xs) (length (xs ++ ys)) done (omega (arith, both ys)) q.past;
      to_come = rw (both ys) to_come;
    }

    -- what waits then is all that is answered then
    pub waits-all : answers_left settings (xs ++ ys) done left
        ≡ answer_texts settings client (xs ++ ys)
    waits-all =
        sym (answered-left settings client (xs ++ ys)
        ∙ ap (λ (es : List Entry). answers_left settings (xs ++ ys) [] es) q.all
        ∙ answers_left-past settings (xs ++ ys) [] done left
        (none-past (length (xs ++ ys)) (length xs) done (omega (arith, both ys, some)) q.past))

    -- and nothing is answered before
    pub none-before : (zs : List Sample) → 0 < length zs → length zs < length ys
        → answer_texts settings client (xs ++ zs) ≡ []
    none-before zs more fewer =
        let n : ℕ = length (xs ++ zs) in
        answered-left settings client (xs ++ zs)
        ∙ ap (λ (es : List Entry). answers_left settings (xs ++ zs) [] es) q.all
        ∙ answers_left-none settings (xs ++ zs) [] (done ++ left)
        (none_at-both n done left
        (none-past n (length xs) done (omega (arith, both zs, more)) q.past)
        (none-after n (length xs + length ys) left (omega (arith, both zs, fewer)) to_come))

    -- the entries before each of the new times are those that were answered
    pub before-each : (zs : List Sample) → 0 < length zs → length zs ≤ length ys
        → entries_before (length (xs ++ zs)) (entries_of client) ≡ done
    before-each zs more within =
        let n : ℕ = length (xs ++ zs) in
        ap (entries_before n) q.all
        ∙ kept n done (past-more (length xs) (n - 1) done (omega (arith, both zs, more)) q.past)
        (omega (arith, both zs, more))
        ∙ ap (λ (l : List Entry). done ++ l)
        (dropped n left (none_before-less n (length xs + length ys) left
        (omega (arith, both zs, within)) to_come)) ∙ append-nil done
      where
        dropped : (n : ℕ) (es : List Entry) → NoneBefore n es → entries_before n es ≡ []
        dropped n [] all = refl
        dropped n (e ∷ es) all =
            let f : nat_lt e.time n ≡ false = le-ltb e.time n all.0 in rw f (dropped n es all.1)

        kept : (n : ℕ) (es : List Entry) → AllByRecursion (λ (e : Entry). e.time ≤ n - 1) es → 0 < n
            → entries_before n (es ++ left) ≡ es ++ entries_before n left
        kept n [] all pos = refl
        kept n (e ∷ es) all pos =
            let t : nat_lt e.time n ≡ true = lt-ltb e.time n (omega (arith, all.0, pos)) in
            rw t (ap (λ (l : List Entry). e ∷ l) (kept n es all.1 pos))
