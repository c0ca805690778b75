-- Which runs are refused for their scripts or their shares, and what a run promises by its answer.
use Rattle.std.proofs.Common.{◌≡◌, ◌≤◌, ◌<◌, ℕ, zero, suc, true, false, List, length, sym}
use Rattle.std.proofs.Common.{refl, ap, subst, ◌∙◌, ◌⊎◌, inl, inr, arith}
use Rattle.std.specs.Prelude.{◌↔◌, Result, Ok, Err, nat_eq, nat_le, nat_lt, replicate, min}
use Rattle.std.specs.List.{list_all}
use Rattle.std.proofs.lemmas.Bool.{and_parts, cases_lt, eqb-false, leb-true, ltb-true}
use Rattle.std.proofs.lemmas.List.{length-replicate}
use Rattle.definitions.specs.Oscillators.{Settings}
use Rattle.definitions.specs.Runs.{Task, Input, AreRight, IsAnswer, are_clients, are_shares}
use Rattle.definitions.specs.Runs.{is_share}
use Rattle.devices.specs.Moments.{devices_at}
use Rattle.devices.specs.declared.source.Source.{Ghosts as Source}
use Rattle.devices.specs.declared.sink.Sink.{Ghosts as Sink}
use Rattle.receiver.specs.declared.faults.RunFault.{RunFault}
use Rattle.receiver.specs.declared.faults.RunFault.TheVariants.{NoMemory, Clients, Read, Write}
use Rattle.receiver.specs.declared.faults.RunFault.TheVariants.{TooLong, Share}
use Rattle.receiver.specs.declared.faults.Stop.{Stop}
use Rattle.receiver.specs.declared.faults.Stop.TheVariants.{AtEnd, ReadFailed, PastLimit}
use Rattle.receiver.specs.Clients.{four_each}
use Rattle.receiver.specs.Runs.{IsRun, answer_of, answer_after, task_of, task_in_fours}
use Rattle.receiver.specs.WholeRuns.{RunsTask}
use Rattle.receiver.proofs.TableLemmas.{AreWrong, no-fault, some-clients, right-shares}
use Rattle.receiver.proofs.TableLemmas.{without-clients}

-- answers by number: first those before which nothing is read
abbrev number_of : Result ℕ RunFault → ℕ
number_of (Err Clients) = 0
number_of (Err Share) = 1
number_of (Err NoMemory) = 2
number_of (Err Read) = 3
number_of (Err Write) = 4
number_of (Err TooLong) = 5
number_of (Ok n) = 6

-- a run that came to reading answers none of the first three
pub comes-to-reading : {E : Type 0} (n : ℕ) (ended : Result Stop E)
    → nat_lt 2 (number_of (answer_after n ended)) ≡ true
comes-to-reading n (Ok AtEnd) = refl
comes-to-reading n (Ok ReadFailed) = refl
comes-to-reading n (Ok PastLimit) = refl
comes-to-reading n (Err fault) = refl

-- there are one to eight scripts, or not
few-of : (scripts : List (List ℕ)) → are_clients scripts ≡ true
    → (0 < length scripts) × (length scripts ≤ 8)
few-of scripts are =
    let both = and_parts (nat_le 1 (length scripts)) (nat_le (length scripts) 8) are in
    (leb-true 1 (length scripts) both.0, leb-true (length scripts) 8 both.1)

wrong-of : (scripts : List (List ℕ)) → are_clients scripts ≡ false → AreWrong (length scripts)
wrong-of scripts wrong = elim (cases_lt 0 (length scripts)) [
  | inr none ↦ inl (omega (arith, none))
  | inl some ↦ elim (cases_lt 8 (length scripts)) [
    | inl many ↦ inr many
    | inr few ↦ absurd (both (some-clients scripts (no-fault (length scripts) some few)))
  ]
]
  where
    both : are_clients scripts ≡ true → ⊥
    both right = let no : true ≡ false = sym right ∙ wrong in cc

-- a run's result is the fault of its scripts exactly where they are wrong, and so with its shares
abbrev Refuses : Task → Result ℕ RunFault → Type 0
Refuses task r =
    ((r ≡ Err Clients) ↔ AreWrong (length task.scripts))
    × ((r ≡ Err Share) ↔ ((0 < length task.scripts) × (length task.scripts ≤ 8)
    × (are_shares task.shares task.scripts ≡ false)))

neither : {A B : Type 0} → (A → ⊥) → (B → ⊥) → A ↔ B
neither a b = (λ x. absurd (a x), λ y. absurd (b y))

-- of two answers that differ neither comes for what the other comes for
other-answer : (r s : Result ℕ RunFault) → nat_eq (number_of r) (number_of s) ≡ false
    → r ≡ s → ⊥
other-answer r s other is = eqb-false (number_of r) (number_of s) other (ap number_of is)

-- what wasn't refused has right scripts and shares
accepted : (task : Task) (r : Result ℕ RunFault) → nat_eq (number_of r) 0 ≡ false
    → nat_eq (number_of r) 1 ≡ false → AreRight task → Refuses task r
accepted task r scripts shares right =
    let few = few-of task.scripts right.0 in (
      neither (other-answer r (Err Clients) scripts) (no-fault (length task.scripts) few.0 few.1),
      neither (other-answer r (Err Share) shares)
          (λ is. let no : true ≡ false = sym right.1 ∙ is.2 in cc),
    )

refuses : (task : Task) (input : Input) (text : List ℕ) (r : Result ℕ RunFault)
    → IsAnswer task input text (answer_of r) → Refuses task r
unfolding IsAnswer
refuses task input text (Err Clients) a =
    let wrong = wrong-of task.scripts a.0 in (
      (λ _. wrong, λ _. refl),
      neither (other-answer (Err Clients) (Err Share) refl)
          (λ is. no-fault (length task.scripts) is.0 is.1 wrong),
    )
refuses task input text (Err Share) a =
    let few = few-of task.scripts a.0 in (
      neither (other-answer (Err Share) (Err Clients) refl)
          (no-fault (length task.scripts) few.0 few.1),
      (λ _. (few.0, few.1, a.1), λ _. refl),
    )
refuses task input text (Err NoMemory) a = accepted task (Err NoMemory) refl refl a.0
refuses task input text (Err Read) a = accepted task (Err Read) refl refl a.0
refuses task input text (Err Write) a = accepted task (Err Write) refl refl a.0
refuses task input text (Err TooLong) a = accepted task (Err TooLong) refl refl a.0
refuses task input text (Ok n) a = accepted task (Ok n) refl refl a.0

-- a run by a reader and a writer
module _ {R W : Type 0} (source : Source R) (sink : Sink W) (task : Task) (old : R × W) where
  -- one that was refused
  pub refused-task : (fault : RunFault)
      → IsRun task (devices_at source sink old.0 old.1) (devices_at source sink old.0 old.1)
      (Err fault)
      → RunsTask source sink task old old (Err fault)
  refused-task fault run =
      let by = refuses task run.input run.text (Err fault) run.answer in
      record {
        clients = by.0;
        share = by.1;
        untouched = λ _. refl;
        once = λ _. refl;
        run = run;
      }

  -- one that was begun
  pub begun-task : (new : R × W) (result : Result ℕ RunFault)
      → nat_lt 2 (number_of result) ≡ true
      → (source.has_failed old.0 ≡ false
      → source.was_asked_again new.0 ≡ source.was_asked_again old.0)
      → IsRun task (devices_at source sink old.0 old.1) (devices_at source sink new.0 new.1) result
      → RunsTask source sink task old new result
  begun-task new result begun once run =
      let by = refuses task run.input run.text result run.answer in
      record {
        clients = by.0;
        share = by.1;
        untouched = λ is. absurd (not-refused is);
        once = once;
        run = run;
      }
    where
      past : 2 < number_of result
      past = ltb-true 2 (number_of result) begun

      not-refused : (result ≡ Err Clients) ⊎ (result ≡ Err Share) ⊎ (result ≡ Err NoMemory) → ⊥
      not-refused (inl is) =
          let n : number_of result ≡ 0 = ap number_of is in omega (arith, past, n)
      not-refused (inr (inl is)) =
          let n : number_of result ≡ 1 = ap number_of is in omega (arith, past, n)
      not-refused (inr (inr is)) =
          let n : number_of result ≡ 2 = ap number_of is in omega (arith, past, n)

-- ---- four slots for each client

fours-are-shares : (n : ℕ) → list_all is_share (replicate n 4) ≡ true
fours-are-shares zero = refl
fours-are-shares (suc n) = fours-are-shares n

module _ {R W : Type 0} (source : Source R) (sink : Sink W) (settings : Settings)
    (scripts : List (List ℕ)) (limit : ℕ) (old new : R × W) (result : Result ℕ RunFault) where
  -- of more than eight scripts eight shares are as good as all
  pub in-fours : (shares : List ℕ) → shares ≡ replicate (min (length scripts) 8) 4
      → RunsTask source sink (task_of settings shares scripts limit) old new result
      → RunsTask source sink (task_in_fours settings scripts limit) old new result
  in-fours shares are runs = elim (cases_lt 8 (length scripts)) [
    | inl many ↦
        let is = runs.clients.1 (inr many) in
        rw (is, runs.untouched (inl is))
        (refused-task source sink (task_in_fours settings scripts limit) old Clients
        (without-clients settings (four_each scripts) scripts limit _ (inr many)))
    | inr few ↦
        let e : min (length scripts) 8 ≡ length scripts = omega (arith, few) in
        subst
        (λ (l : List ℕ). RunsTask source sink (task_of settings l scripts limit) old new result)
        (are ∙ ap (λ (n : ℕ). replicate n 4) e) runs
  ]

  -- they are right shares
  pub fours-are-right : RunsTask source sink (task_in_fours settings scripts limit) old new result
      → result ≡ Err Share → ⊥
  fours-are-right runs is =
      let right : are_shares (four_each scripts) scripts ≡ true =
      right-shares (four_each scripts) scripts (length-replicate (length scripts) 4)
      (fours-are-shares (length scripts)) in
      let no : true ≡ false = sym right ∙ (runs.share.0 is).2 in cc
