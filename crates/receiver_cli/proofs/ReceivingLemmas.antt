-- Runs of the texts that the program read.
use Rattle.std.proofs.Common.{◌≡◌, ◌∙◌, ℕ, ◌^◌, List, map, length, refl, sym, ap, subst, inl, inr}
use Rattle.std.specs.Prelude.{max}
use Rattle.std.proofs.lemmas.List.{length-map}
use Rattle.std.specs.Prelude.{Option, Some, None, IsSome, Result, Ok, Err, IsErrAnd, ◌⊎◌}
use Rattle.definitions.specs.Oscillators.{Settings as DefinedSettings}
use Rattle.receiver.specs.declared.faults.RunFault.{RunFault}
use Rattle.devices.specs.declared.source.Source.{Ghosts as Source}
use Rattle.devices.specs.declared.sink.Sink.{Ghosts as Sink}
use Rattle.receiver.specs.Runs.{task_of}
use Rattle.receiver.specs.WholeRuns.{RunsTask}
use Rattle.receiver_cli.specs.declared.failure.Failure.{Failure}
use Rattle.receiver_cli.specs.declared.failure.Failure.TheVariants.{Options}
use Rattle.receiver_cli.specs.declared.failure.Failure.TheVariants.{Settings, Run}
use Rattle.receiver_options.specs.Requests.{Asked, IsAllowed, recording_of}
use Rattle.receiver_options.specs.declared.fault.OptionFault.{OptionFault}
use Rattle.receiver_options.specs.declared.fault.OptionFault.TheVariants as options
use Rattle.receiver_options.specs.ScriptTexts.{AreTextsOf, SomeMayBeRefused}
use Rattle.receiver_cli.specs.Programs.{one_or_more, RunsTexts, RunsFiles}
use Rattle.receiver_options.specs.Requests.{shares_by}
use Rattle.receiver_cli.specs.Programs.{Receives, clients_of}

-- the scripts of a run are those that were handed to it
pub ran-handed : {A R W : Type 0} (text : A → List ℕ) (source : Source R) (sink : Sink W)
    (settings : DefinedSettings) (shares : List ℕ) (handed : List A) (texts : List (List ℕ))
    (old new : R × W) (answer : Result ℕ RunFault) → map text handed ≡ texts
    → RunsTask source sink (task_of settings shares (map text handed) (2 ^ 40)) old new answer
    → RunsTask source sink (task_of settings shares texts (2 ^ 40)) old new answer
ran-handed text source sink settings shares handed texts old new answer e runs =
    subst
    (λ (l : List (List ℕ)). RunsTask source sink (task_of settings shares l (2 ^ 40)) old new
    answer)
    e runs

-- an error that is passed on
pub err-is : {T E : Type 0} (r : Result T E) (e : E) → IsErrAnd r (λ x. x ≡ e) → r ≡ Err e
err-is (Ok x) e h = absurd h
err-is (Err x) e h = ap Err h

-- as many clients as there are files, or one
pub as-many-clients : {A B C : Type 0} (known : B → C) (text : A → B) (handed : List A)
    (paths : List B) (n : ℕ) → map text handed ≡ paths → n ≡ max (length handed) 1
    → n ≡ clients_of (map known paths)
as-many-clients known text handed paths n are is =
    is ∙ ap (λ (m : ℕ). max m 1)
    (sym (length-map handed text) ∙ ap length are ∙ sym (length-map paths known))

-- the program ends before its run
pub failed-before : {R W : Type 0} (source : Source R) (sink : Sink W) (asked : Asked)
    (files : List (Option (List ℕ))) (old : R × W) (fault : OptionFault)
    (r : Result ℕ Failure) → r ≡ Err (Options fault) → IsAllowed asked
    → IsSome (shares_by (clients_of files) asked.shares)
    → ((fault ≡ options.NoMemory) ⊎ ((fault ≡ options.Script) × SomeMayBeRefused files))
    → Receives source sink asked files old old r
failed-before source sink asked files old fault r is allowed shared (inl e) =
    rw (is, e) (allowed, refl)
failed-before source sink asked files old fault r is allowed shared (inr h) =
    rw (is, h.0) (allowed, shared, h.1, refl)

-- for its shares
pub failed-at-shares : {R W : Type 0} (source : Source R) (sink : Sink W) (asked : Asked)
    (files : List (Option (List ℕ))) (old : R × W) (fault : OptionFault)
    (r : Result ℕ Failure) → r ≡ Err (Options fault) → IsAllowed asked
    → ((fault ≡ options.NoMemory) ⊎ ((fault ≡ options.Shares)
    × (shares_by (clients_of files) asked.shares ≡ None)))
    → Receives source sink asked files old old r
failed-at-shares source sink asked files old fault r is allowed (inl e) = rw (is, e) (allowed, refl)
failed-at-shares source sink asked files old fault r is allowed (inr h) =
    rw (is, h.0) (allowed, h.1, refl)

pub is-some : {A : Type 0} (o : Option A) (x : A) → o ≡ Some x → IsSome o
is-some o x e = rw e refl

-- or with a run of what it read
pub received : {R W : Type 0} (source : Source R) (sink : Sink W) (asked : Asked)
    (files : List (Option (List ℕ))) (settings : DefinedSettings) (shares : List ℕ)
    (texts : List (List ℕ)) (old new : R × W) (r : Result ℕ Failure)
    → IsAllowed asked → shares_by (clients_of files) asked.shares ≡ Some shares
    → settings ≡ recording_of asked → AreTextsOf files texts
    → RunsTexts source sink settings shares texts old new r
    → Receives source sink asked files old new r
received source sink asked files settings shares texts old new r allowed shared is all =
    by_answer r
  where
    runs : (answer : Result ℕ RunFault)
        → RunsTask source sink (task_of settings shares (one_or_more texts) (2 ^ 40)) old new answer
        → RunsFiles source sink asked files old new answer
    runs answer ran = record {
      allowed = allowed;
      shares = shares;
      shared = shared;
      scripts = texts;
      texts = all;
      runs =
          subst
          (λ (s : DefinedSettings). RunsTask source sink
          (task_of s shares (one_or_more texts) (2 ^ 40)) old new answer)
          is ran;
    }

    by_answer : (r : Result ℕ Failure) → RunsTexts source sink settings shares texts old new r
        → Receives source sink asked files old new r
    by_answer (Ok n) ran = runs (Ok n) ran
    by_answer (Err (Run fault)) ran = runs (Err fault) ran
    by_answer (Err (Options options.NoMemory)) ran = (allowed, ran)
    by_answer (Err (Options options.Shares)) ran = absurd ran
    by_answer (Err (Options options.Script)) ran = absurd ran
    by_answer (Err (Settings fault)) ran = absurd ran
