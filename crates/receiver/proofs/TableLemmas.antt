-- A run's parts, and the answer that the definitions' table has for them.
use Rattle.std.proofs.Common.{◌≡◌, ◌≤◌, ◌<◌, ℕ, zero, suc, Bool, true, false, List, [], length}
use Rattle.std.proofs.Common.{refl, sym, ap, ◌∙◌, subst, arith, ◌⊎◌, inl, inr}
use Rattle.std.specs.Prelude.{◌↔◌, Result, Ok, Err, IfOk, OnErr, if◌then◌else◌, map, nat_lt}
use Rattle.std.specs.Prelude.{nat_le, nat_eq, ◌==◌}
use Rattle.std.specs.List.{list_all}
use Rattle.std.specs.Io.KnownBytes.{Consumes}
use Rattle.std.proofs.KnownBytes.{Appends-nil, Consumes-nil}
use Rattle.std.proofs.lemmas.Bool.{cases_lt, le-leb, le-ltb, lt-leb, lt-ltb, eq-eqb, ne_eqb}
use Rattle.std.proofs.lemmas.Bool.{eqb-true}
use Rattle.std.proofs.Math.Bool.{and-false}
use Rattle.std.proofs.lemmas.List.{length-map, take_all}
use Rattle.std.proofs.lemmas.Result.{IfOk-at_ok}
use Rattle.definitions.specs.Oscillators.{Settings}
use Rattle.definitions.specs.Samples.{Sample, sample_count, samples}
use Rattle.definitions.specs.Receiver.{Client, answer_lines, body, full}
use Rattle.definitions.specs.Runs.{Task, Input, InputEnd, clients_of, is_share, are_clients}
use Rattle.definitions.specs.Runs.{AreRight, taken_samples, is_too_long, body_text, full_text}
use Rattle.definitions.specs.Runs.{due_text, IsAnswer, are_shares}
use Rattle.definitions.specs.Runs as runs
use Rattle.definitions.proofs.SampleLemmas.{samples-length}
use Rattle.receiver.specs.Clients.{clients_with}
use Rattle.receiver.specs.Texts.{AppendsPart}
use Rattle.receiver.specs.Sessions.{StandsFor, time_of}
use Rattle.channel_slots.specs.declared.open_fault.OpenFault.{OpenFault}
use Rattle.channel_slots.specs.declared.open_fault.OpenFault.TheVariants as Faults
use Rattle.receiver.specs.declared.session.Session.{Session}
use Rattle.receiver.specs.declared.faults.RunFault.{RunFault}
use Rattle.receiver.specs.declared.faults.RunFault.TheVariants.{NoMemory, Clients, Read, Write}
use Rattle.receiver.specs.declared.faults.RunFault.TheVariants.{TooLong, Share}
use Rattle.receiver.specs.declared.faults.Stop.{Stop}
use Rattle.receiver.specs.declared.faults.Stop.TheVariants.{AtEnd, ReadFailed, PastLimit}
use Rattle.receiver.proofs.OpeningLemmas.{first-lines}
use Rattle.receiver.proofs.PrintedLemmas.{lines-are-right}
use Rattle.receiver.proofs.ShareLemmas.{clients-number}
use Rattle.receiver.specs.Printed.{LinesAreRight}
use Rattle.devices.specs.Moments.{Devices}
use Rattle.receiver.specs.Runs.{IsOpen, IsRun, Ran, BrokeOff, StopsFor, EndedAs}
use Rattle.receiver.specs.Runs.{WriterReports, answer_of, answer_after, fault_of, task_of}
use Rattle.receiver.specs.Runs.{samples_read, text_for}

-- ---- scripts and shares

-- there are no scripts, or more than eight
abbrev pub AreWrong : ℕ → Type 0
AreWrong n = (n ≡ 0) ⊎ (8 < n)

are-wrong : (scripts : List (List ℕ)) → AreWrong (length scripts) → are_clients scripts ≡ false
are-wrong scripts (inl none) = rw none refl
are-wrong scripts (inr many) =
    rw (lt-leb (length scripts) 8 many) (and-false (nat_le 1 (length scripts)))

pub no-fault : (n : ℕ) → 0 < n → n ≤ 8 → AreWrong n → ⊥
no-fault n some few (inl none) = omega (arith, some, none)
no-fault n some few (inr many) = omega (arith, few, many)

pub some-clients : (scripts : List (List ℕ)) → (AreWrong (length scripts) → ⊥)
    → are_clients scripts ≡ true
some-clients scripts right =
    let some : nat_le 1 (length scripts) ≡ true = elim (cases_lt 0 (length scripts)) [
      | inl more ↦ le-leb 1 (length scripts) (omega (arith, more))
      | inr none ↦ absurd (right (inl (omega (arith, none))))
    ] in
    let few : nat_le (length scripts) 8 ≡ true = elim (cases_lt 8 (length scripts)) [
      | inl many ↦ absurd (right (inr many))
      | inr le ↦ le-leb (length scripts) 8 le
    ] in
    rw (some, few) refl

-- there are as many shares as scripts, and each is one
pub right-shares : (shares : List ℕ) (scripts : List (List ℕ)) → length shares ≡ length scripts
    → list_all is_share shares ≡ true → are_shares shares scripts ≡ true
right-shares shares scripts each right =
    rw (eq-eqb (length shares) (length scripts) each, right) refl

-- there are more or fewer, or one is none
pub wrong-number : (shares : List ℕ) (scripts : List (List ℕ))
    → (length shares ≡ length scripts → ⊥) → are_shares shares scripts ≡ false
wrong-number shares scripts other = rw (ne_eqb (length shares) (length scripts) other) refl

wrong-share : (shares : List ℕ) (scripts : List (List ℕ)) → list_all is_share shares ≡ false
    → are_shares shares scripts ≡ false
wrong-share shares scripts wrong =
    rw wrong (and-false (nat_eq (length shares) (length scripts)))

-- ---- the text that is due

same-either : (b : Bool) (text : List ℕ) → (if b then text else text) ≡ text
same-either true text = refl
same-either false text = refl

due-unfinished : (task : Task) (read : List ℕ)
    → due_text task (record { bytes = read; end = runs.unfinished })
    ≡ body_text task (record { bytes = read; end = runs.unfinished })
due-unfinished task read =
    same-either (nat_lt task.limit (sample_count task.settings.packing read))
    (body_text task (record { bytes = read; end = runs.unfinished }))

due-failed : (task : Task) (read : List ℕ)
    → due_text task (record { bytes = read; end = runs.failed })
    ≡ body_text task (record { bytes = read; end = runs.failed })
due-failed task read =
    same-either (nat_lt task.limit (sample_count task.settings.packing read))
    (body_text task (record { bytes = read; end = runs.failed }))

within : (settings : Settings) (limit : ℕ) (read : List ℕ)
    → length (samples settings.packing read) ≤ limit
    → nat_lt limit (sample_count settings.packing read) ≡ false
within settings limit read le =
    le-ltb limit (sample_count settings.packing read)
    (subst (λ n. n ≤ limit) (samples-length settings.packing read) le)

beyond : (settings : Settings) (limit : ℕ) (read : List ℕ)
    → limit < length (samples settings.packing read)
    → nat_lt limit (sample_count settings.packing read) ≡ true
beyond settings limit read more =
    lt-ltb limit (sample_count settings.packing read)
    (subst (λ n. limit < n) (samples-length settings.packing read) more)

module _ (settings : Settings) (shares : List ℕ) (scripts : List (List ℕ)) (limit : ℕ) where
  task : Task
  task = task_of settings shares scripts limit

  -- a write failed among the lines, before reading came to its end
  pub breaks-in-body : (read : List ℕ) (old new : Devices)
      → Consumes old.remaining new.remaining read → EndedAs runs.unfinished old new
      → new.write_failed ≡ true
      → AppendsPart old.contents new.contents
      (body settings (samples_read settings limit read)
      (clients_of (task_of settings shares scripts limit)))
      → BrokeOff (task_of settings shares scripts limit) old new
  unfolding taken_samples task
  breaks-in-body read old new consumed same failed p = record {
    input = record { bytes = read; end = runs.unfinished };
    consumed = consumed;
    ended = same;
    write_failed = failed;
    written = subst (AppendsPart old.contents new.contents) (sym (due-unfinished task read)) p;
  }

  -- a write or the flush failed after the lines
  pub breaks-in-end : (read : List ℕ) (old new : Devices) (stop : Stop)
      → Consumes old.remaining new.remaining read → new.write_failed ≡ true
      → StopsFor limit (length (samples settings.packing read)) old new stop
      → AppendsPart old.contents new.contents
      (text_for stop settings (samples_read settings limit read)
      (clients_of (task_of settings shares scripts limit)))
      → BrokeOff (task_of settings shares scripts limit) old new
  unfolding taken_samples task
  breaks-in-end read old new PastLimit consumed broke why p =
      breaks-in-body read old new consumed why.0 broke p
  breaks-in-end read old new ReadFailed consumed broke why p = record {
    input = record { bytes = read; end = runs.failed };
    consumed = consumed;
    ended = why.0;
    write_failed = broke;
    written = subst (AppendsPart old.contents new.contents) (sym (due-failed task read)) p;
  }
  breaks-in-end read old new AtEnd consumed broke why p = record {
    input = record { bytes = read; end = runs.exhausted };
    consumed = consumed;
    ended = why.0;
    write_failed = broke;
    written = rw (within settings limit read why.1) p;
  }

  -- ---- runs by their results

  pub broke-off : (old new : Devices) → AreRight (task_of settings shares scripts limit)
      → BrokeOff (task_of settings shares scripts limit) old new
      → IsRun (task_of settings shares scripts limit) old new (Err Write)
  unfolding IsAnswer
  broke-off old new right b = record {
    input = b.input;
    text = ((b.written).1).written;
    consumed = b.consumed;
    ended = b.ended;
    written = ((b.written).1).appended;
    writer = b.write_failed;
    answer = (right, ((b.written).0, ((b.written).1).whole));
    lines = tt;
  }

  -- a run that came to a stop, by what the table has for it
  ran-to : (end : InputEnd) (stop : Stop) (session : Session) (old new : Devices)
      (result : Result ℕ RunFault)
      → (r : Ran settings (clients_of (task_of settings shares scripts limit)) limit session old
      new stop)
      → EndedAs end old new → WriterReports result old new
      → IsAnswer (task_of settings shares scripts limit) (record { bytes = r.read; end = end })
      (text_for stop settings (samples_read settings limit r.read)
      (clients_of (task_of settings shares scripts limit))) (answer_of result)
      → IfOk result (λ _. LinesAreRight settings
      (clients_of (task_of settings shares scripts limit)) (samples settings.packing r.read)
      (text_for stop settings (samples_read settings limit r.read)
      (clients_of (task_of settings shares scripts limit))))
      → IsRun (task_of settings shares scripts limit) old new result
  ran-to end stop session old new result r ended writer answer lines = record {
    input = record { bytes = r.read; end = end };
    text = text_for stop settings (samples_read settings limit r.read)
        (clients_of (task_of settings shares scripts limit));
    consumed = r.consumed;
    ended = ended;
    written = r.completes.written;
    writer = writer;
    answer = answer;
    lines = lines;
  }

  pub ran-to-end : (n : ℕ) (session : Session) (old new : Devices)
      → AreRight (task_of settings shares scripts limit)
      → Ran settings (clients_of (task_of settings shares scripts limit)) limit session old new
      AtEnd
      → n ≡ time_of session → length (clients_of (task_of settings shares scripts limit)) ≤ 8
      → IsRun (task_of settings shares scripts limit) old new (Ok n)
  unfolding IsAnswer taken_samples task
  ran-to-end n session old new right r is few =
      ran-to runs.exhausted AtEnd session old new (Ok n) r
      r.completes.why.0 r.completes.write_failed
      (right, within settings limit r.read r.completes.why.1, refl, is ∙ r.stands.bank.now, refl)
      (right-lines (take_all limit (samples settings.packing r.read) r.completes.why.1))
    where
      clients : List Client
      clients = clients_of (task_of settings shares scripts limit)

      xs : List Sample
      xs = samples settings.packing r.read

      right-lines : samples_read settings limit r.read ≡ xs
          → LinesAreRight settings clients xs
          (full settings (samples_read settings limit r.read) clients)
      right-lines all = rw all (lines-are-right settings clients xs few)

  pub ran-to-fault : (session : Session) (old new : Devices)
      → AreRight (task_of settings shares scripts limit)
      → Ran settings (clients_of (task_of settings shares scripts limit)) limit session old new
      ReadFailed
      → IsRun (task_of settings shares scripts limit) old new (Err Read)
  unfolding IsAnswer taken_samples task
  ran-to-fault session old new right r =
      ran-to runs.failed ReadFailed session old new (Err Read) r
      r.completes.why.0 r.completes.write_failed
      (right, within settings limit r.read r.completes.why.1, refl, refl) tt

  pub ran-to-limit : (session : Session) (old new : Devices)
      → AreRight (task_of settings shares scripts limit)
      → Ran settings (clients_of (task_of settings shares scripts limit)) limit session old new
      PastLimit
      → IsRun (task_of settings shares scripts limit) old new (Err TooLong)
  unfolding IsAnswer taken_samples task
  ran-to-limit session old new right r =
      ran-to runs.unfinished PastLimit session old new (Err TooLong) r
      r.completes.why.0 r.completes.write_failed
      (right, beyond settings limit r.read r.completes.why.1, refl) tt

  -- a run of a session that was opened, however reading ended
  pub ran-or-broke : {E : Type 0} (ended : Result Stop E) (n : ℕ) (session : Session)
      (old new : Devices) → AreRight (task_of settings shares scripts limit) → n ≡ time_of session
      → length (clients_of (task_of settings shares scripts limit)) ≤ 8
      → IfOk ended (Ran settings (clients_of (task_of settings shares scripts limit)) limit session
      old new)
      → OnErr ended (BrokeOff (task_of settings shares scripts limit) old new)
      → IsRun (task_of settings shares scripts limit) old new (answer_after n ended)
  ran-or-broke (Ok AtEnd) n session old new right is few ran _ =
      ran-to-end n session old new right ran is few
  ran-or-broke (Ok ReadFailed) n session old new right is few ran _ =
      ran-to-fault session old new right ran
  ran-or-broke (Ok PastLimit) n session old new right is few ran _ =
      ran-to-limit session old new right ran
  ran-or-broke (Err fault) n session old new right is few _ broke = broke-off old new right broke

-- ---- runs of scripts that are handed in

-- a run that was refused before it read or wrote
refused : (asked : Task) (old : Devices) (fault : RunFault)
    → WriterReports (Err fault) old old
    → IsAnswer asked (record { bytes = []; end = runs.unfinished }) [] (answer_of (Err fault))
    → IsRun asked old old (Err fault)
refused asked old fault writer answer = record {
  input = record { bytes = []; end = runs.unfinished };
  text = [];
  consumed = Consumes-nil old.remaining;
  ended = (refl, refl);
  written = Appends-nil old.contents;
  writer = writer;
  answer = answer;
  lines = tt;
}

module _ (settings : Settings) (shares : List ℕ) (scripts : List (List ℕ)) (limit : ℕ)
    (old : Devices) where
  asked : Task
  asked = task_of settings shares scripts limit

  pub without-clients : AreWrong (length scripts)
      → IsRun (task_of settings shares scripts limit) old old (Err Clients)
  unfolding IsAnswer asked
  without-clients wrong =
      refused asked old Clients refl (are-wrong scripts wrong, (refl, refl, refl))

  pub without-shares : (AreWrong (length scripts) → ⊥) → are_shares shares scripts ≡ false
      → IsRun (task_of settings shares scripts limit) old old (Err Share)
  unfolding IsAnswer asked
  without-shares right wrong =
      refused asked old Share refl (some-clients scripts right, wrong, (refl, refl, refl))

  pub without-memory : (AreWrong (length scripts) → ⊥) → are_shares shares scripts ≡ true
      → IsRun (task_of settings shares scripts limit) old old (Err NoMemory)
  unfolding IsAnswer asked
  without-memory right shared =
      refused asked old NoMemory refl
      ((some-clients scripts right, shared), (refl, refl, refl))

-- what opening a session for them gives
pub record IsOpened (settings : Settings) (shares : List ℕ) (scripts : List (List ℕ)) (limit : ℕ)
    (session : Session) : Type 0 where
  pub is_open : IsOpen settings (clients_of (task_of settings shares scripts limit)) session
  pub right : AreRight (task_of settings shares scripts limit)
  pub few : length (clients_with shares scripts) ≤ 8

-- what was opened wasn't refused
shares-are-right : {A : Type 0} (opened : Result A OpenFault) (n : ℕ) (shares : List ℕ) → 0 < n
    → n ≤ 8 → (opened ≡ Err Faults.Share → ⊥)
    → (opened ≡ Err Faults.Share) ↔ ((0 < n) × (n ≤ 8) × (list_all is_share shares ≡ false))
    → list_all is_share shares ≡ true
shares-are-right opened n shares some few other when = by_test (list_all is_share shares) refl
  where
    by_test : (b : Bool) → list_all is_share shares ≡ b → list_all is_share shares ≡ true
    by_test true is = is
    by_test false is = absurd (other (when.1 (some, few, is)))

abbrev number-of : {A : Type 0} → Result A OpenFault → ℕ
number-of (Ok x) = 0
number-of (Err Faults.NoMemory) = 1
number-of (Err Faults.Clients) = 2
number-of (Err Faults.Share) = 3

shares-of-opened : {A : Type 0} (x : A) (n : ℕ) (shares : List ℕ) → 0 < n → n ≤ 8
    → (Ok x ≡ Err Faults.Share) ↔ ((0 < n) × (n ≤ 8) × (list_all is_share shares ≡ false))
    → list_all is_share shares ≡ true
shares-of-opened {A} x n shares some few when =
    shares-are-right (Ok x) n shares some few
    (λ e. let no : 0 ≡ 3 = ap (number-of {A = A}) e in omega (arith, no)) when

-- and what was refused for memory wasn't for its shares
shares-without-memory : {A : Type 0} (opened : Result A OpenFault) (n : ℕ) (shares : List ℕ)
    → 0 < n → n ≤ 8 → opened ≡ Err Faults.NoMemory
    → (opened ≡ Err Faults.Share) ↔ ((0 < n) × (n ≤ 8) × (list_all is_share shares ≡ false))
    → list_all is_share shares ≡ true
shares-without-memory {A} opened n shares some few memory when =
    shares-are-right opened n shares some few
    (λ e. let no : 1 ≡ 3 = ap (number-of {A = A}) (sym memory ∙ e) in omega (arith, no)) when

pub none-of : (n : ℕ) → true ≡ (n == 0) → n ≡ 0
none-of n none = eqb-true n 0 (sym none)

pub some-of : (n : ℕ) → false ≡ (n == 0) → 0 < n
some-of zero none = cc
some-of (suc n) none = omega arith

was-opened : (settings : Settings) (shares : List ℕ) (scripts : List (List ℕ)) (limit : ℕ)
    (session : Session) → 0 < length scripts → length scripts ≤ 8 → length shares ≡ length scripts
    → list_all is_share shares ≡ true
    → StandsFor settings (clients_with shares scripts) session []
    (answer_lines settings (clients_with shares scripts) [])
    → IsOpened settings shares scripts limit session
was-opened settings shares scripts limit session some few each right stands = record {
  is_open = record {
    stands = stands;
    first = first-lines settings (clients_with shares scripts);
  };
  right = (
    some-clients scripts (no-fault (length scripts) some few),
    right-shares shares scripts each right,
  );
  few = omega (arith, few, clients-number shares scripts each);
}

-- scripts and shares that are handed in, of which there are some, few, and as many
module _ {A : Type 0} (text : A → List ℕ) (settings : Settings) (shares : List ℕ)
    (handed : List A) (limit : ℕ) (some : false ≡ (length handed == 0))
    (few : length handed ≤ 8) (each : length shares ≡ length handed) where
  number : length (map text handed) ≡ length handed
  number = length-map handed text

  right-number : AreWrong (length (map text handed)) → ⊥
  right-number =
      no-fault (length (map text handed))
      (omega (arith, number, some-of (length handed) some)) (omega (arith, number, few))

  -- a session that was opened for them
  pub opened-for : (opened : Result Session OpenFault) (session : Session) → opened ≡ Ok session
      → (opened ≡ Err Faults.Share) ↔ ((0 < length handed) × (length handed ≤ 8)
      × (list_all is_share shares ≡ false))
      → IfOk opened (λ (s : Session).
      StandsFor settings (clients_with shares (map text handed)) s []
      (answer_lines settings (clients_with shares (map text handed)) []))
      → IsOpened settings shares (map text handed) limit session
  opened-for opened session is when stands =
      was-opened settings shares (map text handed) limit session
      (omega (arith, number, some-of (length handed) some)) (omega (arith, number, few))
      (each ∙ sym number)
      (shares-of-opened session (length handed) shares (some-of (length handed) some) few
      (subst
      (λ (r : Result Session OpenFault). (r ≡ Err Faults.Share) ↔ ((0 < length handed)
      × (length handed ≤ 8) × (list_all is_share shares ≡ false)))
      is when))
      (IfOk-at_ok
      (λ (s : Session). StandsFor settings (clients_with shares (map text handed)) s []
      (answer_lines settings (clients_with shares (map text handed)) []))
      is stands)

  -- what wasn't opened for want of memory
  shares-are : {S : Type 0} (opened : Result S OpenFault) → opened ≡ Err Faults.NoMemory
      → (opened ≡ Err Faults.Share) ↔ ((0 < length handed) × (length handed ≤ 8)
      × (list_all is_share shares ≡ false))
      → are_shares shares (map text handed) ≡ true
  shares-are opened memory when =
      right-shares shares (map text handed) (each ∙ sym number)
      (shares-without-memory opened (length handed) shares (some-of (length handed) some) few
      memory when)

  refused-memory : {S : Type 0} (opened : Result S OpenFault) (old : Devices)
      → opened ≡ Err Faults.NoMemory
      → (opened ≡ Err Faults.Share) ↔ ((0 < length handed) × (length handed ≤ 8)
      × (list_all is_share shares ≡ false))
      → IsRun (task_of settings shares (map text handed) limit) old old (Err NoMemory)
  refused-memory opened old memory when =
      without-memory settings shares (map text handed) limit old right-number
      (shares-are opened memory when)

  refused-share : (old : Devices) → list_all is_share shares ≡ false
      → IsRun (task_of settings shares (map text handed) limit) old old (Err Share)
  refused-share old wrong =
      without-shares settings shares (map text handed) limit old right-number
      (wrong-share shares (map text handed) wrong)

  -- a run of a session that wasn't opened
  pub refused-open : {S : Type 0} (opened : Result S OpenFault) (fault : OpenFault) (old : Devices)
      → opened ≡ Err fault → (opened ≡ Err Faults.Clients) ↔ AreWrong (length handed)
      → (opened ≡ Err Faults.Share) ↔ ((0 < length handed) × (length handed ≤ 8)
      × (list_all is_share shares ≡ false))
      → IsRun (task_of settings shares (map text handed) limit) old old (Err (fault_of fault))
  refused-open opened Faults.NoMemory old is _ when = refused-memory opened old is when
  refused-open opened Faults.Clients old is when _ =
      absurd (no-fault (length handed) (some-of (length handed) some) few (when.0 is))
  refused-open opened Faults.Share old is _ when = refused-share old (when.0 is).2
