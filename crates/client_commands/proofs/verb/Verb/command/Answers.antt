use Rattle.std.proofs.Common.{◌≡◌, ℕ, List, [], sym, refl}
use Rattle.std.specs.Prelude.{ℤ, pos, Result, Some}
use Rattle.definitions.specs.Scripts.{command_with, meant, values_in, with_value}
use Rattle.definitions.specs.Lines.{words_of}
use Rattle.client_commands.specs.declared.verb.Verb.{Verb}
use Rattle.client_commands.specs.Reading.{verb_in}
use Rattle.client_commands.proofs.ReadingLemmas.{asked, no_slot, passed_on}
use Rattle.client_commands.proofs.verb.Verb.command.Goals as goal
use Rattle.client_commands.proofs.verb.Verb.command.Goals.{In_ok-slot}

-- what the verb asks of the slot that was named, with the values of the words after it
asked_of_slot : (c : In_ok-slot) {verb : Verb} → c.args.self ≡ verb
    → {values : Result (List ℤ) ℕ}
    → values ≡ values_in (verb_in verb).ranges c.slot.new.self
    → meant (verb_in verb) (with_value (pos c.in_ok-slot.slot) values)
    ≡ command_with c.args.share (Some (verb_in c.args.self)) (words_of c.args.line.now)
asked_of_slot c {verb = verb} is read =
    rw is
    (asked (verb_in verb) c.args.share c.word_count.result (words_of c.args.line.now)
    c.in_ok-words.words _ c.in_ok-slot.slot _ (rw is at c.word_count.ensures.same)
    c.in_ok-words.ensures.words (c.in_ok-slot.ensures.value (verb_in verb).ranges) read)

pub returns-in_err-slot : goal.returns-in_err-slot
returns-in_err-slot c =
    rw (passed_on _ c.from_residual-in_err-slot.ensures.1)
    (no_slot (verb_in c.args.self) c.args.share c.word_count.result (words_of c.args.line.now)
    c.in_ok-words.words _ c.word_count.ensures.same c.in_ok-words.ensures.words
    (c.in_err-slot.ensures.value (verb_in c.args.self).ranges))

pub returns-in_err-read_signal-in-Hold : goal.returns-in_err-read_signal-in-Hold
returns-in_err-read_signal-in-Hold c =
    rw (passed_on _ c.from_residual-in_err-read_signal-in-Hold.ensures.1)
    (asked_of_slot (goal.at.returns-in_err-read_signal-in-Hold c).In_ok-slot c.in-Hold.is
    c.in_err-read_signal-in-Hold.ensures)

pub returns-in_ok-read_signal-in-Hold : goal.returns-in_ok-read_signal-in-Hold
returns-in_ok-read_signal-in-Hold c =
    asked_of_slot (goal.at.returns-in_ok-read_signal-in-Hold c).In_ok-slot c.in-Hold.is
    c.in_ok-read_signal-in-Hold.ensures

pub returns-in_err-read_signal-in-Track : goal.returns-in_err-read_signal-in-Track
returns-in_err-read_signal-in-Track c =
    rw (passed_on _ c.from_residual-in_err-read_signal-in-Track.ensures.1)
    (asked_of_slot (goal.at.returns-in_err-read_signal-in-Track c).In_ok-slot c.in-Track.is
    c.in_err-read_signal-in-Track.ensures)

pub returns-in_ok-read_signal-in-Track : goal.returns-in_ok-read_signal-in-Track
returns-in_ok-read_signal-in-Track c =
    asked_of_slot (goal.at.returns-in_ok-read_signal-in-Track c).In_ok-slot c.in-Track.is
    c.in_ok-read_signal-in-Track.ensures

pub returns-in_err-read_plan-in-Acquire : goal.returns-in_err-read_plan-in-Acquire
returns-in_err-read_plan-in-Acquire c =
    rw (passed_on _ c.from_residual-in_err-read_plan-in-Acquire.ensures.1)
    (asked_of_slot (goal.at.returns-in_err-read_plan-in-Acquire c).In_ok-slot c.in-Acquire.is
    c.in_err-read_plan-in-Acquire.ensures)

pub returns-in_ok-read_plan-in-Acquire : goal.returns-in_ok-read_plan-in-Acquire
returns-in_ok-read_plan-in-Acquire c =
    asked_of_slot (goal.at.returns-in_ok-read_plan-in-Acquire c).In_ok-slot c.in-Acquire.is
    c.in_ok-read_plan-in-Acquire.ensures

pub returns-in_err-dumps-in-Counts : goal.returns-in_err-dumps-in-Counts
returns-in_err-dumps-in-Counts c =
    rw (passed_on _ c.from_residual-in_err-dumps-in-Counts.ensures.1)
    (asked_of_slot (goal.at.returns-in_err-dumps-in-Counts c).In_ok-slot c.in-Counts.is
    (sym (c.in_err-dumps-in-Counts.ensures.value [])))

pub returns-in_ok-dumps-in-Counts : goal.returns-in_ok-dumps-in-Counts
unfolding values_in
returns-in_ok-dumps-in-Counts c =
    asked_of_slot (goal.at.returns-in_ok-dumps-in-Counts c).In_ok-slot c.in-Counts.is
    (sym (c.in_ok-dumps-in-Counts.ensures.value []))

pub returns-in-State : goal.returns-in-State
unfolding values_in
returns-in-State c =
    asked_of_slot (goal.at.returns-in-State c).In_ok-slot c.in-State.is refl

pub returns-in-Stop : goal.returns-in-Stop
unfolding values_in
returns-in-Stop c =
    asked_of_slot (goal.at.returns-in-Stop c).In_ok-slot c.in-Stop.is refl
