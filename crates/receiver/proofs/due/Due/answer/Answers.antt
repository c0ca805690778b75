use Rattle.std.proofs.Common.{◌≡◌, ◌<◌, ℕ, List, length, refl, sym, ap, ◌∙◌, subst}
use Rattle.std.specs.Prelude.{Result, Ok, Err}
use Rattle.definitions.specs.Commands.{Command as DefinedCommand, TimedRequest}
use Rattle.definitions.specs.Lines.{ended_line}
use Rattle.definitions.specs.Texts.{for_client, at_time, answer_text, refusal_text}
use Rattle.definitions.specs.Answers.{answer_at_end}
use Rattle.definitions.specs.Receiver.{reply_text}
use Rattle.slot_protocol.specs.Commands.{command_in, slot_of}
use Rattle.channel_slots.specs.BankStates.{StandsFor, share_of}
use Rattle.client_commands.specs.Entries.{result_in, number_of}
use Rattle.receiver.specs.Sessions.{asked_of, with_entry}
use Rattle.receiver.proofs.EntryAnswers.{refused-same, command-added}
use Rattle.receiver.proofs.due.Due.answer.Goals as goal

-- a line, part by part
same-line : (client time now : ℕ) (text other : List ℕ) → time ≡ now → text ≡ other
    → ended_line (for_client client (at_time time text))
    ≡ ended_line (for_client client (at_time now other))
same-line client time now text other t e =
    ap (λ (k : ℕ). ended_line (for_client client (at_time k text))) t
    ∙ ap (λ (l : List ℕ). ended_line (for_client client (at_time now l))) e

pub returns-in-Ok : goal.returns-in-Ok
returns-in-Ok c = record {
  settings = c.command-answer.ensures.same.settings;
  shares = c.command-answer.ensures.same.shares;
  time = c.command-answer.ensures.time;
  line = λ settings xs done s.
      let command : DefinedCommand = command_in c.in-Ok.command in
      let client = c.args.self.client in
      let few : slot_of c.in-Ok.command < share_of c.args.bank.now client =
      rw c.in-Ok.is at c.requires.slot in
      let what : result_in c.args.self.what ≡ Ok command = ap result_in c.in-Ok.is in
      let slot : c.get-slot.result ≡ command.slot = c.get-slot.ensures.same ∙ c.slot.ensures in
      c.make_answer.ensures
      ∙ same-line client c.time-time.result (length xs) _ _ (c.time-time.ensures.taken ∙ s.now)
      (ap (answer_text c.get-slot.result)
      (c.command-answer.ensures.answer settings xs (asked_of done) s (c.requires.first, few))
      ∙ ap (λ (k : ℕ). answer_text k (answer_at_end settings xs
      (asked_of done client command.slot) command.request)) slot
      ∙ ap (reply_text settings xs (done client)) (sym what));
  stands = λ settings xs done s.
      let command : DefinedCommand = command_in c.in-Ok.command in
      let client = c.args.self.client in
      let few : slot_of c.in-Ok.command < share_of c.args.bank.now client =
      rw c.in-Ok.is at c.requires.slot in
      let what : Ok command ≡ result_in c.args.self.what = sym (ap result_in c.in-Ok.is) in
      subst (λ (r : Result DefinedCommand ℕ). StandsFor settings xs
      (asked_of (with_entry done client (record { time = length xs; what = r })))
      c.command-answer.new.self)
      what
      (subst (λ (a : ℕ → ℕ → List TimedRequest). StandsFor settings xs a c.command-answer.new.self)
      (command-added done client (length xs) command)
      (c.command-answer.ensures.stands settings xs (asked_of done) s (c.requires.first, few)));
}

pub returns-in-Err : goal.returns-in-Err
returns-in-Err c = record {
  settings = refl;
  shares = refl;
  time = refl;
  line = λ settings xs done s.
      let client = c.args.self.client in
      let what : result_in c.args.self.what ≡ Err (number_of c.in-Err.refusal) =
      ap result_in c.in-Err.is in
      c.make_refusal.ensures
      ∙ same-line client c.time-time.result (length xs) _ _ (c.time-time.ensures.taken ∙ s.now)
      (ap refusal_text c.number.ensures ∙ ap (reply_text settings xs (done client)) (sym what));
  stands = λ settings xs done s.
      let client = c.args.self.client in
      let what = sym (ap result_in c.in-Err.is) in
      subst (λ (r : Result DefinedCommand ℕ). StandsFor settings xs
      (asked_of (with_entry done client (record { time = length xs; what = r }))) c.args.bank.now)
      what
      (subst (λ (a : ℕ → ℕ → List TimedRequest). StandsFor settings xs a c.args.bank.now)
      (refused-same done client (length xs) _) s);
}
