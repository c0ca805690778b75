use Rattle.std.proofs.Common.{ℕ, List, length, refl, sym, ap, ◌∙◌, subst}
use Rattle.receiver.specs.declared.queue.Queue.{Queue}
use Rattle.receiver.specs.Queues.{TakesDue}
use Rattle.receiver.specs.Sessions.{answers_waiting, asked_of, with_entry, entry_now}
use Rattle.receiver.specs.Sessions.{lines_left}
use Rattle.receiver.proofs.SessionLemmas.{queues-then, waiting-then}
use Rattle.channel_slots.specs.BankStates.{StandsFor as BankStandsFor, shares_of}
use Rattle.channel_slots.specs.declared.bank.Bank.{Bank}
use Rattle.receiver.proofs.session.Session.answer.Goals as goal

pub returns-clause-left : goal.returns-clause-left
unfolding lines_left
returns-clause-left c = refl

pub returns-clause-gives : goal.returns-clause-gives
returns-clause-gives c before taken settings clients xs waiting s =
    let old : List Queue = before.queues.items in
    let new : List Queue = c.args.self.now.queues.items in
    let due = c.args.due in
    let takes : TakesDue (length xs) 1 old new due =
    subst (λ (t : ℕ). TakesDue t 1 old new due) s.bank.now taken.queues in
    let bank : BankStandsFor settings xs (asked_of s.done) c.args.self.now.bank =
    subst (λ (b : Bank). BankStandsFor settings xs (asked_of s.done) b) (sym taken.bank) s.bank in
    let then : ℕ → _ = with_entry s.done due.client (entry_now xs due) in
    record {
      text = _;
      rest = answers_waiting settings xs then 1 new;
      first = s.waits ∙ waiting-then settings xs s.done due 1 clients old new s.queues takes;
      ended = c.answer.ensures.line settings xs s.done bank;
      stands = record {
        done = then;
        bank = c.answer.ensures.stands settings xs s.done bank;
        shares = s.shares ∙ sym (ap shares_of taken.bank) ∙ sym c.answer.ensures.shares;
        queues = queues-then settings xs s.done due 1 clients old new s.queues takes;
        waits = refl;
      };
    }
