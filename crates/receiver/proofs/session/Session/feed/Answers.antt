use Rattle.std.proofs.Common.{◌≡◌, ◌≤◌, ℕ, List, length, subst, sym, ◌∙◌}
use Rattle.definitions.specs.Samples.{Sample}
use Rattle.definitions.specs.Banks.{bank_events_at_end, layout}
use Rattle.definitions.specs.Receiver.{at_each_sample}
use Rattle.slot_protocol.specs.Events.{AreEvents}
use Rattle.channel_slots.specs.Timelines.{events_in}
use Rattle.receiver.specs.declared.queue.Queue.{Queue}
use Rattle.receiver.specs.Queues.{least_gap_of}
use Rattle.receiver.specs.Sessions.{until_next, asked_of}
use Rattle.receiver.proofs.SessionLemmas.{queues-later, waiting-later}
use Rattle.receiver.proofs.TellingLemmas.{told-stretch}
use Rattle.channel_slots.specs.BankStates.{time_of as bank_time}
use Rattle.receiver.proofs.session.Session.feed.Goals as goal

-- the samples come before the entry that is next
before-next : (queues : List Queue) (time n len : ℕ) → len ≤ least_gap_of time queues → time ≡ n
    → len ≤ least_gap_of n queues
before-next queues time n len h same = rw (← same) h

pub returns-clause-stands : goal.returns-clause-stands
unfolding until_next
returns-clause-stands c settings clients xs s =
    let ys : List Sample = c.args.run.now.samples in
    let queues : List Queue = c.args.self.now.queues.items in
    let free = before-next queues (bank_time c.args.self.now.bank) (length xs) (length ys)
    c.requires.quiet s.bank.now in
    record {
      done = s.done;
      bank = (c.feed.ensures.takes.taken settings xs (asked_of s.done) s.bank).stands;
      shares = s.shares ∙ sym c.feed.ensures.same.shares;
      queues = queues-later settings xs ys s.done c.requires.some 1 clients queues s.queues free;
      waits = waiting-later settings xs ys s.done c.requires.some clients queues s.queues free;
    }

pub returns-clause-told : goal.returns-clause-told
unfolding until_next
returns-clause-told c settings clients xs s =
    let ys : List Sample = c.args.run.now.samples in
    let queues : List Queue = c.args.self.now.queues.items in
    let free = before-next queues (bank_time c.args.self.now.bank) (length xs) (length ys)
    c.requires.quiet s.bank.now in
    told-stretch settings clients queues s.done xs ys (events_in c.feed.new.timeline)
    c.requires.some s.queues free
    (subst (λ (l : List ℕ). AreEvents (events_in c.feed.new.timeline)
    (at_each_sample (bank_events_at_end settings (layout l) (asked_of s.done)) xs ys))
    (sym s.shares)
    (c.feed.ensures.takes.taken settings xs (asked_of s.done) s.bank).told)
