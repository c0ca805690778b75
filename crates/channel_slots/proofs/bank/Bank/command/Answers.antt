use Rattle.std.proofs.Common.{inl, inr}
use Rattle.std.proofs.Common.{◌<◌, ◌≤◌, arith, ℕ, List, sym, subst, refl, ◌∙◌}
use Rattle.channel_slots.specs.declared.seat.Seat.{Seat}
use Rattle.channel_slots.specs.Slots.{Obeys, StandsFor, IsReadyIn, next_event}
use Rattle.channel_slots.specs.BankStates.{time_of}
use Rattle.slot_protocol.specs.Commands.{request_in}
use Rattle.channel_slots.proofs.CommandLemmas.{stands-at, commanded, keeps, each-at, set-keeps}
use Rattle.channel_slots.proofs.ShareLemmas.{once-of}
use Rattle.channel_slots.proofs.RestLemmas.{rest-earlier}
use Rattle.channel_slots.proofs.bank.Bank.command.Goals as goal

pub invariant_of-self : goal.invariant_of-self
invariant_of-self c =
    let bank = c.args.self.now in
    let ps : List Seat = bank.seats.items.items in
    let at : ℕ = c.in-Some.at in
    let time : ℕ = time_of bank in
    let begun = bank.window.open in
    let p : Seat = c.index_mut.result.now in
    let q : Seat =
    record { client = p.client; number = p.number; slot = c.command-answer.new.self } in
    let is = c.index_mut.ensures.value in
    let obeys : Obeys bank.settings time (request_in c.args.command) p.slot q.slot
    c.command-answer.result = rw c.end-time.ensures at c.command-answer.ensures in
    let n : ℕ = c.min-self.result in
    let own : n ≤ next_event q.slot =
    omega (arith, c.min-self.ensures, c.next_event.ensures.value) in
    let later : time < next_event q.slot =
    obeys.waits (omega (
      arith,
      bank.waits,
      rw (sym is) at (each-at (λ (p : Seat). bank.next_event ≤ next_event p.slot) ps at p
          c.in-Some.ensures.within bank.rests),
    )) in
    record {
      early = bank.early;
      ready = set-keeps (λ (p : Seat). IsReadyIn bank.window time p.slot) ps at p q
          c.in-Some.ensures.within is (obeys.ready _ _ (omega (
            arith,
            begun.held,
            begun.begun,
            begun.taken,
          ))
          (omega (arith, begun.begun, begun.taken))) bank.ready;
      packed = bank.packed;
      room = bank.room;
      clients = bank.clients;
      shared = bank.shared;
      rests = set-keeps (λ (p : Seat). n ≤ next_event p.slot) ps at p q
          c.in-Some.ensures.within is (λ old. own)
          (rest-earlier bank.next_event n ps (omega (arith, c.min-self.ensures)) bank.rests);
      waits = omega (arith, c.min-self.ensures, bank.waits, later, c.next_event.ensures.value);
      keys = (keeps ps at p q is refl refl).keys ∙ bank.keys;
    }

pub returns-clause-answer : goal.returns-clause-answer
returns-clause-answer c settings xs asked s has =
    let ps : List Seat = c.args.self.now.seats.items.items in
    let p : Seat = c.index_mut.result.now in
    let obeys : Obeys settings (time_of c.args.self.now) (request_in c.args.command) p.slot
    c.command-answer.new.self c.command-answer.result =
    rw (c.end-time.ensures, s.recorded) at c.command-answer.ensures in
    obeys.answers xs _ (sym s.now) (subst
    (λ (m : ℕ). StandsFor settings xs (asked c.args.client m) p.slot) c.slot.ensures
    (stands-at settings xs asked ps c.in-Some.at c.args.client c.slot.result
    (time_of c.args.self.now) p p (once-of c.args.self.now.shares.items ps c.args.self.now.keys)
    c.in-Some.ensures.there c.index_mut.ensures.value s.slots))

pub returns-clause-stands : goal.returns-clause-stands
returns-clause-stands c settings xs asked s has =
    let ps : List Seat = c.args.self.now.seats.items.items in
    let p : Seat = c.index_mut.result.now in
    let obeys : Obeys settings (time_of c.args.self.now) (request_in c.args.command) p.slot
    c.command-answer.new.self c.command-answer.result =
    rw (c.end-time.ensures, s.recorded) at c.command-answer.ensures in
    record {
      recorded = s.recorded;
      now = s.now;
      window = s.window;
      slots =
          rw (← c.slot.ensures)
          (commanded settings xs asked ps c.in-Some.at c.args.client c.slot.result
          (time_of c.args.self.now) p _
          (once-of c.args.self.now.shares.items ps c.args.self.now.keys)
          c.in-Some.ensures.there c.index_mut.ensures.value (request_in c.args.command) s.slots
          refl refl (λ commands t. obeys.stands xs commands (sym s.now) t));
    }

pub returns-in_default-clause-none : goal.returns-in_default-clause-none
returns-in_default-clause-none c lacks = refl

pub returns-clause-none : goal.returns-clause-none
returns-clause-none c lacks =
    let has = c.in-Some.ensures.has in
    elim lacks [
      | inl none ↦ absurd (omega (arith, none, has.0))
      | inr past ↦ absurd (omega (arith, past, c.slot.ensures, has.1))
    ]
