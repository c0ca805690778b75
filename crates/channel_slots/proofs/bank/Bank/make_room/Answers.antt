use Rattle.std.proofs.Common.{◌≡◌, List, sym, ◌∙◌, arith}
use Rattle.channels.specs.declared.window.Window.{Window}
use Rattle.channels.specs.Windows.{end_of, first_of}
use Rattle.channel_slots.specs.declared.seat.Seat.{Seat}
use Rattle.channel_slots.specs.Banks.{PassAll}
use Rattle.channel_slots.proofs.BankLemmas.{over-all, refilled, keys-passed, rest-passed}
use Rattle.channel_slots.proofs.BankLemmas.{ready-passed, stands-passed}
use Rattle.channel_slots.proofs.bank.Bank.make_room.Goals as goal

pub pass_all-requires-clause-ready : goal.pass_all-requires-clause-ready
pass_all-requires-clause-ready c = rw c.deref_mut.ensures.value c.args.self.now.ready

pub pass_all-requires-clause-rest : goal.pass_all-requires-clause-rest
pass_all-requires-clause-rest c =
    let old = c.args.self.now in
    rw c.deref_mut.ensures.value
    (old.next_event, old.waits, old.rests)

pub invariant_of-self : goal.invariant_of-self
invariant_of-self c =
    let old = c.args.self.now in
    let w : Window = old.window in
    let new : List Seat = c.pass_all.new.seats in
    let passes : PassAll w old.seats.items.items new =
    rw c.deref_mut.ensures.value at c.pass_all.ensures.passes in
    let whole = refilled old.seats.items.len old.seats.items.items new
    (omega (arith, c.pass_all.auto.seats, c.deref_mut.ensures.len)) in
    let same = c.pass_all.ensures.same in
    let kept = c.close.ensures.history ∙ same.history in
    let first : first_of c.close.new.self ≡ end_of w = c.close.ensures.first ∙ same.end in
    let end : end_of c.close.new.self ≡ end_of w = rw kept in
    record {
      early = omega (arith, end, old.early);
      ready = rw whole
          (ready-passed w c.close.new.self kept first old.seats.items.items new passes old.ready);
      packed = rw kept old.packed;
      room = rw kept old.room;
      clients = old.clients;
      shared = old.shared;
      rests = rw whole (rest-passed w old.next_event old.seats.items.items new passes old.rests);
      waits = omega (arith, end, old.waits);
      keys = rw whole (keys-passed w old.seats.items.items new passes ∙ old.keys);
    }

pub returns-then-not-has_room-clause-stands : goal.returns-then-not-has_room-clause-stands
returns-then-not-has_room-clause-stands c settings xs asked s =
    let old = c.args.self.now in
    let w : Window = old.window in
    let new : List Seat = c.pass_all.new.seats in
    let passes : PassAll w old.seats.items.items new =
    rw c.deref_mut.ensures.value at c.pass_all.ensures.passes in
    let whole = refilled old.seats.items.len old.seats.items.items new
    (omega (arith, c.pass_all.auto.seats, c.deref_mut.ensures.len)) in
    let same = c.pass_all.ensures.same in
    let kept = c.close.ensures.history ∙ same.history in
    let end : end_of c.close.new.self ≡ end_of w = rw kept in
    record {
      recorded = s.recorded;
      now = end ∙ s.now;
      window = c.close.ensures.stands xs (same.stands xs s.window);
      slots = record {
        now = end ∙ s.slots.now;
        each = rw whole (stands-passed w settings xs asked old.seats.items.items new (sym s.now)
            (over-all xs w s.window) passes s.slots.each);
      };
    }
