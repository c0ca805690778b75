use Rattle.std.specs.Prelude.{true}
use Rattle.channel_slots.specs.Slots.{is_idle}
use Rattle.std.proofs.Common.{◌≡◌, ◌++◌, ◌∷◌, [], refl, sym}
use Rattle.std.proofs.lemmas.List.{append-nil}
use Rattle.channel_slots.specs.declared.seat.Seat.{Seat}
use Rattle.channel_slots.proofs.SeatLemmas.{all_push}
use Rattle.channel_slots.proofs.ShareLemmas.{keys-push, push-behind}
use Rattle.channel_slots.proofs.seats.add_idle.Goals as goal

pub loop-number-init : goal.loop-number-init
loop-number-init c = record {
  adds = record {
    added = [];
    behind = sym (append-nil c.args.seats.now.items);
    keys = refl;
    idle = tt;
  };
}

pub loop-number-preserved : goal.loop-number-preserved
loop-number-preserved c =
    let a = c.loop-number.invariant.adds in
    let p : Seat = record {
      client = c.args.client;
      number = c.loop-number.number;
      slot = c.new-in-loop-number.result;
    } in
    record {
      adds = record {
        added = a.added ++ p ∷ [];
        behind = push-behind c.args.seats.now.items a.added _ _ p a.behind
            c.in_ok-push.ensures.items;
        keys = keys-push a.added p c.args.client c.loop-number.number a.keys refl refl;
        idle = all_push (λ (q : Seat). is_idle q.slot ≡ true) a.added p a.idle
            c.new-in-loop-number.ensures.idle;
      };
    }
