use Rattle.std.proofs.Common.{◌≡◌, ◌<◌, refl, List, rules}
use Rattle.std.specs.Prelude.{vec_len, vec_capacity}
use Rattle.slot_protocol.specs.declared.event.SlotEvent.{SlotEvent}
use Rattle.slot_protocol.specs.Events.{time_in}
use Rattle.channel_slots.specs.Orders.{put_in}
use Rattle.channel_slots.proofs.PutLemmas.{put-one, put-in-room}
use Rattle.channel_slots.proofs.timeline.Timeline.put.Goals as goal

pub returns : goal.returns
returns c =
    let next : SlotEvent = record {
      client = c.args.self.now.client;
      slot = c.args.self.now.slot;
      time = c.args.self.now.time;
      event = c.args.event;
    } in
    let items : List SlotEvent = c.args.self.now.events.items in
    let room : vec_len c.args.self.now.events < vec_capacity c.args.self.now.events =
    search rules in
    let is_in = put-in-room c.insert-fits.result _ _ _ (c.insert-fits.ensures.succeeds room)
    c.insert-fits.ensures.items in
    let place : c.insert-fits.new.self.items ≡ put_in time_in next items =
    search (is_in, c.place_of-at.ensures.place, rules) in
    record {
      client = refl;
      slot = refl;
      time = refl;
      puts = put-one items c.insert-fits.new.self.items next place;
    }
