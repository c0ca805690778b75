use Rattle.std.proofs.Common.{refl, false, sym, arith}
use Rattle.channel_slots.proofs.ReadyLemmas.{channel-begins-quiet}
use Rattle.channel_slots.proofs.StageLemmas.{starts-held}
use Rattle.channel_slots.proofs.slot.Slot.hold.Goals as goal

pub returns : goal.returns
returns c =
    let begun = c.hold.ensures.begins in
    c.start.ensures c.args.settings.now c.args.time _ (record {
      follows = λ xs now. starts-held _ xs _ c.hold.result _ _ _ (sym now) refl begun.steered_is
          (c.hold.ensures.stands xs now);
      ready = λ held first early near. (omega (arith, near, begun.at), omega (arith, begun.at));
      waits = channel-begins-quiet false _ c.hold.result begun;
    })
