use Rattle.std.proofs.Common.{refl, true, sym, arith}
use Rattle.channel_slots.proofs.ReadyLemmas.{channel-begins-quiet}
use Rattle.channel_slots.proofs.StageLemmas.{starts-tracked}
use Rattle.channel_slots.proofs.slot.Slot.track.Goals as goal

pub returns : goal.returns
returns c =
    let begun = c.track.ensures.begins in
    c.start.ensures c.args.settings.now c.args.time _ (record {
      follows = λ xs now. starts-tracked _ xs _ c.track.result _ _ _ (sym now) refl begun.steered_is
          (c.track.ensures.stands xs now);
      ready = λ held first early near. (omega (arith, near, begun.at), omega (arith, begun.at));
      waits = channel-begins-quiet true _ c.track.result begun;
    })
