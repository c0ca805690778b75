use Rattle.std.proofs.Common.{◌+◌, ℕ, List, get_or, arith, ap, ◌∙◌, sym}
use Rattle.std.proofs.lemmas.List.{take_more, length-take-le}
use Rattle.definitions.specs.Banks.{layout}
use Rattle.channel_slots.proofs.ShareLemmas.{keys-more, idle-more}
use Rattle.channel_slots.proofs.seats.idle_seats.Goals as goal

pub loop-index-preserved : goal.loop-index-preserved
loop-index-preserved c =
    let shares : List ℕ = c.args.shares.now in
    let i : ℕ = c.loop-index.index in
    let adds = c.in_ok-add_idle.ensures in
    record {
      keys =
          keys-more shares (get_or shares i 0) i c.loop-index.seats.items
          c.add_idle.new.seats.items
          (length-take-le i shares (omega (arith, c.loop-index-test.true)))
          c.loop-index.invariant.keys adds
          ∙ ap layout (sym (take_more shares i 0 c.loop-index-test.true));
      idle =
          idle-more (i + 1) (get_or shares i 0) c.loop-index.seats.items
          c.add_idle.new.seats.items c.loop-index.invariant.idle adds;
    }
