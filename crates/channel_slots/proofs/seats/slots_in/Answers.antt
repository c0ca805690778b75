use Rattle.std.proofs.Common.{◌≡◌, ◌≤◌, ◌+◌, ℕ, drop, arith, ap, slice_index_or}
use Rattle.std.proofs.lemmas.List.{drop_all, at_drop_more}
use Rattle.slot_protocol.specs.declared.command.TheConstants.{MOST_SLOTS}
use Rattle.channel_slots.specs.Banks.{total}
use Rattle.channel_slots.proofs.CommandLemmas.{each-at}
use Rattle.channel_slots.proofs.seats.slots_in.Goals as goal

pub overflow_add-slots : goal.overflow_add-slots
overflow_add-slots c =
    let one : slice_index_or c.args.shares.now c.loop-share.share-index 0 ≤ MOST_SLOTS =
    each-at (λ (share : ℕ). share ≤ MOST_SLOTS) c.args.shares.now c.loop-share.share-index 0
    c.loop-share-test.true c.requires.few in
    omega (arith, one, c.loop-share.invariant.small, c.requires.clients, c.loop-share-test.true)

pub loop-share-preserved : goal.loop-share-preserved
loop-share-preserved c =
    let one : slice_index_or c.args.shares.now c.loop-share.share-index 0 ≤ MOST_SLOTS =
    each-at (λ (share : ℕ). share ≤ MOST_SLOTS) c.args.shares.now c.loop-share.share-index 0
    c.loop-share-test.true c.requires.few in
    let more : total (drop c.loop-share.share-index c.args.shares.now)
    ≡ slice_index_or c.args.shares.now c.loop-share.share-index 0
    + total (drop (c.loop-share.share-index + 1) c.args.shares.now) =
    at_drop_more total c.args.shares.now c.loop-share.share-index 0 c.loop-share-test.true in
    record {
      rest = omega (arith, more, c.loop-share.invariant.rest);
      small = omega (arith, one, c.loop-share.invariant.small);
    }

pub returns : goal.returns
returns c =
    let none : total (drop c.loop-share.share-index c.args.shares.now) ≡ 0 =
    ap total (drop_all c.loop-share.share-index c.args.shares.now c.loop-share-test.false) in
    omega (arith, none, c.loop-share.invariant.rest)
