use Rattle.std.proofs.Common.{◌≡◌, replicate}
use Rattle.receiver_options.proofs.slot_shares.four_each.Given as goal

abbrev pub invariant-loop : goal.invariant-loop
invariant-loop l = l.shares.items ≡ replicate l.counter 4
