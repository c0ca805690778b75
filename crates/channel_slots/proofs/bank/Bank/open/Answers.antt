use Rattle.std.proofs.Common.{refl, ◌∙◌, ◌≡◌, arith, sym, ap}
use Rattle.std.specs.Prelude.{true}
use Rattle.std.specs.List.{list_all}
use Rattle.definitions.specs.Banks.{layout}
use Rattle.definitions.specs.Runs.{is_share}
use Rattle.channel_slots.proofs.ReadyLemmas.{idle-are-ready}
use Rattle.channel_slots.proofs.ShareLemmas.{idle-stand}
use Rattle.channel_slots.proofs.ShareLemmas.{few-each}
use Rattle.channel_slots.proofs.RestLemmas.{idle-rest}
use Rattle.channel_slots.proofs.bank.Bank.open.Goals as goal

pub idle_seats-requires-clause-few : goal.idle_seats-requires-clause-few
idle_seats-requires-clause-few c =
    few-each c.args.shares.now (sym c.are_shares.ensures ∙ c.if-not-are_shares.false)

pub invariant_of-result : goal.invariant_of-result
invariant_of-result c =
    let made = c.in_ok-window.ensures in
    let idle = c.in_ok-seats.ensures in
    let shared : list_all is_share c.args.shares.now ≡ true =
    sym c.are_shares.ensures ∙ c.if-not-are_shares.false in
    record {
      early = omega (arith, made.end);
      ready = idle-are-ready _ _ _ _ idle.idle;
      packed = made.packing ∙ c.format.ensures;
      room = made.room;
      clients = rw c.in-Ok.ensures.0 c.in-Ok.ensures.1;
      shared = ap (list_all is_share) c.in-Ok.ensures.0 ∙ shared;
      rests = idle-rest _ idle.idle;
      waits = omega (arith, made.end);
      keys = idle.keys ∙ ap layout (sym c.in-Ok.ensures.0);
    }

pub returns-clause-stands : goal.returns-clause-stands
returns-clause-stands c =
    let made = c.in_ok-window.ensures in
    let idle = c.in_ok-seats.ensures in
    record {
      recorded = refl;
      now = made.end;
      window = made.stands;
      slots = record { now = made.end; each = idle-stand c.args.settings _ idle.idle };
    }
