use Rattle.std.proofs.Common.{◌≡◌, ◌≤◌, ◌-◌, ◌+◌, ◌*◌, ℕ, List, take, length, rules, arith}
use Rattle.std.specs.Prelude.{Some}
use Rattle.std.specs.Option.{SomeIff}
use Rattle.std.proofs.lemmas.Option.{slice_get_within}
use Rattle.std.proofs.lemmas.List.{length-map, length-take}
use Rattle.channel_slots.specs.declared.seat.Seat.{Seat}
use Rattle.slot_protocol.specs.declared.command.TheConstants.{MOST_SLOTS}
use Rattle.channel_slots.specs.Banks.{keys_of, IsAt, total}
use Rattle.channel_slots.specs.BankStates.{HasSlot, shares_of}
use Rattle.channel_slots.proofs.ShareLemmas.{its-index, few-each, few-take, total-few}
use Rattle.channel_slots.proofs.bank.Bank.seat_index.Goals as goal

pub slots_in-requires-clause-few : goal.slots_in-requires-clause-few
slots_in-requires-clause-few c =
    rw c.deref-2.ensures.0 (few-take c.in_ok-before.before (shares_of c.args.self.now)
    (few-each (shares_of c.args.self.now) c.args.self.now.shared))

pub overflow_add-result : goal.overflow_add-result
overflow_add-result c =
    let shares : List ℕ = shares_of c.args.self.now in
    let k : ℕ = c.in_ok-before.before in
    let few = few-take k shares (few-each shares c.args.self.now.shared) in
    let most : total (take k shares) ≤ MOST_SLOTS * length (take k shares) =
    total-few (take k shares) few in
    let is : c.slots_in.result ≡ total (take k shares) =
    rw c.deref-2.ensures.0 at c.slots_in.ensures in
    let first : SomeIff (Some k) (1 ≤ c.args.client) (c.args.client - 1) =
    rw c.in_ok-before.was at c.checked_sub.ensures in
    omega (arith, is, most, length-take k shares, first.1, c.ranges.client, c.get-3.ensures.range)

-- the slots of the clients before one
before : (client k slots : ℕ) (shares own : List ℕ) → SomeIff (Some k) (1 ≤ client) (client - 1)
    → own ≡ shares → slots ≡ total (take k own) → slots ≡ total (take (client - 1) shares)
before client k slots shares own first same is = rw (first.1, same) at is

pub returns-clause-there : goal.returns-clause-there
returns-clause-there c =
    let shares : List ℕ = shares_of c.args.self.now in
    let it : HasSlot c.args.self.now c.args.client c.args.slot = search rules in
    rw (
      before c.args.client c.in_ok-before.before c.slots_in.result shares c.deref-2.result.now
          (rw c.in_ok-before.was at c.checked_sub.ensures) c.deref-2.ensures.0 c.slots_in.ensures,
      c.get-3.ensures.same,
      c.args.self.now.keys,
    )
    (its-index shares c.args.client c.args.slot it.0 it.1)

pub returns-clause-within : goal.returns-clause-within
returns-clause-within c =
    let shares : List ℕ = shares_of c.args.self.now in
    let ps : List Seat = c.args.self.now.seats.items.items in
    let it : HasSlot c.args.self.now c.args.client c.args.slot = search rules in
    let there : IsAt (keys_of ps) (total (take (c.args.client - 1) shares) + c.args.slot)
    c.args.client c.args.slot =
    rw c.args.self.now.keys (its-index shares c.args.client c.args.slot it.0 it.1) in
    let h = slice_get_within (keys_of ps) (total (take (c.args.client - 1) shares) + c.args.slot)
    (c.args.client, c.args.slot) there in
    let is = before c.args.client c.in_ok-before.before c.slots_in.result shares
    c.deref-2.result.now (rw c.in_ok-before.was at c.checked_sub.ensures) c.deref-2.ensures.0
    c.slots_in.ensures in
    let key : Seat → ℕ × ℕ = λ p. (p.client, p.number) in
    let many = length-map ps key in
    omega (arith, h, is, many, c.get-3.ensures.same)

pub returns-clause-has : goal.returns-clause-has
returns-clause-has c = search rules
