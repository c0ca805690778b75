use Rattle.std.proofs.Common.{◌≡◌, ◌-◌, true, map, take}
use Rattle.std.specs.List.{list_all}
use Rattle.receiver_options.specs.Requests.{is_share_digit}
use Rattle.receiver_options.proofs.slot_shares.shares_of.Given as goal

abbrev pub invariant-loop-digit : goal.invariant-loop-digit
invariant-loop-digit l = record {
  shares : l.shares.items ≡ map (λ c. c - 0x30) (take l.digit-index l.digits);
  digits : list_all is_share_digit (take l.digit-index l.digits) ≡ true;
}
