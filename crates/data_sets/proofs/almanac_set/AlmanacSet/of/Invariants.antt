use Rattle.std.proofs.Common.{◌≡◌, ◌≤◌, length, true}
use Rattle.std.specs.Prelude.{take, map}
use Rattle.std.specs.List.{list_all, AllByRecursion}
use Rattle.data_sets.specs.Standing.{IsWhole}
use Rattle.data_sets.proofs.SetsOfAlmanacs.{is_for, health_in}
use Rattle.data_sets.proofs.almanac_set.AlmanacSet.of.Given as goal

abbrev pub invariant-loop-k : goal.invariant-loop-k
invariant-loop-k l = record {
  long : length l.health ≡ 32;
  within : l.k ≤ 32;
  for_one : list_all (is_for l.toa) (take l.k l.last) ≡ true;
  whole : AllByRecursion IsWhole (take l.k l.last);
  health : take l.k l.health ≡ map health_in (take l.k l.last);
}
