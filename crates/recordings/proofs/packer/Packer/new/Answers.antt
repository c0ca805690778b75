use Rattle.std.proofs.Common.{◌≡◌, ◌*◌, refl, arith}
use Rattle.recordings.specs.Recordings.{group_of}
use Rattle.recordings.proofs.StreamLemmas.{nothing, some_group}
use Rattle.recordings.proofs.packer.Packer.new.Goals as goal

pub returns-clause-stands : goal.returns-clause-stands
returns-clause-stands c = record {
  packed = nothing c.args.recipe (some_group c.args.recipe);
  held = let e : 0 * group_of c.args.recipe ≡ 0 = omega arith in
      rw (e, c.in_ok-held.ensures.items) refl;
}
