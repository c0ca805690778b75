use Rattle.std.proofs.Common.{arith}
use Rattle.seldomplough.proofs.packing.Packing.take.Goals as goal

pub returns-clause-taken : goal.returns-clause-taken
returns-clause-taken c =
    let s = c.split_at.ensures in
    record {
      taken = c.split_at.result.0.now;
      split = s.by_index.0;
      some = λ has. omega (arith, has, s.front_len, c.min.ensures);
      few = omega (arith, s.front_len, c.min.ensures);
      most = λ left. omega (arith, left, s.front_len, s.back_len, c.min.ensures);
      packs = c.in_ok-take.ensures.stands;
    }
