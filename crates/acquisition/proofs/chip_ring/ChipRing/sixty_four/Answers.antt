use Rattle.std.proofs.Common.{◌≡◌, ◌+◌, ◌-◌, ℕ, arith}
use Rattle.acquisition.proofs.RingLemmas.{entries_of}
use Rattle.acquisition.proofs.chip_ring.ChipRing.sixty_four.Goals as goal

whole : (at : ℕ) → at + 64 - at ≡ 64
whole at = omega arith

pub returns-clause-first : goal.returns-clause-first
returns-clause-first c =
    let e : c.args.at + 0 ≡ c.args.at = omega arith in
    rw e at (entries_of c.args.self.now.chips c.args.at _ 0 c.args.self.now.long c.requires
    (whole c.args.at) (omega arith))

pub returns-clause-second : goal.returns-clause-second
returns-clause-second c =
    entries_of c.args.self.now.chips c.args.at _ 16 c.args.self.now.long c.requires
    (whole c.args.at) (omega arith)

pub returns-clause-third : goal.returns-clause-third
returns-clause-third c =
    entries_of c.args.self.now.chips c.args.at _ 32 c.args.self.now.long c.requires
    (whole c.args.at) (omega arith)

pub returns-clause-fourth : goal.returns-clause-fourth
returns-clause-fourth c =
    entries_of c.args.self.now.chips c.args.at _ 48 c.args.self.now.long c.requires
    (whole c.args.at) (omega arith)
