use Rattle.std.proofs.Common.{rules, ◌≡◌, ℤ, ◌+ℤ◌, w32, FitsSigned, to_z, of_z, refl}
use Rattle.std.proofs.lemmas.Int.{to_z-of_z}
use Rattle.lane_correlator.proofs.counts.Counts.add.Goals as goal

-- a sum of two numbers, each as it is kept in 32 bits
added : (a b : ℤ) → FitsSigned w32 a → FitsSigned w32 b → FitsSigned w32 (a +ℤ b)
    → to_z w32 (of_z w32 (to_z w32 (of_z w32 a) +ℤ to_z w32 (of_z w32 b))) ≡ a +ℤ b
added a b fits fits_b sum =
    rw (to_z-of_z w32 a fits, to_z-of_z w32 b fits_b) (to_z-of_z w32 (a +ℤ b) sum)

pub returns : goal.returns
returns c =
    let a = c.args.self.now in
    let b = c.args.other.now in
    rw (
      added a.ie b.ie (search rules) (search rules) c.requires.ie,
      added a.qe b.qe (search rules) (search rules) c.requires.qe,
      added a.ip b.ip (search rules) (search rules) c.requires.ip,
      added a.qp b.qp (search rules) (search rules) c.requires.qp,
      added a.il b.il (search rules) (search rules) c.requires.il,
      added a.ql b.ql (search rules) (search rules) c.requires.ql,
    )
    refl
