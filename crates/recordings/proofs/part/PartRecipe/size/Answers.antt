use Rattle.std.proofs.Common.{◌≡◌, ◌<◌, arith, refl}
use Rattle.std.specs.Prelude.{ℤ, ◌-ℤ◌, unsigned_abs}
use Rattle.std.proofs.lemmas.Int.{ints}
use Rattle.std.proofs.lemmas.Bool.{lt-ltb}
use mir.Syntax.{w64}
use mir.Val.{to_z, of_z}
use Rattle.recordings.proofs.part.PartRecipe.size.Goals as goal

abbrev kept : ℤ → ℤ
kept value = to_z w64 (of_z w64 value)

pub returns-then-threshold-unsigned_abs : goal.returns-then-threshold-unsigned_abs
returns-then-threshold-unsigned_abs c =
    let centre = c.args.self.now.centre in
    let exact : kept (kept c.args.value -ℤ kept centre) ≡ c.args.value -ℤ centre =
    omega (arith, ints, c.requires, c.args.self.now.near) in
    let far : c.args.threshold < unsigned_abs (c.args.value -ℤ centre) =
    rw (c.unsigned_abs.ensures.value, exact) at c.if-threshold-unsigned_abs.true in
    record { value = rw (lt-ltb _ _ far) refl; bit = omega arith }
