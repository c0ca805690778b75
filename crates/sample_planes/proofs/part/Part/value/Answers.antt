use Rattle.std.proofs.Common.{◌≡◌, ℕ, ◌+◌, ◌*◌, ◌/◌, ◌%◌, ◌<◌, pos, w8, to_z, get_or, arith}
use Rattle.std.specs.Prelude.{◌*ℤ◌}
use Rattle.std.proofs.lemmas.Int.{ints}
use Rattle.definitions.specs.Samples.{sign_of}
use Rattle.sample_planes.specs.CodedParts.{lane_of}
use Rattle.sample_planes.specs.Signs.{code_at}
use Rattle.sample_planes.proofs.part.Part.value.Goals as goal

-- a part that is not below 0
positive : (code : ℕ) → code < 16 → code / 4 % 2 ≡ 0
    → to_z w8 (1 + 2 * (code / 8)) ≡ sign_of (code / 4 % 2) *ℤ pos (1 + 2 * (code / 8))
positive code few above =
    let size : to_z w8 (1 + 2 * (code / 8)) ≡ pos (1 + 2 * (code / 8)) =
    omega (arith, ints, few) in
    rw (above, size) (omega (arith, ints))

pub returns-then-code-eq0-clause-value : goal.returns-then-code-eq0-clause-value
unfolding code_at
returns-then-code-eq0-clause-value c =
    let lane : lane_of c.args.i < 1024 = omega (arith, c.requires) in
    positive (get_or c.args.self.now.codes (lane_of c.args.i) 0)
    (c.args.self.now.few (lane_of c.args.i) lane) c.if-code-eq0.true
