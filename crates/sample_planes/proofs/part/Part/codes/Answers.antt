use Rattle.std.proofs.Common.{◌≡◌, ◌+◌, ◌-◌, ◌*◌, ◌/◌, ◌%◌, ◌<◌, ℕ, length, get_or, rules, arith}
use Rattle.sample_planes.specs.Signs.{code_at}
use Rattle.sample_planes.proofs.CodeLemmas.{loaded, loaded_long, is_code}
use Rattle.sample_planes.proofs.part.Part.codes.Goals as goal

pub returns-clause-long : goal.returns-clause-long
returns-clause-long c =
    let codes = c.args.self.now.codes in
    let long : length codes ≡ 1024 = search rules in
    loaded_long codes c.args.w long c.requires

pub returns-clause-few : goal.returns-clause-few
returns-clause-few c k h =
    rw (loaded c.args.self.now.codes c.args.w k c.requires h)
    (c.args.self.now.few (64 * c.args.w + k) (omega (arith, c.requires)))

pub returns-clause-fourth : goal.returns-clause-fourth
returns-clause-fourth c k h =
    rw (loaded c.args.self.now.codes c.args.w k c.requires h)
    (c.args.self.now.fourth (64 * c.args.w + k) (omega (arith, c.requires)))

pub returns-clause-codes : goal.returns-clause-codes
unfolding code_at
returns-clause-codes c j h =
    let codes = c.args.self.now.codes in
    let w : ℕ = c.args.w in
    let block : (64 * w + j) / 64 ≡ w = omega arith in
    let place : (64 * w + j) % 64 ≡ j = omega arith in
    let room : 64 * w + (63 - j) < 1024 = omega (arith, c.requires) in
    rw (block, place, loaded codes w (63 - j) c.requires (omega arith))
    (is_code (get_or codes (64 * w + (63 - j)) 0) (c.args.self.now.few (64 * w + (63 - j)) room)
    (c.args.self.now.fourth (64 * w + (63 - j)) room))
