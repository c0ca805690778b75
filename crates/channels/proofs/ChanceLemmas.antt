-- How many segments may end in a run of samples.
use Rattle.std.proofs.Common.{ℕ, ◌+◌, ◌*◌, ◌<◌, ◌≤◌, arith}
use Rattle.std.proofs.Math.Nat.{mul-le-mul}
use Rattle.std.proofs.lemmas.Bool.{le-ltb, lt-ltb}
use Rattle.std.specs.Prelude.{Bool, true, false, if◌then◌else◌, nat_lt}
use Rattle.definitions.specs.Oscillators.{code_cycle}
use Rattle.channels.specs.declared.follower.Follower.{Follower}
use Rattle.channels.specs.declared.follower.TheConstants.{MOST_STEP}
use Rattle.channels.specs.Following.{phase_chance, chance}

-- where one has ended none does any more
pub chance-less : (code step n new : ℕ) → n ≤ 1024 → step ≤ MOST_STEP
    → code_cycle ≤ code + n * step → new < step → phase_chance new + 1 ≤ phase_chance code
chance-less code step n new few slow high low =
    let near : MOST_STEP ≤ code = omega (arith, high, mul-le-mul few slow) in
    let far : new < MOST_STEP = omega (arith, low, slow) in
    rw (lt-ltb new MOST_STEP far, le-ltb code MOST_STEP near) (omega arith)

at_most_one : (b : Bool) → (if b then 0 else 1) ≤ 1
at_most_one true = omega arith
at_most_one false = omega arith

-- one at most
pub one-chance : (f : Follower) → chance f ≤ 1
one-chance f = at_most_one (nat_lt f.code.phase MOST_STEP)
