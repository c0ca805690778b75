use Rattle.std.proofs.Common.{◌<◌, ◌∙◌, get_or, sym, arith}
use Rattle.std.specs.Prelude.{bit_xor}
use Rattle.std.proofs.lemmas.Nat.{xor_lt}
use Rattle.std.proofs.lemmas.Simd.{get_or-zip2, length-zip2}
use Rattle.lane_correlator.proofs.wiped.turned.Goals as goal

pub returns-clause-turned : goal.returns-clause-turned
returns-clause-turned c k h =
    get_or-zip2 bit_xor c.args.eighths c.args.codes k 0 0 0 (omega (arith, c.requires.eighths))
    (omega (arith, c.requires.codes.long))

pub returns-clause-few : goal.returns-clause-few
returns-clause-few c = record {
  long = length-zip2 bit_xor c.args.eighths c.args.codes (c.requires.eighths
      ∙ sym c.requires.codes.long) ∙ c.requires.eighths;
  few = λ k h.
      let small : get_or c.args.eighths k 0 < 16 = omega (arith, c.requires.cycle k h) in
      rw (returns-clause-turned c k h) (xor_lt 4 (get_or c.args.eighths k 0)
      (get_or c.args.codes k 0) small (c.requires.codes.few k h));
}
