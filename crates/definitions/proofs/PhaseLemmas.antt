-- Phases go on over the end of a segment.
use Rattle.std.proofs.Common.{◌≡◌, ℕ, ◌+◌, ◌-◌, ◌*◌, ◌%◌, ◌≤◌, refl, sym, ap, ◌∙◌, arith}
use Rattle.std.proofs.Math.Nat.{mod-add-mod, add-mod_right}
use Rattle.definitions.specs.Oscillators.{code_cycle, carrier_cycle}
use Rattle.definitions.specs.SlotLaws.{SegmentsGoOn}

-- phases add up
pub phase-on : (cycle phase step m j : ℕ)
    → ((phase + m * step) % cycle + j * step) % cycle ≡ (phase + (m + j) * step) % cycle
phase-on cycle phase step m j =
    let e : phase + m * step + j * step ≡ phase + (m + j) * step = omega arith in
    mod-add-mod (phase + m * step) cycle (j * step) ∙ ap (λ n. n % cycle) e

-- less a cycle
less-a-cycle : (cycle phase step m j : ℕ) → cycle ≤ phase + m * step
    → (phase + m * step - cycle + j * step) % cycle ≡ (phase + (m + j) * step) % cycle
less-a-cycle cycle phase step m j through =
    let e : phase + (m + j) * step ≡ (phase + m * step - cycle + j * step) + cycle =
    omega (arith, through) in
    rw e (sym (add-mod_right (phase + m * step - cycle + j * step) cycle))

pub segments-go-on : SegmentsGoOn
segments-go-on s p e same_code same_carrier later through =
    let run : code_cycle ≤ s.code + (e - s.start) * p.code_step = rw same_code at through in
    record {
      begins = refl;
      code_goes_on = λ j. less-a-cycle code_cycle s.code p.code_step (e - s.start) j run;
      carrier_goes_on = λ j. phase-on carrier_cycle s.carrier p.carrier_step (e - s.start) j;
      once = omega (arith, through, same_code);
    }
