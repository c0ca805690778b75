use Rattle.std.proofs.Common.{◌≡◌, ◌∙◌, ◌+◌, ◌*◌, refl, sym, arith}
use Rattle.definitions.specs.Samples.{sample_at}
use Rattle.definitions.specs.Oscillators.{samples_per_ms}
use Rattle.acquisition.specs.Powers.{AreSoFar}
use Rattle.acquisition.specs.Steps.{steps_in}
use Rattle.acquisition.specs.declared.plan.TheConstants.{BIN_CELLS}
use Rattle.acquisition.proofs.SearchLemmas.{power-of_whole}
use Rattle.acquisition.proofs.bin_grid.powers_of_bin.Goals as goal

pub returns : goal.returns
returns g c xs holds i inside =
    let settings = c.args.settings.now in
    let plan = c.args.plan.now in
    let added : c.advance.new.self.added ≡ BIN_CELLS * plan.dwell =
    c.advance.ensures.added ∙ rw c.dwell-2.ensures.value refl in
    let so_far : AreSoFar (λ j. sample_at xs (c.args.start + j)) plan.prn
    (samples_per_ms settings) (steps_in c.new.result c.args.k) c.advance.new.self =
    rw (c.new-ones.ensures, c.prn.ensures, c.per_ms.ensures.value, c.bin-steps.ensures.steps) at
    (c.advance.ensures.powers (λ j. sample_at xs (c.args.start + j))
    (λ j h. let within = rw (c.dwell.ensures.value, c.per_ms.ensures.value) at h in
    holds (c.args.start + j) (omega arith) (omega (arith, within)))
    (c.new-powers.ensures.powers _ _ _ _)) in
    rw c.all.ensures (sym (power-of_whole settings plan xs c.args.start c.args.k i
    c.new.result c.advance.new.self c.requires.bin inside added c.new.ensures.steps so_far))

pub bin-steps-requires : goal.bin-steps-requires
bin-steps-requires g c = omega (arith, c.requires.bin, c.new.ensures.few)
