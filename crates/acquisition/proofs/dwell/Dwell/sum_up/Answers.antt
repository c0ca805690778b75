use Rattle.std.proofs.Common.{◌≡◌, ◌+◌, ◌*◌, ℕ, refl}
use Rattle.std.proofs.Math.Path.{ap₂}
use Rattle.definitions.specs.Samples.{Sample}
use Rattle.acquisition.proofs.PowerLemmas.{period-held}
use Rattle.acquisition.proofs.dwell.Dwell.sum_up.Goals as goal

pub returns : goal.returns
returns g c x same =
    let dwell = c.args.self.now in
    let before : ℕ = c.args.period * dwell.per_period in
    let held : ℕ → Sample = g.S.SampleSource.held c.args.source.now in
    let is : c.from.result * c.from-2.result ≡ before =
    ap₂ (λ (a b : ℕ). a * b) c.from.ensures c.from-2.ensures in
    rw is at (c.fill.ensures x (rw is (period-held held x dwell.start (dwell.start + before)
    dwell.per_period c.args.period dwell.periods refl c.requires.period same)))
