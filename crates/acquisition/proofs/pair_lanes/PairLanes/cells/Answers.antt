use Rattle.std.proofs.Common.{ℕ}
use Rattle.std.proofs.Math.ListN.{replicate}
use Rattle.acquisition.specs.Twos.{IsPair}
use Rattle.acquisition.proofs.PowerLemmas.{AreEach, each-none, each-sixteen}
use Rattle.acquisition.proofs.pair_lanes.PairLanes.cells.Goals as goal

pub returns-clause-cells : goal.returns-clause-cells
returns-clause-cells c x y are =
    let property : ℕ → ℕ → Type 0 = λ i lane. IsPair lane (x i) (y i) in
    let lanes = c.args.self.now in
    let one : AreEach property 16 c.put_sixteen.new.cells =
    each-sixteen property 0 (replicate 64 0) c.put_sixteen.new.cells lanes.first
    c.put_sixteen.ensures.there c.put_sixteen.ensures.before are.first_are.are
    (each-none property (replicate 64 0)) in
    let two : AreEach property 32 c.put_sixteen-2.new.cells =
    each-sixteen property 16 c.put_sixteen.new.cells c.put_sixteen-2.new.cells lanes.second
    c.put_sixteen-2.ensures.there c.put_sixteen-2.ensures.before are.second_are.are one in
    let three : AreEach property 48 c.put_sixteen-3.new.cells =
    each-sixteen property 32 c.put_sixteen-2.new.cells c.put_sixteen-3.new.cells lanes.third
    c.put_sixteen-3.ensures.there c.put_sixteen-3.ensures.before are.third_are.are two in
    each-sixteen property 48 c.put_sixteen-3.new.cells c.put_sixteen-4.new.cells lanes.fourth
    c.put_sixteen-4.ensures.there c.put_sixteen-4.ensures.before are.fourth_are.are three
