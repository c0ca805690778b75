use Rattle.std.proofs.Common.{ℤ, pos, arith, get_or, to_z, of_z, w32}
use Rattle.std.specs.Prelude.{◌+ℤ◌}
use Rattle.std.proofs.Math.ListN.{set}
use Rattle.acquisition.proofs.TableLemmas.{adds_up, entry_set, sizes-more}
use Rattle.acquisition.specs.declared.half_chip_table.TheConstants.{HALF_CHIPS}
use Rattle.acquisition.proofs.half_chip_table.HalfChipTable.add.Goals as goal

pub overflow_add-self : goal.overflow_add-self
overflow_add-self c =
    (adds_up c.args.self.now.sums c.args.place c.args.sum c.requires.place c.requires.room).fits

pub returns-clause-added : goal.returns-clause-added
returns-clause-added c k h =
    let table = c.args.self.now in
    entry_set table.sums c.args.place k _ c.args.sum c.requires.place table.long
    (adds_up table.sums c.args.place c.args.sum c.requires.place c.requires.room).is

pub returns-clause-sizes : goal.returns-clause-sizes
returns-clause-sizes c =
    sizes-more c.args.self.now.sums _ c.args.place HALF_CHIPS c.args.sum (returns-clause-added c)

pub invariant_of-self-clause-small : goal.invariant_of-self-clause-small
invariant_of-self-clause-small c =
    let table = c.args.self.now in
    let entry : ℤ = get_or table.sums c.args.place (pos 0) in
    let made : ℤ = to_z w32 (of_z w32 (to_z w32 (of_z w32 entry)
    +ℤ to_z w32 (of_z w32 c.args.sum))) in
    let is = (adds_up table.sums c.args.place c.args.sum c.requires.place c.requires.room).is in
    let more = sizes-more table.sums (set table.sums c.args.place made) c.args.place HALF_CHIPS
    c.args.sum (λ k h. entry_set table.sums c.args.place k made c.args.sum c.requires.place
    table.long is) in
    omega (arith, more, c.requires.room)
