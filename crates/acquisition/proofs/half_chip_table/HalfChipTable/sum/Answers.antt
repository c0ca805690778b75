use Rattle.std.proofs.Common.{arith}
use Rattle.acquisition.proofs.TableLemmas.{size_of_one, entry-kept}
use Rattle.acquisition.specs.declared.half_chip_table.TheConstants.{HALF_CHIPS}
use Rattle.acquisition.proofs.half_chip_table.HalfChipTable.sum.Goals as goal

pub returns-clause-small : goal.returns-clause-small
returns-clause-small c =
    let table = c.args.self.now in
    rw (entry-kept table.sums c.args.place c.requires table.small)
    (omega (arith, size_of_one table.sums c.args.place HALF_CHIPS c.requires, table.small))
