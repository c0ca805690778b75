use Rattle.std.proofs.Common.{◌≡◌, ◌<◌, ◌+◌, ℕ, pos, get_or, to_z, of_z, w32, arith}
use Rattle.std.proofs.Common.{sym, unsigned_abs}
use Rattle.acquisition.specs.Folds.{sizes_to}
use Rattle.acquisition.specs.declared.half_chip_table.HalfChipTable.{HalfChipTable}
use Rattle.acquisition.proofs.TableLemmas.{entry-kept, sizes-first, sizes-next, sizes-within}
use Rattle.acquisition.specs.declared.half_chip_table.TheConstants.{HALF_CHIPS}
use Rattle.acquisition.proofs.half_chip_table.HalfChipTable.sizes.Goals as goal

next : (table : HalfChipTable) (k sizes size : ℕ) → k < HALF_CHIPS → sizes ≡ sizes_to table.sums k
    → size ≡ unsigned_abs (to_z w32 (of_z w32 (get_or table.sums k (pos 0))))
    → sizes + size ≡ sizes_to table.sums (k + 1)
next table k sizes size inside before is =
    let kept = entry-kept table.sums k inside table.small in
    rw (before, is, kept) (sym (sizes-next table.sums k))

pub overflow_add-sizes : goal.overflow_add-sizes
overflow_add-sizes c =
    let table = c.args.self.now in
    let k : ℕ = c.loop-k.k in
    rw (next table k c.loop-k.sizes c.unsigned_abs-sizes.result c.loop-k-test.true
    c.loop-k.invariant c.unsigned_abs-sizes.ensures.value) (omega (
      arith,
      sizes-within table.sums
          (k + 1) HALF_CHIPS (omega (arith, c.loop-k-test.true)),
      table.small,
    ))

pub loop-k-init : goal.loop-k-init
loop-k-init c = sym (sizes-first c.args.self.now.sums)

pub loop-k-preserved : goal.loop-k-preserved
loop-k-preserved c = next c.args.self.now c.loop-k.k c.loop-k.sizes c.unsigned_abs-sizes.result
    c.loop-k-test.true c.loop-k.invariant c.unsigned_abs-sizes.ensures.value
