use Rattle.std.proofs.Common.{◌≡◌, ◌+◌, ℕ, arith, slice_index}
use Rattle.acquisition.proofs.OnesLemmas.{in_table, ones-alone, ones-none, ones-nought, ones-two}
use Rattle.acquisition.proofs.ones.Ones.new.Goals as goal

pub loop-chip-init : goal.loop-chip-init
loop-chip-init c = rw (c.new-alone.ensures, c.new-twos.ensures) (record {
  within = omega arith;
  are = ones-none c.args.prn;
})

pub loop-chip-preserved-then-table-chip : goal.loop-chip-preserved-then-table-chip
loop-chip-preserved-then-table-chip c =
    let here = c.loop-chip.invariant in
    let byte = in_table c.args.prn c.loop-chip.chip c.table-table.result.now c.table-table.ensures
    c.loop-chip-test.true in
    record {
      within = omega (arith, c.loop-chip-test.true);
      are = ones-nought c.args.prn c.loop-chip.chip c.loop-chip.alone.items
          c.loop-chip.twos.items here.are (byte.nought c.if-table-chip.true);
    }

pub loop-chip-preserved-then-table-chip-2 : goal.loop-chip-preserved-then-table-chip-2
loop-chip-preserved-then-table-chip-2 c =
    let here = c.loop-chip.invariant in
    let prn : ℕ = c.args.prn in
    let n : ℕ = c.loop-chip.chip in
    let table = c.table-table.result.now in
    let byte = in_table prn n table c.table-table.ensures c.loop-chip-test.true in
    let next = in_table prn (n + 1) table c.table-table.ensures c.if-chip-lt-MOST_ONES.true in
    let on : n + 1 + 1 ≡ n + 2 = omega arith in
    let mask : slice_index table (n + 1 + 1) ≡ 255 = rw on c.if-table-chip-2.true in
    record {
      within = omega (arith, c.if-chip-lt-MOST_ONES.true);
      are = rw (c.push.ensures.items, c.first_place.ensures)
          (ones-two prn n c.loop-chip.alone.items c.loop-chip.twos.items here.are
          c.if-chip-lt-MOST_ONES.true (byte.one c.if-table-chip.false) (next.one mask));
    }

pub loop-chip-preserved : goal.loop-chip-preserved
loop-chip-preserved c =
    let here = c.loop-chip.invariant in
    let byte = in_table c.args.prn c.loop-chip.chip c.table-table.result.now c.table-table.ensures
    c.loop-chip-test.true in
    record {
      within = omega (arith, c.loop-chip-test.true);
      are = rw (
        c.push-else-chip-lt-MOST_ONES.ensures.items,
        c.first_place-else-chip-lt-MOST_ONES.ensures,
      ) (ones-alone c.args.prn c.loop-chip.chip c.loop-chip.alone.items c.loop-chip.twos.items
          here.are (byte.one c.if-table-chip.false));
    }
