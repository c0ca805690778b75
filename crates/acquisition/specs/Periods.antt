-- How far the periods of a dwell have come.
use Rattle.std.specs.Prelude.{ℕ, ◌+◌, ◌-◌, ◌/◌}
use Rattle.acquisition.specs.declared.plan.TheConstants.{BIN_CELLS}

-- over how many periods a cell's power is, once so many powers over a period were added: those of a
-- bin's cells, one after another, and then over the next period
abbrev pub periods_of : ℕ → ℕ → ℕ
periods_of cell added = (added + (BIN_CELLS - 1) - cell) / BIN_CELLS
