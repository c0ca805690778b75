-- Windows of dumps, as the last of the dumps leaves them.
use Rattle.std.specs.Prelude.{ℕ, zero, suc, ◌+◌, ◌-◌, ◌*◌, ◌%◌, ◌==◌, ◌&&◌, Bool, nat_le}
use Rattle.std.specs.Prelude.{if◌then◌else◌, List, length, drop, Option, Some, None}
use Rattle.definitions.specs.Correlation.{Counts}
use Rattle.definitions.specs.Lock.{is_good, window_count}

-- the dumps after the last whole window, from dump 200 on
abbrev pub unfinished_window : List Counts → List Counts
unfinished_window dumps = drop (199 + 20 * window_count dumps) dumps

-- the last of the dumps makes a window whole
abbrev pub ends_window : List Counts → Bool
ends_window dumps = nat_le 219 (length dumps) && ((length dumps - 199) % 20 == 0)

-- whether the window that is whole with the last of the dumps is good, if one is
unfoldable pub good_window : List Counts → Option Bool
good_window dumps = if ends_window dumps then Some (is_good dumps (window_count dumps - 1)) else
    None

-- how many of the first n windows are bad after the last good one
unfoldable pub bad_run : List Counts → ℕ → ℕ
bad_run dumps zero = 0
bad_run dumps (suc n) = if is_good dumps n then 0 else suc (bad_run dumps n)
