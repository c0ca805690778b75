-- The room that words need in a line.
use Rattle.std.specs.Prelude.{ℕ, List, ◌+◌, ◌<◌, ◌≤◌, length}
use Rattle.printed_lines.specs.declared.words.TheConstants.{LINE_BYTES}

-- so many more bytes go into a line, and then its end
abbrev pub HasRoom : ℕ → List ℕ → Type 0
HasRoom bytes line = length line + bytes < LINE_BYTES

-- a line got longer by no more than so many bytes
abbrev pub TakesUp : ℕ → List ℕ → List ℕ → Type 0
TakesUp bytes old new = length new ≤ length old + bytes
