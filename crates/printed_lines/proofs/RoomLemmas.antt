-- How many bytes numbers have.
use Rattle.std.proofs.Common.{ℕ, ◌^◌, ◌<◌, ◌≤◌, length, arith}
use Rattle.std.specs.Fmt.{decimal}
use Rattle.std.proofs.lemmas.Fmt.{length-decimal-le}

pub number-length : (n : ℕ) → n < 2 ^ 64 → length (decimal n) ≤ 20
number-length n fits = length-decimal-le 20 n (omega arith) (omega arith) fits

pub byte-length : (n : ℕ) → n < 2 ^ 8 → length (decimal n) ≤ 3
byte-length n fits = length-decimal-le 3 n (omega arith) (omega arith) (omega arith)

-- a number of 64 bits, and its sign
pub integer-length : (n : ℕ) → n ≤ 2 ^ 63 → length (decimal n) ≤ 19
integer-length n fits = length-decimal-le 19 n (omega arith) (omega arith) (omega arith)
