-- What the words and the parity of some data are (IS-GPS-200, section 20.3.5).
use Rattle.std.specs.Prelude.{◌≡◌, ℕ, ◌-◌, ◌^◌, ◌<◌, Some}
use Rattle.std.specs.Int.{bit_at}
use Rattle.std.specs.List.{AllByRecursion}
use Rattle.definitions.specs.Parity.{word_bit, equations, parity_bit, checked_data}

-- d_i of data that are given as a number, d1 the highest of 24
abbrev pub digit : ℕ → ℕ → ℕ
digit source i = bit_at source (24 - i)

-- a number whose last six bits are D25 to D30 of the word for these data
unfoldable pub HasParity : ℕ → ℕ → ℕ → Type 0
HasParity parity source prior =
    AllByRecursion (λ e. word_bit parity e.place ≡ parity_bit (digit source) prior e) equations

-- the one word that passes with this prior and has these data
pub record IsEncoded (coded source prior : ℕ) : Type 0 where
  pub is_word : coded < 2 ^ 30
  pub is_checked : checked_data coded prior ≡ Some source
  pub is_only : (other : ℕ) → other < 2 ^ 30 → checked_data other prior ≡ Some source
      → other ≡ coded
