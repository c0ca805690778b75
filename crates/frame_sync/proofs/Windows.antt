-- A window has the bits that were pushed last.
use Rattle.std.proofs.Common.{◌≡◌, ℕ, ◌+◌, ◌-◌, ◌*◌, ◌/◌, ◌%◌, ◌^◌, ◌<◌, ◌≤◌, List, [], ◌∷◌, ◌++◌}
use Rattle.std.proofs.Common.{length, ap, sym, ◌∙◌, arith}
use Rattle.std.specs.Prelude.{Bool, bit_and, bit_or}
use Rattle.std.proofs.Math.Path.{ap₂}
use Rattle.std.proofs.lemmas.Nat.{mod_low, mod-pow-add, field_of, and_mask, one_shl, or_shifted}
use Rattle.std.proofs.lemmas.Nat.{mod_below, pow_pos}
use Rattle.definitions.specs.Parity.{checked_data}
use Rattle.definitions.specs.Frames.{bit_number, number_at, checked_at}
use Rattle.frame_sync.specs.Bits.{number_of, bits_in, word_in}
use Rattle.frame_sync.proofs.Numbers.{number_at-is, number_of-push}

-- the low bits of more low bits
mod_again : (n j k : ℕ) → n % 2 ^ (j + k) % 2 ^ k ≡ n % 2 ^ k
mod_again n j k =
    ap (λ m. m % 2 ^ k) (mod-pow-add n j k)
    ∙ mod_low (n / 2 ^ k % 2 ^ j) k (n % 2 ^ k) (mod_below n (2 ^ k) (pow_pos k))

bits_in-mod : (n behind count : ℕ) → behind + count ≤ 64
    → bits_in (n % 2 ^ 64) behind count ≡ n / 2 ^ behind % 2 ^ count
bits_in-mod n behind count within =
    let rest : ℕ = 64 - behind - count in
    let all : 64 ≡ rest + count + behind = omega arith in
    ap (λ (w : ℕ). n % 2 ^ w / 2 ^ behind % 2 ^ count) all
    ∙ ap (λ (m : ℕ). m % 2 ^ count) (field_of n (rest + count) behind)
    ∙ mod_again (n / 2 ^ behind) rest count

module _ (bits : List Bool) (window : ℕ) (seen : window ≡ number_of bits % 2 ^ 64) where
  pub number_at-window : (n count behind : ℕ) → length bits ≡ n + count + behind
      → behind + count ≤ 64 → number_at bits n count ≡ bits_in window behind count
  number_at-window n count behind long within =
      number_at-is bits n count behind long ∙ sym (bits_in-mod (number_of bits) behind count within)
      ∙ ap (λ (w : ℕ). bits_in w behind count) (sym seen)

  pub checked_at-window : (n behind : ℕ) → 2 ≤ n → length bits ≡ n + 30 + behind → behind ≤ 32
      → checked_at bits n ≡ word_in window behind
  unfolding checked_at word_in
  checked_at-window n behind second long within =
      ap₂ (λ (w p : ℕ). checked_data w p) (number_at-window n 30 behind long (omega arith))
      (number_at-window (n - 2) 2 (behind + 30) (omega arith) (omega arith))

-- one more bit moves into the window
pub pushed_in : (window bit : ℕ) → bit < 2
    → bit_or (window * 2 % 2 ^ 64) bit ≡ (window * 2 + bit) % 2 ^ 64
pushed_in window bit small =
    let doubled : window * 2 % 2 ^ 64 ≡ window % 2 ^ 63 * 2 ^ 1 = omega arith in
    let whole : window % 2 ^ 63 * 2 ^ 1 + bit ≡ (window * 2 + bit) % 2 ^ 64 = omega arith in
    rw doubled (or_shifted (window % 2 ^ 63) 1 bit small ∙ whole)

pub seen-push : (bits : List Bool) (bit : Bool) (old new : ℕ) → old ≡ number_of bits % 2 ^ 64
    → new ≡ (old * 2 + bit_number bit) % 2 ^ 64 → new ≡ number_of (bits ++ bit ∷ []) % 2 ^ 64
seen-push bits bit old new seen pushed =
    moved old new (number_of bits) (bit_number bit) (number_of (bits ++ bit ∷ [])) seen pushed
    (number_of-push bits bit)
  where
    moved : (old new n b m : ℕ) → old ≡ n % 2 ^ 64 → new ≡ (old * 2 + b) % 2 ^ 64 → m ≡ n * 2 + b
        → new ≡ m % 2 ^ 64
    moved old new n b m p q r = omega arith

-- the bits of a window, as the code reads them
pub masked : (window behind count : ℕ) → count < 64
    → bit_and (window / 2 ^ behind) (1 * 2 ^ count % 2 ^ 64 - 1) ≡ bits_in window behind count
masked window behind count small =
    ap (λ (m : ℕ). bit_and (window / 2 ^ behind) (m - 1)) (one_shl count 64 small)
    ∙ and_mask (window / 2 ^ behind) count
