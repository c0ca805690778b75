use Rattle.std.proofs.Common.{◌≡◌, ◌≤◌, ◌<◌, ◌+◌, ℕ, get_or}
use Rattle.acquisition.proofs.bin_powers.BinPowers.add.Given as goal

abbrev pub invariant-loop-l : goal.invariant-loop-l
invariant-loop-l l = record {
  added : l.self.added ≡ l.fn.self.added + l.count;
  sums : l.self.sums ≡ l.fn.self.sums;
  powers : (k : ℕ) → k < l.l → get_or l.self.powers (l.cell + k) 0
      ≡ get_or l.fn.self.powers (l.cell + k) 0 + get_or l.powers k 0;
  before : (i : ℕ) → i < l.cell → get_or l.self.powers i 0 ≡ get_or l.fn.self.powers i 0;
  after : (i : ℕ) → l.cell + l.l ≤ i → get_or l.self.powers i 0 ≡ get_or l.fn.self.powers i 0;
}
