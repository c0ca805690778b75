-- The sums of an open segment fit, and go on fitting.
use Rattle.std.proofs.Common.{◌≡◌, ◌≤◌, ◌<◌, ◌+◌, ◌*◌, ℤ, ℕ, ap, arith, unsigned_abs, ◌+ℤ◌}
use Rattle.std.proofs.Common.{FitsSigned, w32}
use Rattle.std.proofs.lemmas.Int.{ints, fits_signed_from_abs}
use Rattle.std.proofs.Math.Nat.{mul-le-mul_right}
use Rattle.std.proofs.Common.{inl, inr, suc, ◌-◌, ◌∙◌}
use Rattle.std.proofs.lemmas.Bool.{cases_lt}
use Rattle.definitions.specs.Oscillators.{code_cycle}
use Rattle.definitions.specs.Correlation.{Counts as DefinedCounts, sum_of_counts}
use Rattle.definitions.specs.Correlation.{no_counts}
use Rattle.lane_correlator.specs.declared.counts.Counts.{Counts}
use Rattle.lane_correlator.specs.Counting.{counts_in, SumsFit, AreWithin}
use Rattle.channels.specs.Sizes.{GrowWith}

abs_add : (a b : ℤ) → unsigned_abs (a +ℤ b) ≤ unsigned_abs a + unsigned_abs b
abs_add a b = omega (arith, ints)

fits : (a b : ℤ) (step phase n : ℕ) → unsigned_abs a * step ≤ 9 * phase → 200000000 ≤ step
    → phase < code_cycle → unsigned_abs b ≤ 9 * n → n ≤ 1024 → FitsSigned w32 (a +ℤ b)
fits a b step phase n small moves low more short =
    let least : 200000000 * unsigned_abs a ≤ step * unsigned_abs a =
    mul-le-mul_right (unsigned_abs a) moves in
    fits_signed_from_abs w32 (a +ℤ b) (omega (arith, abs_add a b, least, small, low, more, short))

grows : (a b d : ℤ) (step phase n : ℕ) → d ≡ a +ℤ b → unsigned_abs a * step ≤ 9 * phase
    → unsigned_abs b ≤ 9 * n → unsigned_abs d * step ≤ 9 * (phase + n * step)
grows a b d step phase n is small more =
    let less : unsigned_abs b ≤ 9 * n = omega (arith, more) in
    rw is (omega (arith, small, mul-le-mul_right step (abs_add a b), mul-le-mul_right step less))

pub sums_fit : (c : Counts) (d : DefinedCounts) (step phase n : ℕ) → GrowWith c step phase
    → 200000000 ≤ step
    → phase < code_cycle → AreWithin (9 * n) d → n ≤ 1024 → SumsFit (counts_in c) d
sums_fit c d step phase n g moves low w short = record {
  ie = fits c.ie d.ie step phase n g.ie moves low w.ie short;
  qe = fits c.qe d.qe step phase n g.qe moves low w.qe short;
  ip = fits c.ip d.ip step phase n g.ip moves low w.ip short;
  qp = fits c.qp d.qp step phase n g.qp moves low w.qp short;
  il = fits c.il d.il step phase n g.il moves low w.il short;
  ql = fits c.ql d.ql step phase n g.ql moves low w.ql short;
}

-- before the first sample
pub none-grow : (c : Counts) (step phase : ℕ) → counts_in c ≡ no_counts → GrowWith c step phase
none-grow c step phase is = record {
  ie = rw (ap (λ (s : DefinedCounts). s.ie) is) (omega arith);
  qe = rw (ap (λ (s : DefinedCounts). s.qe) is) (omega arith);
  ip = rw (ap (λ (s : DefinedCounts). s.ip) is) (omega arith);
  qp = rw (ap (λ (s : DefinedCounts). s.qp) is) (omega arith);
  il = rw (ap (λ (s : DefinedCounts). s.il) is) (omega arith);
  ql = rw (ap (λ (s : DefinedCounts). s.ql) is) (omega arith);
}

-- at the end of a segment
bounded : (a : ℤ) (step total : ℕ) → unsigned_abs a * step ≤ 9 * total → total < code_cycle + step
    → 200000000 ≤ step → unsigned_abs a ≤ 262144
bounded a step total small low moves = elim (cases_lt 262144 (unsigned_abs a)) [
  | inl more ↦
      let many : 262145 * step ≤ unsigned_abs a * step =
      mul-le-mul_right step (omega (arith, more)) in
      absurd (omega (arith, many, small, low, moves))
  | inr few ↦ few
]

-- the last sample takes the code past the end by less than a step
pub last-step : (phase count step : ℕ) → 0 < count → phase + (count - 1) * step < code_cycle
    → phase + count * step < code_cycle + step
last-step phase count step some before =
    let one : count ≡ suc (count - 1) = omega (arith, some) in
    let more : count * step ≡ (count - 1) * step + step = ap (λ n. n * step) one ∙ omega arith in
    omega (arith, more, before)

pub sums_small : (c : Counts) (step total : ℕ) → GrowWith c step total → total < code_cycle + step
    → 200000000 ≤ step → AreWithin 262144 (counts_in c)
sums_small c step total g low moves = record {
  ie = bounded c.ie step total g.ie low moves;
  qe = bounded c.qe step total g.qe low moves;
  ip = bounded c.ip step total g.ip low moves;
  qp = bounded c.qp step total g.qp low moves;
  il = bounded c.il step total g.il low moves;
  ql = bounded c.ql step total g.ql low moves;
}

pub sums_grow : (c new : Counts) (d : DefinedCounts) (step phase n : ℕ) → GrowWith c step phase
    → AreWithin (9 * n) d → counts_in new ≡ sum_of_counts (counts_in c) d
    → GrowWith new step (phase + n * step)
sums_grow c new d step phase n g w is = record {
  ie = grows c.ie d.ie new.ie step phase n (ap (λ (s : DefinedCounts). s.ie) is) g.ie w.ie;
  qe = grows c.qe d.qe new.qe step phase n (ap (λ (s : DefinedCounts). s.qe) is) g.qe w.qe;
  ip = grows c.ip d.ip new.ip step phase n (ap (λ (s : DefinedCounts). s.ip) is) g.ip w.ip;
  qp = grows c.qp d.qp new.qp step phase n (ap (λ (s : DefinedCounts). s.qp) is) g.qp w.qp;
  il = grows c.il d.il new.il step phase n (ap (λ (s : DefinedCounts). s.il) is) g.il w.il;
  ql = grows c.ql d.ql new.ql step phase n (ap (λ (s : DefinedCounts). s.ql) is) g.ql w.ql;
}
