use Rattle.std.proofs.Common.{◌≡◌, ◌+◌, ◌/◌, ◌%◌, length, length-append, refl, ap, ◌∙◌}
use Rattle.std.proofs.Common.{ℕ, ◌≤◌, ◌<◌, ◌^◌, append_assoc, arith}
use Rattle.std.specs.Fmt.{decimal}
use Rattle.std.proofs.lemmas.Fmt.{decimal_digit, decimal_step}
use Rattle.arrayvec.specs.ArrayVec.{array_vec_len}
use Rattle.printed_lines.proofs.words.+push_decimal.Goals as goal
use Rattle.printed_lines.proofs.words.+push_decimal.Goals.{then-n-ge10, else-n-ge10}

-- the digits before the last
shorter : (n : ℕ) → 10 ≤ n → n < 2 ^ 64 → length (decimal n) ≡ length (decimal (n / 10)) + 1
shorter n long fits = ap length (decimal_step n long fits) ∙ length-append (decimal (n / 10)) _

pub push_decimal-requires : goal.push_decimal-requires
push_decimal-requires t c =
    let step = shorter c.args.n c.if-n-ge10.true c.ranges.n.fits in
    (omega (arith, c.decreases), omega (arith, step, c.requires.room))

pub push-requires : goal.push-requires
push-requires t c = elim c.if-n-ge10.branch [
  | then-n-ge10 w ↦
      let step = shorter c.args.n (omega arith) c.ranges.n.fits in
      let longer = w.push_decimal.ensures.longer in
      (omega arith, rw w.bytes-is (omega (arith, longer, step, c.requires.room)))
  | else-n-ge10 w ↦
      let digit : length (decimal c.args.n) ≡ 1 =
      ap length (decimal_digit c.args.n (omega arith)) in
      (omega arith, rw w.bytes-is (omega (arith, digit, c.requires.room)))
]

pub returns-clause-text : goal.returns-clause-text
returns-clause-text t c = elim c.if-n-ge10.branch [
  | then-n-ge10 w ↦
      rw (
        c.push.ensures.items,
        w.bytes-is,
        w.push_decimal.ensures.text,
        decimal_step c.args.n (omega arith) c.ranges.n.fits,
      )
      (append_assoc c.args.bytes.now.items (decimal (c.args.n / 10)) _)
  | else-n-ge10 w ↦
      let digit : c.args.n % 10 ≡ c.args.n = omega arith in
      rw (c.push.ensures.items, w.bytes-is, digit, decimal_digit c.args.n (omega arith)) refl
]

pub returns-clause-longer : goal.returns-clause-longer
returns-clause-longer t c = elim c.if-n-ge10.branch [
  | then-n-ge10 w ↦
      let step = shorter c.args.n (omega arith) c.ranges.n.fits in
      let here : array_vec_len w.push_decimal.new.bytes
      ≡ array_vec_len c.args.bytes.now + length (decimal (c.args.n / 10)) =
      w.push_decimal.ensures.longer in
      rw (c.push.ensures.len, w.bytes-is, here, step) (omega arith)
  | else-n-ge10 w ↦
      let step : length (decimal c.args.n) ≡ 1 = ap length (decimal_digit c.args.n (omega arith)) in
      rw (c.push.ensures.len, w.bytes-is, step) refl
]
