use Rattle.std.proofs.Common.{rules, ◌≡◌, ◌+◌, ◌/◌, ◌%◌, ◌∙◌, ℕ}
use Rattle.std.specs.Prelude.{slice_index}
use Rattle.std.proofs.lemmas.List.{get_or_past}
use Rattle.std.proofs.Math.Path.{ap₂}
use Rattle.sample_history.specs.Shifts.{eight_bits, byte_from}
use Rattle.sample_history.proofs.shifted_bytes.shifted_byte.Goals as goal
use Rattle.sample_history.proofs.shifted_bytes.shifted_byte.Goals.{then-at-bytes, else-at-bytes}
use Rattle.sample_history.proofs.shifted_bytes.shifted_byte.Goals.{then-at-bytes-2, else-at-bytes-2}

pub returns : goal.returns
unfolding byte_from
returns c =
    let high : c.if-at-bytes.high ≡ slice_index c.args.bytes.now (c.args.place / 8) =
    elim c.if-at-bytes.branch [
      | then-at-bytes w ↦ search (rules, w.high-is)
      | else-at-bytes w ↦ search (rules, get_or_past, w.high-is)
    ] in
    let low : c.if-at-bytes-2.low ≡ slice_index c.args.bytes.now (c.args.place / 8 + 1) =
    elim c.if-at-bytes-2.branch [
      | then-at-bytes-2 w ↦ search (rules, w.low-is)
      | else-at-bytes-2 w ↦ search (rules, get_or_past, w.low-is)
    ] in
    c.bits_of_two.ensures
    ∙ ap₂ (λ (x y : ℕ). eight_bits x y (c.args.place % 8)) high low
