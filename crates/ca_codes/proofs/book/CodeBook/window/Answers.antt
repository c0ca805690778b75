use Rattle.std.proofs.Common.{ℕ, ◌+◌, ◌-◌, ◌∙◌, ap, arith}
use Rattle.ca_codes.proofs.BookLemmas.{downward_below, mask_bit, windowed}
use Rattle.ca_codes.proofs.book.CodeBook.window.Goals as goal

pub returns : goal.returns
returns c i h =
    c.bit_of_each.ensures (63 - i) (omega arith)
    ∙ mask_bit c.args.prn _ _
    (c.look_up-masks.ensures.masks c.args.prn c.table.ensures (63 - i) (omega arith))
    ∙ windowed c.args.prn c.args.first _ i h (ap (λ (n : ℕ). n + 1) c.place_of-start.ensures)

pub look_up-masks-requires-clause-below : goal.look_up-masks-requires-clause-below
look_up-masks-requires-clause-below c k h = downward_below k h
