use Rattle.std.proofs.Common.{ℕ, ◌∙◌, ◌-◌, ap, arith}
use Rattle.std.specs.Int.{bit_at}
use Rattle.ca_codes.proofs.BookLemmas.{chip_below_two}
use Rattle.oscillators.proofs.ChipLaneLemmas.{top_of_mask}
use Rattle.oscillators.proofs.code_words.CodeWords.next_chips.Goals as goal

pub returns-clause-word : goal.returns-clause-word
returns-clause-word c prn is =
    let masks = c.next_masks-masks.ensures.masks prn is in
    record {
      early = λ j h. c.bit_of_each.ensures (63 - j) (omega arith)
          ∙ ap (λ (n : ℕ). bit_at n 7) (masks.early j h)
          ∙ top_of_mask _ (chip_below_two prn _);
      prompt = λ j h. c.bit_of_each-2.ensures (63 - j) (omega arith)
          ∙ ap (λ (n : ℕ). bit_at n 7) (masks.prompt j h)
          ∙ top_of_mask _ (chip_below_two prn _);
      late = λ j h. c.bit_of_each-3.ensures (63 - j) (omega arith)
          ∙ ap (λ (n : ℕ). bit_at n 7) (masks.late j h)
          ∙ top_of_mask _ (chip_below_two prn _);
    }
