use Rattle.std.proofs.Common.{rules}
use Rattle.oscillators.proofs.ChipLaneLemmas.{signs_of_masks}
use Rattle.oscillators.proofs.code_words.CodeWords.next_lanes.Goals as goal

pub returns-clause-chips : goal.returns-clause-chips
returns-clause-chips c prn is =
    signs_of_masks prn c.args.self.now.phase c.args.self.now.step c.next_masks.result
    (c.next_masks.ensures.masks prn is)

pub returns-clause-moved : goal.returns-clause-moved
returns-clause-moved c = search rules
