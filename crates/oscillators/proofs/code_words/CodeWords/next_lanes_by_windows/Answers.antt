use Rattle.oscillators.proofs.ChipLaneLemmas.{signs_of_masks}
use Rattle.oscillators.proofs.code_words.CodeWords.next_lanes_by_windows.Goals as goal

pub returns-clause-chips : goal.returns-clause-chips
returns-clause-chips c prn is =
    signs_of_masks prn c.args.self.now.phase c.args.self.now.step c.masks_by_windows-masks.result
    (c.masks_by_windows-masks.ensures.masks prn is)
