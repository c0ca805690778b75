use Rattle.oscillators.proofs.ChipSetLemmas.{turned_long, kept_found}
use Rattle.oscillators.proofs.chip_set.ChipSet.kept.Goals as goal

pub returns-clause-long : goal.returns-clause-long
returns-clause-long c =
    let s = c.args.self.now in
    turned_long s.further s.turns c.args.stays c.requires.long.further c.requires.long.turns
    c.requires.stays

pub returns-clause-chips : goal.returns-clause-chips
returns-clause-chips c half k more h small few is masked =
    kept_found c.args.self.now half k more c.args.stays c.requires.long c.requires.stays h small few
    is masked
