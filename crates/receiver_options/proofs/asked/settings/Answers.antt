use Rattle.receiver_options.proofs.asked.settings.Goals as goal

pub returns-clause-rate : goal.returns-clause-rate
returns-clause-rate c = rw (← c.number.ensures) c.settings_of.ensures.rate

pub returns-clause-offset : goal.returns-clause-offset
returns-clause-offset c =
    rw (← c.number.ensures, ← c.number-2.ensures) c.settings_of.ensures.offset

pub returns-clause-same : goal.returns-clause-same
returns-clause-same c =
    rw (← c.number.ensures, ← c.number-2.ensures, ← c.flag.ensures, ← c.packing.ensures)
    c.settings_of.ensures.same
