use Rattle.std.proofs.Common.{rules}
use Rattle.subframes.proofs.clock.ClockField.layout.Goals as goal

pub returns-in-Af1-clause-entry : goal.returns-in-Af1-clause-entry
returns-in-Af1-clause-entry c = search rules

pub returns-in-Tgd-clause-entry : goal.returns-in-Tgd-clause-entry
returns-in-Tgd-clause-entry c = search rules

pub returns-in-Af2-clause-name : goal.returns-in-Af2-clause-name
returns-in-Af2-clause-name c = search rules

pub returns-in-Iodc-clause-entry : goal.returns-in-Iodc-clause-entry
returns-in-Iodc-clause-entry c = search rules
