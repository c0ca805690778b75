use Rattle.std.proofs.Common.{refl, rules}
use Rattle.channels.proofs.window.Window.close.Goals as goal

pub returns-clause-dump : goal.returns-clause-dump
returns-clause-dump c = refl

pub returns-clause-first : goal.returns-clause-first
returns-clause-first c = search rules
