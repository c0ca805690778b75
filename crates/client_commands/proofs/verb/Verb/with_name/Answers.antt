use Rattle.std.proofs.Common.{rules}
use Rattle.client_commands.proofs.verb.Verb.with_name.Goals as goal

pub returns-in-track : goal.returns-in-track
returns-in-track c = search rules

pub returns-in-acquire : goal.returns-in-acquire
returns-in-acquire c = search rules
