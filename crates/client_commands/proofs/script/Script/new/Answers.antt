use Rattle.std.proofs.Common.{refl}
use Rattle.definitions.specs.Scripts.{script}
use Rattle.client_commands.proofs.script.Script.new.Goals as goal

pub returns : goal.returns
unfolding script
returns c = refl
