use Rattle.std.proofs.Common.{refl}
use Rattle.subframes.proofs.message.characters.Goals as goal

pub character-requires-2 : goal.character-requires-2
character-requires-2 c = refl
