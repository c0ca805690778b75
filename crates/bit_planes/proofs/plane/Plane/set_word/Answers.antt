use Rattle.std.proofs.Common.{rules}
use Rattle.bit_planes.proofs.WordLemmas.{set_drawn}
use Rattle.bit_planes.proofs.plane.Plane.set_word.Goals as goal

pub returns : goal.returns
returns c f old bits = set_drawn c.args.self.now.words c.args.w c.args.word f (search rules)
    c.requires old bits
