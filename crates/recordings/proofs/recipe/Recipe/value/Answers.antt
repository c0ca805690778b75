use Rattle.std.proofs.Common.{◌+◌, ◌*◌, ◌<◌, ◌^◌, arith}
use Rattle.std.proofs.Common.{length}
use Rattle.recordings.specs.Readings.{bits_of}
use Rattle.recordings.specs.Recordings.{parts_of}
use Rattle.recordings.proofs.RecipeLemmas.{some_bits, value_number}
use Rattle.recordings.proofs.recipe.Recipe.value.Goals as goal

pub overflow_mul-parts : goal.overflow_mul-parts
overflow_mul-parts c =
    let few : parts_of c.args.self.now * c.args.n + c.args.part.now.place < 2 ^ 24 =
    value_number (parts_of c.args.self.now) (bits_of c.args.self.now.kind) c.args.n
    c.args.part.now.place (length c.args.bytes.now) (some_bits c.args.self.now.kind)
    c.requires.place c.requires.few c.requires.within in
    rw c.parts.ensures (omega arith)

pub overflow_add-parts : goal.overflow_add-parts
overflow_add-parts c =
    let few : parts_of c.args.self.now * c.args.n + c.args.part.now.place < 2 ^ 24 =
    value_number (parts_of c.args.self.now) (bits_of c.args.self.now.kind) c.args.n
    c.args.part.now.place (length c.args.bytes.now) (some_bits c.args.self.now.kind)
    c.requires.place c.requires.few c.requires.within in
    rw c.parts.ensures (omega arith)
