use Rattle.std.proofs.Common.{ℕ, ◌*◌, ◌/◌, ap, length}
use Rattle.recordings.proofs.recipe.Recipe.measure.Goals as goal

pub returns : goal.returns
returns c = ap (λ (bits : ℕ). 8 * length c.args.bytes.now / bits) c.sample_bits.ensures.value
