use Rattle.std.proofs.Common.{◌∙◌, ap}
use Rattle.std.specs.Prelude.{ℤ, pos, ◌*ℤ◌}
use Rattle.recordings.specs.Readings.{reading, signed}
use Rattle.recordings.proofs.ReadingLemmas.{doubled_32}
use Rattle.recordings.proofs.values.LowFirstValues.reading.Goals as goal

pub returns-clause-value : goal.returns-clause-value
unfolding reading
returns-clause-value c =
    doubled_32 c.of_16_bits.result c.of_16_bits.ensures.small
    ∙ ap (λ (z : ℤ). pos 2 *ℤ z)
    (c.of_16_bits.ensures.value ∙ ap (signed 32768) c.two_bytes.ensures.value)
