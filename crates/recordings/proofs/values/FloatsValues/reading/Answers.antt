use Rattle.std.proofs.Common.{◌∙◌, ap}
use Rattle.recordings.specs.Readings.{reading, float_order}
use Rattle.recordings.proofs.ReadingLemmas.{kept_32}
use Rattle.recordings.proofs.values.FloatsValues.reading.Goals as goal

pub returns-clause-value : goal.returns-clause-value
unfolding reading
returns-clause-value c =
    kept_32 c.float_order.result c.float_order.ensures.small
    ∙ c.float_order.ensures.value ∙ ap float_order c.four_bytes.ensures.value
