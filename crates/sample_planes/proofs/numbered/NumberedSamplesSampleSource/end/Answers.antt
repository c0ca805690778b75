use Rattle.std.proofs.Common.{◌+◌, length, ap}
use Rattle.sample_planes.specs.Sources.{Numbered}
use Rattle.sample_planes.proofs.numbered.NumberedSamplesSampleSource.end.Goals as goal

pub returns-clause-value : goal.returns-clause-value
returns-clause-value c =
    rw c.len.ensures (ap (λ (s : Numbered). s.first + length s.samples) c.self.view_is)
