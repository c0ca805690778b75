-- No bits were pushed.
use Rattle.std.proofs.Common.{refl, sym, ◌∙◌}
use Rattle.frame_sync.proofs.PushedBits.{nothing_searched, nothing_seen}
use Rattle.frame_sync.proofs.sync.FrameSync.new.Goals as goal

pub returns : goal.returns
returns c =
    record { counted = refl; seen = c.new.ensures ∙ sym nothing_seen; searched = nothing_searched }
