use Rattle.std.proofs.Common.{refl, sym, ◌∙◌}
use Rattle.channel_slots.proofs.ObeyLemmas.{busy-refuses, begins}
use Rattle.channel_slots.proofs.slot.Slot.start.Goals as goal

pub returns-then-not-is_idle : goal.returns-then-not-is_idle
returns-then-not-is_idle c settings time start b =
    busy-refuses settings time _ (sym c.is_idle.ensures ∙ c.if-not-is_idle.true) start

pub returns : goal.returns
returns c settings time start b =
    begins settings time _ (sym c.is_idle.ensures ∙ c.if-not-is_idle.false) start _ refl b
