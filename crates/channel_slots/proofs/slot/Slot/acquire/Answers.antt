use Rattle.std.proofs.Common.{ℕ, refl, ◌∙◌, sym, arith, subst}
use Rattle.definitions.specs.Commands.{acquire}
use Rattle.channels.specs.Searching.{Searches}
use Rattle.channel_slots.proofs.ReadyLemmas.{search-begins-quiet}
use Rattle.channel_slots.proofs.SearchLemmas.{starts-searched}
use Rattle.channel_slots.proofs.ObeyLemmas.{busy-refuses, begins}
use Rattle.channel_slots.proofs.slot.Slot.acquire.Goals as goal

pub returns-else-is_idle : goal.returns-else-is_idle
returns-else-is_idle c =
    busy-refuses _ _ _ (sym c.is_idle.ensures ∙ c.if-is_idle.false) (acquire c.args.plan)

pub returns-then-is_idle : goal.returns-then-is_idle
returns-then-is_idle c =
    let begun = c.start.ensures.begins in
    begins _ _ _ (sym c.is_idle.ensures ∙ c.if-is_idle.true) (acquire c.args.plan) _ refl (record {
      follows = λ xs now. starts-searched _ xs _ c.start.result c.args.plan (sym now) refl
          (subst (λ (n : ℕ). Searches c.args.settings.now c.args.plan n xs c.start.result)
          (sym now) (c.start.ensures.stands xs now)) (omega (arith, now, begun.waits));
      ready = λ held first early near.
          (omega (arith, early, begun.begun), omega (arith, near, begun.waits));
      waits = search-begins-quiet _ c.args.plan _ c.start.result begun;
    })
