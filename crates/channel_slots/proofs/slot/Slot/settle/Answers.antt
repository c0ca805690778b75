use Rattle.std.proofs.Common.{◌≡◌, ◌∙◌, refl, sym}
use Rattle.channel_slots.specs.declared.stage.Stage.TheVariants.{Searching}
use Rattle.channel_slots.proofs.slot.Slot.settle.Goals as goal

pub returns-in-Some-clause-stage : goal.returns-in-Some-clause-stage
returns-in-Some-clause-stage c s is =
    let found = c.follow-found in
    let both : Searching c.in-Searching.searched ≡ Searching s = sym c.in-Searching.is ∙ is in
    let same : c.in-Searching.searched ≡ s = cc in
    rw (sym same) (
      found.ensures.found.0 (rw c.in-Some.is refl),
      rw c.in-Some.is at found.ensures.follows,
      rw c.in-Some.is at found.ensures.begins,
    )

pub returns-in-Some-clause-left : goal.returns-in-Some-clause-left
returns-in-Some-clause-left c = c.rest.ensures.left

pub returns-in_default-found-clause-left : goal.returns-in_default-found-clause-left
returns-in_default-found-clause-left c = c.rest.ensures.left
