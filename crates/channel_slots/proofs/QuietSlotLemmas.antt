-- A slot before its next event, with which nothing is emitted.
use Rattle.std.proofs.Common.{◌≡◌, ◌<◌, List, [], ◌++◌, length, refl, ap, false}
use Rattle.std.specs.Prelude.{None}
use Rattle.definitions.specs.Samples.{Sample}
use Rattle.definitions.specs.Oscillators.{Settings}
use Rattle.definitions.specs.Commands.{TimedRequest}
use Rattle.channels.proofs.FollowedLemmas.{lets-wait}
use Rattle.channels.proofs.SearchedLemmas.{waits}
use Rattle.channel_slots.specs.declared.slot.Slot.{Slot}
use Rattle.channel_slots.specs.declared.stage.Stage.{Stage}
use Rattle.channel_slots.specs.declared.stage.Stage.TheVariants.{Idle, Searching, Following}
use Rattle.channel_slots.specs.Stages as stages
use Rattle.channel_slots.specs.Stages.{is_idle, IsSearched, IsFollowed}
use Rattle.channel_slots.specs.Slots.{StandsFor, Emits, next_event}
use Rattle.channel_slots.proofs.SearchLemmas.{searches-on}
use Rattle.channel_slots.proofs.SlotLemmas.{idle-tells, tells}
use Rattle.channel_slots.proofs.StageLemmas.{followed-takes}

-- more samples that don't bring the next event bring nothing, and the slot stands for them too
pub quiet-before-next : (settings : Settings) (xs ys : List Sample) (commands : List TimedRequest)
    (slot : Slot) → StandsFor settings xs commands slot → 0 < length ys
    → length (xs ++ ys) < next_event slot → Emits settings xs ys commands slot []
quiet-before-next settings xs ys commands slot s more = by_stage slot.stage refl
  where
    by_stage : (stage : Stage) → slot.stage ≡ stage
        → length (xs ++ ys) < stages.next_event stage → Emits settings xs ys commands slot []
    by_stage Idle is early = idle-tells settings xs commands slot s ys more (ap is_idle is) slot
        (ap is_idle is)
    by_stage (Searching a) is early =
        tells settings xs commands slot s ys more (ap is_idle is) slot None
        (λ life follows.
        let k : IsSearched settings xs life a = rw is at follows in
        let t = waits settings k.plan life.begun xs a k.searches ys early in
        rw is (searches-on settings xs life a k ys a t.stands t.answers))
        refl
    by_stage (Following f) is early =
        tells settings xs commands slot s ys more (ap is_idle is) slot None
        (λ life follows.
        let k : IsFollowed settings xs life f = rw is at follows in
        rw is (followed-takes settings xs ys life f k more false f refl None
        (lets-wait settings k.channel xs ys f k.follows early)))
        refl
