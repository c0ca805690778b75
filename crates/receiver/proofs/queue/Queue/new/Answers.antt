use Rattle.std.proofs.Common.{◌≡◌, List, [], ◌∷◌, ◌++◌, refl, sym, ◌∙◌}
use Rattle.std.specs.Prelude.{Option, Some, None, IfSome, IsNone}
use Rattle.definitions.specs.Scripts.{Entry}
use Rattle.definitions.specs.Receiver.{entries_of}
use Rattle.client_commands.specs.declared.script.Timed.{Timed}
use Rattle.client_commands.specs.Entries.{entry_in, entries_in}
use Rattle.receiver.proofs.queue.Queue.new.Goals as goal

-- the entry that is next and those after it
left-next : (next : Option Timed) (old new : List Entry)
    → IfSome next (λ (timed : Timed). old ≡ entry_in timed ∷ new) → (IsNone next → old ≡ [])
    → (IsNone next → new ≡ []) → entries_in next ++ new ≡ old
left-next None old new some none ended = ended refl ∙ sym (none refl)
left-next (Some timed) old new some none ended = sym some

pub returns : goal.returns
unfolding entries_of
returns c =
    left-next c.next-next.result c.new-rest.result c.next-next.new.self c.next-next.ensures.some
    c.next-next.ensures.none c.next-next.ensures.ended ∙ c.new-rest.ensures
