-- The events that slots emit, as the definitions have them.
use Rattle.std.specs.Prelude.{◌≡◌, ℕ, List, map}
use Rattle.definitions.specs.Events.{Event as DefinedEvent, acquired, count, locked, unlocked}
use Rattle.definitions.specs.Events.{signal_lost}
use Rattle.definitions.specs.Events.{edge, gap, subframe, reported, almanacs}
use Rattle.definitions.specs.Banks.{SlotEvent as DefinedSlotEvent, line_of as defined_line_of}
use Rattle.acquisition.specs.Cells.{cell_in}
use Rattle.lane_correlator.specs.Counting.{counts_in}
use Rattle.data_sets.specs.Reports.{report_in, almanacs_in}
use Rattle.slot_protocol.specs.declared.event.Event.{Event}
use Rattle.slot_protocol.specs.declared.event.Event.TheVariants.{Acquired, Count, Lock, Unlock}
use Rattle.slot_protocol.specs.declared.event.Event.TheVariants.{Lost}
use Rattle.slot_protocol.specs.declared.event.Event.TheVariants.{Bits, Gap, Sub, Page, Almanacs}
use Rattle.slot_protocol.specs.declared.event.SlotEvent.{SlotEvent}

abbrev pub event_in : Event → DefinedEvent
event_in (Acquired prn cell) = acquired prn (cell_in cell)
event_in (Count counts) = count (counts_in counts)
event_in Lock = locked
event_in Unlock = unlocked
event_in Lost = signal_lost
event_in Bits = edge
event_in (Gap bits) = gap bits
event_in (Sub s) = subframe s
event_in (Page report) = reported (report_in report)
event_in (Almanacs set) = almanacs (almanacs_in set)

abbrev pub slot_event_in : SlotEvent → DefinedSlotEvent
slot_event_in e =
    record { client = e.client; slot = e.slot; time = e.time; event = event_in e.event }

-- slots emit these events
abbrev pub AreEvents : List SlotEvent → List DefinedSlotEvent → Type 0
AreEvents events defined = map slot_event_in events ≡ defined

-- the line of an event, without its end
abbrev pub line_of : SlotEvent → List ℕ
line_of e = defined_line_of (slot_event_in e)

-- the time of an event
abbrev pub time_in : SlotEvent → ℕ
time_in e = e.time

abbrev pub time_at : DefinedSlotEvent → ℕ
time_at e = e.time
