-- What is seen of the listeners.
use Rattle.std.specs.Prelude.{ℕ, Bool, List}
use Rattle.od_report.specs.declared.event.Event.{Event}
use Rattle.od_report.specs.declared.counting.CountListener.{CountListener}
use Rattle.od_report.specs.declared.lines.LineListener.{LineListener}
use Rattle.od_report.specs.declared.listing.ListListener.{ListListener}

-- the events that were told, and how many
abbrev pub events_of : ListListener → List Event
events_of listener = listener.events

abbrev pub list_count_of : ListListener → ℕ
list_count_of listener = listener.told

abbrev pub count_of : CountListener → ℕ
count_of listener = listener.told

-- the sink that lines are written to, whether a write was refused, and how many events were told
abbrev pub sink_of : {S : Type 0} → LineListener S → S
sink_of listener = listener.sink

abbrev pub is_silent : {S : Type 0} → LineListener S → Bool
is_silent listener = listener.silent

abbrev pub line_count_of : {S : Type 0} → LineListener S → ℕ
line_count_of listener = listener.told
