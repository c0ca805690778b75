-- What a push reports, as the definitions have it.
use Rattle.std.specs.Prelude.{List, [], ◌∷◌, ◌++◌}
use Rattle.definitions.specs.Events.{Event, edge, gap, subframe, events_of, report_events}
use Rattle.data_sets.specs.Reports.{reports_in}
use Rattle.nav_message.specs.declared.news.MessageNews.{MessageNews}
use Rattle.nav_message.specs.declared.news.MessageNews.TheVariants.{Nothing, Edge, Frame}

abbrev pub events_in : MessageNews → List Event
events_in Nothing = []
events_in Edge = edge ∷ []
events_in (Frame found reports) =
    events_of gap found.gap ++ subframe found.subframe ∷ []
    ++ report_events (reports_in reports)
