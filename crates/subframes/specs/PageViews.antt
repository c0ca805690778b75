-- Kinds and pages in the words of the definitions.
use Rattle.std.specs.Prelude.{pos, List, [], map}
use Rattle.definitions.specs.Fields as fields
use Rattle.definitions.specs.Fields.{value_of}
use Rattle.definitions.specs.Frames.{Subframe}
use Rattle.definitions.specs.Pages as pages
use Rattle.definitions.specs.Pages.{clock, eph2, eph3, almanac, utc, health, message, fields_of}
use Rattle.subframes.specs.declared.kind.Kind.{Kind}
use Rattle.subframes.specs.declared.kind.Kind.TheVariants as kinds
use Rattle.subframes.specs.declared.page.Page.{Page}
use Rattle.subframes.specs.declared.page.Page.TheVariants as shown

abbrev pub kind_in : Kind → pages.Kind
kind_in kinds.Clock = clock
kind_in kinds.Eph2 = eph2
kind_in kinds.Eph3 = eph3
kind_in kinds.Almanac = almanac
kind_in kinds.Utc = utc
kind_in kinds.Health = health
kind_in kinds.Message = message

-- the fields of a page that have names
abbrev pub named_fields_of : pages.Kind → List fields.Field
named_fields_of clock = fields_of clock
named_fields_of eph2 = fields_of eph2
named_fields_of eph3 = fields_of eph3
named_fields_of almanac = fields_of almanac
named_fields_of utc = fields_of utc
named_fields_of health = fields_of health
named_fields_of message = []

abbrev pub page_in : Page → pages.Page
page_in (shown.Clock values) = record { kind = clock; values = values }
page_in (shown.Eph2 values) = record { kind = eph2; values = values }
page_in (shown.Eph3 values) = record { kind = eph3; values = values }
page_in (shown.Almanac values) = record { kind = almanac; values = values }
page_in (shown.Utc values) = record { kind = utc; values = values }
page_in (shown.Health values) = record { kind = health; values = values }
page_in (shown.Message characters) = record { kind = message; values = map (λ c. pos c) characters }

-- the page of a kind that a subframe holds, missing words read as 0
abbrev pub page_as : Subframe → pages.Kind → pages.Page
page_as s kind = record { kind = kind; values = map (value_of s) (fields_of kind) }
