-- Reports in the words of the definitions, and their numbers by the names of their fields.
use Rattle.std.specs.Prelude.{ℕ, ℤ, List, [], ◌++◌, pos, map, get_or, if◌then◌else◌}
use Rattle.std.specs.Prelude.{Option, Some, None, option_map}
use Rattle.definitions.specs.Fields as fields
use Rattle.definitions.specs.Fields.{clock_fields, eph2_fields, eph3_fields, place_of}
use Rattle.definitions.specs.Pages.{almanac, utc, health, message}
use Rattle.definitions.specs.DataSets as sets
use Rattle.definitions.specs.DataSets.{ephemeris, single, is_ephemeris}
use Rattle.subframes.specs.declared.fields.Field.{Field}
use Rattle.subframes.specs.Entries.{kind_with, name_of}
use Rattle.subframes.specs.PageViews.{named_fields_of}
use Rattle.subframes.specs.Values as pages
use Rattle.subframes.specs.Values.{numbers_of}
use Rattle.data_sets.specs.declared.almanac_set.AlmanacSet.{AlmanacSet}
use Rattle.data_sets.specs.declared.reports.Reports.{Reports}
use Rattle.data_sets.specs.declared.report.Report.{Report}
use Rattle.data_sets.specs.declared.report.Report.TheVariants.{Eph, Alm, Utc, Hlt, Msg}

abbrev pub report_in : Report → sets.Report
report_in (Eph values) = ephemeris values
report_in (Alm values) = single (record { kind = almanac; values = values })
report_in (Utc values) = single (record { kind = utc; values = values })
report_in (Hlt values) = single (record { kind = health; values = values })
report_in (Msg characters) =
    single (record { kind = message; values = map (λ c. pos c) characters })

abbrev pub almanacs_in : AlmanacSet → sets.AlmanacSet
almanacs_in set = record { toa = set.toa; health = set.health }

abbrev pub reports_in : Reports → sets.Reports
reports_in r = record {
  page = option_map report_in r.page;
  set = option_map almanacs_in r.set;
}

-- the fields of a clock and ephemeris
abbrev pub ephemeris_fields : List fields.Field
ephemeris_fields = clock_fields ++ eph2_fields ++ eph3_fields

-- the place of a field among those of a clock and ephemeris, from 0, if it is one of them
abbrev pub place_in_ephemeris : Field → Option ℕ
place_in_ephemeris f = if is_ephemeris (record { kind = kind_with f; values = [] })
    then Some (place_of (name_of f) ephemeris_fields) else None

-- the fields of a report that have names
abbrev pub fields_in : sets.Report → List fields.Field
fields_in (ephemeris values) = ephemeris_fields
fields_in (single page) = named_fields_of page.kind

-- the numbers of a report's fields that have names
abbrev pub numbers_in : sets.Report → List ℤ
numbers_in (ephemeris values) = values
numbers_in (single page) = numbers_of page

-- the number of a field, where the report has it
abbrev pub number_named : Field → sets.Report → Option ℤ
number_named f (ephemeris values) =
    option_map (λ place. get_or values place (pos 0)) (place_in_ephemeris f)
number_named f (single page) = pages.number_named f page
