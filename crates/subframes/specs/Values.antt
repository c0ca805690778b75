-- The numbers of a page by the names of their fields.
use Rattle.std.specs.Prelude.{ℤ, List, [], Option, Some, None, if◌then◌else◌}
use Rattle.definitions.specs.Pages as pages
use Rattle.definitions.specs.Pages.{message, fields_of}
use Rattle.definitions.specs.DataSets.{is_of, value_named}
use Rattle.subframes.specs.Entries.{kind_with, name_of}
use Rattle.subframes.specs.declared.fields.Field.{Field}

-- the numbers of a page's fields. The characters of a message are no fields
abbrev pub numbers_of : pages.Page → List ℤ
numbers_of page = if is_of message page then [] else page.values

-- the number of a field, where the page is of the kind that has it
abbrev pub number_named : Field → pages.Page → Option ℤ
number_named f page = if is_of (kind_with f) page
    then Some (value_named (fields_of (kind_with f)) (name_of f) page) else None
