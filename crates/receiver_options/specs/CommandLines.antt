-- The command line that the program takes, in the option parser's own terms, and what its words ask
-- for. The parser's definitions say what it finds in words, and at which step it refuses them.
use Rattle.std.specs.Prelude.{◌≡◌, pos, true, List, [], ◌∷◌, map, Some}
use Rattle.std.specs.Prelude.{Result, IfOk, codes}
use Rattle.std.specs.Borrow.{Bor}
use Rattle.sample_planes.specs.Names.{format_names}
use Rattle.clap.specs.Lexer.{usize_max}
use Rattle.clap.specs.Walk.{Row, Rule, Text, rows_of}
use Rattle.clap.specs.Matches.{found_of}
use Rattle.clap.specs.Simple.{App, new_app, new_rule, on_top, with_rule, matches_of}
use Rattle.clap.specs.Faults.{fault_of}
use Rattle.clap.specs.Kinds.{FailsBy}
use Rattle.clap.specs.declared.builder.action.ArgAction.TheVariants.{Set, SetTrue}
use Rattle.clap.specs.declared.builder.value_parser.ValueParser.{ValueParser}
use Rattle.clap.specs.declared.builder.value_parser.ValueParser.TheVariants as parsers
use Rattle.clap.specs.declared.parser.matches.ArgMatches.{ArgMatches}
use Rattle.clap.specs.declared.error.Error.{Error}

-- ---- the options

-- `--NAME HZ`, a whole number below 2^32, with a default
abbrev pub hertz : Text → Text → Rule
hertz name default = record (new_rule name) {
  long = Some name;
  action = Some Set;
  value_names = 1;
  defaults = default ∷ [];
  parser = Some (parsers.Signed (pos 0) (pos 4294967295));
}

-- `--minus`
abbrev pub minus : Rule
minus = record (new_rule (codes "minus")) {
  long = Some (codes "minus");
  action = Some SetTrue;
}

-- `--format NAME`, one of the names that the parser has
abbrev pub format : ValueParser → Rule
format names = record (new_rule (codes "format")) {
  long = Some (codes "format");
  action = Some Set;
  defaults = codes "real1" ∷ [];
  parser = Some names;
}

-- `--shares DIGITS`
abbrev pub shares : Rule
shares = record (new_rule (codes "shares")) {
  long = Some (codes "shares");
  action = Some Set;
  value_names = 1;
}

-- the names of script files, as many as there are
abbrev pub script : Rule
script = record (new_rule (codes "script")) {
  value_names = 1;
  range = Some (record { start_inclusive = 0; end_inclusive = usize_max });
}

-- the program with its options, and with `--version` and `--help`, which the parser adds
abbrev pub receiver : ValueParser → App
receiver names =
    with_rule (with_rule (with_rule (with_rule (with_rule (with_rule
    (on_top (λ shape. record shape { has_version = true }) (new_app (codes "receiver")))
    (hertz (codes "rate") (codes "2046000"))) (hertz (codes "offset") (codes "0"))) minus)
    (format names)) shares) script

-- the parser has the names of the four formats; it refers to them, so it is not one value
abbrev pub NamesFormats : ValueParser → Type 0
NamesFormats parser = (names : Bor (List (Bor Text))) × (parser ≡ parsers.Names names)
    × (map (λ name. name.now) names.now ≡ format_names)

-- ---- what the parser answers

-- what it found, option by option
abbrev pub options_in : ArgMatches → List Row
options_in matches = rows_of (found_of matches)

-- its answer to the words of a command line, the program's name first: the options that such words
-- have; or the kind of the first step that fails, if memory doesn't
pub record Parses (words : List Text) (result : Result ArgMatches Error) : Type 0 where
  pub names : ValueParser
  pub formats : NamesFormats names
  pub found : IfOk result (λ matches. options_in matches ≡ matches_of (receiver names) words)
  pub fault : FailsBy (fault_of (receiver names) words) result
