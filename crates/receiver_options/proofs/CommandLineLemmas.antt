-- The command of the program, and the option parser's answer.
use Rattle.std.proofs.Common.{◌≡◌, refl, ap, subst, ◌∙◌, inl, map, true, List}
use Rattle.std.specs.Prelude.{Option, Some, None, IsSomeAnd}
use Rattle.std.specs.Prelude.{Result, Ok, Err, IfOk, IsErrAnd}
use Rattle.clap.specs.Walk.{Text}
use Rattle.clap.specs.Values.{kind_of}
use Rattle.clap.specs.Simple.{App, is_simple, matches_of, HasMatchesOf}
use Rattle.clap.specs.Faults.{fault_of, is_simple_and_free}
use Rattle.clap.specs.Kinds.{FailsBy}
use Rattle.clap.specs.declared.builder.value_parser.ValueParser.{ValueParser}
use Rattle.clap.specs.declared.builder.value_parser.ValueParser.TheVariants as parsers
use Rattle.clap.specs.declared.error.kind.ErrorKind.TheVariants.{OutOfMemory}
use Rattle.clap.specs.declared.parser.matches.ArgMatches.{ArgMatches}
use Rattle.clap.specs.declared.error.Error.{Error}
use Rattle.clap.proofs.OnLiterals.{clap_on_literals}
use Rattle.sample_planes.specs.Names.{format_names}
use Rattle.receiver_options.specs.CommandLines.{receiver, NamesFormats, Parses, options_in}

-- what an option is, if it is there
pub some-is : {A : Type 0} (o : Option A) (x : A) → IsSomeAnd o (λ y. y ≡ x) → o ≡ Some x
some-is None x h = absurd h
some-is (Some y) x h = ap Some h

-- the option parser's definitions are of such a command
receiver-is-simple : (names : ValueParser) → is_simple (receiver names) ≡ true
unfolding clap_on_literals
receiver-is-simple names = refl

receiver-is-free : (names : ValueParser) → is_simple_and_free (receiver names) ≡ true
unfolding clap_on_literals
receiver-is-free names = refl

found-in : (words : List Text) (names : ValueParser) (app : App) (r : Result ArgMatches Error)
    → app ≡ receiver names → IfOk r (HasMatchesOf app words)
    → IfOk r (λ matches. options_in matches ≡ matches_of (receiver names) words)
found-in words names app (Ok matches) e h =
    (h (ap is_simple e ∙ receiver-is-simple names)).0 ∙ ap (λ (a : App). matches_of a words) e
found-in words names app (Err error) e h = tt

pub parses : (words : List Text) (names : ValueParser) (app : App) (r : Result ArgMatches Error)
    → NamesFormats names → app ≡ receiver names → IfOk r (HasMatchesOf app words)
    → (is_simple_and_free app ≡ true → FailsBy (fault_of app words) r) → Parses words r
parses words names app r formats e matches kinds = record {
  names = names;
  formats = formats;
  found = found-in words names app r e matches;
  fault =
      subst (λ (a : App). FailsBy (fault_of a words) r) e
      (kinds (ap is_simple_and_free e ∙ receiver-is-free names));
}

-- names that are nowhere in memory
pub some-names : ValueParser
some-names = parsers.Names (record {
  ref_ptr = (0, 0);
  now = map (λ (name : Text). record { ref_ptr = (0, 0); now = name }) format_names;
})

pub names-formats : NamesFormats some-names
unfolding some-names
names-formats = (_, refl, refl)

-- there was no memory for the command
pub without-command : (words : List Text) (r : Result ArgMatches Error)
    → IsErrAnd r (λ error. kind_of error ≡ OutOfMemory) → Parses words r
without-command words (Ok matches) h = absurd h
without-command words (Err error) h = record {
  names = some-names;
  formats = names-formats;
  found = tt;
  fault = inl h;
}
