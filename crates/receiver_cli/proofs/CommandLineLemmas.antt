-- The program ends before its options are known.
use Rattle.std.proofs.Common.{ℕ, ◌≡◌, ◌⊎◌, refl, ap, List, []}
use Rattle.std.specs.Prelude.{Option, Some, None, IfSome, unwrap_or}
use Rattle.clap.specs.Walk.{Text}
use Rattle.clap.specs.Faults.{fault_of}
use Rattle.clap.specs.Kinds.{IsAmong}
use Rattle.clap.specs.declared.builder.value_parser.ValueParser.{ValueParser}
use Rattle.clap.specs.declared.error.kind.ErrorKind.{ErrorKind}
use Rattle.clap.specs.declared.error.kind.ErrorKind.TheVariants.{OutOfMemory}
use Rattle.devices.specs.declared.source.Source.{Ghosts as Source}
use Rattle.devices.specs.declared.sink.Sink.{Ghosts as Sink}
use Rattle.receiver_options.proofs.CommandLineLemmas.{some-names, names-formats}
use Rattle.receiver_options.specs.CommandLines.{receiver, NamesFormats}
use Rattle.receiver_cli.specs.Endings.{HasEnded, ShowsFor, without_words, without_options}
use Rattle.receiver_cli.specs.Endings.{parser_status, status_in}
use Rattle.receiver_cli.specs.declared.outcome.Outcome.{Outcome}
use Rattle.receiver_cli.specs.declared.outcome.Outcome.TheVariants.{Status}

-- the words that are given, where they are known
given-words : (given : Option (List Text)) → IfSome given (λ all. unwrap_or given [] ≡ all)
given-words None = tt
given-words (Some all) = refl

-- the program ends before the options are known, for want of memory
pub without-memory : {R W : Type 0} (source : Source R) (sink : Sink W)
    (given : Option (List Text)) (bytes_of : List ℕ → Option (List ℕ)) (old : R × W)
    (outcome : Outcome) → outcome ≡ Status 1 → HasEnded source sink given bytes_of old old outcome
without-memory source sink given bytes_of old outcome is = record {
  words = unwrap_or given [];
  are_given = given-words given;
  names = some-names;
  formats = names-formats;
  ending = without_words;
  comes = refl;
  by_ending = ap status_in is;
  shows = rw is tt;
}

-- the option parser gives no options, and no device was touched
pub with-options-refused : {R W : Type 0} (source : Source R) (sink : Sink W)
    (given : Option (List Text)) (bytes_of : List ℕ → Option (List ℕ)) (old : R × W)
    (words : List Text) (names : ValueParser) (kind : ErrorKind)
    (outcome : Outcome) → status_in outcome ≡ parser_status kind → ShowsFor kind outcome
    → IfSome given (λ all. words ≡ all) → NamesFormats names
    → (kind ≡ OutOfMemory) ⊎ IsAmong kind (fault_of (receiver names) words)
    → HasEnded source sink given bytes_of old old outcome
with-options-refused source sink given bytes_of old words names kind outcome is shows are formats
    fault =
    record {
      words = words;
      are_given = are;
      names = names;
      formats = formats;
      ending = without_options kind;
      comes = (fault, refl);
      by_ending = is;
      shows = shows;
    }
