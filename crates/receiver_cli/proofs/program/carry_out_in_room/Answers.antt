use Rattle.std.proofs.Common.{map, ap}
use Rattle.std.specs.Prelude.{string_bytes}
use Rattle.clap.specs.Values.{kind_of}
use Rattle.receiver_cli.specs.Endings.{received, status_in}
use Rattle.receiver_cli.proofs.CommandLineLemmas.{without-memory, with-options-refused}
use Rattle.receiver_cli.proofs.program.carry_out_in_room.Goals as goal

pub returns-in-Err : goal.returns-in-Err
returns-in-Err g c = record {
  ended =
      without-memory g.R.Source g.W.Sink (g.C.CommandLine.given c.args.line.now) _ _ _
      c.tell.ensures.status;
}

pub returns-in-Ok-matches : goal.returns-in-Ok-matches
returns-in-Ok-matches g c =
    let parses = rw c.deref.ensures.value at c.in-Ok-matches.ensures.parses in
    record {
      ended = record {
        words = map (λ word. string_bytes word) c.in-Ok.words.items;
        are_given = c.in-Ok.ensures.all;
        names = parses.names;
        formats = parses.formats;
        ending = received c.receive.result;
        comes = (parses.fault, rw parses.found at c.receive.ensures.receives);
        by_ending = ap status_in c.tell-in-Ok-matches.ensures.status;
        shows = rw c.tell-in-Ok-matches.ensures.status tt;
      };
    }

pub returns : goal.returns
returns g c =
    let parses = rw c.deref.ensures.value at c.in-Err-matches.ensures.parses in
    record {
      ended =
          with-options-refused g.R.Source g.W.Sink (g.C.CommandLine.given c.args.line.now) _ _
          (map (λ word. string_bytes word) c.in-Ok.words.items) parses.names
          (kind_of c.in-Err-matches.error) _ c.refuse.ensures.status c.refuse.ensures.help
          c.in-Ok.ensures.all parses.formats parses.fault;
    }
