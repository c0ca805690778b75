use Rattle.std.proofs.Common.{refl}
use Rattle.std.proofs.Common.{arith, rules, ◌∙◌}
use Rattle.channels.proofs.WindowLemmas.{unpacked-on}
use Rattle.channels.proofs.window.Window.take.Goals as goal

pub invariant_of-self : goal.invariant_of-self
invariant_of-self c =
    let w = c.args.self.now in
    let took = c.take.ensures in
    record {
      «open» = record {
        room = omega (arith, took.room, w.«open».room);
        held = omega (arith, took.kept, took.room, took.taken, w.«open».room, c.requires.room);
        begun = w.«open».begun;
        taken = omega (arith, took.taken, w.«open».taken);
        few = omega (arith, took.taken, c.requires.room);
      };
      filled = w.filled;
    }

pub returns-clause-stands : goal.returns-clause-stands
returns-clause-stands c xs s =
    let w = c.args.self.now in
    record {
      history = search rules;
      planes = λ some.
          s.planes some
          ∙ unpacked-on xs c.args.run.now.samples w.first w.unpacked w.«open».begun
          (omega (arith, w.«open».taken, s.history.taken));
    }

pub returns-clause-first : goal.returns-clause-first
returns-clause-first c = refl

pub returns-clause-dump : goal.returns-clause-dump
returns-clause-dump c = refl
