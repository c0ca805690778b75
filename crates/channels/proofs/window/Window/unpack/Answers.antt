use Rattle.std.proofs.Common.{refl, arith, length, ap, ◌≡◌, ◌-◌, ◌∙◌}
use Rattle.std.proofs.lemmas.List.FromFn.{length-map-range_with_len}
use Rattle.sample_history.specs.Histories.{held_in}
use Rattle.channels.proofs.WindowLemmas.{held-part}
use Rattle.channels.proofs.window.Window.unpack.Goals as goal

pub invariant_of-self-clause-filled : goal.invariant_of-self-clause-filled
invariant_of-self-clause-filled c =
    let w = c.args.self.now in
    let long : length c.unpack_into.new.planes ≡ c.end-self.result - w.first =
    ap length c.unpack_into.ensures
    ∙ length-map-range_with_len (held_in w.history) w.first (c.end-self.result - w.first) in
    omega (arith, long)

pub returns-then-self-end-clause-same : goal.returns-then-self-end-clause-same
returns-then-self-end-clause-same c = record {
  first = refl;
  end = refl;
  history = refl;
  stands = λ xs s.
      let w = c.args.self.now in
      record {
        history = s.history;
        planes = λ some.
            c.unpack_into.ensures
            ∙ held-part xs (held_in w.history) _ c.end-self.result w.first
            (rw c.end-self.ensures s.history.held) w.«open».held
            (omega (arith, some)) (c.end-self.ensures ∙ s.history.taken);
      };
}

pub returns-then-self-end-clause-dump : goal.returns-then-self-end-clause-dump
returns-then-self-end-clause-dump c = refl
