use Rattle.std.proofs.Common.{◌≡◌, ◌∙◌, ◌-◌, ℕ, List, true, false, length, take, sym, ap}
use Rattle.std.proofs.Common.{arith, ◌++◌, rules}
use Rattle.std.specs.Prelude.{min}
use Rattle.std.proofs.lemmas.Grind.{common_steps}
use Rattle.std.proofs.lemmas.List.{length-take-le, with_items_is}
use Rattle.recordings.specs.declared.recipe.TheConstants.{MOST_BYTES}
use Rattle.packer.proofs.GatherLemmas.{none_gathered, more_gathered, gathered_over}
use Rattle.packer.proofs.GatherLemmas.{gathered_full, gathered_to_end, taken_to_room}
use Rattle.packer.proofs.RunLemmas.{fewer_ahead}
use Rattle.packer.proofs.measuring.gather.Goals as goal
use Rattle.packer.proofs.measuring.gather.Goals.{then-loop-bytes-test+else-len-lt-MOST_BYTES}
use Rattle.packer.proofs.measuring.gather.Goals.{else-loop-bytes-test}
use Rattle.packer.proofs.measuring.gather.Goals.{
  then-loop-bytes-test+then-len-lt-MOST_BYTES+in_ok-count+then-count-eq0,
}

pub loop-bytes-init : goal.loop-bytes-init
loop-bytes-init g c = record {
  room = search rules;
  few = grind (arith, common_steps);
  gathered = λ skip most all known shows. rw c.new-bytes.ensures.items
      (none_gathered skip most all (g.R.Source.remaining c.args.reader.now) c.args.stretch.now known
      shows);
}

pub loop-bytes-smaller : goal.loop-bytes-smaller
loop-bytes-smaller g c =
    let piece : List ℕ = take c.in_ok-count.count c.read.new.buffer in
    let sized : length piece ≡ c.in_ok-count.count =
    length-take-le c.in_ok-count.count c.read.new.buffer c.in_ok-count.ensures.bound.0 in
    let whole : length c.read.new.buffer ≡ c.loop-bytes.buffer.len = grind (arith, common_steps) in
    let same : c.deref.result.now ≡ c.read.new.buffer =
    c.deref.ensures.value ∙ with_items_is c.loop-bytes.buffer c.read.new.buffer whole in
    fewer_ahead c.loop-bytes.stretch c.part-part.new.self piece c.part-part.result.now
    (omega (arith, sized, c.if-count-eq0.false))
    (λ e. let clash : true ≡ false = sym (c.is_over.ensures.1 e) ∙ c.loop-bytes-test.true in cc)
    (rw same at c.part-part.ensures.shows)

pub loop-bytes-preserved : goal.loop-bytes-preserved
loop-bytes-preserved g c = record {
  room = grind (arith, common_steps);
  few = grind (arith, common_steps);
  gathered = λ skip most all known shows.
      let whole : length c.read.new.buffer ≡ c.loop-bytes.buffer.len = grind (arith, common_steps)
      in
      let same : c.deref.result.now ≡ c.read.new.buffer =
      c.deref.ensures.value ∙ with_items_is c.loop-bytes.buffer c.read.new.buffer whole in
      let room : c.min-room.result ≡ min (length c.part-part.result.now)
      (MOST_BYTES - length c.loop-bytes.bytes.items) =
      omega (arith, c.min-room.ensures, c.len-in-loop-bytes.ensures) in
      let added : c.extend_from_slice.new.self.items
      ≡ c.loop-bytes.bytes.items
      ++ take (MOST_BYTES - length c.loop-bytes.bytes.items) c.part-part.result.now =
      c.in_ok-extend_from_slice.ensures.items
      ∙ ap (λ (xs : List ℕ). c.loop-bytes.bytes.items ++ xs)
      (ap (λ (n : ℕ). take n c.part-part.result.now) room
      ∙ taken_to_room (MOST_BYTES - length c.loop-bytes.bytes.items) c.part-part.result.now) in
      rw added
      (more_gathered skip most all (g.R.Source.remaining c.loop-bytes.reader)
      (g.R.Source.remaining c.read.new.reader) c.loop-bytes.stretch c.part-part.new.self
      c.loop-bytes.bytes.items (take c.in_ok-count.count c.read.new.buffer) c.part-part.result.now
      (c.loop-bytes.invariant.gathered skip most all known shows)
      (omega (arith, c.if-len-lt-MOST_BYTES.true, c.len.ensures))
      c.in_ok-count.ensures.bytes.0 (rw same at c.part-part.ensures.shows skip most));
}

pub returns-clause-front : goal.returns-clause-front
returns-clause-front g c skip most all known shows =
    let gathered = c.loop-bytes.invariant.gathered skip most all known shows in
    elim c.loop-bytes-test.branch [
      | then-loop-bytes-test+else-len-lt-MOST_BYTES w ↦ gathered_full skip most all
          (g.R.Source.remaining c.loop-bytes.reader) c.loop-bytes.stretch c.loop-bytes.bytes.items
          gathered (omega (
            arith,
            w.if-len-lt-MOST_BYTES.false,
            w.len.ensures,
            c.loop-bytes.invariant.few,
          ))
      | else-loop-bytes-test w ↦ gathered_over skip most all
          (g.R.Source.remaining c.loop-bytes.reader) c.loop-bytes.stretch c.loop-bytes.bytes.items
          gathered (c.is_over.ensures.0 w.loop-bytes-test.false)
      | then-loop-bytes-test+then-len-lt-MOST_BYTES+in_ok-count+then-count-eq0 w ↦
          gathered_to_end skip most all (g.R.Source.remaining c.loop-bytes.reader)
          (g.R.Source.remaining w.read.new.reader) c.loop-bytes.stretch c.loop-bytes.bytes.items
          (take w.in_ok-count.count w.read.new.buffer) gathered w.in_ok-count.ensures.bytes.0
          (ap (λ (n : ℕ). take n w.read.new.buffer) w.if-count-eq0.true)
          (w.in_ok-count.ensures.bytes.1 w.if-count-eq0.true
          (grind (arith, common_steps)))
    ]
