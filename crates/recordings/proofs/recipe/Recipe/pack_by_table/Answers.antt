use Rattle.std.proofs.Common.{length-append, refl, ◌∙◌, arith}
use Rattle.recordings.proofs.StreamLemmas.{none, one_more, alone}
use Rattle.recordings.proofs.recipe.Recipe.pack_by_table.Goals as goal

pub loop-i-init : goal.loop-i-init
loop-i-init c = record {
  count = rw c.requires.empty refl;
  same = rw c.requires.empty (none c.args.self.now c.args.bytes.now);
}

pub loop-i-preserved : goal.loop-i-preserved
loop-i-preserved c = record {
  count = rw (c.in_ok-push.ensures.items, length-append, c.loop-i.invariant.count) refl;
  same = rw c.in_ok-push.ensures.items (one_more c.args.self.now c.args.bytes.now
      c.loop-i.written.items _ c.loop-i.i c.loop-i.invariant.same
      (λ k h. c.table-table.ensures _ k (omega arith) h
      ∙ alone c.args.self.now c.args.bytes.now c.loop-i.i k c.requires.alone (omega arith) h));
}
