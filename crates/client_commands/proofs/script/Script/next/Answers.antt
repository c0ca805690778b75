use Rattle.std.proofs.Common.{sym, ◌∙◌}
use Rattle.definitions.specs.Scripts.{verbs}
use Rattle.definitions.specs.Lines.{lines_of}
use Rattle.client_commands.specs.Entries.{entry_in}
use Rattle.client_commands.proofs.EntryLemmas.{line_passed, line_entered, no_line}
use Rattle.client_commands.proofs.script.Script.next.Goals as goal

pub returns-in-Some-entry-clause-some : goal.returns-in-Some-entry-clause-some
returns-in-Some-entry-clause-some c =
    sym c.self.view_is ∙ c.loop-line.invariant.entries
    ∙ line_entered verbs c.loop-line.self-inside.share c.loop-line.self-inside.before
    c.in-Some.line.now (lines_of c.loop-line.self-inside.text.now) (lines_of c.in-Some.rest.now)
    (entry_in c.in-Some-entry.timed) c.in-Some.ensures c.in-Some-entry.ensures

pub loop-line-preserved : goal.loop-line-preserved
loop-line-preserved c = record {
  some = c.loop-line.invariant.some;
  most = c.loop-line.invariant.most;
  entries = c.loop-line.invariant.entries
      ∙ line_passed verbs c.loop-line.self-inside.share c.loop-line.self-inside.before
      c.in-Some.line.now (lines_of c.loop-line.self-inside.text.now)
      (lines_of c.in-Some.rest.now) c.in-Some.ensures c.in_default-entry.ensures;
}

pub returns-clause-none : goal.returns-clause-none
returns-clause-none c = λ _. sym c.self.view_is ∙ c.loop-line.invariant.entries
    ∙ no_line verbs c.loop-line.self-inside.share c.loop-line.self-inside.before
    (lines_of c.loop-line.self-inside.text.now)
    c.in_default.ensures

pub returns-clause-ended : goal.returns-clause-ended
returns-clause-ended c = λ _.
    no_line verbs c.loop-line.self-inside.share c.loop-line.self-inside.before
    (lines_of c.loop-line.self-inside.text.now) c.in_default.ensures
