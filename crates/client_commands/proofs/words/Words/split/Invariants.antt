use Rattle.std.proofs.Common.{◌≡◌, ◌++◌, length}
use Rattle.std.specs.Prelude.{map}
use Rattle.definitions.specs.Lines.{words_of}
use Rattle.client_commands.proofs.words.Words.split.Given as goal

abbrev pub invariant-loop-word : goal.invariant-loop-word
invariant-loop-word l = words_of l.line ≡ map (λ word. word.now) l.words.items ++ words_of l.rest

abbrev pub decreases-loop-word : goal.decreases-loop-word
decreases-loop-word l = length (words_of l.rest)
