use Rattle.std.proofs.Common.{◌≡◌, length}
use Rattle.definitions.specs.Lines.{pieces_ended_by, words_of}
use Rattle.client_commands.proofs.words.next_word.Given as goal

abbrev pub invariant-loop-piece : goal.invariant-loop-piece
invariant-loop-piece l = words_of l.line ≡ words_of l.rest

abbrev pub decreases-loop-piece : goal.decreases-loop-piece
decreases-loop-piece l = length (pieces_ended_by 32 l.rest)
