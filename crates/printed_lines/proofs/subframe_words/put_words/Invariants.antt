use Rattle.std.proofs.Common.{◌≡◌, ◌<◌, ◌≤◌, ◌+◌, ◌*◌, ◌++◌, length, take}
use Rattle.definitions.specs.Texts.{word_text}
use Rattle.printed_lines.specs.SpacedWords.{with_spaces}
use Rattle.printed_lines.specs.declared.subframe_words.TheConstants.{DATA_BYTES}
use Rattle.printed_lines.proofs.subframe_words.put_words.Given as goal

abbrev pub invariant-loop-i : goal.invariant-loop-i
invariant-loop-i l = record {
  text : l.line ≡ l.fn.line ++ with_spaces word_text (take l.i l.fn.subframe.words);
  longer : length l.line ≤ length l.fn.line + l.i * DATA_BYTES;
  ten : 0 < l.i → length l.fn.subframe.words ≡ 10;
}
