use Rattle.std.proofs.Common.{◌≡◌, ◌≤◌, ◌+◌, ◌*◌, ◌++◌, length, take}
use Rattle.std.specs.Fmt.{signed_decimal}
use Rattle.printed_lines.specs.SpacedWords.{with_spaces}
use Rattle.printed_lines.specs.declared.words.TheConstants.{WORD_BYTES}
use Rattle.printed_lines.proofs.almanacs.put_health.Given as goal

abbrev pub invariant-loop-value : goal.invariant-loop-value
invariant-loop-value l = record {
  text : l.line ≡ l.fn.line ++ with_spaces signed_decimal (take l.value-index l.health);
  longer : length l.line ≤ length l.fn.line + l.value-index * WORD_BYTES;
}
