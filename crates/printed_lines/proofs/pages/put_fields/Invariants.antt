use Rattle.std.proofs.Common.{◌≡◌, ◌≤◌, ◌+◌, ◌*◌, ◌++◌, length, take, zip}
use Rattle.definitions.specs.Texts.{field_text}
use Rattle.subframes.specs.Entries.{entry_of}
use Rattle.printed_lines.specs.SpacedWords.{with_spaces}
use Rattle.printed_lines.specs.declared.pages.TheConstants.{FIELD_BYTES}
use Rattle.printed_lines.proofs.pages.put_fields.Given as goal

abbrev pub invariant-loop-i : goal.invariant-loop-i
invariant-loop-i l = record {
  text : l.line ≡ l.fn.line ++ with_spaces (λ (field, value). field_text (entry_of field) value)
      (take l.i (zip l.fn.fields l.fn.values));
  longer : length l.line ≤ length l.fn.line + l.i * FIELD_BYTES;
}
