use Rattle.std.proofs.Common.{◌≡◌, ◌≤◌, ◌+◌, ◌*◌, ◌++◌, length, take}
use Rattle.definitions.specs.Texts.{hex_of_bytes}
use Rattle.printed_lines.proofs.pages.put_characters.Given as goal

abbrev pub invariant-loop-character : goal.invariant-loop-character
invariant-loop-character l = record {
  text : l.line ≡ l.fn.line ++ hex_of_bytes (take l.character-index l.characters);
  longer : length l.line ≤ length l.fn.line + l.character-index * 2;
}
