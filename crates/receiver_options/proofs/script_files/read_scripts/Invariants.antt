use Rattle.std.proofs.Common.{map, take}
use Rattle.receiver_options.specs.ScriptTexts.{AreTextsOf}
use Rattle.receiver_options.proofs.script_files.read_scripts.Given as goal

abbrev pub invariant-loop-path : goal.invariant-loop-path
invariant-loop-path g l =
    AreTextsOf (map (λ path. g.S.ScriptFiles.bytes_of l.files path.now) (take l.path-index l.paths))
    (map (λ text. text.items) l.texts.items)
