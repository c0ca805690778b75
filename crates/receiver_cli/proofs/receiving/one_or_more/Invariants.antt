use Rattle.std.proofs.Common.{◌≡◌, map, take}
use Rattle.receiver_cli.proofs.receiving.one_or_more.Given as goal

abbrev pub invariant-loop-text : goal.invariant-loop-text
invariant-loop-text l =
    map (λ script. script.now) l.scripts.items
    ≡ map (λ text. text.items) (take l.text-index l.texts)
