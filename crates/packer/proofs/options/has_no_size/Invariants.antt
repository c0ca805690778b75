use Rattle.std.proofs.Common.{◌≡◌, true, take}
use Rattle.std.specs.List.{list_all}
use Rattle.packer.specs.Options.{has_no_size}
use Rattle.packer.proofs.options.has_no_size.Given as goal

abbrev pub invariant-loop-byte : goal.invariant-loop-byte
invariant-loop-byte l = list_all has_no_size (take l.byte-index l.text) ≡ true
