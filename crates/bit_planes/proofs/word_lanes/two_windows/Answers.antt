use Rattle.std.proofs.Common.{◌≡◌, ◌-◌, ◌∙◌, ℕ, length, arith, List, take, drop}
use Rattle.std.proofs.lemmas.Simd.{get_or-chunk, length-chunk}
use Rattle.std.proofs.lemmas.List.{get_or_append_left, get_or-append_right}
use Rattle.bit_planes.proofs.WindowLemmas.{side_by_side}
use Rattle.bit_planes.proofs.word_lanes.two_windows.Goals as goal

pub returns-clause-first : goal.returns-clause-first
returns-clause-first c r h =
    let a : List ℕ = take 16 (drop c.args.first c.args.table.now) in
    let b : List ℕ = take 16 (drop c.args.second c.args.table.now) in
    let long : length a ≡ 16 = length-chunk c.args.first 16 c.args.table.now c.requires.first in
    side_by_side a b 32 r (omega arith) ∙ get_or_append_left a b 0 r (omega (arith, long))
    ∙ get_or-chunk c.args.first 16 c.args.table.now r 0 h

pub returns-clause-second : goal.returns-clause-second
returns-clause-second c r from h =
    let a : List ℕ = take 16 (drop c.args.first c.args.table.now) in
    let b : List ℕ = take 16 (drop c.args.second c.args.table.now) in
    let long : length a ≡ 16 = length-chunk c.args.first 16 c.args.table.now c.requires.first in
    side_by_side a b 32 r h ∙ get_or-append_right a b 16 r 0 long from
    ∙ get_or-chunk c.args.second 16 c.args.table.now (r - 16) 0 (omega arith)
