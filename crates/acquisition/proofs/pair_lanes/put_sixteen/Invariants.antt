use Rattle.std.proofs.Common.{◌≡◌, ◌<◌, ◌+◌, ℕ, slice_index, length}
use Rattle.acquisition.proofs.pair_lanes.put_sixteen.Given as goal

abbrev pub invariant-loop-l : goal.invariant-loop-l
invariant-loop-l l = record {
  long : length l.cells ≡ 64;
  there : (i : ℕ) → i < l.l → slice_index l.cells (l.at + i) ≡ slice_index l.sixteen i;
  before : (i : ℕ) → i < l.at → slice_index l.cells i ≡ slice_index l.fn.cells i;
}
