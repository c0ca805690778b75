use Rattle.std.proofs.Common.{◌≡◌, ◌≢◌, ℕ, ◌+◌, ◌<◌, List, length, set, get_or, ◌∙◌, arith}
use Rattle.std.proofs.Common.{inl, inr}
use Rattle.std.proofs.lemmas.Bool.{cases_lt}
use Rattle.std.proofs.lemmas.List.{get_or-set_same, get_or-set_other, length-set}
use Rattle.sample_planes.proofs.planes.near_bytes.Goals as goal

-- the bytes so far, and one more
one_more : (near bytes : List ℕ) (from k i : ℕ) → k < length near
    → ((i : ℕ) → i < k → get_or near i 0 ≡ get_or bytes (from + i) 0) → i < k + 1
    → get_or (set near k (get_or bytes (from + k) 0)) i 0 ≡ get_or bytes (from + i) 0
one_more near bytes from k i inside before below = elim (cases_lt i k) [
  | inl less ↦ let other : i ≢ k = λ same. absurd (omega (arith, same, less)) in
      get_or-set_other near k i (get_or bytes (from + k) 0) 0 other ∙ before i less
  | inr least ↦ let same : i ≡ k = omega (arith, below, least) in
      rw same (get_or-set_same near k (get_or bytes (from + k) 0) 0 inside)
]

pub loop-k-preserved : goal.loop-k-preserved
loop-k-preserved c =
    let l = c.loop-k in
    let room : l.k < length l.near =
    omega (arith, l.invariant.long, c.loop-k-test.true, c.requires.short) in
    let next : ℕ = get_or c.args.bytes.now (c.args.from + l.k) 0 in
    record {
      long = length-set l.near l.k next ∙ l.invariant.long;
      bytes = λ i below.
          one_more l.near c.args.bytes.now c.args.from l.k i room l.invariant.bytes below;
    }
