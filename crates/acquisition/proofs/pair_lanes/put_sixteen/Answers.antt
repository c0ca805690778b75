use Rattle.std.proofs.Common.{◌≡◌, ◌<◌, ◌+◌, ◌∙◌, ℕ, List, arith, length, slice_index, slice_set}
use Rattle.std.proofs.Common.{inl, inr}
use Rattle.std.proofs.lemmas.List.{length-set, get_or-set_other, get_or-set_same}
use Rattle.std.proofs.lemmas.Bool.{cases_lt}
use Rattle.acquisition.proofs.pair_lanes.put_sixteen.Goals as goal

-- one more of the pairs of a vector, put in after those before it
put_on : (cells sixteen : List ℕ) (at l : ℕ) → at + l < length cells
    → ((i : ℕ) → i < l → slice_index cells (at + i) ≡ slice_index sixteen i)
    → (i : ℕ) → i < l + 1
    → slice_index (slice_set cells (at + l) (slice_index sixteen l)) (at + i)
    ≡ slice_index sixteen i
put_on cells sixteen at l inside were i h = elim (cases_lt i l) [
  | inl earlier ↦ get_or-set_other cells (at + l) (at + i) (slice_index sixteen l) 0
      (λ e. absurd (omega (arith, earlier, e))) ∙ were i earlier
  | inr later ↦ let here : i ≡ l = omega (arith, later, h) in
      rw here (get_or-set_same cells (at + l) (slice_index sixteen l) 0 inside)
]

pub loop-l-preserved : goal.loop-l-preserved
loop-l-preserved c =
    let was = c.loop-l.invariant in
    let l : ℕ = c.loop-l.l in
    let at : ℕ = c.args.at in
    let cells : List ℕ = c.loop-l.cells in
    let inside : at + l < length cells = omega (arith, was.long, c.loop-l-test.true, c.requires) in
    record {
      long = length-set cells (at + l) _ ∙ was.long;
      there = put_on cells c.args.sixteen.now at l inside was.there;
      before = λ i h. get_or-set_other cells (at + l) i _ 0 (λ e. absurd (omega (arith, e, h)))
          ∙ was.before i h;
    }
