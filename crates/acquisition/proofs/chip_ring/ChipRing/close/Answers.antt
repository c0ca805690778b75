use Rattle.std.proofs.Common.{◌≡◌, ◌<◌, ◌≤◌, ◌+◌, ◌-◌, ◌∙◌, ℕ, List, arith, length, slice_index}
use Rattle.std.proofs.Common.{slice_set, inl, inr}
use Rattle.std.proofs.lemmas.Bool.{cases_lt}
use Rattle.std.proofs.lemmas.List.{get_or-set_other, get_or-set_same}
use Rattle.acquisition.specs.declared.half_chip_table.TheConstants.{HALF_CHIPS}
use Rattle.acquisition.specs.declared.chip_ring.TheConstants.{RING}
use Rattle.acquisition.proofs.chip_ring.ChipRing.close.Goals as goal

-- one more of the first sums after the last
one_more : (chips old : List ℕ) (i : ℕ) → HALF_CHIPS ≤ i → i < RING → i < length chips
    → ((j : ℕ) → HALF_CHIPS ≤ j → j < i → slice_index chips j ≡ slice_index old (j - HALF_CHIPS))
    → ((j : ℕ) → j < HALF_CHIPS → slice_index chips j ≡ slice_index old j)
    → (j : ℕ) → HALF_CHIPS ≤ j → j < i + 1
    → slice_index (slice_set chips i (slice_index chips (i - HALF_CHIPS))) j
    ≡ slice_index old (j - HALF_CHIPS)
one_more chips old i low high inside after others j from h = elim (cases_lt j i) [
  | inl earlier ↦ get_or-set_other chips i j _ 0 (λ e. absurd (omega (arith, earlier, e)))
      ∙ after j from earlier
  | inr later ↦ let here : j ≡ i = omega (arith, later, h) in
      rw here (get_or-set_same chips i (slice_index chips (i - HALF_CHIPS)) 0 inside
      ∙ others (i - HALF_CHIPS) (omega (arith, low, high)))
]

pub loop-i-preserved : goal.loop-i-preserved
loop-i-preserved c =
    let was = c.loop-i.invariant in
    let i : ℕ = c.loop-i.i in
    let chips : List ℕ = c.loop-i.self.chips in
    let inside : i < length chips = omega (arith, c.loop-i.self.long, c.loop-i-test.true) in
    record {
      low = omega (arith, was.low);
      after = one_more chips c.args.self.now.chips i was.low c.loop-i-test.true inside
          was.after was.others;
      others = λ j h. get_or-set_other chips i j _ 0 (λ e. absurd (omega (arith, e, h, was.low)))
          ∙ was.others j h;
    }
