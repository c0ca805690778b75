use Rattle.std.proofs.Common.{◌≡◌, ◌+◌, ◌∙◌, ℕ, length, arith, ap}
use Rattle.std.specs.Prelude.{slice_index}
use Rattle.acquisition.specs.Rings.{place_of}
use Rattle.acquisition.proofs.TwosLemmas.{pairs_first, pairs_more}
use Rattle.acquisition.proofs.chip_ring.ChipRing.add_at.Goals as goal

pub loop-k-init : goal.loop-k-init
loop-k-init c x y f g has are =
    let places = c.args.places.now in
    let half : ℕ = c.args.half in
    record {
      first_are = pairs_first places f g x y half 0 _ are.first_are;
      second_are = pairs_first places f g x y half 16 _ are.second_are;
      third_are = pairs_first places f g x y half 32 _ are.third_are;
      fourth_are = pairs_first places f g x y half 48 _ are.fourth_are;
    }

-- where the next chip has its entry for the first cell
place : (c : goal.After-fourth-in-loop-k-1) → c.place_of.result
    ≡ place_of c.args.half (slice_index c.args.places.now c.loop-k.k)
place c = c.place_of.ensures.place ∙ ap (place_of c.args.half) c.from.ensures

pub loop-k-preserved : goal.loop-k-preserved
loop-k-preserved c x y f g has are =
    let here = c.loop-k.invariant x y f g has are in
    let ring = c.args.self.now.chips in
    let places = c.args.places.now in
    let half : ℕ = c.args.half in
    let k : ℕ = c.loop-k.k in
    let more = c.sixty_four-more.ensures in
    let at = place c in
    record {
      first_are = pairs_more ring places f g x y half 0 k c.place_of.result c.loop-k.first
          c.sixty_four-more.result.first has (omega arith) (omega (arith, at)) more.first
          here.first_are;
      second_are = pairs_more ring places f g x y half 16 k (c.place_of.result + 16)
          c.loop-k.second c.sixty_four-more.result.second has (omega arith) (omega (arith, at))
          more.second here.second_are;
      third_are = pairs_more ring places f g x y half 32 k (c.place_of.result + 32)
          c.loop-k.third c.sixty_four-more.result.third has (omega arith) (omega (arith, at))
          more.third here.third_are;
      fourth_are = pairs_more ring places f g x y half 48 k (c.place_of.result + 48)
          c.loop-k.fourth c.sixty_four-more.result.fourth has (omega arith) (omega (arith, at))
          more.fourth here.fourth_are;
    }

pub returns : goal.returns
returns c x y f g has are =
    let end : c.loop-k.k ≡ length c.args.places.now = omega
    (arith, c.loop-k-test.false, c.loop-k.auto.k-end) in
    rw end at (c.loop-k.invariant x y f g has are)
