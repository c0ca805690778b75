use Rattle.std.proofs.Common.{◌≡◌, ◌≢◌, ◌+◌, ◌-◌, ◌*◌, ◌%◌, ◌<◌, ◌∙◌, ℕ, get_or, ap, arith}
use Rattle.sample_planes.proofs.FirstPlaces.{numbers, numbers_long, numbers_lane, few_starts}
use Rattle.sample_planes.proofs.FirstPlaces.{added_lane, times_width}
use Rattle.sample_planes.proofs.layout.first_places.Goals as goal
use Rattle.sample_planes.proofs.layout.first_places.Goals.{then-width-eq1, else-width-eq1}
use Rattle.sample_planes.proofs.layout.first_places.Goals.{then-width-eq4, else-width-eq4}

pub returns-clause-places : goal.returns-clause-places
returns-clause-places c k h =
    let width : ℕ = c.args.width in
    let start : ℕ = c.args.start in
    let few : start < 8 = few_starts width start c.requires.width c.requires.start in
    let n : ℕ = start + (15 - k % 16) in
    let two : ℕ = get_or c.if-width-eq1.two k 0 in
    let all : ℕ = get_or c.if-width-eq4.result k 0 in
    let lane : get_or (numbers start) k 0 ≡ n = numbers_lane start k few h in
    let one : width ≡ 1 → two ≡ n = elim c.if-width-eq1.branch [
      | then-width-eq1 b ↦ λ e. rw b.two-is lane
      | else-width-eq1 b ↦ λ e. absurd (b.if-width-eq1.false e)
    ] in
    let more : width ≢ 1 → two ≡ n + n = elim c.if-width-eq1.branch [
      | then-width-eq1 b ↦ λ f. absurd (f b.if-width-eq1.true)
      | else-width-eq1 b ↦ λ f. rw b.two-is (added_lane (numbers start) (numbers start) k n n
          (numbers_long start) (numbers_long start) h lane lane (omega (arith, few)))
    ] in
    let four : width ≡ 4 → all ≡ two + two = elim c.if-width-eq4.branch [
      | then-width-eq4 b ↦ λ e.
          let pair : two ≡ n + n = more (λ f. absurd (omega (arith, e, f))) in
          rw b.result-is (added_lane c.if-width-eq1.two c.if-width-eq1.two k two two
          c.if-width-eq1.auto.two.0 c.if-width-eq1.auto.two.0 h (λ i. two) (λ i. two)
          (omega (arith, pair, few)))
      | else-width-eq4 b ↦ λ e. absurd (b.if-width-eq4.false e)
    ] in
    let less : width ≢ 4 → all ≡ two = elim c.if-width-eq4.branch [
      | then-width-eq4 b ↦ λ f. absurd (f b.if-width-eq4.true)
      | else-width-eq4 b ↦ λ f. rw b.result-is (λ i. two)
    ] in
    let place : n ≡ start + 15 - k % 16 = omega arith in
    times_width width n two all c.requires.width one more four less
    ∙ ap (λ (m : ℕ). width * m) place
