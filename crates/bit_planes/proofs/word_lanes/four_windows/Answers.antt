use Rattle.std.proofs.Common.{◌≡◌, ◌-◌, ◌/◌, ◌%◌, ◌∙◌, ℕ, arith, List}
use Rattle.std.proofs.lemmas.List.{get_or_append_left, get_or-append_right}
use Rattle.std.proofs.Common.{inl, inr}
use Rattle.std.proofs.lemmas.Bool.{cases_lt}
use Rattle.bit_planes.proofs.WindowLemmas.{side_by_side}
use Rattle.bit_planes.proofs.word_lanes.four_windows.Goals as goal

pub returns-clause-windows : goal.returns-clause-windows
returns-clause-windows c k h =
    let low : List ℕ = c.two_windows-low.result in
    let high : List ℕ = c.two_windows-high.result in
    let l = c.two_windows-low.ensures in
    let u = c.two_windows-high.ensures in
    side_by_side low high 64 k h
    ∙ elim (cases_lt k 32) [
      | inl below ↦ get_or_append_left low high 0 k (omega (arith, l.long))
          ∙ elim (cases_lt k 16) [
            | inl first ↦
                let b : k / 16 ≡ 0 = omega arith in
                let r : k % 16 ≡ k = omega arith in
                rw (b, r) (l.first k first)
            | inr from ↦
                let b : k / 16 ≡ 1 = omega arith in
                let r : k % 16 ≡ k - 16 = omega arith in
                rw (b, r) (l.second k from below)
          ]
      | inr up ↦ get_or-append_right low high 32 k 0 l.long up
          ∙ elim (cases_lt k 48) [
            | inl first ↦
                let b : k / 16 ≡ 2 = omega arith in
                let r : k % 16 ≡ k - 32 = omega arith in
                rw (b, r) (u.first (k - 32) (omega arith))
            | inr from ↦
                let b : k / 16 ≡ 3 = omega arith in
                let r : k % 16 ≡ k - 32 - 16 = omega arith in
                rw (b, r) (u.second (k - 32) (omega arith) (omega arith))
          ]
    ]
