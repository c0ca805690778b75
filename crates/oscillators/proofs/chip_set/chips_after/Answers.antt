use Rattle.std.proofs.Common.{◌≡◌, ℕ, ◌+◌, ◌/◌, ◌%◌, ◌^◌, ◌∙◌, List, length, refl}
use Rattle.std.proofs.Common.{replicate}
use Rattle.std.specs.Simd.Lanes.{zip2}
use Rattle.std.proofs.lemmas.List.{get_or-replicate}
use Rattle.std.proofs.Math.Nat.{mod-eq_of_lt}
use Rattle.oscillators.proofs.ChipLaneLemmas.{pair_long, pair_lane}
use Rattle.oscillators.proofs.chip_set.chips_after.Goals as goal

-- half chips that lie some after others
abbrev after : List ℕ → ℕ → List ℕ
after half more = zip2 (λ (a b : ℕ). (a + b) % 256) half (replicate 64 more)

after_long : (half : List ℕ) (more : ℕ) → length half ≡ 64 → length (after half more) ≡ 64
after_long half more long =
    pair_long (λ (a b : ℕ). (a + b) % 256) half (replicate 64 more) long refl

pub returns-clause-long : goal.returns-clause-long
returns-clause-long c =
    pair_long (λ (a b : ℕ). a / 2 ^ b) (after c.args.half c.args.more) (replicate 64 1)
    (after_long c.args.half c.args.more c.requires) refl

pub returns-clause-chips : goal.returns-clause-chips
returns-clause-chips c k h small =
    pair_lane (λ (a b : ℕ). a / 2 ^ b) (after c.args.half c.args.more) (replicate 64 1) k
    (after_long c.args.half c.args.more c.requires) refl h
    ∙ rw (
      get_or-replicate {A = ℕ} 64 k 1 0 h,
      pair_lane (λ (a b : ℕ). (a + b) % 256) c.args.half (replicate 64 c.args.more) k c.requires
          refl h,
      get_or-replicate {A = ℕ} 64 k c.args.more 0 h,
      mod-eq_of_lt small,
    ) refl
