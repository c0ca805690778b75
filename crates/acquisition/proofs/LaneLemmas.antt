-- Lanes in which entries of a ring are added up.
use Rattle.std.proofs.Common.{◌≡◌, ℕ, ◌+◌, ◌%◌, ◌^◌, ◌<◌, ◌∙◌, sym}
use Rattle.std.specs.Prelude.{List, length, slice_index}
use Rattle.std.proofs.Math.ListN.{replicate}
use Rattle.std.proofs.lemmas.List.{get_or-replicate}
use Rattle.std.specs.Simd.Lanes.{zip2}
use Rattle.std.proofs.lemmas.Simd.{length-zip2}

-- the lanes of two vectors added up
abbrev pub both_lanes : List ℕ → List ℕ → List ℕ
both_lanes lanes more = zip2 (λ a b. (a + b) % 2 ^ 32) lanes more

-- no entries
pub lane_zero : (i : ℕ) → i < 16 → slice_index (replicate 16 0) i ≡ 0
lane_zero i h = get_or-replicate {A = ℕ} 16 i 0 0 h

-- as many
pub lanes_long : (lanes more : List ℕ) → length lanes ≡ 16 → length more ≡ 16
    → length (both_lanes lanes more) ≡ 16
lanes_long lanes more long_a long_b =
    length-zip2 (λ (a b : ℕ). (a + b) % 2 ^ 32) lanes more (long_a ∙ sym long_b) ∙ long_a
