-- Samples times the conjugate of a carrier, by the bytes that tables give.
use Rattle.std.proofs.Common.{◌≡◌, ℕ, ◌+◌, ◌-◌, ◌*◌, ◌/◌, ◌%◌, ◌<◌, ◌≤◌, refl, ap, ◌∙◌, arith, List}
use Rattle.std.proofs.Common.{length, get_or}
use Rattle.std.specs.Prelude.{ℤ, pos, ◌+ℤ◌, ◌-ℤ◌, ◌*ℤ◌, unsigned_abs, bit_xor}
use Rattle.std.specs.Simd.Lanes.{zip2}
use Rattle.std.proofs.Math.IntN.{zero-*ℤ}
use Rattle.std.proofs.Math.Path.{ap₂}
use Rattle.std.proofs.lemmas.Int.{ints}
use Rattle.std.proofs.lemmas.Simd.{get_or-zip2}
use Rattle.definitions.specs.Samples.{Sample, sample_at}
use Rattle.bit_planes.specs.ByteLanes.{place_in}
use Rattle.sample_planes.specs.Signs.{AreReal, part_of}
use Rattle.sample_planes.specs.Codes.{IsCode, AreCodes, AreQuadratureCodes}
use Rattle.lane_correlator.specs.Bytes.{signed_byte, cosine_in, sine_in, cosine_times, sine_times}
use Rattle.lane_correlator.specs.Bytes.{minus_sine_times, AreFound}
use Rattle.lane_correlator.specs.ByteSums.{IsWiped}
use Rattle.lane_correlator.proofs.SmallLemmas.{wiped_small, wiped_quadrature_small}
use Rattle.lane_correlator.proofs.TableLemmas.{with_code, sine_with_code, small_part, small_wave}

-- a part's carrier, turned by its code
pub record IsTurned (eighths codes at : List ℕ) : Type 0 where
  pub turned : (k : ℕ) → k < 64 → get_or at k 0 ≡ bit_xor (get_or eighths k 0 % 8) (get_or codes k
      0)

-- eighths below 8 are those of a cycle
pub turned_in_cycle : (eighths codes at : List ℕ) → ((k : ℕ) → k < 64 → get_or eighths k 0 < 8)
    → ((k : ℕ) → k < 64 → get_or at k 0 ≡ bit_xor (get_or eighths k 0) (get_or codes k 0))
    → IsTurned eighths codes at
turned_in_cycle eighths codes at cycle is = record {
  turned = λ k h.
      let same : get_or eighths k 0 ≡ get_or eighths k 0 % 8 = omega (arith, cycle k h) in
      is k h ∙ ap (λ (e : ℕ). bit_xor e (get_or codes k 0)) same;
}

abbrev pub AreLow : List ℕ → Type 0
AreLow lanes = (k : ℕ) → k < 64 → unsigned_abs (signed_byte (get_or lanes k 0)) ≤ 6

-- ---- one place

in_phase_alone : (a q s : ℤ) → q ≡ pos 0 → a ≡ a +ℤ q *ℤ s
in_phase_alone a q s none = rw (none, zero-*ℤ s) (omega (arith, ints))

quadrature_alone : (a q c : ℤ) → q ≡ pos 0 → pos 0 -ℤ a ≡ q *ℤ c -ℤ a
quadrature_alone a q c none = rw (none, zero-*ℤ c) refl

added : (a b : ℕ) → unsigned_abs (signed_byte a) ≤ 6 → unsigned_abs (signed_byte b) ≤ 6
    → signed_byte ((a + b) % 256) ≡ signed_byte a +ℤ signed_byte b
added a b ha hb = omega (arith, ints, ha, hb)

flipped : (a b : ℤ) → (pos 0 -ℤ a) +ℤ b ≡ b -ℤ a
flipped a b = omega (arith, ints)

-- ---- all places

sum_at : (xs ys : List ℕ) (j : ℕ) → length xs ≡ 64 → length ys ≡ 64 → AreLow xs → AreLow ys
    → j < 64 → signed_byte (place_in (zip2 (λ (a b : ℕ). (a + b) % 256) xs ys) j)
    ≡ signed_byte (place_in xs j) +ℤ signed_byte (place_in ys j)
sum_at xs ys j hx hy lx ly h =
    ap signed_byte (get_or-zip2 (λ (a b : ℕ). (a + b) % 256) xs ys (63 - j) 0 0 0
    (omega (arith, hx)) (omega (arith, hy)))
    ∙ added (place_in xs j) (place_in ys j) (lx (63 - j) (omega arith)) (ly (63 - j) (omega arith))

-- a part of a sample times a carrier
module _ (xs : List Sample) (w : ℕ) (eighths : List ℕ) where
  cosine_at : (x : ℤ) (codes at found : List ℕ) (j : ℕ) → j < 64 → IsCode x (place_in codes j)
      → IsTurned eighths codes at → AreFound cosine_times at found
      → signed_byte (place_in found j) ≡ x *ℤ cosine_in (place_in eighths j)
  cosine_at x codes at found j h is turned of =
      of.values (63 - j) (omega arith) ∙ ap cosine_times (turned.turned (63 - j) (omega arith))
      ∙ with_code x (place_in eighths j) (place_in codes j) is

  sine_at : (x : ℤ) (codes at found : List ℕ) (j : ℕ) → j < 64 → IsCode x (place_in codes j)
      → IsTurned eighths codes at → AreFound sine_times at found
      → signed_byte (place_in found j) ≡ x *ℤ sine_in (place_in eighths j)
  sine_at x codes at found j h is turned of =
      of.values (63 - j) (omega arith) ∙ ap sine_times (turned.turned (63 - j) (omega arith))
      ∙ sine_with_code x (place_in eighths j) (place_in codes j) is

  minus_sine_at : (x : ℤ) (codes at found : List ℕ) (j : ℕ) → j < 64
      → IsCode x (place_in codes j) → IsTurned eighths codes at
      → AreFound minus_sine_times at found
      → signed_byte (place_in found j) ≡ pos 0 -ℤ x *ℤ sine_in (place_in eighths j)
  minus_sine_at x codes at found j h is turned of =
      of.values (63 - j) (omega arith)
      ∙ ap minus_sine_times (turned.turned (63 - j) (omega arith))
      ∙ ap (λ (z : ℤ). pos 0 -ℤ z) (sine_with_code x (place_in eighths j) (place_in codes j) is)

  -- a lane has the code of some part, whether there is a sample or not
  part_there : List ℕ → ℕ → ℤ
  part_there codes j = part_of (place_in codes j / 4 % 2) (place_in codes j / 8)

  is_code : (codes : List ℕ) (j : ℕ) → place_in codes j % 4 ≡ 0 → place_in codes j < 16
      → IsCode (part_there codes j) (place_in codes j)
  unfolding part_there
  is_code codes j fourth few = record { fourth = fourth; few = few; value = refl }

  -- real samples, and complex ones
  module _ (codes at i q : List ℕ) (of : AreCodes xs w codes) (turned : IsTurned eighths codes at)
      (in_phase : AreFound cosine_times at i) (quadrature : AreFound minus_sine_times at q) where
    pub wiped_real : AreReal xs → IsWiped xs w eighths (record { i = i; q = q })
    unfolding AreReal
    wiped_real real = record {
      in_phase = λ j h long.
          cosine_at (sample_at xs (64 * w + j)).in_phase codes at i j h (of.codes j h long) turned
          in_phase
          ∙ in_phase_alone _ _ _ (real (64 * w + j) long);
      quadrature = λ j h long.
          minus_sine_at (sample_at xs (64 * w + j)).in_phase codes at q j h (of.codes j h long)
          turned quadrature
          ∙ quadrature_alone _ _ _ (real (64 * w + j) long);
      small_in_phase = λ j h. omega (arith, in_phase.small (63 - j) (omega arith));
      small_quadrature = λ j h. omega (arith, quadrature.small (63 - j) (omega arith));
    }

    pub wiped_complex : (codes_q at_q sines cosines : List ℕ) → AreQuadratureCodes xs w codes_q
        → IsTurned eighths codes_q at_q → AreFound sine_times at_q sines
        → AreFound cosine_times at_q cosines → length i ≡ 64 → length q ≡ 64 → length sines ≡ 64
        → length cosines ≡ 64 → IsWiped xs w eighths (record {
          i = zip2 (λ (a b : ℕ). (a + b) % 256) i sines;
          q = zip2 (λ (a b : ℕ). (a + b) % 256) q cosines;
        })
    wiped_complex codes_q at_q sines cosines of_q turned_q sine cosine li lq ls lc = record {
      in_phase = λ j h long.
          sum_at i sines j li ls in_phase.small sine.small h
          ∙ ap₂ (λ (a b : ℤ). a +ℤ b)
          (cosine_at (sample_at xs (64 * w + j)).in_phase codes at i j h (of.codes j h long) turned
          in_phase)
          (sine_at (sample_at xs (64 * w + j)).quadrature codes_q at_q sines j h
          (of_q.codes j h long) turned_q sine);
      quadrature = λ j h long.
          sum_at q cosines j lq lc quadrature.small cosine.small h
          ∙ ap₂ (λ (a b : ℤ). a +ℤ b)
          (minus_sine_at (sample_at xs (64 * w + j)).in_phase codes at q j h (of.codes j h long)
          turned quadrature)
          (cosine_at (sample_at xs (64 * w + j)).quadrature codes_q at_q cosines j h
          (of_q.codes j h long) turned_q cosine)
          ∙ flipped ((sample_at xs (64 * w + j)).in_phase *ℤ sine_in (place_in eighths j))
          ((sample_at xs (64 * w + j)).quadrature *ℤ cosine_in (place_in eighths j));
      small_in_phase = λ j h.
          let e : ℕ = place_in eighths j in
          let code = code_there j in
          let code_q = code_q_there j in
          rw (
            sum_at i sines j li ls in_phase.small sine.small h,
            cosine_at (part_there codes j) codes at i j h code turned in_phase,
            sine_at (part_there codes_q j) codes_q at_q sines j h code_q turned_q sine,
          ) (wiped_small (part_there codes j) (part_there codes_q j) (cosine_in e) (sine_in e)
          (small_part _ _ code) (small_part _ _ code_q) (small_wave e));
      small_quadrature = λ j h.
          let e : ℕ = place_in eighths j in
          let code = code_there j in
          let code_q = code_q_there j in
          rw (
            sum_at q cosines j lq lc quadrature.small cosine.small h,
            minus_sine_at (part_there codes j) codes at q j h code turned quadrature,
            cosine_at (part_there codes_q j) codes_q at_q cosines j h code_q turned_q cosine,
            flipped (part_there codes j *ℤ sine_in e) (part_there codes_q j *ℤ cosine_in e),
          ) (wiped_quadrature_small (part_there codes j) (part_there codes_q j) (cosine_in e)
          (sine_in e) (small_part _ _ code) (small_part _ _ code_q) (small_wave e));
    }
      where
        code_there : (j : ℕ) → IsCode (part_there codes j) (place_in codes j)
        code_there j = is_code codes j (of.fourth (63 - j) (omega arith))
            (of.few (63 - j) (omega arith))

        code_q_there : (j : ℕ) → IsCode (part_there codes_q j) (place_in codes_q j)
        code_q_there j = is_code codes_q j (of_q.fourth (63 - j) (omega arith))
            (of_q.few (63 - j) (omega arith))
