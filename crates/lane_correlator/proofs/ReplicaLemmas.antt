-- Sums with a replica that is moved to the beginning of a word, and the replica of lanes.
use Rattle.std.proofs.Common.{List, ◌≡◌, ℕ, ◌+◌, ◌-◌, ◌*◌, ◌/◌, ◌%◌, ◌^◌, ◌<◌, ◌≤◌, refl, sym}
use Rattle.std.proofs.Common.{get_or, ap, ◌∙◌, arith}
use Rattle.std.specs.Prelude.{ℤ, pos, ◌*ℤ◌}
use Rattle.definitions.specs.Samples.{Sample}
use Rattle.definitions.specs.Oscillators.{carrier_phase_after, code_phase_after, cosine, sine}
use Rattle.definitions.specs.Oscillators.{early_sign, prompt_sign, late_sign, cosines, sines}
use Rattle.definitions.specs.Correlation.{Replica, Phases, replica_of, six_sums, in_phase_sum}
use Rattle.definitions.specs.Correlation.{quadrature_sum, wiped_in_phase, wiped_quadrature}
use Rattle.definitions.proofs.SumsLemmas.{total-same}
use Rattle.bit_planes.specs.ByteLanes.{place_in}
use Rattle.oscillators.specs.declared.code_words.ChipLanes.{ChipLanes}
use Rattle.oscillators.specs.Lanes.{AreEighthLanes, AreChipLanes}
use Rattle.oscillators.proofs.PlaneLemmas.{carrier_behind, code_behind}
use Rattle.lane_correlator.specs.Chips.{AreMasksOfChips}
use Rattle.lane_correlator.specs.ReplicaWords.{AreOf, placed}

-- the lanes at a word of the run are of it
pub lanes_of_placed : (prn : ℕ) (p : Phases) (first w carrier_at code_at : ℕ) (eighths : List ℕ)
    (chips : ChipLanes) → first ≤ w
    → ((j : ℕ) → carrier_phase_after carrier_at p.carrier_step j ≡ carrier_phase_after p.carrier
    p.carrier_step (64 * (w - first) + j))
    → ((j : ℕ) → code_phase_after code_at p.code_step j ≡ code_phase_after p.code p.code_step
    (64 * (w - first) + j))
    → AreEighthLanes carrier_at p.carrier_step eighths → AreChipLanes prn code_at p.code_step chips
    → AreOf (placed prn p (64 * first)) (64 * w) eighths chips
unfolding placed
lanes_of_placed prn p first w carrier_at code_at eighths chips h at at' is are = record {
  cos = λ j l. sym (ap (λ (e : ℕ). get_or cosines e (pos 0)) (of_cycle j l)
      ∙ ap cosine (on_carrier j));
  sin = λ j l. sym (ap (λ (e : ℕ). get_or sines e (pos 0)) (of_cycle j l)
      ∙ ap sine (on_carrier j));
  early = λ j l. ap (early_sign prn) (sym (on_code j)) ∙ (are.early j l).value;
  prompt = λ j l. ap (prompt_sign prn) (sym (on_code j)) ∙ (are.prompt j l).value;
  late = λ j l. ap (late_sign prn) (sym (on_code j)) ∙ (are.late j l).value;
}
  where
    of_cycle : (j : ℕ) → j < 64
        → place_in eighths j % 8 ≡ carrier_phase_after carrier_at p.carrier_step j / 2 ^ 29
    of_cycle j l = omega (arith, is.eighths j l)

    place : (j : ℕ) → 64 * (w - first) + j ≡ 64 * w + j - 64 * first
    place j = omega arith

    on_carrier : (j : ℕ) → carrier_phase_after carrier_at p.carrier_step j ≡ carrier_phase_after
        p.carrier p.carrier_step (64 * w + j - 64 * first)
    on_carrier j = at j ∙ ap (carrier_phase_after p.carrier p.carrier_step) (place j)

    on_code : (j : ℕ) → code_phase_after code_at p.code_step j ≡ code_phase_after p.code p.code_step
        (64 * w + j - 64 * first)
    on_code j = at' j ∙ ap (code_phase_after p.code p.code_step) (place j)

-- its eighths are below 8
pub eighths_below : (phase step : ℕ) (eighths : List ℕ) → AreEighthLanes phase step eighths
    → (k : ℕ) → k < 64 → get_or eighths k 0 < 8
eighths_below phase step eighths is k h =
    let place : 63 - (63 - k) ≡ k = omega arith in
    rw (← place) (rw (is.eighths (63 - k) (omega arith)) (omega arith))

-- its chips are masks
pub masks_of_chips : (prn phase step : ℕ) (chips : ChipLanes) → AreChipLanes prn phase step chips
    → AreMasksOfChips chips
masks_of_chips prn phase step chips are = record {
  early = λ j h. (are.early j h).either;
  prompt = λ j h. (are.prompt j h).either;
  late = λ j h. (are.late j h).either;
}

-- a word further on
pub carrier_word_on : (phase step first w at next : ℕ) → first ≤ w
    → next ≡ carrier_phase_after at step 64
    → ((j : ℕ) → carrier_phase_after at step j ≡ carrier_phase_after phase step
    (64 * (w - first) + j))
    → (j : ℕ) → carrier_phase_after next step j ≡ carrier_phase_after phase step
    (64 * (w + 1 - first) + j)
carrier_word_on phase step first w at next h is so j =
    let place : 64 * (w - first) + (64 + j) ≡ 64 * (w + 1 - first) + j = omega arith in
    carrier_behind at step 64 j next is ∙ so (64 + j) ∙ ap (carrier_phase_after phase step) place

pub code_word_on : (phase step first w at next : ℕ) → first ≤ w → next ≡ code_phase_after at step 64
    → ((j : ℕ) → code_phase_after at step j ≡ code_phase_after phase step (64 * (w - first) + j))
    → (j : ℕ) → code_phase_after next step j ≡ code_phase_after phase step
    (64 * (w + 1 - first) + j)
code_word_on phase step first w at next h is so j =
    let place : 64 * (w - first) + (64 + j) ≡ 64 * (w + 1 - first) + j = omega arith in
    code_behind at step 64 j next is ∙ so (64 + j) ∙ ap (code_phase_after phase step) place

-- ---- sums that begin at a sample

-- two replicas that agree, one from its first place on and the other from a later one
record AgreeFrom (from n : ℕ) (r s : Replica) : Type 0 where
  pub cos : (j : ℕ) → j < n → r.cos (from + j) ≡ s.cos j
  pub sin : (j : ℕ) → j < n → r.sin (from + j) ≡ s.sin j
  pub early : (j : ℕ) → j < n → r.early (from + j) ≡ s.early j
  pub prompt : (j : ℕ) → j < n → r.prompt (from + j) ≡ s.prompt j
  pub late : (j : ℕ) → j < n → r.late (from + j) ≡ s.late j

module _ (x : ℕ → Sample) (from to : ℕ) (r s : Replica) (agree : AgreeFrom from (to - from) r s)
  where
    in_phase-moved : (c d : ℕ → ℤ) → ((j : ℕ) → j < to - from → c (from + j) ≡ d j)
        → in_phase_sum x r.cos r.sin c from to
        ≡ in_phase_sum (λ j. x (from + j)) s.cos s.sin d 0 (to - from)
    unfolding in_phase_sum
    in_phase-moved c d same =
        let many : to - from - 0 ≡ to - from = omega arith in
        rw many (total-same
        (λ j. wiped_in_phase (x (from + j)) (r.cos (from + j)) (r.sin (from + j)) *ℤ c (from + j))
        (λ j. wiped_in_phase (x (from + (0 + j))) (s.cos (0 + j)) (s.sin (0 + j)) *ℤ d (0 + j))
        (to - from)
        (λ j h. let z : 0 + j ≡ j = omega arith in
        rw (z, agree.cos j h, agree.sin j h, same j h) refl))

    quadrature-moved : (c d : ℕ → ℤ) → ((j : ℕ) → j < to - from → c (from + j) ≡ d j)
        → quadrature_sum x r.cos r.sin c from to
        ≡ quadrature_sum (λ j. x (from + j)) s.cos s.sin d 0 (to - from)
    unfolding quadrature_sum
    quadrature-moved c d same =
        let many : to - from - 0 ≡ to - from = omega arith in
        rw many (total-same
        (λ j. wiped_quadrature (x (from + j)) (r.cos (from + j)) (r.sin (from + j))
        *ℤ c (from + j))
        (λ j. wiped_quadrature (x (from + (0 + j))) (s.cos (0 + j)) (s.sin (0 + j)) *ℤ d (0 + j))
        (to - from)
        (λ j h. let z : 0 + j ≡ j = omega arith in
        rw (z, agree.cos j h, agree.sin j h, same j h) refl))

    six_sums-moved : six_sums x r from to ≡ six_sums (λ j. x (from + j)) s 0 (to - from)
    unfolding six_sums
    six_sums-moved = rw (
      in_phase-moved r.early s.early agree.early,
      quadrature-moved r.early s.early agree.early,
      in_phase-moved r.prompt s.prompt agree.prompt,
      quadrature-moved r.prompt s.prompt agree.prompt,
      in_phase-moved r.late s.late agree.late,
      quadrature-moved r.late s.late agree.late,
    ) refl

-- the sums with the replica of a run are those with the replica of the sample that it begins at
pub sums_from : (x : ℕ → Sample) (prn from to : ℕ) (p q : Phases) → q.carrier_step ≡ p.carrier_step
    → q.code_step ≡ p.code_step
    → carrier_phase_after p.carrier p.carrier_step (from % 64) ≡ q.carrier
    → code_phase_after p.code p.code_step (from % 64) ≡ q.code
    → six_sums x (placed prn p (64 * (from / 64))) from to
    ≡ six_sums (λ j. x (from + j)) (replica_of prn q) 0 (to - from)
unfolding placed
sums_from x prn from to p q same same' at at' =
    six_sums-moved x from to (placed prn p (64 * (from / 64))) (replica_of prn q) (record {
      cos = λ j h. ap cosine (on_carrier j);
      sin = λ j h. ap sine (on_carrier j);
      early = λ j h. ap (early_sign prn) (on_code j);
      prompt = λ j h. ap (prompt_sign prn) (on_code j);
      late = λ j h. ap (late_sign prn) (on_code j);
    })
  where
    place : (j : ℕ) → from + j - 64 * (from / 64) ≡ from % 64 + j
    place j = omega arith

    on_carrier : (j : ℕ) → carrier_phase_after p.carrier p.carrier_step
        (from + j - 64 * (from / 64)) ≡ carrier_phase_after q.carrier q.carrier_step j
    on_carrier j = ap (carrier_phase_after p.carrier p.carrier_step) (place j)
        ∙ sym (ap (λ (s : ℕ). carrier_phase_after q.carrier s j) same
        ∙ carrier_behind p.carrier p.carrier_step (from % 64) j q.carrier (sym at))

    on_code : (j : ℕ) → code_phase_after p.code p.code_step (from + j - 64 * (from / 64))
        ≡ code_phase_after q.code q.code_step j
    on_code j = ap (code_phase_after p.code p.code_step) (place j)
        ∙ sym (ap (λ (s : ℕ). code_phase_after q.code s j) same'
        ∙ code_behind p.code p.code_step (from % 64) j q.code (sym at'))
