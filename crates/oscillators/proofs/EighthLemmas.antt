-- The eighths of a cycle that 64 lanes find.
use Rattle.std.proofs.Common.{◌≡◌, ℕ, ◌+◌, ◌-◌, ◌/◌, ◌%◌, ◌^◌, ◌<◌, ◌≤◌, List, map, length}
use Rattle.std.proofs.Common.{get_or, refl, sym, ◌∙◌, arith, replicate, to_z, of_z, w16}
use Rattle.std.proofs.Common.{inl, inr, ap}
use Rattle.std.specs.Prelude.{cond, ltb}
use Rattle.std.specs.Simd.Lanes.{zip2}
use Rattle.std.proofs.lemmas.Simd.{get_or-zip2, length-zip2}
use Rattle.std.proofs.lemmas.List.{get_or-map, get_or-replicate, length-map}
use Rattle.oscillators.specs.Halves.{place, AreRooms}
use Rattle.oscillators.specs.Ways.{way_to}
use Rattle.oscillators.specs.Strides.{IsCarrierStrides}
use Rattle.oscillators.specs.declared.carrier_strides.CarrierStrides.{CarrierStrides}
use Rattle.oscillators.proofs.CarryLemmas.{carry_is, rooms_given}
use Rattle.oscillators.proofs.OrderLemmas.{place_below, place_back, ordered, ordered_lane}

-- a sum of lanes of sixteen bits
abbrev pub added : List ℕ → List ℕ → List ℕ
added xs ys = zip2 (λ (a b : ℕ). (a + b) % 65536) xs ys

added_long : (xs ys : List ℕ) → length xs ≡ 64 → length ys ≡ 64 → length (added xs ys) ≡ 64
added_long xs ys lx ly = length-zip2 (λ (a b : ℕ). (a + b) % 65536) xs ys (lx ∙ sym ly) ∙ lx

added_lane : (xs ys : List ℕ) (k : ℕ) → length xs ≡ 64 → length ys ≡ 64 → k < 64
    → get_or (added xs ys) k 0 ≡ (get_or xs k 0 + get_or ys k 0) % 65536
added_lane xs ys k lx ly h = get_or-zip2 (λ (a b : ℕ). (a + b) % 65536) xs ys k 0 0 0
    (omega (arith, lx)) (omega (arith, ly))

-- the upper halves of the phases, and the eighths that they begin with
abbrev pub highs : List ℕ → ℕ → List ℕ → List ℕ
highs high phase carried = added (added high (replicate 64 (phase / 65536))) carried

abbrev pub eighths_of : List ℕ → List ℕ
eighths_of xs = zip2 (λ (a b : ℕ). a / 2 ^ b) xs (replicate 64 13)

eighth_is : (phase way : ℕ) → phase < 4294967296
    → ((way % 4294967296 / 65536 + phase / 65536) % 65536
    + cond {A = ℕ} (ltb (65535 - way % 65536) (phase % 65536)) 1 0) % 65536 / 8192
    ≡ (phase + way) % 4294967296 / 536870912
eighth_is phase way small = elim (carry_is (65535 - way % 65536) (phase % 65536)) [
  | inl y ↦ rw (y.0) (let more : 65535 - way % 65536 < phase % 65536 = y.1 in omega arith)
  | inr n ↦ rw (n.0) (let less : phase % 65536 ≤ 65535 - way % 65536 = n.1 in omega arith)
]

module _ (phase : ℕ) (high carried : List ℕ) (lh : length high ≡ 64)
    (lc : length carried ≡ 64) where
  highs_long : length (highs high phase carried) ≡ 64
  highs_long = added_long (added high (replicate 64 (phase / 65536))) carried
      (added_long high (replicate 64 (phase / 65536)) lh refl) lc

  pub eighths_long : length (eighths_of (highs high phase carried)) ≡ 64
  eighths_long =
      length-zip2 (λ (a b : ℕ). a / 2 ^ b) (highs high phase carried) (replicate 64 13) highs_long
      ∙ highs_long

  eighth_lane : (k : ℕ) → k < 64 → get_or (eighths_of (highs high phase carried)) k 0
      ≡ ((get_or high k 0 + phase / 65536) % 65536 + get_or carried k 0) % 65536 / 8192
  eighth_lane k h =
      get_or-zip2 (λ (a b : ℕ). a / 2 ^ b) (highs high phase carried) (replicate 64 13) k 0 0 0
      (omega (arith, highs_long, h)) h
      ∙ rw (
        get_or-replicate {A = ℕ} 64 k 13 0 h,
        added_lane (added high (replicate 64 (phase / 65536))) carried k
            (added_long high (replicate 64 (phase / 65536)) lh refl) lc h,
        added_lane high (replicate 64 (phase / 65536)) k lh refl h,
        get_or-replicate {A = ℕ} 64 k (phase / 65536) 0 h,
      ) refl

  pub eighth_small : (k : ℕ) → k < 64 → get_or (eighths_of (highs high phase carried)) k 0 < 8
  eighth_small k h = rw (eighth_lane k h) (omega arith)

  pub eighth_found : (s : CarrierStrides) (step : ℕ) → high ≡ s.high → IsCarrierStrides step s
      → phase < 4294967296
      → ((k : ℕ) → k < 64 → get_or carried k 0
      ≡ cond (ltb (65535 - way_to step (place k) % 65536) (phase % 65536)) 1 0)
      → (k : ℕ) → k < 64
      → get_or (ordered (map (λ (n : ℕ). n) (eighths_of (highs high phase carried)))) k 0
      ≡ (phase + way_to step k) % 4294967296 / 536870912
  eighth_found s step is_high is small are k h =
      let p : ℕ = place k in
      let there : p < 64 = place_below k h in
      let lanes : List ℕ = eighths_of (highs high phase carried) in
      let upper : get_or high p 0 ≡ way_to step k % 4294967296 / 65536 =
      ap (λ (l : List ℕ). get_or l p 0) is_high ∙ is.high p there
      ∙ ap (λ (n : ℕ). way_to step n % 4294967296 / 65536) (place_back k h) in
      let lower : get_or carried p 0
      ≡ cond {A = ℕ} (ltb (65535 - way_to step k % 65536) (phase % 65536)) 1 0 =
      are p there
      ∙ ap (λ (n : ℕ). cond {A = ℕ} (ltb (65535 - way_to step n % 65536) (phase % 65536)) 1 0)
      (place_back k h) in
      ordered_lane (map (λ (n : ℕ). n) lanes) k (length-map lanes (λ (n : ℕ). n) ∙ eighths_long) h
      ∙ get_or-map (λ (n : ℕ). n) lanes p 0 0 (omega (arith, eighths_long, there))
      ∙ eighth_lane p there
      ∙ rw (upper, lower) (eighth_is phase (way_to step k) small)

-- the rooms of a carrier's lanes
pub rooms_of : (s : CarrierStrides) (step : ℕ) → length s.room ≡ 64 → IsCarrierStrides step s
    → AreRooms (λ k. 65535 - way_to step (place k) % 65536)
    (map (to_z w16) (map (of_z w16) s.room))
rooms_of s step long is =
    rooms_given (λ k. 65535 - way_to step (place k) % 65536) s.room long
    (record { below = λ k h. omega arith; lanes = is.room })
