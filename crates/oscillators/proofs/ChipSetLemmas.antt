-- The sets of chips of a code's strides.
use Rattle.std.proofs.Common.{◌≡◌, ℕ, zero, suc, ◌+◌, ◌-◌, ◌*◌, ◌/◌, ◌%◌, ◌^◌, ◌<◌, ◌≤◌, List}
use Rattle.std.proofs.Common.{length, get_or, refl, sym, ◌∙◌, arith, inl, inr, ap, [], ◌∷◌}
use Rattle.std.specs.Prelude.{cond, ltb, bit_xor, bit_and}
use Rattle.std.specs.Simd.Lanes.{zip2}
use Rattle.std.proofs.lemmas.Nat.{and_mask, xor_lt}
use Rattle.std.proofs.Math.Nat.{mod-eq_of_lt}
use Rattle.std.proofs.lemmas.Bool.{cases_lt, lt-ltb, le-ltb}
use Rattle.std.specs.Int.Bits.{xor_assoc, xor_self, xor_zero_r, xor_zero_l, and_zero_r}
use Rattle.oscillators.specs.Ways.{way_to, window_of, half_to, half_at, room_of}
use Rattle.oscillators.specs.ChipSets.{IsLong, IsSetOf, set_in}
use Rattle.oscillators.specs.declared.chip_set.ChipSet.{ChipSet}
use Rattle.oscillators.proofs.ChipLaneLemmas.{first_not_after, way_from_first}
use Rattle.oscillators.proofs.ChipLaneLemmas.{pair_long, pair_lane}

-- a window begins no later than the sample of its lane, and at most sixteen chips before
window_before : (step k : ℕ) → k < 64 → 2 * window_of step k ≤ way_to step k / 2 ^ 31
window_before step k h = omega (arith, first_not_after step k h)

pub half_few : (step k : ℕ) → k < 64 → step < 2 ^ 32 → half_to step k ≤ 32
half_few step k h short = omega (arith, way_from_first step 4294967295 k h (omega (arith, short)))

-- ---- how they are made

-- each of three sets
pub sets_are : (P : ℕ → ChipSet → Type 0) (first second third : ChipSet) (set : ℕ) → set < 3
    → P 0 first → P 1 second → P 2 third
    → P set (set_in (first ∷ second ∷ third ∷ []) set)
sets_are P first second third zero few a b c = a
sets_are P first second third (suc zero) few a b c = b
sets_are P first second third (suc (suc zero)) few a b c = c
sets_are P first second third (suc (suc (suc n))) few a b c = absurd (omega (arith, few))

-- what makes of a set another
pub turn_is : (here next : List ℕ) (k a b : ℕ) → length here ≡ 64 → length next ≡ 64 → k < 64
    → get_or here k 0 ≡ a → get_or next k 0 ≡ b
    → get_or (zip2 bit_xor here next) k 0 ≡ bit_xor a b
turn_is here next k a b lh ln h ea eb = pair_lane bit_xor here next k lh ln h ∙ rw (ea, eb) refl

-- ---- what they give

-- lanes, and where a mask is 255 what others make of them
abbrev pub turned : List ℕ → List ℕ → List ℕ → List ℕ
turned lanes turns mask = zip2 bit_xor lanes (zip2 bit_and turns mask)

pub turned_long : (lanes turns mask : List ℕ) → length lanes ≡ 64 → length turns ≡ 64
    → length mask ≡ 64 → length (turned lanes turns mask) ≡ 64
turned_long lanes turns mask ll lt lm =
    pair_long bit_xor lanes (zip2 bit_and turns mask) ll (pair_long bit_and turns mask lt lm)

by_mask : (half more : ℕ) → half < 256 → more < 2
    → bit_xor ((half + 1) / 2) (bit_and (bit_xor ((half + 1) / 2) (half / 2)) (255 * (1 - more)))
    ≡ (half + more) / 2
by_mask half zero small few =
    let a : ℕ = (half + 1) / 2 in
    let b : ℕ = half / 2 in
    let low : bit_xor a b < 256 = xor_lt 8 a b (omega (arith, small)) (omega (arith, small)) in
    let whole : bit_and (bit_xor a b) 255 ≡ bit_xor a b =
    and_mask (bit_xor a b) 8 ∙ mod-eq_of_lt low in
    let back : bit_xor a (bit_xor a b) ≡ b =
    sym (xor_assoc a a b) ∙ ap (λ (n : ℕ). bit_xor n b) (xor_self a) ∙ xor_zero_l b in
    let same : half + 0 ≡ half = omega arith in
    rw (whole, back, same) refl
by_mask half (suc zero) small few =
    let a : ℕ = (half + 1) / 2 in
    rw (and_zero_r (bit_xor a (half / 2))) (xor_zero_r a)
by_mask half (suc (suc more)) small few = absurd (omega (arith, few))

pub kept_found : (c : ChipSet) (half k more : ℕ) (mask : List ℕ) → IsLong c
    → length mask ≡ 64 → k < 64 → half < 256 → more < 2 → IsSetOf half k c
    → get_or mask k 0 ≡ 255 * (1 - more)
    → get_or (turned c.further c.turns mask) k 0 ≡ (half + more) / 2
kept_found c half k more mask long lm h small few is masked =
    pair_lane bit_xor c.further (zip2 bit_and c.turns mask) k long.further
    (pair_long bit_and c.turns mask long.turns lm) h
    ∙ rw (pair_lane bit_and c.turns mask k long.turns lm h, is.further, is.turn, masked)
    (by_mask half more small few)

-- ---- half chips

-- the half chip that a lane's sample lies in
pub record IsMoved (part step k mask : ℕ) : Type 0 where
  pub more : ℕ
  pub few : more < 2
  pub masked : mask ≡ 255 * (1 - more)
  pub half : half_to step k + part / 2147483648 + more ≡ half_at part step k

pub moved : (part step k mask : ℕ) → k < 64
    → mask ≡ cond (ltb (room_of step k) (part % 2147483648)) 0 255
    → IsMoved part step k mask
moved part step k mask h masked =
    let before : 2 * window_of step k ≤ way_to step k / 2 ^ 31 = window_before step k h in
    elim (cases_lt (room_of step k) (part % 2147483648)) [
      | inl past ↦ record {
        more = 1;
        few = omega arith;
        masked = masked ∙ rw (lt-ltb (room_of step k) (part % 2147483648) past) refl;
        half = omega (arith, past, before);
      }
      | inr not ↦ record {
        more = 0;
        few = omega arith;
        masked = masked ∙ rw (le-ltb (room_of step k) (part % 2147483648) not) refl;
        half = omega (arith, not, before);
      }
    ]
