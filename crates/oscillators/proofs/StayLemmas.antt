-- Which lanes of a code don't lie in one half chip more.
use Rattle.std.proofs.Common.{◌≡◌, ℕ, zero, suc, ◌+◌, ◌-◌, ◌*◌, ◌/◌, ◌%◌, ◌<◌, ◌≤◌, List, map}
use Rattle.std.proofs.Common.{length, get_or, refl, sym, ◌∙◌, arith, pos, inl, inr, ap, ℤ}
use Rattle.std.proofs.Common.{w16, to_z, of_z}
use Rattle.std.proofs.Common.{Bool, true, false, FitsSigned, rules}
use Rattle.std.specs.Prelude.{cond, ltb, not, ◌-ℤ◌}
use Rattle.std.specs.Int.Signed.{lt_z}
use Rattle.std.specs.Simd.Lanes.{zip2}
use Rattle.std.proofs.lemmas.Simd.{get_or-zip2, length-zip2}
use Rattle.std.proofs.lemmas.Int.{to_z_pos, to_z-of_z, ints}
use Rattle.std.proofs.lemmas.List.{get_or-map, length-map}
use Rattle.std.proofs.lemmas.Bool.{cases_lt, lt-ltb, le-ltb}
use Rattle.oscillators.specs.Halves.{place, AreRooms}
use Rattle.oscillators.specs.Ways.{room_of}
use Rattle.oscillators.specs.Strides.{IsCodeStrides}
use Rattle.oscillators.specs.declared.code_strides.CodeStrides.{CodeStrides}
use Rattle.oscillators.proofs.OrderLemmas.{place_below, place_back, ordered, ordered_lane}
use Rattle.oscillators.proofs.CarryLemmas.{below, marked_over, marked_over_long, marked_over_lane}
use Rattle.oscillators.proofs.CarryLemmas.{rooms_given}

-- two comparisons that come out alike
same_test : (a b x y : ℕ) → (a < b → x < y) → (b ≤ a → y ≤ x) → ltb a b ≡ ltb x y
same_test a b x y less not = elim (cases_lt a b) [
  | inl h ↦ lt-ltb a b h ∙ sym (lt-ltb x y (less h))
  | inr h ↦ le-ltb a b h ∙ sym (le-ltb x y (not h))
]

unsigned : (a b : ℕ) → a < 32768 → b < 32768 → below a b ≡ ltb a b
unsigned a b ha hb = rw (to_z_pos w16 a ha, to_z_pos w16 b hb) refl

-- what the lower halves carry is taken from the upper half of the room
less_by_halves : (h l ph pl : ℕ) → h < 32768 → l < 65536 → ph < 32768 → pl < 65536
    → below ((h + (65536 - cond (ltb l pl) 1 0)) % 65536) ph
    ≡ ltb (65536 * h + l) (65536 * ph + pl)
less_by_halves h l ph pl hh hl hp hq = elim (cases_lt l pl) [
  | inl less ↦ rw (lt-ltb l pl less) (with_carry h hh less)
  | inr not ↦
      let is : (h + (65536 - 0)) % 65536 ≡ h = omega arith in
      rw (le-ltb l pl not, is) (unsigned h ph hh hp
      ∙ same_test h ph (65536 * h + l) (65536 * ph + pl) (λ e. omega arith) (λ e. omega arith))
]
  where
    with_carry : (h : ℕ) → h < 32768 → l < pl
        → below ((h + (65536 - 1)) % 65536) ph ≡ ltb (65536 * h + l) (65536 * ph + pl)
    with_carry zero small less =
        rw (to_z_pos w16 ph hp) (sym (lt-ltb (65536 * 0 + l) (65536 * ph + pl) (omega arith)))
    with_carry (suc n) small less =
        let is : (suc n + (65536 - 1)) % 65536 ≡ n = omega arith in
        rw is (unsigned n ph (omega arith) hp
        ∙ same_test n ph (65536 * suc n + l) (65536 * ph + pl) (λ e. omega arith)
        (λ e. omega arith))

-- a number that isn't below another is above the one before that
one_less : (p : ℕ) → p < 32768 → FitsSigned w16 (pos p -ℤ pos 1)
one_less p h = search rules

above_the_one_before : (a b : ℤ) → lt_z (b -ℤ pos 1) a ≡ not (lt_z a b)
above_the_one_before a b = grind (arith, ints)

not_below : (a p : ℕ) (z : ℤ) → p < 32768 → z ≡ pos p -ℤ pos 1
    → below (of_z w16 z) a ≡ not (below a p)
not_below a p z hp is =
    rw (is, to_z-of_z w16 (pos p -ℤ pos 1) (one_less p hp), to_z_pos w16 p hp)
    (above_the_one_before (to_z w16 a) (pos p))

other_way : (b : Bool) → cond {A = ℕ} (not b) 255 0 ≡ cond {A = ℕ} b 0 255
other_way true = refl
other_way false = refl

-- the upper halves of the room, less what is carried
abbrev pub left_of : List ℤ → List ℕ → List ℕ
left_of high carried =
    zip2 (λ (a b : ℕ). (a + (65536 - b)) % 65536) (map (of_z w16) high) (map (λ (n : ℕ). n) carried)

abbrev pub stays_of : ℤ → List ℤ → List ℕ → List ℕ
stays_of z high carried = marked_over 255 (of_z w16 z) (left_of high carried)

module _ (z : ℤ) (high : List ℤ) (carried : List ℕ) (lh : length high ≡ 64)
    (lc : length carried ≡ 64) where
  left_long : length (left_of high carried) ≡ 64
  left_long =
      let a : length (map (of_z w16) high) ≡ 64 = length-map high (of_z w16) ∙ lh in
      let b : length (map (λ (n : ℕ). n) carried) ≡ 64 = length-map carried (λ (n : ℕ). n) ∙ lc in
      length-zip2 (λ (a b : ℕ). (a + (65536 - b)) % 65536) (map (of_z w16) high)
      (map (λ (n : ℕ). n) carried) (a ∙ sym b) ∙ a

  pub stays_long : length (stays_of z high carried) ≡ 64
  stays_long = marked_over_long 255 (of_z w16 z) (left_of high carried) left_long

  pub stays_lane : (s : CodeStrides) (step part : ℕ) → high ≡ s.room_high → IsCodeStrides step s
      → part < 2147483648 → z ≡ pos (part / 65536) -ℤ pos 1
      → ((k : ℕ) → k < 64 → get_or carried k 0
      ≡ cond (ltb (room_of step (place k) % 65536) (part % 65536)) 1 0)
      → (k : ℕ) → k < 64
      → get_or (ordered (map (λ (n : ℕ). n) (stays_of z high carried))) k 0
      ≡ cond (ltb (room_of step k) part) 0 255
  stays_lane s step part is_high is small z_is are k h =
      let p : ℕ = place k in
      let there : p < 64 = place_below k h in
      let lanes : List ℕ = stays_of z high carried in
      let highs : List ℕ = map (of_z w16) high in
      let casts : List ℕ = map (λ (n : ℕ). n) carried in
      let long_high : length highs ≡ 64 = length-map high (of_z w16) ∙ lh in
      let long_casts : length casts ≡ 64 = length-map carried (λ (n : ℕ). n) ∙ lc in
      let upper : get_or high p (pos 0) ≡ pos (room_of step k / 65536) =
      ap (λ (l : List ℤ). get_or l p (pos 0)) is_high ∙ is.high p there
      ∙ ap (λ (n : ℕ). pos (room_of step n / 65536)) (place_back k h) in
      let lower : get_or carried p 0
      ≡ cond {A = ℕ} (ltb (room_of step k % 65536) (part % 65536)) 1 0 =
      are p there
      ∙ ap (λ (n : ℕ). cond {A = ℕ} (ltb (room_of step n % 65536) (part % 65536)) 1 0)
      (place_back k h) in
      let whole : 65536 * (part / 65536) + part % 65536 ≡ part = omega arith in
      let room : 65536 * (room_of step k / 65536) + room_of step k % 65536 ≡ room_of step k =
      omega arith in
      ordered_lane (map (λ (n : ℕ). n) lanes) k (length-map lanes (λ (n : ℕ). n) ∙ stays_long) h
      ∙ get_or-map (λ (n : ℕ). n) lanes p 0 0 (omega (arith, stays_long, there))
      ∙ marked_over_lane 255 (of_z w16 z) (left_of high carried) p left_long there
      ∙ rw (
        not_below (get_or (left_of high carried) p 0) (part / 65536) z (omega arith) z_is,
        get_or-zip2 (λ (a b : ℕ). (a + (65536 - b)) % 65536) highs casts p 0 0 0
            (omega (arith, long_high, there)) (omega (arith, long_casts, there)),
        get_or-map (of_z w16) high p (pos 0) 0 (omega (arith, lh, there)),
        get_or-map (λ (n : ℕ). n) carried p 0 0 (omega (arith, lc, there)),
        upper,
        lower,
        less_by_halves (room_of step k / 65536) (room_of step k % 65536) (part / 65536)
            (part % 65536) (omega arith) (omega arith) (omega arith) (omega arith),
        whole,
        room,
      ) (other_way (ltb (room_of step k) part))

-- the lower halves of the rooms of a code's lanes
pub rooms_of : (s : CodeStrides) (step : ℕ) → length s.room_low ≡ 64 → IsCodeStrides step s
    → AreRooms (λ k. room_of step (place k) % 65536) (map (to_z w16) (map (of_z w16) s.room_low))
rooms_of s step long is =
    rooms_given (λ k. room_of step (place k) % 65536) s.room_low long
    (record { below = λ k h. omega arith; lanes = is.low })
