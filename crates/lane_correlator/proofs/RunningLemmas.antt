-- Running sums of the bytes of a word.
use Rattle.std.proofs.Common.{◌≡◌, ℕ, zero, suc, ◌+◌, ◌-◌, ◌*◌, ◌/◌, ◌%◌, ◌<◌, ◌≤◌, refl, sym, ap}
use Rattle.std.proofs.Common.{◌∙◌, arith, inl, inr, List, length, get_or, w8, map}
use Rattle.std.proofs.Common.{◌++◌}
use Rattle.std.specs.Prelude.{bit_and, leb, min, true, false}
use Rattle.std.specs.List.{range_with_len}
use Rattle.std.specs.Int.Bits.{and_zero_r}
use Rattle.std.specs.Simd.Lanes.{zip2}
use Rattle.std.proofs.lemmas.Bool.{cases_lt}
use Rattle.std.proofs.lemmas.Bool.Decides.{leb_tells}
use Rattle.std.proofs.lemmas.List.{get_or-map, get_or_append_left}
use Rattle.std.proofs.lemmas.List.FromFn.{get_or-map-range_with_len}
use Rattle.std.proofs.lemmas.Nat.{and_mask}
use Rattle.std.proofs.lemmas.Simd.{get_or-zip2, length-zip2, length-swz_l, swz_l}
use Rattle.std.proofs.lemmas.Simd.{get_or-swz_l_below}
use Rattle.bit_planes.specs.ByteLanes.{place_in}
use Rattle.lane_correlator.specs.RunningSums.{byte_sum, AreNumbersOn, AreMasksOn, last, AreLastSums}
use Rattle.lane_correlator.specs.RunningSums.{AreWholeSums, AreSumsBefore, AreRunningSums}
use Rattle.lane_correlator.specs.declared.running_sums.TheConstants.{SIXTEEN_ON}

-- ---- sums that follow one another

pub byte_sum-split : (bytes : List ℕ) (from p q : ℕ)
    → byte_sum bytes from (p + q) ≡ byte_sum bytes from p + byte_sum bytes (from + p) q
unfolding byte_sum
byte_sum-split bytes from p zero = let e : p + 0 ≡ p = omega arith in rw e (omega arith)
byte_sum-split bytes from p (suc q) =
    let e : p + suc q ≡ suc (p + q) = omega arith in
    let at : from + (p + q) ≡ from + p + q = omega arith in
    rw (e, byte_sum-split bytes from p q, at) (omega arith)

pub joined : (bytes : List ℕ) (from p q a b : ℕ) → a ≡ byte_sum bytes from p % 256
    → b ≡ byte_sum bytes (from + p) q % 256
    → (a + b) % 256 ≡ byte_sum bytes from (p + q) % 256
joined bytes from p q a b is_a is_b =
    omega (arith, is_a, is_b, byte_sum-split bytes from p q)

-- ---- sums over twice as many places

module _ (bytes sums further : List ℕ) (n : ℕ) (are : AreLastSums n bytes sums)
    (none : (j : ℕ) → j < 64 → j % 16 < n → place_in further j ≡ 0)
    (some : (j : ℕ) → j < 64 → n ≤ j % 16 → place_in further j ≡ place_in sums (j - n) % 256) where
  pub more_places : (j : ℕ) → j < 64 → (place_in sums j + place_in further j) % 256
      ≡ byte_sum bytes (j + 1 - last (n + n) j) (last (n + n) j) % 256
  more_places j h = elim (cases_lt (j % 16) n) [
    | inl all ↦
        let same : last (n + n) j ≡ last n j = omega (arith, all) in
        let here : place_in sums j ≡ byte_sum bytes (j + 1 - last n j) (last n j) % 256 =
        are j h in
        rw (same, none j h all) (omega (arith, here))
    | inr reach ↦
        let m : ℕ = last n (j - n) in
        let rest : (j - n) % 16 ≡ j % 16 - n = omega (arith, reach) in
        let here : last n j ≡ n = omega (arith, reach) in
        let both : last (n + n) j ≡ m + n = omega (arith, reach, rest) in
        let from : j - n + 1 - m ≡ j + 1 - (m + n) = omega (arith, reach, rest) in
        let next : j + 1 - (m + n) + m ≡ j + 1 - n = omega (arith, reach, rest) in
        let before : place_in further j ≡ byte_sum bytes (j + 1 - (m + n)) m % 256 =
        some j h reach ∙ rw (are (j - n) (omega (arith, h)), from) (omega arith) in
        let after : place_in sums j ≡ byte_sum bytes (j + 1 - (m + n) + m) n % 256 =
        rw next (rw here at (are j h)) in
        let turned : place_in sums j + place_in further j ≡ place_in further j + place_in sums j =
        omega arith in
        rw (both, turned) (joined bytes (j + 1 - (m + n)) m n (place_in further j)
        (place_in sums j) before after)
  ]

-- ---- the lanes of two vectors, added up

abbrev pub sums_of : List ℕ → List ℕ → List ℕ
sums_of xs ys = zip2 (λ (a b : ℕ). (a + b) % 256) xs ys

pub sums_long : (xs ys : List ℕ) → length xs ≡ 64 → length ys ≡ 64 → length (sums_of xs ys) ≡ 64
sums_long xs ys hx hy = length-zip2 (λ (a b : ℕ). (a + b) % 256) xs ys (hx ∙ sym hy) ∙ hx

pub sum_at : (xs ys : List ℕ) (j : ℕ) → length xs ≡ 64 → length ys ≡ 64 → j < 64
    → place_in (sums_of xs ys) j ≡ (place_in xs j + place_in ys j) % 256
sum_at xs ys j hx hy h = get_or-zip2 (λ (a b : ℕ). (a + b) % 256) xs ys (63 - j) 0 0 0
    (omega (arith, hx)) (omega (arith, hy))

pub masked_at : (xs ys : List ℕ) (j : ℕ) → length xs ≡ 64 → length ys ≡ 64 → j < 64
    → place_in (zip2 bit_and xs ys) j ≡ bit_and (place_in xs j) (place_in ys j)
masked_at xs ys j hx hy h = get_or-zip2 bit_and xs ys (63 - j) 0 0 0
    (omega (arith, hx)) (omega (arith, hy))

-- ---- lanes n further on in their sixteen

pub doubled_long : (sums on have : List ℕ) → length sums ≡ 64 → length on ≡ 64 → length have ≡ 64
    → length (sums_of sums (zip2 bit_and (swz_l w8 16 sums 0 on) have)) ≡ 64
doubled_long sums on have ls lo lh =
    let long : length (swz_l w8 16 sums 0 on) ≡ 64 = length-swz_l w8 16 sums 0 on ∙ lo in
    sums_long sums (zip2 bit_and (swz_l w8 16 sums 0 on) have) ls
    (length-zip2 bit_and (swz_l w8 16 sums 0 on) have (long ∙ sym lh) ∙ long)

module _ (sums on have : List ℕ) (n : ℕ) (ls : length sums ≡ 64) (lo : length on ≡ 64)
    (lh : length have ≡ 64) (numbers : AreNumbersOn n on) (masks : AreMasksOn n have) where
  long : length (swz_l w8 16 sums 0 on) ≡ 64
  long = length-swz_l w8 16 sums 0 on ∙ lo

  pub none_on : (j : ℕ) → j < 64 → j % 16 < n
      → place_in (zip2 bit_and (swz_l w8 16 sums 0 on) have) j ≡ 0
  none_on j h none = elim (leb_tells ((63 - j) % 16 + n) 15) [
    | inl y ↦ let less : (63 - j) % 16 + n ≤ 15 = y.1 in absurd (omega (arith, less, none))
    | inr z ↦ let e : leb ((63 - j) % 16 + n) 15 ≡ false = z.0 in
        let mask : place_in have j ≡ 0 = masks (63 - j) (omega arith) ∙ rw e refl in
        masked_at (swz_l w8 16 sums 0 on) have j long lh h
        ∙ rw (mask, and_zero_r (place_in (swz_l w8 16 sums 0 on) j)) refl
  ]

  pub some_on : (j : ℕ) → j < 64 → n ≤ j % 16
      → place_in (zip2 bit_and (swz_l w8 16 sums 0 on) have) j ≡ place_in sums (j - n) % 256
  some_on j h some = elim (leb_tells ((63 - j) % 16 + n) 15) [
    | inl y ↦ let e : leb ((63 - j) % 16 + n) 15 ≡ true = y.0 in
        let k : ℕ = 63 - j in
        let mask : place_in have j ≡ 255 = masks (63 - j) (omega arith) ∙ rw e refl in
        let number : get_or on (63 - j) 0 ≡ (63 - j) % 16 + n =
        numbers (63 - j) (omega arith) ∙ omega (arith, some) in
        let at : 16 * ((0 + (63 - j)) / 16) + ((63 - j) % 16 + n) ≡ 63 - (j - n) =
        omega (arith, some) in
        let found : place_in (swz_l w8 16 sums 0 on) j ≡ place_in sums (j - n) =
        get_or-swz_l_below w8 16 sums 0 on (63 - j) (omega (arith, lo))
        (omega (arith, number, some))
        ∙ rw (number, at) refl in
        masked_at (swz_l w8 16 sums 0 on) have j long lh h
        ∙ rw (mask, found) (and_mask (place_in sums (j - n)) 8)
    | inr z ↦ let more : 15 < (63 - j) % 16 + n = z.1 in absurd (omega (arith, more, some))
  ]

  pub doubled_sums : (bytes : List ℕ) → AreLastSums n bytes sums
      → AreLastSums (n + n) bytes
      (sums_of sums (zip2 bit_and (swz_l w8 16 sums 0 on) have))
  doubled_sums bytes are j h =
      sum_at sums (zip2 bit_and (swz_l w8 16 sums 0 on) have) j ls
      (length-zip2 bit_and (swz_l w8 16 sums 0 on) have (long ∙ sym lh) ∙ long) h
      ∙ more_places bytes sums (zip2 bit_and (swz_l w8 16 sums 0 on) have) n are none_on some_on j h

-- ---- tables of numbers and masks

-- a table by what it has at each lane
pub by_table : (f : ℕ → ℕ) (table : List ℕ)
    → map (λ (k : ℕ). get_or table k 0) (range_with_len 0 64) ≡ map f (range_with_len 0 64)
    → (k : ℕ) → k < 64 → get_or table k 0 ≡ f k
by_table f table same k h =
    sym (get_or-map-range_with_len (λ (k : ℕ). get_or table k 0) 0 64 k k 0 h (omega arith))
    ∙ ap (λ (l : List ℕ). get_or l k 0) same
    ∙ get_or-map-range_with_len f 0 64 k k 0 h (omega arith)

-- single bytes are sums over one place
pub single : (bytes : List ℕ) → ((j : ℕ) → j < 64 → place_in bytes j < 256)
    → AreLastSums 1 bytes bytes
unfolding byte_sum
single bytes below j h =
    let one : last 1 j ≡ suc zero = omega arith in
    let from : j + 1 - suc zero + zero ≡ j = omega arith in
    rw (one, from) (omega (arith, below j h))

-- ---- sixteens before

place_on : (k : ℕ) → k < 48 → get_or SIXTEEN_ON k 0 ≡ k + 16
place_on k h =
    by_table (λ (k : ℕ). (k + 16) % 64) SIXTEEN_ON refl k (omega (arith, h)) ∙ omega (arith, h)

module _ (bytes mask : List ℕ) (lb : length bytes ≡ 64) (lm : length mask ≡ 64)
    (inside : (j : ℕ) → 16 ≤ j → j < 64 → place_in mask j ≡ 255)
    (before : (j : ℕ) → j < 16 → j < 64 → place_in mask j ≡ 0) where
  abbrev pub moved : List ℕ
  moved = map (λ (p : ℕ). get_or (bytes ++ bytes) p 0) SIXTEEN_ON

  moved_long : length moved ≡ 64
  moved_long = refl

  pub before_long : length (zip2 bit_and moved mask) ≡ 64
  before_long = length-zip2 bit_and moved mask (moved_long ∙ sym lm) ∙ moved_long

  pub before_first : (j : ℕ) → j < 16 → place_in (zip2 bit_and moved mask) j ≡ 0
  before_first j h =
      masked_at moved mask j moved_long lm (omega (arith, h))
      ∙ rw (before j h (omega (arith, h)), and_zero_r (place_in moved j)) refl

  pub before_others : (j : ℕ) → 16 ≤ j → j < 64
      → place_in (zip2 bit_and moved mask) j ≡ place_in bytes (j - 16) % 256
  before_others j from h =
      let many : length SIXTEEN_ON ≡ 64 = refl in
      let at : 63 - j + 16 ≡ 63 - (j - 16) = omega (arith, from) in
      let found : place_in moved j ≡ place_in bytes (j - 16) =
      get_or-map (λ (p : ℕ). get_or (bytes ++ bytes) p 0) SIXTEEN_ON (63 - j) 0 0
      (omega (arith, many))
      ∙ rw (place_on (63 - j) (omega (arith, from)), at)
      (get_or_append_left bytes bytes 0 (63 - (j - 16)) (omega (arith, lb))) in
      masked_at moved mask j moved_long lm h
      ∙ rw (inside j from h, found) (and_mask (place_in bytes (j - 16)) 8)

-- sums over n sixteens before a place, and one more of them
pub one_before_more : (n : ℕ) (bytes whole sums moved : List ℕ) → length whole ≡ 64
    → length sums ≡ 64 → AreWholeSums bytes whole → AreSumsBefore n bytes sums
    → ((j : ℕ) → j < 16 → place_in moved j ≡ 0)
    → ((j : ℕ) → 16 ≤ j → j < 64 → place_in moved j
    ≡ place_in (sums_of whole sums) (j - 16) % 256)
    → AreSumsBefore (n + 1) bytes moved
unfolding byte_sum
one_before_more n bytes whole sums moved lw ls are_whole are first others j h =
    elim (cases_lt j 16) [
      | inl none ↦
          let zeroth : 16 * min (n + 1) (j / 16) ≡ zero = omega (arith, none) in
          rw zeroth (first j none)
      | inr from ↦
          let i : ℕ = j - 16 in
          let m : ℕ = 16 * min n (i / 16) in
          let start : ℕ = 16 * (i / 16 - n) in
          let begin : 16 * (j / 16 - (n + 1)) ≡ start = omega (arith, from) in
          let many : 16 * min (n + 1) (j / 16) ≡ m + 16 = omega (arith, from) in
          let next : start + m ≡ 16 * (i / 16) = omega (arith, from) in
          let after : place_in whole i ≡ byte_sum bytes (start + m) 16 % 256 =
          rw next (are_whole i (omega (arith, h))) in
          let turned : place_in whole i + place_in sums i ≡ place_in sums i + place_in whole i =
          omega arith in
          others j from h
          ∙ rw (sum_at whole sums i lw ls (omega (arith, h)), turned, begin, many)
          (twice (place_in sums i + place_in whole i)
          ∙ joined bytes start m 16 (place_in sums i) (place_in whole i)
          (are i (omega (arith, h))) after)
    ]
  where
    twice : (a : ℕ) → a % 256 % 256 ≡ a % 256
    twice a = omega arith

-- the first: nothing and one sixteen
pub first_before : (bytes whole moved : List ℕ) → AreWholeSums bytes whole
    → ((j : ℕ) → j < 16 → place_in moved j ≡ 0)
    → ((j : ℕ) → 16 ≤ j → j < 64 → place_in moved j ≡ place_in whole (j - 16) % 256)
    → AreSumsBefore 1 bytes moved
unfolding byte_sum
first_before bytes whole moved are first others j h =
    elim (cases_lt j 16) [
      | inl none ↦
          let zeroth : 16 * min 1 (j / 16) ≡ zero = omega (arith, none) in
          rw zeroth (first j none)
      | inr from ↦
          let begin : 16 * (j / 16 - 1) ≡ 16 * ((j - 16) / 16) = omega (arith, from) in
          let many : 16 * min 1 (j / 16) ≡ 16 = omega (arith, from) in
          others j from h
          ∙ rw (begin, many, are (j - 16) (omega (arith, h)))
          (twice (byte_sum bytes (16 * ((j - 16) / 16)) 16))
    ]
  where
    twice : (a : ℕ) → a % 256 % 256 ≡ a % 256
    twice a = omega arith

-- ---- all places before

pub whole_sums : (bytes sums zeros : List ℕ) → length zeros ≡ 64
    → ((k : ℕ) → k < 64 → get_or zeros k 0 ≡ 0) → AreLastSums 16 bytes sums
    → AreWholeSums bytes (swz_l w8 16 sums 0 zeros)
whole_sums bytes sums zeros long zero_at are j h =
    let none : get_or zeros (63 - j) 0 ≡ 0 = zero_at (63 - j) (omega arith) in
    let at : 16 * ((0 + (63 - j)) / 16) + 0 ≡ 63 - (16 * (j / 16) + 15) = omega (arith, h) in
    let all : last 16 (16 * (j / 16) + 15) ≡ 16 = omega arith in
    let from : 16 * (j / 16) + 15 + 1 - 16 ≡ 16 * (j / 16) = omega arith in
    get_or-swz_l_below w8 16 sums 0 zeros (63 - j) (omega (arith, long)) (omega (arith, none))
    ∙ rw (none, at) (rw (all, from) at (are (16 * (j / 16) + 15) (omega (arith, h))))

pub running : (bytes sums before : List ℕ) → length sums ≡ 64 → length before ≡ 64
    → AreLastSums 16 bytes sums → AreSumsBefore 3 bytes before
    → AreRunningSums bytes (sums_of sums before)
running bytes sums before ls lb are are_before j h =
    let none : 16 * (j / 16 - 3) ≡ 0 = omega (arith, h) in
    let many : 16 * min 3 (j / 16) ≡ 16 * (j / 16) = omega (arith, h) in
    let here : last 16 j ≡ j % 16 + 1 = omega arith in
    let from : j + 1 - (j % 16 + 1) ≡ 0 + 16 * (j / 16) = omega arith in
    let all : j + 1 ≡ 16 * (j / 16) + (j % 16 + 1) = omega arith in
    let turned : place_in sums j + place_in before j ≡ place_in before j + place_in sums j =
    omega arith in
    let low : place_in before j ≡ byte_sum bytes 0 (16 * (j / 16)) % 256 =
    rw (none, many) at (are_before j h) in
    let high : place_in sums j ≡ byte_sum bytes (0 + 16 * (j / 16)) (j % 16 + 1) % 256 =
    rw (here, from) at (are j h) in
    sum_at sums before j ls lb h
    ∙ rw (turned, all) (joined bytes 0 (16 * (j / 16)) (j % 16 + 1) (place_in before j)
    (place_in sums j) low high)
