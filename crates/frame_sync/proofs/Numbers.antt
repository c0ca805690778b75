-- The numbers that bits write, and those of some of them.
use Rattle.std.proofs.Common.{◌≡◌, ℕ, suc, ◌+◌, ◌-◌, ◌*◌, ◌/◌, ◌%◌, ◌^◌, ◌<◌, List, [], ◌∷◌, ◌++◌}
use Rattle.std.proofs.Common.{length, take, drop, map, refl, sym, ap, ◌∙◌, arith, length-append}
use Rattle.std.proofs.Common.{length-drop}
use Rattle.std.specs.Prelude.{Bool, true, false}
use Rattle.std.specs.Int.Digits.{number_from_digits, number_from_digits_after, AllBelowBase}
use Rattle.std.proofs.lemmas.Int.Digits.{number_push, number_after_append, number_lt}
use Rattle.std.proofs.lemmas.Nat.{shr_high, mod_low, pow-add}
use Rattle.std.proofs.lemmas.List.{map-append, take-append-drop, length-take-le}
use Rattle.std.proofs.Math.Nat.{pow-suc}
use Rattle.definitions.specs.Frames.{bit_number, number_at}
use Rattle.frame_sync.specs.Bits.{number_of}

length-map-bits : (bits : List Bool) → length (map bit_number bits) ≡ length bits
length-map-bits [] = refl
length-map-bits (b ∷ bits) = ap (λ n. suc n) (length-map-bits bits)

are_binary : (bits : List Bool) → AllBelowBase 2 (map bit_number bits)
are_binary [] = tt
are_binary (true ∷ bits) = (omega arith, are_binary bits)
are_binary (false ∷ bits) = (omega arith, are_binary bits)

pub number_of-lt : (bits : List Bool) → number_of bits < 2 ^ length bits
unfolding number_of
number_of-lt bits = rw length-map-bits at (number_lt 2 (map bit_number bits) (are_binary bits))

-- one more bit
pub number_of-push : (bits : List Bool) (bit : Bool)
    → number_of (bits ++ bit ∷ []) ≡ number_of bits * 2 + bit_number bit
unfolding number_of
number_of-push bits bit =
    rw (map-append bit_number bits (bit ∷ []))
    (number_push 2 (map bit_number bits) (bit_number bit))

number_after-is : (n : ℕ) (ds : List ℕ)
    → number_from_digits_after 2 n ds ≡ n * 2 ^ length ds + number_from_digits_after 2 0 ds
number_after-is n [] = omega arith
number_after-is n (d ∷ ds) =
    let here : number_from_digits_after 2 (n * 2 + d) ds
    ≡ (n * 2 + d) * 2 ^ length ds + number_from_digits_after 2 0 ds =
    number_after-is (n * 2 + d) ds in
    let there : number_from_digits_after 2 (0 * 2 + d) ds
    ≡ (0 * 2 + d) * 2 ^ length ds + number_from_digits_after 2 0 ds =
    number_after-is (0 * 2 + d) ds in
    let power : 2 ^ suc (length ds) ≡ 2 ^ length ds * 2 = pow-suc 2 (length ds) in
    here ∙ together n d (2 ^ length ds) (2 ^ suc (length ds)) (number_from_digits_after 2 0 ds)
    (number_from_digits_after 2 (0 * 2 + d) ds) power there
  where
    together : (n d p q rest after : ℕ) → q ≡ p * 2 → after ≡ (0 * 2 + d) * p + rest
        → (n * 2 + d) * p + rest ≡ n * q + after
    together n d p q rest after e f = grind (arith, e, f)

-- some bits, and then others
pub number_of-append : (bits more : List Bool)
    → number_of (bits ++ more) ≡ number_of bits * 2 ^ length more + number_of more
unfolding number_of
number_of-append bits more =
    rw (
      map-append bit_number bits more,
      number_after_append 2 0 (map bit_number bits) (map bit_number more),
      number_after-is (number_from_digits 2 (map bit_number bits)) (map bit_number more),
      length-map-bits more,
    ) refl

-- what stands between the bits before and those after
between : (before some behind : List Bool)
    → number_of (before ++ (some ++ behind)) / 2 ^ length behind % 2 ^ length some ≡ number_of some
between before some behind =
    let all : number_of (before ++ (some ++ behind))
    ≡ (number_of before * 2 ^ length some + number_of some) * 2 ^ length behind + number_of
    behind =
    number_of-append before (some ++ behind)
    ∙ joined (number_of before) (length some) (length behind) (number_of some)
    (number_of behind) (number_of (some ++ behind)) (length (some ++ behind))
    (number_of-append some behind) (length-append some behind) in
    rw (
      all,
      shr_high (number_of before * 2 ^ length some + number_of some) (length behind)
          (number_of behind) (number_of-lt behind),
    )
    (mod_low (number_of before) (length some) (number_of some) (number_of-lt some))
  where
    spread : (b p q s r : ℕ) → b * (p * q) + (s * q + r) ≡ (b * p + s) * q + r
    spread b p q s r = grind arith

    joined : (b i j s r both k : ℕ) → both ≡ s * 2 ^ j + r → k ≡ i + j
        → b * 2 ^ k + both ≡ (b * 2 ^ i + s) * 2 ^ j + r
    joined b i j s r both k e f = rw (e, f, pow-add 2 i j) (spread b (2 ^ i) (2 ^ j) s r)

the_number : (bits : List Bool) → number_of bits ≡ number_from_digits 2 (map bit_number bits)
unfolding number_of
the_number bits = refl

-- the number at a place, by how many bits come after it
pub number_at-is : (bits : List Bool) (n count behind : ℕ) → length bits ≡ n + count + behind
    → number_at bits n count ≡ number_of bits / 2 ^ behind % 2 ^ count
number_at-is bits n count behind long =
    let some : List Bool = take (n + count - n) (drop n bits) in
    let rest : List Bool = drop (n + count - n) (drop n bits) in
    let left : length (drop n bits) ≡ count + behind = omega (arith, length-drop n bits) in
    let cut : take n bits ++ (some ++ rest) ≡ bits =
    ap (λ bs. take n bits ++ bs) (take-append-drop (n + count - n) (drop n bits))
    ∙ take-append-drop n bits in
    let its : length some ≡ count =
    length-take-le (n + count - n) (drop n bits) (omega arith) ∙ sizes n count in
    let others : length rest ≡ behind = omega (arith, length-drop (n + count - n) (drop n bits)) in
    sym (the_number some) ∙ sym (rw (cut, its, others) at (between (take n bits) some rest))
  where
    sizes : (n count : ℕ) → n + count - n ≡ count
    sizes n count = omega arith
