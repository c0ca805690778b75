-- The last bytes of a ring that grows.
use Rattle.std.proofs.Common.{◌≡◌, ℕ, ◌+◌, ◌-◌, ◌*◌, ◌≤◌, List, [], ◌∷◌, ◌++◌, arith}
use Rattle.std.proofs.Common.{length, drop, refl, sym, ap, ◌∙◌, append_assoc, length-append}
use Rattle.std.specs.Prelude.{min}
use Rattle.std.proofs.lemmas.List.{drop-append-le, drop-drop, length-drop}
use Rattle.circular_buffer.specs.Buffer.{keep_last}
use Rattle.sample_history.specs.Shifts.{byte_from, bytes_from, byte_of_two}
use Rattle.sample_history.proofs.ShiftLemmas.{bytes_from-more, bytes_from-none}
use Rattle.sample_history.proofs.ShiftLemmas.{bytes_from-first, bytes_from-length}

kept_twice : (c : ℕ) (xs ys : List ℕ) → keep_last c (keep_last c xs ++ ys) ≡ keep_last c (xs ++ ys)
kept_twice c xs ys =
    let a : ℕ = length xs - c in
    let joined : drop a (xs ++ ys) ≡ drop a xs ++ ys = drop-append-le a xs ys (omega arith) in
    let place : a + (length (drop a (xs ++ ys)) - c) ≡ length (xs ++ ys) - c =
    rw (length-drop, length-append) (omega arith) in
    rw (← joined) (drop-drop (length (drop a (xs ++ ys)) - c) a (xs ++ ys)
    ∙ ap (λ (n : ℕ). drop n (xs ++ ys)) place)

pub kept-length : (c : ℕ) (xs : List ℕ) → length (keep_last c xs) ≡ length xs - (length xs - c)
kept-length c xs = length-drop (length xs - c) xs

-- none is full yet
pub grows-none : (ring : List ℕ) (head : ℕ) (bytes : List ℕ) (place : ℕ)
    → ring ++ head ∷ []
    ≡ drop (length ring + 0 - length ring) (ring ++ (head ∷ bytes_from bytes place 0))
grows-none ring head bytes place =
    let none : length ring + 0 - length ring ≡ 0 = omega arith in
    rw (none, bytes_from-none bytes place) refl

-- one is full, and n after it
pub grows : (c : ℕ) (ring : List ℕ) (head : ℕ) (bytes : List ℕ) (place n count : ℕ)
    (kept : List ℕ)
    → kept ≡ keep_last c (keep_last c (ring ++ head ∷ []) ++ bytes_from bytes place n)
    → count ≡ length ring + (n + 1) - length kept
    → length (bytes_from bytes place n) ≡ n
    → kept ++ byte_from bytes (place + 8 * n) ∷ []
    ≡ drop count (ring ++ (head ∷ bytes_from bytes place (n + 1)))
grows c ring head bytes place n count kept is_kept is_count long =
    let S : List ℕ = bytes_from bytes place n in
    let z : ℕ = byte_from bytes (place + 8 * n) in
    let all : List ℕ = (ring ++ head ∷ []) ++ S in
    let once : kept ≡ keep_last c all = is_kept ∙ kept_twice c (ring ++ head ∷ []) S in
    let size : length all ≡ length ring + 1 + n =
    rw (length-append, length-append, long) refl in
    let known : count ≡ length ring + (n + 1) - (length all - (length all - c)) =
    rw (once, length-drop) at is_count in
    let gone : length all - c ≡ count = omega (arith, known, size) in
    let behind : drop (length all - c) (all ++ z ∷ []) ≡ drop (length all - c) all ++ z ∷ [] =
    drop-append-le (length all - c) all (z ∷ []) (omega arith) in
    let order : all ++ z ∷ [] ≡ ring ++ (head ∷ bytes_from bytes place (n + 1)) =
    ap (λ (xs : List ℕ). xs ++ z ∷ []) (append_assoc ring (head ∷ []) S)
    ∙ append_assoc ring (head ∷ S) (z ∷ [])
    ∙ ap (λ (xs : List ℕ). ring ++ (head ∷ xs)) (sym (bytes_from-more bytes place n)) in
    ap (λ (xs : List ℕ). xs ++ z ∷ []) once ∙ sym behind
    ∙ ap (drop (length all - c)) order
    ∙ ap (λ (k : ℕ). drop k (ring ++ (head ∷ bytes_from bytes place (n + 1)))) gone

-- where no bit of the byte stays
pub grows-whole : (c : ℕ) (ring : List ℕ) (begun : ℕ) (bytes : List ℕ) (start n count : ℕ)
    (kept : List ℕ) → kept ≡ keep_last c (ring ++ bytes_from bytes start n)
    → count ≡ length ring + n - length kept
    → kept ++ byte_from bytes (start + 8 * n) ∷ []
    ≡ drop count (ring
    ++ (byte_of_two begun (byte_from bytes start) 0 ∷ bytes_from bytes (start + 8) n))
grows-whole c ring begun bytes start n count kept is_kept is_count =
    let S : List ℕ = bytes_from bytes start n in
    let z : ℕ = byte_from bytes (start + 8 * n) in
    let all : List ℕ = ring ++ S in
    let behind_all : List ℕ =
    ring ++ (byte_of_two begun (byte_from bytes start) 0 ∷ bytes_from bytes (start + 8) n) in
    let size : length all ≡ length ring + n =
    rw (length-append, bytes_from-length bytes start n) refl in
    let known : count ≡ length ring + n - (length all - (length all - c)) =
    rw (is_kept, length-drop) at is_count in
    let gone : length all - c ≡ count = omega (arith, known, size) in
    let behind : drop (length all - c) (all ++ z ∷ []) ≡ drop (length all - c) all ++ z ∷ [] =
    drop-append-le (length all - c) all (z ∷ []) (omega arith) in
    let order : all ++ z ∷ [] ≡ behind_all =
    append_assoc ring S (z ∷ [])
    ∙ ap (λ (xs : List ℕ). ring ++ xs) (bytes_from-first begun bytes start n) in
    ap (λ (xs : List ℕ). xs ++ z ∷ []) is_kept ∙ sym behind
    ∙ ap (drop (length all - c)) order ∙ ap (λ (k : ℕ). drop k behind_all) gone

pub grows_whole-count : (c : ℕ) (ring : List ℕ) (bytes : List ℕ) (start n : ℕ) (kept : List ℕ)
    → kept ≡ keep_last c (ring ++ bytes_from bytes start n) → length ring ≤ c
    → length kept ≡ min c (length ring + n)
grows_whole-count c ring bytes start n kept is_kept room =
    let all : length (ring ++ bytes_from bytes start n) ≡ length ring + n =
    rw (length-append, bytes_from-length bytes start n) refl in
    let left : length kept ≡ length (ring ++ bytes_from bytes start n)
    - (length (ring ++ bytes_from bytes start n) - c) =
    ap length is_kept ∙ kept-length c (ring ++ bytes_from bytes start n) in
    omega (arith, all, left, room)

pub grows-count : (c : ℕ) (ring : List ℕ) (head n : ℕ) (more kept : List ℕ)
    → kept ≡ keep_last c (keep_last c (ring ++ head ∷ []) ++ more) → length more ≡ n
    → length ring ≤ c → length kept ≡ min c (length ring + (n + 1))
grows-count c ring head n more kept is_kept long room =
    let first : List ℕ = keep_last c (ring ++ head ∷ []) in
    let one : length (ring ++ head ∷ []) ≡ length ring + 1 = rw length-append refl in
    let size : length first ≡ length ring + 1 - (length ring + 1 - c) =
    kept-length c (ring ++ head ∷ []) ∙ ap (λ (k : ℕ). k - (k - c)) one in
    let all : length (first ++ more) ≡ length first + n =
    rw length-append (ap (λ (k : ℕ). length first + k) long) in
    let left : length kept ≡ length (first ++ more) - (length (first ++ more) - c) =
    ap length is_kept ∙ kept-length c (first ++ more) in
    omega (arith, size, all, left, room)
