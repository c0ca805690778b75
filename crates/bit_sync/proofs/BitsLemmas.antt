-- The bits, with one more push after the edge.
use Rattle.std.proofs.Common.{◌≡◌, ℕ, zero, suc, ◌+◌, ◌-◌, ◌*◌, ◌/◌, ◌<◌, ◌≤◌, List, [], ◌∷◌, ◌++◌}
use Rattle.std.proofs.Common.{length, take, drop, map, refl, ap, ◌∙◌, sym, arith, length-append}
use Rattle.std.specs.Prelude.{ℤ, pos, ◌+ℤ◌, Bool, Some, None, fold}
use Rattle.std.specs.Int.{is_negative}
use Rattle.std.specs.List.{range_with_len, slice_range}
use Rattle.std.proofs.lemmas.List.{drop-append-le, drop_all, take_all, take-append-le, append-nil}
use Rattle.std.proofs.lemmas.List.{length-drop}
use Rattle.std.proofs.lemmas.Int.{ints}
use Rattle.std.proofs.lemmas.List.Sums.{fold_push}
use Rattle.std.proofs.lemmas.List.FromFn.{map-range_with_len_more}
use Rattle.definitions.specs.BitEdge.{is_edge, edge_of, bit_of, bits_of, bits_after}
use Rattle.definitions.proofs.SumsLemmas.{least_below-some}
use Rattle.definitions.proofs.BitLemmas.{edge_of-append}
use Rattle.bit_sync.specs.Standing.{IsSumming}
use Rattle.bit_sync.specs.declared.bit_sum.BitSum.{BitSum}

pub bits_of-none : (pushes : List ℤ) → edge_of pushes ≡ None → bits_of pushes ≡ []
unfolding bits_of
bits_of-none pushes none = ap (bits_after pushes) none

bits_of-some : (pushes : List ℤ) (edge : ℕ) → edge_of pushes ≡ Some edge
    → bits_of pushes ≡ map (bit_of pushes edge) (range_with_len 0 ((length pushes - edge) / 20))
unfolding bits_of
bits_of-some pushes edge is = ap (bits_after pushes) is

edge-within : (pushes : List ℤ) (edge : ℕ) → edge_of pushes ≡ Some edge → edge < length pushes
unfolding edge_of
edge-within pushes edge is = (least_below-some (is_edge pushes) (length pushes) edge is).below

-- with the edge itself there is no whole bit yet
pub bits_of-edge : (pushes : List ℤ) (ip : ℤ) → edge_of (pushes ++ ip ∷ []) ≡ Some (length pushes)
    → bits_of (pushes ++ ip ∷ []) ≡ []
bits_of-edge pushes ip is =
    let n : (length (pushes ++ ip ∷ []) - length pushes) / 20 ≡ 0 =
    simp length-append (omega arith) in
    bits_of-some (pushes ++ ip ∷ []) (length pushes) is
    ∙ ap (λ m. map (bit_of (pushes ++ ip ∷ []) (length pushes)) (range_with_len 0 m)) n

-- the same bits at each place make the same list
map-range_same : (f g : ℕ → Bool) (a n : ℕ) → ((i : ℕ) → i < a + n → f i ≡ g i)
    → map f (range_with_len a n) ≡ map g (range_with_len a n)
map-range_same f g a zero same = refl
map-range_same f g a (suc n) same =
    rw (same a (omega arith), map-range_same f g (a + 1) n (λ i h. same i (omega arith))) refl

-- the edge itself begins the sum
pub begun : (pushes : List ℤ) (ip : ℤ) (new : BitSum)
    → edge_of (pushes ++ ip ∷ []) ≡ Some (length pushes) → new.count ≡ 1 → new.sum ≡ ip
    → IsSumming (pushes ++ ip ∷ []) new
begun pushes ip new is count sum =
    let n : length (pushes ++ ip ∷ []) ≡ length pushes + 1 = simp length-append refl in
    let m : length pushes + 1 - 1 ≡ length pushes = omega arith in
    record {
      edge = length pushes;
      edge_is = is;
      count = rw (n, count) (omega arith);
      sum =
          sum ∙ sym (rw (
            count,
            n,
            m,
            drop-append-le (length pushes) pushes (ip ∷ []) (omega arith),
            drop_all (length pushes) pushes (omega arith),
          ) (omega (arith, ints)));
    }

module _ (pushes : List ℤ) (ip : ℤ) (s : BitSum) (h : IsSumming pushes s) where
  longer : length (pushes ++ ip ∷ []) ≡ length pushes + 1
  longer = simp length-append refl

  within : h.edge < length pushes
  within = edge-within pushes h.edge h.edge_is

  -- bits that were whole before stay
  bit_of-append : (i : ℕ) → i < (length pushes - h.edge) / 20
      → bit_of (pushes ++ ip ∷ []) h.edge i ≡ bit_of pushes h.edge i
  bit_of-append i below =
      let start : h.edge + 20 * i ≤ length pushes = omega (arith, within) in
      let end : h.edge + 20 * i + 20 - (h.edge + 20 * i) ≤ length (drop (h.edge + 20 * i) pushes) =
      simp length-drop (omega (arith, within)) in
      ap (λ (xs : List ℤ). is_negative
      (fold ◌+ℤ◌ (pos 0) (take (h.edge + 20 * i + 20 - (h.edge + 20 * i)) xs)))
      (drop-append-le (h.edge + 20 * i) pushes (ip ∷ []) start)
      ∙ ap (λ (xs : List ℤ). is_negative (fold ◌+ℤ◌ (pos 0) xs))
      (take-append-le (h.edge + 20 * i + 20 - (h.edge + 20 * i)) (drop (h.edge + 20 * i) pushes)
      (ip ∷ []) end)

  kept_bits : map (bit_of (pushes ++ ip ∷ []) h.edge)
      (range_with_len 0 ((length pushes - h.edge) / 20)) ≡ bits_of pushes
  kept_bits =
      map-range_same (bit_of (pushes ++ ip ∷ []) h.edge) (bit_of pushes h.edge) 0
      ((length pushes - h.edge) / 20) (λ i below. bit_of-append i (omega (arith, below)))
      ∙ sym (bits_of-some pushes h.edge h.edge_is)

  edge_stays : edge_of (pushes ++ ip ∷ []) ≡ Some h.edge
  edge_stays = edge_of-append pushes (ip ∷ []) h.edge h.edge_is

  pub edge_of-kept : edge_of (pushes ++ ip ∷ []) ≡ edge_of pushes
  edge_of-kept = edge_stays ∙ sym h.edge_is

  -- the sum of the bit with the push
  sum_with : fold ◌+ℤ◌ (pos 0) (drop (length pushes - s.count) (pushes ++ ip ∷ [])) ≡ s.sum +ℤ ip
  sum_with =
      ap (fold ◌+ℤ◌ (pos 0))
      (drop-append-le (length pushes - s.count) pushes (ip ∷ []) (omega arith))
      ∙ fold_push ◌+ℤ◌ (pos 0) (drop (length pushes - s.count) pushes) ip
      ∙ ap (λ z. z +ℤ ip) (sym h.sum)

  pub part-goes_on : (new : BitSum) → s.count + 1 < 20 → new.count ≡ s.count + 1
      → new.sum ≡ s.sum +ℤ ip → IsSumming (pushes ++ ip ∷ []) new
  part-goes_on new part count sum =
      let place : length pushes + 1 - (s.count + 1) ≡ length pushes - s.count = omega arith in
      record {
        edge = h.edge;
        edge_is = edge_stays;
        count = rw (longer, count) (omega (arith, h.count, within, part));
        sum = sum ∙ sym (rw (longer, count, place) sum_with);
      }

  pub part-bits : s.count + 1 < 20 → bits_of (pushes ++ ip ∷ []) ≡ bits_of pushes ++ []
  part-bits part =
      let n : (length (pushes ++ ip ∷ []) - h.edge) / 20 ≡ (length pushes - h.edge) / 20 =
      rw longer (omega (arith, h.count, within, part)) in
      bits_of-some (pushes ++ ip ∷ []) h.edge edge_stays
      ∙ ap (λ m. map (bit_of (pushes ++ ip ∷ []) h.edge) (range_with_len 0 m)) n
      ∙ kept_bits
      ∙ sym (append-nil (bits_of pushes))

  pub whole-goes_on : (new : BitSum) → s.count + 1 ≡ 20 → new.count ≡ 0 → new.sum ≡ pos 0
      → IsSumming (pushes ++ ip ∷ []) new
  whole-goes_on new whole count sum =
      record {
        edge = h.edge;
        edge_is = edge_stays;
        count = rw (longer, count) (omega (arith, h.count, within, whole));
        sum =
            sum ∙ sym (ap (fold ◌+ℤ◌ (pos 0))
            (drop_all (length (pushes ++ ip ∷ []) - new.count) (pushes ++ ip ∷ [])
            (omega (arith, count))));
      }

  whole_sum : s.count + 1 ≡ 20
      → bit_of (pushes ++ ip ∷ []) h.edge ((length pushes - h.edge) / 20)
      ≡ is_negative (s.sum +ℤ ip)
  whole_sum whole =
      let start : h.edge + 20 * ((length pushes - h.edge) / 20) ≡ length pushes - s.count =
      omega (arith, h.count, within, whole) in
      let all : length (drop (length pushes - s.count) (pushes ++ ip ∷ []))
      ≤ length pushes - s.count + 20 - (length pushes - s.count) =
      simp (length-drop, length-append) (omega (arith, h.count, within, whole)) in
      ap (λ n. is_negative (fold ◌+ℤ◌ (pos 0) (slice_range (pushes ++ ip ∷ []) n (n + 20)))) start
      ∙ ap (λ (xs : List ℤ). is_negative (fold ◌+ℤ◌ (pos 0) xs))
      (take_all (length pushes - s.count + 20 - (length pushes - s.count))
      (drop (length pushes - s.count) (pushes ++ ip ∷ [])) all)
      ∙ ap is_negative sum_with

  pub whole-bits : s.count + 1 ≡ 20
      → bits_of (pushes ++ ip ∷ []) ≡ bits_of pushes ++ is_negative (s.sum +ℤ ip) ∷ []
  whole-bits whole =
      let n : (length (pushes ++ ip ∷ []) - h.edge) / 20 ≡ (length pushes - h.edge) / 20 + 1 =
      rw longer (omega (arith, h.count, within, whole)) in
      bits_of-some (pushes ++ ip ∷ []) h.edge edge_stays
      ∙ ap (λ m. map (bit_of (pushes ++ ip ∷ []) h.edge) (range_with_len 0 m)) n
      ∙ map-range_with_len_more (bit_of (pushes ++ ip ∷ []) h.edge) 0
      ((length pushes - h.edge) / 20) ((length pushes - h.edge) / 20) (omega arith)
      ∙ ap (λ (bits : List Bool). bits
      ++ bit_of (pushes ++ ip ∷ []) h.edge ((length pushes - h.edge) / 20) ∷ []) kept_bits
      ∙ ap (λ (b : Bool). bits_of pushes ++ b ∷ []) (whole_sum whole)
