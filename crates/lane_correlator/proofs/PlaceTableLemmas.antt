-- The table of masks of places.
use Rattle.std.proofs.Common.{◌≡◌, ℕ, ◌+◌, ◌<◌, ◌≤◌, refl, sym, ap, ◌∙◌, arith, List, get_or, map}
use Rattle.std.proofs.Common.{inl, inr}
use Rattle.std.specs.List.{range_with_len}
use Rattle.std.specs.Prelude.{cond, leb, true, false}
use Rattle.std.proofs.lemmas.List.FromFn.{get_or-map-range_with_len}
use Rattle.std.proofs.lemmas.Bool.Decides.{leb_tells}
use Rattle.lane_correlator.specs.declared.wiped.TheConstants.{FROM_PLACE}

same : map (λ (k : ℕ). get_or FROM_PLACE k 0) (range_with_len 0 128)
    ≡ map (λ (k : ℕ). cond (leb (k + 1) 64) 255 0) (range_with_len 0 128)
same = refl

entry : (n : ℕ) → n < 128 → get_or FROM_PLACE n 0 ≡ cond (leb (n + 1) 64) 255 0
entry n h =
    sym (get_or-map-range_with_len (λ (k : ℕ). get_or FROM_PLACE k 0) 0 128 n n 0 h (omega arith))
    ∙ ap (λ (l : List ℕ). get_or l n 0) same
    ∙ get_or-map-range_with_len (λ (k : ℕ). cond (leb (k + 1) 64) 255 0) 0 128 n n 0 h (omega arith)

pub masked_from : (n : ℕ) → n < 64 → get_or FROM_PLACE n 0 ≡ 255
masked_from n h = elim (leb_tells (n + 1) 64) [
  | inl y ↦ let e : leb (n + 1) 64 ≡ true = y.0 in entry n (omega arith) ∙ rw e refl
  | inr z ↦ let more : 64 < n + 1 = z.1 in absurd (omega arith)
]

pub none_before : (n : ℕ) → 64 ≤ n → n < 128 → get_or FROM_PLACE n 0 ≡ 0
none_before n from h = elim (leb_tells (n + 1) 64) [
  | inl y ↦ let less : n + 1 ≤ 64 = y.1 in absurd (omega arith)
  | inr z ↦ let e : leb (n + 1) 64 ≡ false = z.0 in entry n h ∙ rw e refl
]
