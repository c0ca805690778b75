use Rattle.std.proofs.Common.{◌≡◌, get_or, ◌+◌, ◌-◌, ◌*◌, ◌/◌, ◌%◌, ◌<◌, ◌^◌, ℕ, pos, arith, ap}
use Rattle.std.proofs.Common.{◌∙◌, w16, to_z, of_z, rules}
use Rattle.std.proofs.lemmas.Int.{to_z_pos, to_z-of_z}
use Rattle.oscillators.specs.Halves.{place, signed_half}
use Rattle.oscillators.specs.Ways.{half_to, room_of}
use Rattle.oscillators.proofs.OrderLemmas.{place_below}
use Rattle.oscillators.proofs.CarryLemmas.{ordered_signed, half_fits, short_fits}
use Rattle.oscillators.proofs.WayLemmas.{half_is, high_room_is, low_room_is, one_more}
use Rattle.oscillators.proofs.WayLemmas.{windows_are, window_within}
use Rattle.oscillators.proofs.ChipSetLemmas.{half_few, sets_are}
use Rattle.oscillators.specs.ChipSets.{IsSetOf}
use Rattle.oscillators.specs.declared.chip_set.ChipSet.{ChipSet}
use Rattle.oscillators.proofs.code_strides.CodeStrides.new.Goals as goal

pub loop-k-preserved : goal.loop-k-preserved
loop-k-preserved c =
    let i = c.loop-k.invariant in
    let k : ℕ = c.loop-k.k in
    let step : ℕ = c.args.step in
    let h : k < 64 = c.loop-k-test.true in
    let here : c.way-way.result / 32768 - 2 * c.window.result ≡ half_to step k =
    half_is k step c.way-way.result c.window.result h c.way-way.ensures c.window.ensures in
    let upper : 32767 - c.way-way.result % 32768 ≡ room_of step k / 65536 =
    high_room_is k step c.way-way.result c.way-way.ensures in
    record {
      half_long = search (rules, i.half_long);
      high_long = search (rules, i.high_long);
      low_long = search (rules, i.low_long);
      half = one_more (half_to step) c.loop-k.half _ 0 k (omega (arith, h, i.half_long)) i.half
          here;
      high = one_more (λ (n : ℕ). pos (room_of step n / 65536)) c.loop-k.high _ (pos 0) k
          (omega (arith, h, i.high_long)) i.high
          (to_z_pos w16 (32767 - c.way-way.result % 32768) (omega arith) ∙ ap pos upper);
      low = one_more (λ (n : ℕ). signed_half (room_of step n % 65536)) c.loop-k.low _ (pos 0) k
          (omega (arith, h, i.low_long)) i.low
          (ap (λ z. to_z w16 (of_z w16 z)) c.signed_half.ensures
          ∙ to_z-of_z w16 _ (half_fits _ (omega arith))
          ∙ ap signed_half (low_room_is k step));
    }

pub returns : goal.returns
returns c =
    let i = c.loop-k.invariant in
    let step : ℕ = c.args.step in
    let short : step < 2 ^ 32 = search (rules, c.ranges) in
    let all : (k : ℕ) → k < 64 → k < c.loop-k.k = λ k h. omega (arith, h, c.loop-k-test.false) in
    let few : (k n : ℕ) → k < 64 → n < 4 → get_or c.loop-k.half k 0 + n < 256 = λ k n h less.
    omega (arith, less, i.half k (all k h), half_few step k h short) in
    let same : (k n : ℕ) → k < 64 → get_or c.loop-k.half k 0 + n ≡ half_to step k + n = λ k n h.
    ap (λ (m : ℕ). m + n) (i.half k (all k h)) in
    record {
      windows = λ b h.
          windows_are step _ _ _ b h c.window-2.ensures c.window-3.ensures c.window-4.ensures;
      sets = λ set k three h.
          sets_are (λ (n : ℕ) (s : ChipSet). IsSetOf (half_to step k + n) k s) _ _ _ set three
          (rw (same k 0 h) at (c.new.ensures.chips k h (omega (arith, few k 1 h (omega arith)))))
          (rw (same k 1 h) at (c.new-2.ensures.chips k h (omega (arith, few k 2 h (omega arith)))))
          (rw (same k 2 h) at (c.new-3.ensures.chips k h (omega (arith, few k 3 h (omega arith)))));
      high = λ k h.
          ordered_signed c.loop-k.high k _ i.high_long h
          (i.high (place k) (all (place k) (place_below k h))) (short_fits _ (omega arith));
      low = λ k h.
          ordered_signed c.loop-k.low k _ i.low_long h
          (i.low (place k) (all (place k) (place_below k h))) (half_fits _ (omega arith));
    }

pub overflow_sub-half : goal.overflow_sub-half
overflow_sub-half c = window_within c.loop-k.k c.args.step c.way-way.result c.window.result
    c.way-way.ensures c.window.ensures

pub overflow_mul-half : goal.overflow_mul-half
overflow_mul-half c = omega (
  arith,
  window_within c.loop-k.k c.args.step c.way-way.result c.window.result c.way-way.ensures
      c.window.ensures,
  c.way-way.type_inv,
)

pub overflow_cast-half : goal.overflow_cast-half
overflow_cast-half c =
    let k : ℕ = c.loop-k.k in
    let step : ℕ = c.args.step in
    let here : c.way-way.result / 32768 - 2 * c.window.result ≡ half_to step k =
    half_is k step c.way-way.result c.window.result c.loop-k-test.true c.way-way.ensures
    c.window.ensures in
    let short : step < 2 ^ 32 = search (rules, c.ranges) in
    omega (arith, here, half_few step k c.loop-k-test.true short)
