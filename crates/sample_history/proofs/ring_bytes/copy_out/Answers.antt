use Rattle.std.proofs.Common.{◌≡◌, ℕ, ◌+◌, ◌-◌, ◌≤◌, ◌<◌, List, ◌++◌, length, take, drop}
use Rattle.std.proofs.Common.{slice_range, sym, ap, ◌∙◌, arith, take_all}
use Rattle.std.proofs.lemmas.List.{take-append-le, drop-append-le, length-drop}
use Rattle.std.proofs.Math.Seq.{drop-append-add, take-append-add}
use Rattle.sample_history.proofs.ring_bytes.copy_out.Goals as goal

-- a part of a list that lies in a front of it
in-front : (front back : List ℕ) (at len : ℕ) → at + len ≤ length front
    → slice_range (front ++ back) at (at + len) ≡ slice_range front at (at + len)
in-front front back at len within =
    let count : at + len - at ≡ len = omega arith in
    ap (take (at + len - at)) (drop-append-le at front back (omega (arith, within)))
    ∙ take-append-le (at + len - at) (drop at front) back
    (rw (count, length-drop) (omega (arith, within)))

-- a part of it that lies behind that front
behind : (front back : List ℕ) (at len : ℕ) → length front ≤ at
    → slice_range (front ++ back) at (at + len)
    ≡ slice_range back (at - length front) (at - length front + len)
behind front back at len past =
    let place : length front + (at - length front) ≡ at = omega (arith, past) in
    let count : at + len - at ≡ at - length front + len - (at - length front) = omega arith in
    rw count (ap (take (at - length front + len - (at - length front)))
    (ap (λ (n : ℕ). drop n (front ++ back)) (sym place)
    ∙ drop-append-add front back (at - length front)))

-- a part of it that lies in both
across : (front back : List ℕ) (at more : ℕ) → at < length front
    → slice_range (front ++ back) at (at + (more + (length front - at)))
    ≡ slice_range front at (length front) ++ take more back
across front back at more begins =
    let count : at + (more + (length front - at)) - at ≡ length (drop at front) + more =
    rw length-drop (omega arith) in
    ap (take (at + (more + (length front - at)) - at))
    (drop-append-le at front back (omega (arith, begins)))
    ∙ ap (λ (n : ℕ). take n (drop at front ++ back)) count
    ∙ take-append-add (drop at front) back more
    ∙ ap (λ (xs : List ℕ). xs ++ take more back)
    (sym (take_all (length front - at) (drop at front) (rw length-drop (omega arith))))

pub returns-then-at-len : goal.returns-then-at-len
returns-then-at-len c =
    c.copy_from_slice.ensures.after ∙ sym (in-front c.as_slices.result.0.now
    c.as_slices.result.1.now c.args.at (length c.args.to.now) c.if-at-len.true)
    ∙ ap (λ (xs : List ℕ). slice_range xs c.args.at (c.args.at + length c.args.to.now))
    c.as_slices.ensures

pub returns-then-front-at : goal.returns-then-front-at
returns-then-front-at c =
    c.copy_from_slice-then-front-at.ensures.after ∙ sym (behind c.as_slices.result.0.now
    c.as_slices.result.1.now c.args.at (length c.args.to.now) c.if-front-at.true)
    ∙ ap (λ (xs : List ℕ). slice_range xs c.args.at (c.args.at + length c.args.to.now))
    c.as_slices.ensures

pub returns-else-front-at : goal.returns-else-front-at
returns-else-front-at c =
    rw (
      c.copy_from_slice-else-front-at.ensures.after,
      c.copy_from_slice-else-front-at-2.ensures.after,
      ← c.split_at_mut-first.ensures.back_len,
    )
    (sym (across c.as_slices.result.0.now c.as_slices.result.1.now c.args.at
    (length c.split_at_mut-first.result.1.now) c.if-front-at.false)
    ∙ ap (λ (xs : List ℕ). slice_range xs c.args.at (c.args.at
    + (length c.split_at_mut-first.result.1.now + (length c.as_slices.result.0.now - c.args.at))))
    c.as_slices.ensures)
