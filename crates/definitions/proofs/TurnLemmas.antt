-- The errors of the carrier with both dumps turned, or with another data bit.
use Rattle.std.proofs.Math.IntN.{*ℤ_comm}
use Rattle.std.proofs.Common.{◌≡◌, zero, suc, ◌+◌, refl, ap, ◌∙◌, arith}
use Rattle.std.specs.Prelude.{ℤ, pos, negsuc, neg_ℤ, ◌+ℤ◌, ◌-ℤ◌, ◌*ℤ◌, unsigned_abs}
use Rattle.std.proofs.lemmas.Int.{ints}
use Rattle.definitions.specs.Loops.{ratio, sgn}
use Rattle.definitions.specs.LoopLaws.{CommonPhaseIsNoTurn, DataBitsAreNoError}

other-left : (x y : ℤ) → neg_ℤ x *ℤ y ≡ neg_ℤ (x *ℤ y)
other-left x y = grind (arith, ints)

other-right : (x y : ℤ) → x *ℤ neg_ℤ y ≡ neg_ℤ (x *ℤ y)
other-right x y = *ℤ_comm x (neg_ℤ y) ∙ other-left y x ∙ ap neg_ℤ (*ℤ_comm y x)

both-other : (x y : ℤ) → neg_ℤ x *ℤ neg_ℤ y ≡ x *ℤ y
both-other x y = other-left x (neg_ℤ y) ∙ ap neg_ℤ (other-right x y) ∙ twice (x *ℤ y)
  where
    twice : (z : ℤ) → neg_ℤ (neg_ℤ z) ≡ z
    twice z = omega (arith, ints)

pub no-turn : CommonPhaseIsNoTurn
no-turn before d =
    rw (crossed before.ip before.qp d.ip d.qp, dotted before.ip before.qp d.ip d.qp) refl
  where
    crossed : (i q j r : ℤ) → neg_ℤ q *ℤ j -ℤ neg_ℤ r *ℤ i ≡ i *ℤ r -ℤ j *ℤ q
    crossed i q j r = rw (other-left q j, other-left r i, *ℤ_comm q j, *ℤ_comm r i)
        (ordered (j *ℤ q) (i *ℤ r))
      where
        ordered : (x y : ℤ) → neg_ℤ x -ℤ neg_ℤ y ≡ y -ℤ x
        ordered x y = omega (arith, ints)

    dotted : (i q j r : ℤ) → neg_ℤ q *ℤ neg_ℤ r +ℤ i *ℤ j ≡ i *ℤ j +ℤ q *ℤ r
    dotted i q j r = rw (both-other q r) (ordered (q *ℤ r) (i *ℤ j))
      where
        ordered : (x y : ℤ) → x +ℤ y ≡ y +ℤ x
        ordered x y = omega (arith, ints)

-- ---- data bits
sgn-other : (z : ℤ) → (z ≡ pos 0 → ⊥) → sgn (neg_ℤ z) ≡ neg_ℤ (sgn z)
sgn-other (pos zero) some = absurd (some refl)
sgn-other (pos (suc n)) some = refl
sgn-other (negsuc n) some = refl

same-size : (x : ℤ) → unsigned_abs (neg_ℤ x) ≡ unsigned_abs x
same-size x = omega (arith, ints)

pub no-error : DataBitsAreNoError
no-error before d = (frequency, phase)
  where
    cross : ℤ
    cross = before.ip *ℤ d.qp -ℤ d.ip *ℤ before.qp

    dot : ℤ
    dot = before.ip *ℤ d.ip +ℤ before.qp *ℤ d.qp

    crossed : (i q j r : ℤ) → i *ℤ neg_ℤ r -ℤ neg_ℤ j *ℤ q ≡ neg_ℤ (i *ℤ r -ℤ j *ℤ q)
    crossed i q j r = rw (other-right i r, other-left j q) (differ (i *ℤ r) (j *ℤ q))
      where
        differ : (x y : ℤ) → neg_ℤ x -ℤ neg_ℤ y ≡ neg_ℤ (x -ℤ y)
        differ x y = omega (arith, ints)

    dotted : (i q j r : ℤ) → i *ℤ neg_ℤ j +ℤ q *ℤ neg_ℤ r ≡ neg_ℤ (i *ℤ j +ℤ q *ℤ r)
    dotted i q j r = rw (other-right i j, other-right q r) (add (i *ℤ j) (q *ℤ r))
      where
        add : (x y : ℤ) → neg_ℤ x +ℤ neg_ℤ y ≡ neg_ℤ (x +ℤ y)
        add x y = omega (arith, ints)

    frequency : (before.ip *ℤ d.ip +ℤ before.qp *ℤ d.qp ≡ pos 0 → ⊥)
        → ratio ((before.ip *ℤ neg_ℤ d.qp -ℤ neg_ℤ d.ip *ℤ before.qp)
        *ℤ sgn (before.ip *ℤ neg_ℤ d.ip +ℤ before.qp *ℤ neg_ℤ d.qp))
        (unsigned_abs (before.ip *ℤ neg_ℤ d.qp -ℤ neg_ℤ d.ip *ℤ before.qp)
        + unsigned_abs (before.ip *ℤ neg_ℤ d.ip +ℤ before.qp *ℤ neg_ℤ d.qp))
        ≡ ratio (cross *ℤ sgn dot) (unsigned_abs cross + unsigned_abs dot)
    frequency some = rw (
      crossed before.ip before.qp d.ip d.qp,
      dotted before.ip before.qp d.ip d.qp,
      sgn-other dot some,
      both-other cross (sgn dot),
      same-size cross,
      same-size dot,
    ) refl

    phase : (d.ip ≡ pos 0 → ⊥) → ratio (neg_ℤ d.qp *ℤ sgn (neg_ℤ d.ip))
        (unsigned_abs (neg_ℤ d.ip) + unsigned_abs (neg_ℤ d.qp))
        ≡ ratio (d.qp *ℤ sgn d.ip) (unsigned_abs d.ip + unsigned_abs d.qp)
    phase some = rw (
      sgn-other d.ip some,
      both-other d.qp (sgn d.ip),
      same-size d.ip,
      same-size d.qp,
    ) refl
