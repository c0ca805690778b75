-- The loops with one more dump, by the number of dumps and the one before it.
use Rattle.std.proofs.Common.{◌≡◌, ℕ, suc, ◌+◌, ◌-◌, ◌*◌, ◌/◌, ◌^◌, ◌<◌, ◌≤◌, max, min, List, []}
use Rattle.std.proofs.Common.{◌∷◌}
use Rattle.std.proofs.Common.{length, refl, sym, ap, ◌∙◌, arith, inl, inr}
use Rattle.std.specs.Prelude.{ℤ, pos, negsuc, neg_ℤ, ◌+ℤ◌, ◌-ℤ◌, ◌*ℤ◌, unsigned_abs, fold, Some}
use Rattle.std.specs.Prelude.{unwrap_or, slice_get, ◌↔◌, ◌⊎◌, Bool, true, false, nat_lt}
use Rattle.std.specs.Prelude.{if◌then◌else◌}
use Rattle.std.specs.Int.Signed.{◌≤ℤ◌}
use Rattle.std.specs.Int.{int_min, int_max}
use Rattle.std.proofs.lemmas.Int.{ints, int_min_is, int_max_is}
use borrow.Author.Differences.{up, down}
use Rattle.std.proofs.Math.Nat.{div-lt_iff_lt-mul, zero-div}
use Rattle.std.proofs.lemmas.Bool.{lt-ltb, le-ltb, cases_lt}
use Rattle.definitions.specs.Sums.{floor_div}
use Rattle.definitions.specs.Correlation.{Counts}
use Rattle.definitions.specs.Loops.{Loops, loops_after, loops_after_dump, loops_start, clamp_shift}
use Rattle.definitions.specs.Loops.{no_counts, frequency_error, phase_error, code_error, ratio, sgn}
use Rattle.definitions.specs.Events.{last_of}
use Rattle.definitions.specs.LoopLaws.{IsLimited, LoopsStayWithin, FirstDumpsPull, LaterDumpsHold}
use Rattle.definitions.specs.LoopLaws.{PromptSumsSteerTheCarrier, LastDumpSteersTheCode}
use Rattle.definitions.specs.LoopLaws.{SignalInPhaseStays}
use Rattle.definitions.specs.LoopLaws.{prompts_of, power_of_sums}
use Rattle.definitions.proofs.LoopLemmas.{loops_after-more}

-- ---- limits

-- the limit above, and then the one below
module _ (z low held : ℤ) (low_is : low ≡ int_min z (pos (2 ^ 30)))
    (held_is : held ≡ int_max (neg_ℤ (pos (2 ^ 30))) low) where
  lower : up low + down z + down (pos (2 ^ 30))
      ≡ down low + min (up z + down (pos (2 ^ 30))) (up (pos (2 ^ 30)) + down z)
  lower = rw low_is (int_min_is z (pos (2 ^ 30)))

  upper : up held + down (neg_ℤ (pos (2 ^ 30))) + down low
      ≡ down held
      + max (up (neg_ℤ (pos (2 ^ 30))) + down low) (up low + down (neg_ℤ (pos (2 ^ 30))))
  upper = rw held_is (int_max_is (neg_ℤ (pos (2 ^ 30))) low)

  small : unsigned_abs held ≤ 2 ^ 30
  small = omega (arith, ints, lower, upper)

  limited-to : IsLimited z held
  limited-to = record {
    within = λ h. omega (arith, ints, h, lower, upper);
    above = λ h. omega (arith, ints, h, lower, upper);
    below = λ h. omega (arith, ints, h, lower, upper);
  }

clamp-within : (z : ℤ) → unsigned_abs (clamp_shift z) ≤ 2 ^ 30
clamp-within z = small z (int_min z (pos (2 ^ 30))) (clamp_shift z) refl refl

limited : (z held : ℤ) → held ≡ clamp_shift z → IsLimited z held
limited z held e = limited-to z (int_min z (pos (2 ^ 30))) held refl e

-- ---- the number of dumps, and the last of them

taken-from : (l : Loops) (ds : List Counts)
    → (fold loops_after_dump l ds).taken ≡ l.taken + length ds
taken-from l [] = omega arith
taken-from l (d ∷ ds) = omega (arith, taken-from (loops_after_dump l d) ds)

-- the last of some dumps, or else another
last_or : Counts → List Counts → Counts
last_or before [] = before
last_or before (d ∷ ds) = last_or d ds

last-from : (l : Loops) (ds : List Counts)
    → (fold loops_after_dump l ds).last ≡ last_or l.last ds
unfolding last_or
last-from l [] = refl
last-from l (d ∷ ds) = last-from (loops_after_dump l d) ds

last_or-is : (before : Counts) (ds : List Counts)
    → last_or before ds ≡ unwrap_or (last_of ds) before
unfolding last_or last_of
last_or-is before [] = refl
last_or-is before (d ∷ []) = refl
last_or-is before (d ∷ e ∷ es) =
    let n : length (d ∷ e ∷ es) - 1 ≡ suc (length (e ∷ es) - 1) = omega arith in
    rw n (last_or-is before (e ∷ es))

taken-is : (v : ℤ) (ds : List Counts) → (loops_after v ds).taken ≡ length ds
unfolding loops_after
taken-is v ds = omega (arith, taken-from (loops_start v) ds)

last-is : (v : ℤ) (ds : List Counts)
    → (loops_after v ds).last ≡ unwrap_or (last_of ds) no_counts
unfolding loops_after
last-is v ds = last-from (loops_start v) ds ∙ last_or-is no_counts ds

-- ---- one more dump

module _ (l : Loops) (d : Counts) where
  pulled-u : (before : Counts) → l.last ≡ before → l.taken < 199 → (loops_after_dump l d).u
      ≡ clamp_shift (l.u +ℤ pos 160 *ℤ frequency_error before d)
  pulled-u before e h = rw (lt-ltb (l.taken + 1) 200 (omega arith))
      (ap (λ (b : Counts). clamp_shift (l.u +ℤ pos 160 *ℤ frequency_error b d)) e)

  pulled-v : l.taken < 199 → (loops_after_dump l d).v ≡ (loops_after_dump l d).u
  pulled-v h = rw (lt-ltb (l.taken + 1) 200 (omega arith)) refl

  held-u : 199 ≤ l.taken → (loops_after_dump l d).u
      ≡ clamp_shift (l.u +ℤ pos 6 *ℤ phase_error d)
  held-u h = rw (le-ltb (l.taken + 1) 200 (omega arith)) refl

  held-v : 199 ≤ l.taken → (loops_after_dump l d).v
      ≡ clamp_shift ((loops_after_dump l d).u +ℤ pos 170 *ℤ phase_error d)
  held-v h = rw (le-ltb (l.taken + 1) 200 (omega arith)) refl

pub pulls : FirstDumpsPull
pulls v dumps d h =
    let l : Loops = loops_after v dumps in
    let before : Counts = unwrap_or (last_of dumps) no_counts in
    let early : l.taken < 199 = omega (arith, h, taken-is v dumps) in
    rw (loops_after-more v dumps d) (
      limited (l.u +ℤ pos 160 *ℤ frequency_error before d) (loops_after_dump l d).u
          (pulled-u l d before (last-is v dumps) early),
      pulled-v l d early,
    )

pub holds : LaterDumpsHold
holds v dumps d h =
    let l : Loops = loops_after v dumps in
    let late : 199 ≤ l.taken = omega (arith, h, taken-is v dumps) in
    rw (loops_after-more v dumps d) (
      limited (l.u +ℤ pos 6 *ℤ phase_error d) (loops_after_dump l d).u (held-u l d late),
      limited ((loops_after_dump l d).u +ℤ pos 170 *ℤ phase_error d) (loops_after_dump l d).v
          (held-v l d late),
    )

-- ---- the size of an error

below-quotient : (a b n : ℕ) → 0 < b → a < n * b → a / b < n
below-quotient a b n some h = (div-lt_iff_lt-mul {k = b} {x = a} {y = n} some).1 h

floor-within : (a : ℤ) (b : ℕ) → unsigned_abs a ≤ b
    → unsigned_abs (floor_div (pos 4096 *ℤ a) (max 1 b)) ≤ 4096
floor-within (pos a) b h =
    omega (arith, below-quotient (4096 * a) (max 1 b) 4097 (omega arith) (omega (arith, h)))
floor-within (negsuc a) b h =
    let e : pos 4096 *ℤ negsuc a ≡ negsuc (4096 * a + 4095) = omega (arith, ints) in
    let q : (4096 * a + 4095) / max 1 b < 4096 =
    below-quotient (4096 * a + 4095) (max 1 b) 4096 (omega arith) (omega (arith, h)) in
    rw e q

code-within : (d : Counts) → unsigned_abs (pos 16 *ℤ code_error d) ≤ 65536
code-within d =
    let early : ℤ = d.ie *ℤ d.ie +ℤ d.qe *ℤ d.qe in
    let late : ℤ = d.il *ℤ d.il +ℤ d.ql *ℤ d.ql in
    sixteen (code_error d) (floor-within (early -ℤ late) (unsigned_abs early + unsigned_abs late)
    (difference early late))
  where
    difference : (a b : ℤ) → unsigned_abs (a -ℤ b) ≤ unsigned_abs a + unsigned_abs b
    difference a b = omega (arith, ints)

    sixteen : (e : ℤ) → unsigned_abs e ≤ 4096 → unsigned_abs (pos 16 *ℤ e) ≤ 65536
    sixteen e h = omega (arith, ints, h)

shifts-within : (l : Loops) (d : Counts) → (unsigned_abs (loops_after_dump l d).u ≤ 2 ^ 30)
    × (unsigned_abs (loops_after_dump l d).v ≤ 2 ^ 30)
shifts-within l d = by_number (nat_lt (l.taken + 1) 200)
  where
    by_number : (pulls : Bool)
        → (unsigned_abs (clamp_shift (l.u +ℤ (if pulls then pos 160 *ℤ frequency_error l.last d
        else pos 6 *ℤ phase_error d))) ≤ 2 ^ 30)
        × (unsigned_abs (if pulls
        then clamp_shift (l.u +ℤ (if pulls then pos 160 *ℤ frequency_error l.last d
        else pos 6 *ℤ phase_error d))
        else clamp_shift (clamp_shift (l.u +ℤ (if pulls then pos 160 *ℤ frequency_error l.last d
        else pos 6 *ℤ phase_error d)) +ℤ pos 170 *ℤ phase_error d)) ≤ 2 ^ 30)
    by_number true = (
      clamp-within (l.u +ℤ pos 160 *ℤ frequency_error l.last d),
      clamp-within (l.u +ℤ pos 160 *ℤ frequency_error l.last d),
    )
    by_number false = (
      clamp-within (l.u +ℤ pos 6 *ℤ phase_error d),
      clamp-within (clamp_shift (l.u +ℤ pos 6 *ℤ phase_error d) +ℤ pos 170 *ℤ phase_error d),
    )

pub stays-within : LoopsStayWithin
stays-within v dumps d =
    let l : Loops = loops_after v dumps in
    rw (loops_after-more v dumps d)
    ((shifts-within l d).0, (shifts-within l d).1, code-within d)

-- ---- what an error doesn't depend on

-- of the loops and of a dump what the prompt sums decide
of_prompts : ℤ × ℤ → Counts
of_prompts (i, q) = record {
  ie = pos 0;
  qe = pos 0;
  ip = i;
  qp = q;
  il = pos 0;
  ql = pos 0;
}

prompt_part : Loops → Loops
prompt_part l = record {
  taken = l.taken;
  last = of_prompts (l.last.ip, l.last.qp);
  u = l.u;
  v = l.v;
  w = pos 0;
}

with_prompts : Loops → ℤ × ℤ → Loops
with_prompts l sums = prompt_part (loops_after_dump l (of_prompts sums))

prompts-decide : (l : Loops) (ds : List Counts) → prompt_part (fold loops_after_dump l ds)
    ≡ fold with_prompts (prompt_part l) (prompts_of ds)
unfolding prompt_part of_prompts with_prompts
prompts-decide l [] = refl
prompts-decide l (d ∷ ds) = prompts-decide (loops_after_dump l d) ds

pub prompts-steer : PromptSumsSteerTheCarrier
unfolding loops_after prompt_part
prompts-steer v dumps others e =
    let same : prompt_part (loops_after v dumps) ≡ prompt_part (loops_after v others) =
    prompts-decide (loops_start v) dumps
    ∙ ap (fold with_prompts (prompt_part (loops_start v))) e
    ∙ sym (prompts-decide (loops_start v) others) in
    (ap (λ (l : Loops). l.u) same, ap (λ (l : Loops). l.v) same)

same-sign : (z : ℤ) (n : ℕ)
    → (pos 0 ≤ℤ (pos 16 *ℤ floor_div (pos 4096 *ℤ z) n)) ↔ (pos 0 ≤ℤ z)
same-sign (pos a) n = ((λ h. omega (arith, ints)), (λ h. omega (arith, ints)))
same-sign (negsuc a) n =
    let e : pos 4096 *ℤ negsuc a ≡ negsuc (4096 * a + 4095) = omega (arith, ints) in
    rw e ((λ h. omega (arith, ints, h)), (λ h. omega (arith, ints, h)))

pub code-steered : LastDumpSteersTheCode
code-steered v dumps d =
    let early : ℤ = power_of_sums d.ie d.qe in
    let late : ℤ = power_of_sums d.il d.ql in
    let sign = same-sign (early -ℤ late) (max 1 (unsigned_abs early + unsigned_abs late)) in
    rw (loops_after-more v dumps d) (
      refl,
      ((λ h. difference early late (sign.0 h)), (λ h. sign.1 (back early late h))),
      λ ip qp. refl,
    )
  where
    difference : (a b : ℤ) → pos 0 ≤ℤ (a -ℤ b) → b ≤ℤ a
    difference a b h = omega (arith, ints, h)

    back : (a b : ℤ) → b ≤ℤ a → pos 0 ≤ℤ (a -ℤ b)
    back a b h = omega (arith, ints, h)

-- ---- a signal in phase

no-ratio : (z : ℤ) (n : ℕ) → z ≡ pos 0 → ratio z n ≡ pos 0
no-ratio z n e = rw e (ap pos (zero-div (max 1 n)))

no-frequency : (before d : Counts) → before.qp ≡ pos 0 → d.qp ≡ pos 0
    → frequency_error before d ≡ pos 0
no-frequency before d e f =
    let cross : ℤ = before.ip *ℤ d.qp -ℤ d.ip *ℤ before.qp in
    let dot : ℤ = before.ip *ℤ d.ip +ℤ before.qp *ℤ d.qp in
    no-ratio (cross *ℤ sgn dot) (unsigned_abs cross + unsigned_abs dot)
    (none cross (sgn dot) (crossed before.ip d.ip before.qp d.qp e f))
  where
    crossed : (a b c d : ℤ) → c ≡ pos 0 → d ≡ pos 0 → a *ℤ d -ℤ b *ℤ c ≡ pos 0
    crossed a b c d e f = rw (e, f) (omega (arith, ints))

    none : (a b : ℤ) → a ≡ pos 0 → a *ℤ b ≡ pos 0
    none a b e = rw e (omega (arith, ints))

no-phase : (d : Counts) → d.qp ≡ pos 0 → phase_error d ≡ pos 0
no-phase d e =
    no-ratio (d.qp *ℤ sgn d.ip) (unsigned_abs d.ip + unsigned_abs d.qp) (none (sgn d.ip))
  where
    none : (b : ℤ) → d.qp *ℤ b ≡ pos 0
    none b = rw e (omega (arith, ints))

unmoved : (v u e : ℤ) (gain : ℕ) → unsigned_abs v ≤ 2 ^ 30 → u ≡ v → e ≡ pos 0
    → clamp_shift (u +ℤ pos gain *ℤ e) ≡ v
unmoved v u e gain h u_is e_is =
    let sum : u +ℤ pos gain *ℤ e ≡ v = rw (u_is, e_is) (omega (arith, ints)) in
    ap clamp_shift sum ∙ (limited v (clamp_shift v) refl).within h

stays-from : (v : ℤ) (l : Loops) (ds : List Counts) → unsigned_abs v ≤ 2 ^ 30
    → l.u ≡ v → l.v ≡ v → l.last.qp ≡ pos 0
    → ((k : ℕ) (d : Counts) → slice_get ds k ≡ Some d → d.qp ≡ pos 0)
    → ((fold loops_after_dump l ds).u ≡ v) × ((fold loops_after_dump l ds).v ≡ v)
stays-from v l [] h u_is v_is last_is all = (u_is, v_is)
stays-from v l (d ∷ ds) h u_is v_is last_is all =
    let next = by_number (cases_lt l.taken 199) in
    stays-from v (loops_after_dump l d) ds h next.0 next.1 in_phase (λ k. all (suc k))
  where
    in_phase : d.qp ≡ pos 0
    in_phase = all 0 d refl

    by_number : (l.taken < 199) ⊎ (199 ≤ l.taken)
        → ((loops_after_dump l d).u ≡ v) × ((loops_after_dump l d).v ≡ v)
    by_number (inl early) =
        let u : (loops_after_dump l d).u ≡ v = pulled-u l d l.last refl early
        ∙ unmoved v l.u (frequency_error l.last d) 160 h u_is
        (no-frequency l.last d last_is in_phase) in
        (u, pulled-v l d early ∙ u)
    by_number (inr late) =
        let u : (loops_after_dump l d).u ≡ v = held-u l d late
        ∙ unmoved v l.u (phase_error d) 6 h u_is (no-phase d in_phase) in (
          u,
          held-v l d late
              ∙ unmoved v (loops_after_dump l d).u (phase_error d) 170 h u (no-phase d in_phase),
        )

pub in-phase-stays : SignalInPhaseStays
unfolding loops_after
in-phase-stays v dumps h all = stays-from v (loops_start v) dumps h refl refl refl all
