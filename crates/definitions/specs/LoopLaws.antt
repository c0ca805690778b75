-- What holds of the loops with one more dump, whatever dumps came before it. Each law is promised
-- by a function of the same name in this crate. (This project's own.)
use Rattle.std.specs.Prelude.{ℕ, ◌≡◌, ◌^◌, ◌<◌, ◌≤◌, ◌↔◌, ℤ, pos, neg_ℤ, ◌+ℤ◌, ◌*ℤ◌, List, []}
use Rattle.std.specs.Prelude.{◌∷◌, ◌++◌, map, length, slice_get, Some, unsigned_abs, unwrap_or}
use Rattle.std.specs.Int.Signed.{◌≤ℤ◌}
use Rattle.definitions.specs.Correlation.{Counts}
use Rattle.definitions.specs.Loops.{Loops, no_counts, frequency_error, phase_error, code_error}
use Rattle.definitions.specs.Loops.{loops_after}
use Rattle.definitions.specs.Events.{last_of}

-- the loops after some dumps and one more
abbrev pub after_one_more : ℤ → List Counts → Counts → Loops
after_one_more v dumps d = loops_after v (dumps ++ d ∷ [])

-- The sum, or the limit beyond which it is: 2 to the power of 30 to either side.
pub record IsLimited (sum limited : ℤ) : Type 0 where
  pub within : unsigned_abs sum ≤ 2 ^ 30 → limited ≡ sum
  pub above : pos (2 ^ 30) ≤ℤ sum → limited ≡ pos (2 ^ 30)
  pub below : sum ≤ℤ neg_ℤ (pos (2 ^ 30)) → limited ≡ neg_ℤ (pos (2 ^ 30))

-- After each dump both parts of the shift are within the limits, and the correction of the code's
-- rate is at most one chip a second.
abbrev pub LoopsStayWithin : Type 0
LoopsStayWithin = (v : ℤ) (dumps : List Counts) (d : Counts)
    → (unsigned_abs (after_one_more v dumps d).u ≤ 2 ^ 30)
    × (unsigned_abs (after_one_more v dumps d).v ≤ 2 ^ 30)
    × (unsigned_abs (after_one_more v dumps d).w ≤ 65536)

-- Each of the first 199 dumps moves the shift by 160 times its frequency error, to the dump before
-- it, and by nothing else.
abbrev pub FirstDumpsPull : Type 0
FirstDumpsPull = (v : ℤ) (dumps : List Counts) (d : Counts) → length dumps < 199
    → IsLimited ((loops_after v dumps).u
    +ℤ pos 160 *ℤ frequency_error (unwrap_or (last_of dumps) no_counts) d)
    (after_one_more v dumps d).u
    × ((after_one_more v dumps d).v ≡ (after_one_more v dumps d).u)

-- Each later dump moves the slow part by 6 times its phase error, and by nothing else. The shift is
-- the slow part and 170 times that error.
abbrev pub LaterDumpsHold : Type 0
LaterDumpsHold = (v : ℤ) (dumps : List Counts) (d : Counts) → 199 ≤ length dumps
    → IsLimited ((loops_after v dumps).u +ℤ pos 6 *ℤ phase_error d) (after_one_more v dumps d).u
    × IsLimited ((after_one_more v dumps d).u +ℤ pos 170 *ℤ phase_error d)
    (after_one_more v dumps d).v

-- the prompt sums of dumps
abbrev pub prompts_of : List Counts → List (ℤ × ℤ)
prompts_of dumps = map (λ (d : Counts). (d.ip, d.qp)) dumps

-- Dumps with the same prompt sums give the same shift, whatever the early and the late sums are.
abbrev pub PromptSumsSteerTheCarrier : Type 0
PromptSumsSteerTheCarrier = (v : ℤ) (dumps others : List Counts)
    → prompts_of dumps ≡ prompts_of others
    → ((loops_after v dumps).u ≡ (loops_after v others).u)
    × ((loops_after v dumps).v ≡ (loops_after v others).v)

-- the squares of two sums, added up
abbrev pub power_of_sums : ℤ → ℤ → ℤ
power_of_sums i q = i *ℤ i +ℤ q *ℤ q

-- The correction of the code's rate is 16 times the last dump's code error, whatever came before.
-- It is below zero exactly where the early sums have less power than the late ones, and the prompt
-- sums have no part in it.
abbrev pub LastDumpSteersTheCode : Type 0
LastDumpSteersTheCode = (v : ℤ) (dumps : List Counts) (d : Counts)
    → ((after_one_more v dumps d).w ≡ pos 16 *ℤ code_error d)
    × ((pos 0 ≤ℤ (after_one_more v dumps d).w)
    ↔ (power_of_sums d.il d.ql ≤ℤ power_of_sums d.ie d.qe))
    × ((ip qp : ℤ) → code_error (record {
      ie = d.ie;
      qe = d.qe;
      ip = ip;
      qp = qp;
      il = d.il;
      ql = d.ql;
    }) ≡ code_error d)

-- A signal whose prompt sums have no part in quadrature leaves the shift as it was at first.
abbrev pub SignalInPhaseStays : Type 0
SignalInPhaseStays = (v : ℤ) (dumps : List Counts) → unsigned_abs v ≤ 2 ^ 30
    → ((k : ℕ) (d : Counts) → slice_get dumps k ≡ Some d → d.qp ≡ pos 0)
    → ((loops_after v dumps).u ≡ v) × ((loops_after v dumps).v ≡ v)

-- ---- phases and data bits

-- a dump whose prompt sums are turned by a quarter of a circle
abbrev pub quarter_turned : Counts → Counts
quarter_turned d = record {
  ie = d.ie;
  qe = d.qe;
  ip = neg_ℤ d.qp;
  qp = d.ip;
  il = d.il;
  ql = d.ql;
}

-- The frequency error is the turn from dump to dump: a quarter turn of both is none.
abbrev pub CommonPhaseIsNoTurn : Type 0
CommonPhaseIsNoTurn = (before d : Counts)
    → frequency_error (quarter_turned before) (quarter_turned d) ≡ frequency_error before d

-- a dump with the other data bit, which inverts its prompt sums
abbrev pub inverted : Counts → Counts
inverted d = record {
  ie = d.ie;
  qe = d.qe;
  ip = neg_ℤ d.ip;
  qp = neg_ℤ d.qp;
  il = d.il;
  ql = d.ql;
}

-- A data bit changes no error, but where the turn is just a quarter, or the phase.
abbrev pub DataBitsAreNoError : Type 0
DataBitsAreNoError = (before d : Counts)
    → ((before.ip *ℤ d.ip +ℤ before.qp *ℤ d.qp ≡ pos 0 → ⊥)
    → frequency_error before (inverted d) ≡ frequency_error before d)
    × ((d.ip ≡ pos 0 → ⊥) → phase_error (inverted d) ≡ phase_error d)
