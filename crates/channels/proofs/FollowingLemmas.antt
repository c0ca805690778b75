-- A follower that takes a block stands for the samples with that block after them.
use Rattle.std.proofs.Common.{◌≡◌, ℕ, ◌+◌, ◌-◌, ◌*◌, ◌%◌, ◌^◌, ◌<◌, ◌≤◌, List, [], ◌∷◌, ◌++◌}
use Rattle.std.proofs.Common.{length, take, drop, sym, ap, ◌∙◌, arith, length-append}
use Rattle.std.proofs.lemmas.List.{length-take, take_all, take-append-drop, take-append-le}
use Rattle.std.specs.Prelude.{false, true}
use Rattle.std.proofs.Math.Nat.{mod-eq_of_lt, mul-le-mul_right}
use Rattle.definitions.specs.Samples.{Sample, sample_at}
use Rattle.definitions.specs.Oscillators.{Settings, carrier_phase_after, code_step, carrier_step}
use Rattle.definitions.specs.Oscillators.{code_phase_after}
use Rattle.definitions.specs.Correlation.{Counts, Phases, counts_over, six_sums, replica_of}
use Rattle.definitions.specs.Correlation.{sum_of_counts}
use Rattle.definitions.specs.Correlation.{no_counts}
use Rattle.definitions.specs.Segments.{Channel, Progress, progress, open_phases, is_through}
use Rattle.definitions.specs.Segments.{closed_at, first_progress}
use Rattle.definitions.proofs.BlockLemmas.{progress-begun, progress-quiet, progress-closes}
use Rattle.definitions.proofs.BlockLemmas.{quiet-through, last-through, phase-split}
use Rattle.definitions.proofs.SplitLemmas.{counts_over-more, counts_over-none, carrier_on}
use Rattle.channels.specs.declared.follower.Follower.{Follower}
use Rattle.lane_correlator.specs.Counting.{counts_in}
use Rattle.channels.specs.Following.{IsAt, FollowsNow, Follows, Stays, Closes, QuietInside}
use Rattle.channels.proofs.WrapLemmas.{before-end}

-- what a block does to a follower, before the end of a segment is looked at
pub record Moves (ys : List Sample) (f : Follower) (phase turn : ℕ) (total : Counts) : Type 0 where
  pub code : phase ≡ f.code.phase + length ys * f.code.step
  pub carrier : turn ≡ (f.carrier.phase + length ys * f.carrier.step) % 2 ^ 32
  pub sums : total
      ≡ sum_of_counts (counts_in f.sums)
      (six_sums (sample_at ys)
      (replica_of f.prn
      (record {
        code = f.code.phase;
        carrier = f.carrier.phase;
        code_step = f.code.step;
        carrier_step = f.carrier.step;
      })) 0 (length ys))

same_phases : (code carrier a b other turned : ℕ) → code ≡ other → carrier ≡ turned
    → ◌≡◌ {A = Phases} (record { code = code; carrier = carrier; code_step = a; carrier_step = b })
    (record { code = other; carrier = turned; code_step = a; carrier_step = b })
same_phases code carrier a b other turned e h =
    ap (λ (x : ℕ). let p : Phases =
    record { code = x; carrier = carrier; code_step = a; carrier_step = b } in p) e
    ∙ ap (λ (x : ℕ). let p : Phases =
    record { code = other; carrier = x; code_step = a; carrier_step = b } in p) h

-- a segment doesn't end before the last sample that is left of it
pub low-before : (f : Follower) (k : ℕ) → k < f.ends - f.at
    → f.code.phase + k * f.code.step < 1023 * 2 ^ 32
low-before f k less = before-end f.code.phase f.code.step (f.ends - f.at) f.before k less

-- its channel has begun
pub channel-begun : (settings : Settings) (channel : Channel) (xs : List Sample) (f : Follower)
    → Follows settings channel xs f → channel.start ≤ length xs
channel-begun settings channel xs f s =
    omega (arith, s.now.at.begun, s.now.at.taken, s.taken)

-- one that has taken all samples
pub at-once : (settings : Settings) (channel : Channel) (xs : List Sample) (f : Follower)
    → FollowsNow settings channel xs f → Follows settings channel xs f
at-once settings channel xs f s =
    let all : take f.at xs ≡ xs = take_all f.at xs (omega (arith, s.at.taken)) in
    record {
      taken = omega (arith, s.at.taken);
      goes_on = omega (arith, s.at.taken, f.waits);
      now = rw all s;
    }

module _ (settings : Settings) (channel : Channel) (xs ys : List Sample) (f : Follower)
    (s : FollowsNow settings channel xs f) where
  both : length (xs ++ ys) ≡ length xs + length ys
  both = simp length-append (omega arith)

  -- up to m samples further no segment ends
  none_by : (m : ℕ) → f.code.phase + m * f.code.step < 1023 * 2 ^ 32 → (e : ℕ) → e ≤ length xs + m
      → is_through (progress settings channel xs).open_segment
      (open_phases settings channel (progress settings channel xs)).code_step e ≡ false
  none_by m low e b =
      rw (← s.code_step)
      (quiet-through (progress settings channel xs).open_segment f.code.step (length xs) m
      f.code.phase s.at.opened s.at.code low e b)

  inside : 0 < length ys → f.code.phase + (length ys - 1) * f.code.step < 1023 * 2 ^ 32
      → QuietInside settings channel xs ys
  inside some low j b =
      progress-quiet settings channel xs (take j ys)
      (none_by (length (take j ys))
      (omega (arith, low, length-take j ys, mul-le-mul_right f.code.step (short j b))))
    where
      short : (j : ℕ) → j < length ys → length (take j ys) ≤ length ys - 1
      short j b = omega (arith, length-take j ys)

  -- as few samples as leave it open end no segment
  pub none-ends : length ys < f.ends - f.at
      → progress settings channel (xs ++ ys) ≡ progress settings channel xs
  none-ends few =
      progress-quiet settings channel xs ys
      (none_by (length ys) (low-before f (length ys) few))

  -- the open segment, block by block
  abbrev own : Phases
  own =
      record {
        code = (progress settings channel xs).open_segment.code;
        carrier = (progress settings channel xs).open_segment.carrier;
        code_step = f.code.step;
        carrier_step = f.carrier.step;
      }

  module _ (phase turn : ℕ) (total : Counts) (m : Moves ys f phase turn total) where
    more_code : phase
        ≡ (progress settings channel xs).open_segment.code
        + (length xs + length ys - (progress settings channel xs).open_segment.start)
        * f.code.step
    more_code =
        omega (
          arith,
          m.code,
          s.at.code,
          phase-split (length xs) (length ys) (progress settings channel xs).open_segment.start
              f.code.step s.at.opened,
        )

    more_carrier : turn
        ≡ carrier_phase_after (progress settings channel xs).open_segment.carrier f.carrier.step
        (length xs + length ys - (progress settings channel xs).open_segment.start)
    more_carrier =
        let start : ℕ = (progress settings channel xs).open_segment.start in
        let e : length xs + length ys - start ≡ (length xs - start) + length ys =
        omega (arith, s.at.opened) in
        m.carrier
        ∙ ap (λ q. (q + length ys * f.carrier.step) % 2 ^ 32) s.at.carrier
        ∙ sym (carrier_on (progress settings channel xs).open_segment.carrier f.carrier.step
        (length xs - start) (length ys))
        ∙ ap (λ k. carrier_phase_after (progress settings channel xs).open_segment.carrier
        f.carrier.step k) (sym e)

    more_sums : total
        ≡ counts_over channel.prn own (xs ++ ys) (progress settings channel xs).open_segment.start
        (length xs + length ys)
    more_sums =
        let start : ℕ = (progress settings channel xs).open_segment.start in
        m.sums
        ∙ ap (λ (a : Counts). sum_of_counts a
        (six_sums (sample_at ys)
        (replica_of f.prn
        (record {
          code = f.code.phase;
          carrier = f.carrier.phase;
          code_step = f.code.step;
          carrier_step = f.carrier.step;
        })) 0 (length ys)))
        s.at.sums
        ∙ ap (λ (n : ℕ). sum_of_counts (counts_over channel.prn own xs start (length xs))
        (six_sums (sample_at ys)
        (replica_of n (record {
          code = f.code.phase;
          carrier = f.carrier.phase;
          code_step = f.code.step;
          carrier_step = f.carrier.step;
        })) 0 (length ys)))
        s.at.prn
        ∙ ap (λ (p : Phases). sum_of_counts (counts_over channel.prn own xs start (length xs))
        (six_sums (sample_at ys) (replica_of channel.prn p) 0 (length ys)))
        (same_phases f.code.phase f.carrier.phase f.code.step f.carrier.step _ _ s.at.code
        s.at.carrier)
        ∙ sym (counts_over-more channel.prn own xs ys start s.at.opened)

    -- the segment stays open
    pub stays : phase < 1023 * 2 ^ 32 → (g : Follower)
        → g.at ≡ length xs + length ys → g.prn ≡ f.prn
        → g.code.phase ≡ phase → g.carrier.phase ≡ turn → g.code.step ≡ f.code.step
        → g.carrier.step ≡ f.carrier.step → counts_in g.sums ≡ total
        → Stays settings channel xs ys g
    stays low g taken prn code carrier code_step carrier_step sums =
        let before : f.code.phase + length ys * f.code.step < 1023 * 2 ^ 32 =
        omega (arith, m.code, low) in
        let less : (length ys - 1) * f.code.step ≤ length ys * f.code.step =
        mul-le-mul_right f.code.step (omega arith) in
        let same : progress settings channel (xs ++ ys) ≡ progress settings channel xs =
        progress-quiet settings channel xs ys (none_by (length ys) before) in
        record {
          -- where there are no samples nothing is asked
          inside = λ j b. inside (omega (arith, b)) (omega (arith, before, less)) j b;
          same = same;
          follows = at-once settings channel (xs ++ ys) g (record {
            at = rw same (record {
              taken = omega (arith, both, taken);
              begun = omega (arith, both, s.at.begun);
              opened = omega (arith, both, s.at.opened);
              prn = prn ∙ s.at.prn;
              code = rw (code, code_step, both) more_code;
              carrier = rw (carrier, carrier_step, both) more_carrier;
              sums = rw (sums, code_step, carrier_step, both) more_sums;
            });
            code_step = rw same (code_step ∙ s.code_step);
            carrier_step = rw same (carrier_step ∙ s.carrier_step);
          });
        }

    -- the segment after it
    closed : Progress
    closed = record {
      dumps =
          (progress settings channel xs).dumps
          ++ record { time = length (xs ++ ys); counts = total } ∷ [];
      open_segment =
          record { start = length (xs ++ ys); code = phase - 1023 * 2 ^ 32; carrier = turn };
    }

    closed_is : closed_at settings channel (xs ++ ys) (progress settings channel xs)
        (length xs + length ys) ≡ closed
    unfolding closed_at closed
    closed_is = rw (← s.code_step, ← s.carrier_step, ← more_sums, ← more_code, ← more_carrier, both)

    -- it closes with the last sample
    pub closes : 0 < length ys → f.code.phase + (length ys - 1) * f.code.step < 1023 * 2 ^ 32
        → 1023 * 2 ^ 32 ≤ phase → (g : Follower) → g.at ≡ length xs + length ys → g.prn ≡ f.prn
        → g.code.phase ≡ phase - 1023 * 2 ^ 32 → g.carrier.phase ≡ turn → g.code.step ≡ f.code.step
        → g.carrier.step ≡ f.carrier.step → counts_in g.sums ≡ no_counts
        → Closes settings channel xs ys total g
    unfolding closed
    closes some before high g taken prn code carrier code_step carrier_step sums =
        let last : is_through (progress settings channel xs).open_segment
        (open_phases settings channel (progress settings channel xs)).code_step
        (length xs + length ys) ≡ true =
        rw (← s.code_step)
        (last-through (progress settings channel xs).open_segment f.code.step (length xs)
        (length ys) f.code.phase s.at.opened some s.at.code
        (omega (arith, m.code, high))) in
        let ends : progress settings channel (xs ++ ys) ≡ closed =
        progress-closes settings channel xs ys some
        (λ e b. none_by (length ys - 1) before e (omega arith)) last ∙ closed_is in
        let zero : length (xs ++ ys) - length (xs ++ ys) ≡ 0 = omega arith in
        record {
          inside = inside some before;
          dumps = rw ends;
          opens = rw ends;
          at = rw ends (record {
            taken = omega (arith, both, taken);
            begun = omega (arith, both, s.at.begun);
            opened = omega arith;
            prn = prn ∙ s.at.prn;
            code = rw (code, zero) (omega arith);
            carrier = rw (carrier, zero) (omega (arith, m.carrier));
            sums = sums ∙ sym (counts_over-none channel.prn _ (xs ++ ys) (length (xs ++ ys)));
          });
          code_step = code_step ∙ s.code_step;
          carrier_step = carrier_step ∙ s.carrier_step;
        }

-- a follower that starts at the next sample
pub started : (settings : Settings) (channel : Channel) (xs : List Sample) (f : Follower)
    → channel.start ≡ length xs → f.at ≡ length xs → f.prn ≡ channel.prn
    → f.code.phase ≡ channel.code
    → f.carrier.phase ≡ 0 → f.code.step ≡ code_step settings (channel.steering []).v
    (channel.steering []).w → f.carrier.step ≡ carrier_step settings (channel.steering []).v
    → counts_in f.sums ≡ no_counts → FollowsNow settings channel xs f
started settings channel xs f now taken p code carrier a b sums =
    let none : progress settings channel xs ≡ first_progress channel =
    progress-begun settings channel xs (omega (arith, now)) in
    let zero : length xs - channel.start ≡ 0 = omega (arith, now) in
    record {
      at = rw none (record {
        taken = taken;
        begun = omega (arith, now);
        opened = omega (arith, now);
        prn = p;
        code = rw (code, zero) (omega arith);
        carrier = rw (carrier, zero) (omega arith);
        sums = sums ∙ rw now (sym (counts_over-none channel.prn _ xs (length xs)));
      });
      code_step = rw none a;
      carrier_step = rw none b;
    }

-- where a segment has just begun, the follower may be given the steps that the dumps so far ask for
pub steered : (settings : Settings) (channel : Channel) (xs : List Sample) (f g : Follower)
    → IsAt channel xs (progress settings channel xs) f
    → (progress settings channel xs).open_segment.start ≡ length xs
    → g.at ≡ f.at → g.prn ≡ f.prn → g.code.phase ≡ f.code.phase
    → g.carrier.phase ≡ f.carrier.phase
    → counts_in g.sums ≡ no_counts
    → g.code.step ≡ (open_phases settings channel (progress settings channel xs)).code_step
    → g.carrier.step ≡ (open_phases settings channel (progress settings channel xs)).carrier_step
    → FollowsNow settings channel xs g
steered settings channel xs f g at opens taken prn code carrier sums a b =
    let start : ℕ = (progress settings channel xs).open_segment.start in
    let zero : length xs - start ≡ 0 = omega (arith, opens) in
    record {
      at = record {
        taken = taken ∙ at.taken;
        begun = at.begun;
        opened = at.opened;
        prn = prn ∙ at.prn;
        code = rw zero (code ∙ rw zero at at.code ∙ omega arith);
        carrier = rw zero (carrier ∙ rw zero at at.carrier ∙ omega arith);
        sums = sums ∙ rw opens (sym (counts_over-none channel.prn _ xs (length xs)));
      };
      code_step = a;
      carrier_step = b;
    }

-- the samples that wait end no segment
module _ (settings : Settings) (channel : Channel) (xs : List Sample) (f : Follower)
    (s : Follows settings channel xs f) where
  whole : take f.at xs ++ drop f.at xs ≡ xs
  whole = take-append-drop f.at xs

  same_to : (zs : List Sample) → length (take f.at xs ++ zs) < f.ends
      → progress settings channel (take f.at xs ++ zs) ≡ progress settings channel (take f.at xs)
  same_to zs less =
      none-ends settings channel (take f.at xs) zs f s.now
      (omega (arith, less, length-append (take f.at xs) zs, s.now.at.taken))

  pub taken_same : progress settings channel xs ≡ progress settings channel (take f.at xs)
  taken_same =
      ap (λ zs. progress settings channel zs) (sym whole)
      ∙ same_to (drop f.at xs) (rw whole s.goes_on)

  -- those that it has taken, and then those that wait and more
  pub taken_first : (ys : List Sample) → take f.at xs ++ drop f.at (xs ++ ys) ≡ xs ++ ys
  taken_first ys =
      ap (λ zs. zs ++ drop f.at (xs ++ ys)) (sym (take-append-le f.at xs ys s.taken))
      ∙ take-append-drop f.at (xs ++ ys)

-- more may wait
module _ (settings : Settings) (channel : Channel) (xs ys : List Sample) (f : Follower)
    (s : Follows settings channel xs f) (few : length (xs ++ ys) < f.ends) where
  pub waits_same : progress settings channel (xs ++ ys) ≡ progress settings channel xs
  waits_same =
      let one : take f.at xs ++ drop f.at (xs ++ ys) ≡ xs ++ ys =
      taken_first settings channel xs f s ys in
      ap (λ zs. progress settings channel zs) (sym one)
      ∙ same_to settings channel xs f s (drop f.at (xs ++ ys)) (rw one few)
      ∙ sym (taken_same settings channel xs f s)

  pub waits : Follows settings channel (xs ++ ys) f
  waits = record {
    taken = omega (arith, s.taken, length-append xs ys);
    goes_on = few;
    now = rw (take-append-le f.at xs ys s.taken) s.now;
  }

-- up to the segment's end none ends it but perhaps the last
pub quiet_to_end : (settings : Settings) (channel : Channel) (xs ys : List Sample) (f : Follower)
    → Follows settings channel xs f → length (xs ++ ys) ≤ f.ends
    → QuietInside settings channel xs ys
quiet_to_end settings channel xs ys f s few j b =
    waits_same settings channel xs (take j ys) f s
    (omega (
      arith,
      length-append xs (take j ys),
      length-append xs ys,
      length-take j ys,
      b,
      few,
    ))

pub waits_inside : (settings : Settings) (channel : Channel) (xs ys : List Sample) (f : Follower)
    → Follows settings channel xs f → length (xs ++ ys) < f.ends
    → QuietInside settings channel xs ys
waits_inside settings channel xs ys f s few =
    quiet_to_end settings channel xs ys f s (omega (arith, few))

-- what waits is taken with the samples after it: what that comes to, by those samples alone
module _ (settings : Settings) (channel : Channel) (xs ys : List Sample) (f g : Follower)
    (s : Follows settings channel xs f) (few : length (xs ++ ys) ≤ f.ends) where
  pub stays_over : Stays settings channel (take f.at xs) (drop f.at (xs ++ ys)) g
      → Stays settings channel xs ys g
  stays_over t =
      let one : take f.at xs ++ drop f.at (xs ++ ys) ≡ xs ++ ys =
      taken_first settings channel xs f s ys in
      record {
        inside = quiet_to_end settings channel xs ys f s few;
        same =
            ap (λ zs. progress settings channel zs) (sym one) ∙ t.same
            ∙ sym (taken_same settings channel xs f s);
        follows = rw one at t.follows;
      }

  pub closes_over : (counts : Counts)
      → Closes settings channel (take f.at xs) (drop f.at (xs ++ ys)) counts g
      → Closes settings channel xs ys counts g
  closes_over counts t =
      let one : take f.at xs ++ drop f.at (xs ++ ys) ≡ xs ++ ys =
      taken_first settings channel xs f s ys in
      let before : progress settings channel xs ≡ progress settings channel (take f.at xs) =
      taken_same settings channel xs f s in
      record {
        inside = quiet_to_end settings channel xs ys f s few;
        dumps = rw before (rw one at t.dumps);
        opens = rw one at t.opens;
        at = rw one at t.at;
        code_step = rw before t.code_step;
        carrier_step = rw before t.carrier_step;
      }

-- the code of a channel that begins now is where it was, since no time has passed
pub none-ago : (half step : ℕ) → half ≤ 2045
    → half * 2 ^ 31 ≡ code_phase_after (half * 2 ^ 31) step 0
none-ago half step low =
    let none : half * 2 ^ 31 + 0 * step ≡ half * 2 ^ 31 = omega arith in
    sym (rw none (mod-eq_of_lt (omega (arith, low))))
