-- What a follower stands for: the open segment of a channel over the samples so far.
use Rattle.std.specs.Prelude.{◌≡◌, ◌≤◌, ◌<◌, ℕ, List, [], ◌∷◌, ◌++◌, length, take, ◌+◌, ◌-◌, ◌*◌}
use Rattle.std.specs.Prelude.{Option, Some, None, nat_lt, if◌then◌else◌, ℤ, pos, ◌^◌}
use Rattle.definitions.specs.Samples.{Sample}
use Rattle.definitions.specs.Oscillators.{Settings, carrier_phase_after}
use Rattle.definitions.specs.Oscillators.{code_phase_after, code_step}
use Rattle.definitions.specs.Lives.{doppler_shift}
use Rattle.definitions.specs.Correlation.{Counts, counts_over}
use Rattle.definitions.specs.Segments.{Channel, Progress, progress, open_phases}
use Rattle.channels.specs.declared.follower.Follower.{Follower}
use Rattle.channels.specs.declared.follower.TheConstants.{MOST_STEP}
use Rattle.lane_correlator.specs.Counting.{counts_in}
use Rattle.lane_correlator.specs.declared.counts.Counts.{Counts as Sums}

-- which satellite it is
abbrev pub prn_of : Follower → ℕ
prn_of f = f.prn

-- how many samples it has taken; the others wait
abbrev pub at_of : Follower → ℕ
at_of f = f.at

-- with how many samples its segment ends
abbrev pub ends_of : Follower → ℕ
ends_of f = f.ends

-- how many segments may end with the next samples, at most 1,024: none where the code is so far
-- from the end of its cycle that it doesn't come there, whatever its step is
abbrev pub phase_chance : ℕ → ℕ
phase_chance code = if nat_lt code MOST_STEP then 0 else 1

abbrev pub chance : Follower → ℕ
chance f = phase_chance f.code.phase

abbrev pub how_many : {A : Type 0} → Option A → ℕ
how_many None = 0
how_many (Some x) = 1

-- the phases and sums of the open segment after samples that it has all taken, by the follower's
-- own steps
pub record IsAt (channel : Channel) (xs : List Sample) (p : Progress) (f : Follower) : Type 0 where
  pub taken : at_of f ≡ length xs
  pub begun : channel.start ≤ length xs
  pub opened : p.open_segment.start ≤ length xs
  pub prn : prn_of f ≡ channel.prn
  pub code : f.code.phase ≡ p.open_segment.code + (length xs - p.open_segment.start) * f.code.step
  pub carrier : f.carrier.phase
      ≡ carrier_phase_after p.open_segment.carrier f.carrier.step (length xs - p.open_segment.start)
  pub sums : counts_in f.sums
      ≡ counts_over channel.prn
      (record {
        code = p.open_segment.code;
        carrier = p.open_segment.carrier;
        code_step = f.code.step;
        carrier_step = f.carrier.step;
      }) xs p.open_segment.start
      (length xs)

-- and those steps are the channel's
pub record FollowsNow (settings : Settings) (channel : Channel) (xs : List Sample)
    (f : Follower) : Type 0 where
  pub at : IsAt channel xs (progress settings channel xs) f
  pub code_step : f.code.step
      ≡ (open_phases settings channel (progress settings channel xs)).code_step
  pub carrier_step : f.carrier.step
      ≡ (open_phases settings channel (progress settings channel xs)).carrier_step

-- it is so for the samples that it has taken, and the others, with which the segment goes on, wait
pub record Follows (settings : Settings) (channel : Channel) (xs : List Sample)
    (f : Follower) : Type 0 where
  pub taken : at_of f ≤ length xs
  pub goes_on : length xs < ends_of f
  pub now : FollowsNow settings channel (take (at_of f) xs) f

-- a channel begins after n samples with this shift: its code was at the half chip so many samples
-- ago, and has gone on since
pub record BeginsAfter (settings : Settings) (prn : ℕ) (doppler : ℤ) (half_chip ago n : ℕ)
    (channel : Channel) : Type 0 where
  pub prn_is : channel.prn ≡ prn
  pub start : channel.start ≡ n
  pub code : channel.code
      ≡ code_phase_after (half_chip * 2 ^ 31) (code_step settings (doppler_shift doppler) (pos 0))
      ago
  pub shift : channel.steering [] ≡ record { v = doppler_shift doppler; w = pos 0 }

-- the segment that is open has no sample yet; the steps may be those of the segment before
pub record Opens (settings : Settings) (channel : Channel) (xs : List Sample) (f : Follower)
    : Type 0 where
  pub at : IsAt channel xs (progress settings channel xs) f
  pub opens : (progress settings channel xs).open_segment.start ≡ length xs

-- none of the samples ys but perhaps the last ends the segment
abbrev pub QuietInside : Settings → Channel → List Sample → List Sample → Type 0
QuietInside settings channel xs ys =
    (j : ℕ) → j < length ys
    → progress settings channel (xs ++ take j ys) ≡ progress settings channel xs

-- with ys after xs the segment stays open
pub record Stays (settings : Settings) (channel : Channel) (xs ys : List Sample)
    (f : Follower) : Type 0 where
  pub inside : QuietInside settings channel xs ys
  pub same : progress settings channel (xs ++ ys) ≡ progress settings channel xs
  pub follows : Follows settings channel (xs ++ ys) f

-- the last of ys ends it, with these sums; the next segment is open, with the steps of the one
-- before
pub record Closes (settings : Settings) (channel : Channel) (xs ys : List Sample) (counts : Counts)
    (f : Follower) : Type 0 where
  pub inside : QuietInside settings channel xs ys
  pub dumps : (progress settings channel (xs ++ ys)).dumps
      ≡ (progress settings channel xs).dumps
      ++ record { time = length (xs ++ ys); counts = counts } ∷ []
  pub opens : (progress settings channel (xs ++ ys)).open_segment.start ≡ length (xs ++ ys)
  pub at : IsAt channel (xs ++ ys) (progress settings channel (xs ++ ys)) f
  pub code_step : f.code.step
      ≡ (open_phases settings channel (progress settings channel xs)).code_step
  pub carrier_step : f.carrier.step
      ≡ (open_phases settings channel (progress settings channel xs)).carrier_step

-- with ys after xs it goes on, or has ended with the last of them where its sums were answered
abbrev pub Goes : Settings → Channel → List Sample → List Sample → Option Sums → Follower → Type 0
Goes settings channel xs ys None f = Stays settings channel xs ys f
Goes settings channel xs ys (Some c) f = Closes settings channel xs ys (counts_in c) f
