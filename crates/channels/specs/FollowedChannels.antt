-- What a followed satellite stands for: a channel over the samples so far.
use Rattle.std.specs.Prelude.{◌≡◌, ℕ, ℤ, Bool, true, false, List, [], ◌∷◌, ◌++◌, length}
use Rattle.std.specs.Prelude.{Option, Some, None, is_some}
use Rattle.definitions.specs.Samples.{Sample}
use Rattle.definitions.specs.Oscillators.{Settings}
use Rattle.definitions.specs.Correlation.{Counts}
use Rattle.definitions.specs.Segments.{Channel, progress, counts_of}
use Rattle.definitions.specs.Loops.{shift_after}
use Rattle.lane_correlator.specs.Counting.{counts_in}
use Rattle.channels.specs.declared.dump.Dump.{Dump}
use Rattle.channels.specs.declared.followed.Followed.{Followed}
use Rattle.channels.specs.declared.tracking.Tracking.{Tracking}
use Rattle.channels.specs.Dumps.{plain_dump}
use Rattle.channels.specs.Following as segments
use Rattle.channels.specs.Following.{QuietInside}
use Rattle.channels.specs.Trackings as trackings

-- which satellite it is
abbrev pub prn_of : Followed → ℕ
prn_of f = segments.prn_of f.follower

-- how many dumps it has had
abbrev pub dumps_of : Followed → ℕ
dumps_of f = f.dumps

-- how many samples it has taken; the others wait
abbrev pub at_of : Followed → ℕ
at_of f = segments.at_of f.follower

-- with how many samples of the recording the next dump comes
abbrev pub next_dump : Followed → ℕ
next_dump f = segments.ends_of f.follower

-- how many dumps may come with the next samples, at most 1,024
abbrev pub chance : Followed → ℕ
chance f = segments.chance f.follower

-- what steers it, if anything does
abbrev pub tracking_of : Followed → Option Tracking
tracking_of f = f.tracking

abbrev pub is_steered : Followed → Bool
is_steered f = is_some f.tracking

-- one that begins after so many samples, steered by loops or not
pub record HasBegun (time : ℕ) (steered : Bool) (f : Followed) : Type 0 where
  pub at : at_of f ≡ time
  pub steered_is : is_steered f ≡ steered

-- the sums of its dumps
abbrev pub counts_so_far : Settings → Channel → List Sample → List Counts
counts_so_far settings channel xs = counts_of (progress settings channel xs).dumps

-- the shift of a channel stays the same, whatever its dumps are
abbrev pub IsSteady : Channel → Type 0
IsSteady channel = (a b : List Counts) → channel.steering a ≡ channel.steering b

-- a channel is steered by loops that begin with a shift
abbrev pub IsSteeredFrom : ℤ → Channel → Type 0
IsSteeredFrom shift channel =
    (dumps : List Counts) → channel.steering dumps ≡ shift_after shift dumps

-- it is so, and these loops have taken its dumps
pub record HasLoops (settings : Settings) (channel : Channel) (dumps : List Counts) (s : Tracking)
    : Type 0 where
  pub shift : ℤ
  pub steered : IsSteeredFrom shift channel
  pub stands : trackings.StandsFor settings shift dumps s

-- the shift of a channel after these dumps is that of its loops, and stays the same without any
abbrev pub Steers : Settings → Channel → List Counts → Option Tracking → Type 0
Steers settings channel dumps None = IsSteady channel
Steers settings channel dumps (Some s) = HasLoops settings channel dumps s

pub record Follows (settings : Settings) (channel : Channel) (xs : List Sample) (f : Followed)
    : Type 0 where
  pub follows : segments.Follows settings channel xs f.follower
  pub dumps : dumps_of f ≡ length (progress settings channel xs).dumps
  pub steers : Steers settings channel (counts_so_far settings channel xs) f.tracking

-- what a dump brings beside its sums, the last of these: nothing where no loops steer
abbrev pub Tells : Bool → List Counts → Dump → Type 0
Tells false dumps d = d ≡ plain_dump d.counts
Tells true dumps d = trackings.Tells dumps d

-- what ys after xs bring is what was answered: no dump, or one with the last of them, with its news
abbrev pub Brings : Settings → Channel → List Sample → List Sample → Bool → Option Dump → Type 0
Brings settings channel xs ys steered None =
    progress settings channel (xs ++ ys) ≡ progress settings channel xs
Brings settings channel xs ys steered (Some d) =
    ((progress settings channel (xs ++ ys)).dumps
    ≡ (progress settings channel xs).dumps
    ++ record { time = length (xs ++ ys); counts = counts_in d.counts } ∷ [])
    × Tells steered (counts_so_far settings channel (xs ++ ys)) d

-- with ys after xs there is no dump before the last of them, and then what was answered
pub record Takes (settings : Settings) (channel : Channel) (xs ys : List Sample) (f : Followed)
    (dump : Option Dump) : Type 0 where
  pub inside : QuietInside settings channel xs ys
  pub brings : Brings settings channel xs ys (is_steered f) dump
  pub stands : Follows settings channel (xs ++ ys) f
