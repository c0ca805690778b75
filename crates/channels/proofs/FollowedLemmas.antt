-- A followed satellite, when it begins and when it takes samples.
use Rattle.std.proofs.Common.{◌≡◌, ◌<◌, ℤ, ◌+◌, List, [], ◌∷◌, ◌++◌, length, refl, sym, ap}
use Rattle.std.proofs.Common.{subst, ◌∙◌, arith, length-append}
use Rattle.std.specs.Prelude.{Some, None, Option, ℕ, is_none}
use Rattle.std.specs.Option.{ForSome}
use Rattle.std.proofs.lemmas.Bool.{true≢false}
use Rattle.std.proofs.lemmas.List.{map-append}
use Rattle.definitions.specs.Samples.{Sample}
use Rattle.definitions.specs.Oscillators.{Settings, code_step, carrier_step}
use Rattle.definitions.specs.Correlation.{Counts}
use Rattle.definitions.specs.Segments.{Channel, Dump as DefinedDump, Shift, counts_of}
use Rattle.definitions.specs.Segments.{progress}
use Rattle.definitions.specs.Loops.{shift_after}
use Rattle.definitions.proofs.BlockLemmas.{progress-begun}
use Rattle.lane_correlator.specs.declared.counts.Counts.{Counts as Sums}
use Rattle.lane_correlator.specs.Counting.{counts_in}
use Rattle.channels.specs.declared.follower.Follower.{Follower}
use Rattle.channels.specs.declared.followed.Followed.{Followed}
use Rattle.channels.specs.declared.tracking.Tracking.{Tracking}
use Rattle.channels.specs.declared.dump.Dump.{Dump}
use Rattle.channels.specs.Dumps.{plain_dump}
use Rattle.channels.specs.Following as segments
use Rattle.channels.specs.Following.{Opens, Stays, Closes}
use Rattle.channels.specs.Trackings as trackings
use Rattle.channels.specs.FollowedChannels.{Follows, Takes, Steers, IsSteady, HasLoops}
use Rattle.channels.specs.FollowedChannels.{counts_so_far}
use Rattle.channels.proofs.FollowingLemmas.{at-once, waits, waits_same, waits_inside}

-- the loops that there are, if any, have had so many dumps
pub none-counted : (steering : Option Tracking) (n : ℕ) → steering ≡ None
    → ForSome steering (λ s. trackings.dump_count s ≡ n)
none-counted steering n none s is = absurd (true≢false (ap is_none (sym none ∙ is)))

pub some-counted : (s : Tracking) (n : ℕ) → trackings.dump_count s ≡ n
    → ForSome (Some s) (λ s. trackings.dump_count s ≡ n)
some-counted s n counted t is =
    let same : s ≡ t = cc in
    rw same at counted

-- one that begins now, at a fixed shift or with the loops that steer its channel
pub begins : (settings : Settings) (channel : Channel) (xs : List Sample) (f : Followed)
    → segments.Follows settings channel xs f.follower → f.dumps ≡ 0 → channel.start ≡ length xs
    → Steers settings channel [] f.tracking → Follows settings channel xs f
begins settings channel xs f follows dumps now steers =
    let none = progress-begun settings channel xs (omega (arith, now)) in
    record { follows = follows; dumps = rw none dumps; steers = rw none steers }

module _ (settings : Settings) (channel : Channel) (xs ys : List Sample) (old new : Followed)
    (s : Follows settings channel xs old) where
  -- no dump comes
  pub takes-on : Stays settings channel xs ys new.follower → new.dumps ≡ old.dumps
      → new.tracking ≡ old.tracking → Takes settings channel xs ys new None
  takes-on st dumps steering = record {
    inside = st.inside;
    brings = st.same;
    stands = record {
      follows = st.follows;
      dumps = rw st.same (dumps ∙ s.dumps);
      steers = rw (st.same, steering) s.steers;
    };
  }

  -- a dump more
  one-more : (c : Sums)
      → (progress settings channel (xs ++ ys)).dumps ≡ (progress settings channel xs).dumps
      ++ record { time = length (xs ++ ys); counts = counts_in c } ∷ []
      → new.dumps ≡ old.dumps + 1
      → new.dumps ≡ length (progress settings channel (xs ++ ys)).dumps
  one-more c more dumps = rw more (simp length-append (omega (arith, dumps, s.dumps)))

  -- one without loops
  pub takes-plain : (c : Sums) → Closes settings channel xs ys (counts_in c) new.follower
      → new.dumps ≡ old.dumps + 1 → old.tracking ≡ None → new.tracking ≡ None
      → Takes settings channel xs ys new (Some (plain_dump c))
  takes-plain c cl dumps none still =
      let steady : IsSteady channel = rw none at s.steers in
      let same : channel.steering (counts_of (progress settings channel xs).dumps)
      ≡ channel.steering (counts_of (progress settings channel (xs ++ ys)).dumps) =
      steady _ _ in
      record {
        inside = cl.inside;
        brings = rw still (cl.dumps, refl);
        stands = record {
          follows = at-once settings channel (xs ++ ys) new.follower (record {
            at = cl.at;
            code_step = cl.code_step ∙ ap (λ (d : Shift). code_step settings d.v d.w) same;
            carrier_step = cl.carrier_step ∙ ap (λ (d : Shift). carrier_step settings d.v) same;
          });
          dumps = one-more c cl.dumps dumps;
          steers = rw still steady;
        };
      }

  -- the segment that has just been opened may be given other steps
  GoesOn : Follower → ℤ → ℤ → Settings → Type 0
  GoesOn mid v w known = (channel : Channel) (xs : List Sample) → Opens known channel xs mid
      → channel.steering (counts_of (progress known channel xs).dumps) ≡ record { v = v; w = w }
      → segments.Follows known channel xs new.follower

  -- one that goes to loops
  pub takes-steered : (d : Dump) (mid : Follower) (v w : ℤ) (before after : Tracking)
      → Closes settings channel xs ys (counts_in d.counts) mid
      → new.dumps ≡ old.dumps + 1 → old.tracking ≡ Some before → new.tracking ≡ Some after
      → ((channel : Channel) (xs : List Sample) → Opens after.settings channel xs mid
      → channel.steering (counts_of (progress after.settings channel xs).dumps)
      ≡ record { v = v; w = w } → segments.Follows after.settings channel xs new.follower)
      → ((settings : Settings) (shift : ℤ) (dumps : List Counts)
      → trackings.StandsFor settings shift dumps before
      → trackings.StandsFor settings shift (dumps ++ counts_in d.counts ∷ []) after)
      → ((settings : Settings) (shift : ℤ) (dumps : List Counts)
      → trackings.StandsFor settings shift dumps before
      → trackings.Tells (dumps ++ counts_in d.counts ∷ []) d)
      → ((settings : Settings) (shift : ℤ) (dumps : List Counts)
      → trackings.StandsFor settings shift dumps after → v ≡ (shift_after shift dumps).v)
      → ((settings : Settings) (shift : ℤ) (dumps : List Counts)
      → trackings.StandsFor settings shift dumps after → w ≡ (shift_after shift dumps).w)
      → Takes settings channel xs ys new (Some d)
  unfolding GoesOn
  takes-steered d mid v w before after cl dumps was is steers stands tells v-is w-is =
      let has : HasLoops settings channel (counts_so_far settings channel xs) before =
      rw was at s.steers in
      let dump : DefinedDump = record { time = length (xs ++ ys); counts = counts_in d.counts } in
      let all : counts_so_far settings channel (xs ++ ys)
      ≡ counts_so_far settings channel xs ++ counts_in d.counts ∷ [] =
      ap counts_of cl.dumps
      ∙ map-append (λ (d : DefinedDump). d.counts) (progress settings channel xs).dumps
      (dump ∷ []) in
      let loops : trackings.StandsFor settings has.shift
      (counts_so_far settings channel xs ++ counts_in d.counts ∷ []) after =
      stands settings has.shift (counts_so_far settings channel xs) has.stands in
      let shift : channel.steering (counts_so_far settings channel (xs ++ ys))
      ≡ record { v = v; w = w } =
      has.steered _ ∙ ap (shift_after has.shift) all
      ∙ sym (same-shift v w _ _ (v-is settings has.shift _ loops)
      (w-is settings has.shift _ loops)) in
      let go : GoesOn mid v w settings = subst (GoesOn mid v w) loops.recorded steers in
      record {
        inside = cl.inside;
        brings =
            rw is (
              cl.dumps,
              rw all (tells settings has.shift
                  (counts_so_far settings channel xs) has.stands),
            );
        stands = record {
          follows = go channel (xs ++ ys) (record { at = cl.at; opens = cl.opens }) shift;
          dumps = one-more d.counts cl.dumps dumps;
          steers = rw (is, all)
              (record { shift = has.shift; steered = has.steered; stands = loops });
        };
      }
    where
      same-shift : (a b c d : ℤ) → a ≡ c → b ≡ d
          → ◌≡◌ {A = Shift} (record { v = a; w = b }) (record { v = c; w = d })
      same-shift a b c d e f =
          ap (λ x. let p : Shift = record { v = x; w = b } in p) e
          ∙ ap (λ x. let p : Shift = record { v = c; w = x } in p) f

-- more samples that it lets wait bring no dump
pub lets-wait : (settings : Settings) (channel : Channel) (xs ys : List Sample) (f : Followed)
    → Follows settings channel xs f → length (xs ++ ys) < f.follower.ends
    → Takes settings channel xs ys f None
lets-wait settings channel xs ys f s rests =
    let same : progress settings channel (xs ++ ys) ≡ progress settings channel xs =
    waits_same settings channel xs ys f.follower s.follows rests in
    record {
      inside = waits_inside settings channel xs ys f.follower s.follows (omega (arith, rests));
      brings = same;
      stands = record {
        follows = waits settings channel xs ys f.follower s.follows rests;
        dumps = rw same s.dumps;
        steers = rw same s.steers;
      };
    }
