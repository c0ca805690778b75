-- What a life emits that no loops steer.
use Rattle.std.proofs.Common.{◌≡◌, ℕ, ◌<◌, ◌≤◌, List, [], ◌∷◌, ◌++◌, length, refl, sym, ap}
use Rattle.std.proofs.Common.{◌∙◌, subst, arith, append-nil, false}
use Rattle.std.specs.Prelude.{ℤ, Bool, Some, nat_lt}
use Rattle.std.specs.List.{AllByRecursion}
use Rattle.definitions.specs.Samples.{Sample}
use Rattle.definitions.specs.Oscillators.{Settings}
use Rattle.definitions.specs.Segments.{Channel, Dump as DefinedDump, progress}
use Rattle.definitions.specs.Commands.{Start, hold, track, acquire}
use Rattle.definitions.specs.Lives.{Life, held_channel, channel_of, is_steered, dumps_of_life}
use Rattle.definitions.specs.Lives.{is_over}
use Rattle.definitions.specs.Events.{unprinted_count, count, life_events, when}
use Rattle.definitions.proofs.LifeLemmas.{hold-quiet, hold-tells, dumps-within}
use Rattle.lane_correlator.specs.Counting.{counts_in}
use Rattle.channels.specs.declared.dump.Dump.{Dump}
use Rattle.channels.specs.declared.followed.Followed.{Followed}
use Rattle.channels.specs.Dumps.{plain_dump, steered_events_in}
use Rattle.channels.specs.FollowedChannels as followed
use Rattle.channels.proofs.FollowingLemmas.{channel-begun}
use Rattle.channel_slots.specs.Stages.{IsFollowed}
use Rattle.channel_slots.proofs.TakesLemmas.{Brings, Dumped}

-- a start at a fixed shift gives its channel at once
pub record IsHeld (begun : ℕ) (start : Start) (channel : Channel) : Type 0
  where
    pub prn : ℕ
    pub doppler : ℤ
    pub half_chip : ℕ
    pub start_is : start ≡ hold prn doppler half_chip
    pub channel_is : held_channel begun prn doppler half_chip ≡ channel

held-start : (settings : Settings) (xs : List Sample) (begun : ℕ) (start : Start)
    (channel : Channel) → is_steered start ≡ false
    → channel_of settings xs begun start ≡ Some channel → IsHeld begun start channel
held-start settings xs begun (hold prn doppler half_chip) channel steered given = record {
  prn = prn;
  doppler = doppler;
  half_chip = half_chip;
  start_is = refl;
  channel_is = cc;
}
held-start settings xs begun (track prn doppler half_chip) channel steered given = cc
held-start settings xs begun (acquire plan) channel steered given = cc

module _ (settings : Settings) (zs : List Sample) (life : Life) (prn : ℕ) (doppler : ℤ)
    (half_chip : ℕ) (start : life.start ≡ hold prn doppler half_chip) where
  given : channel_of settings zs life.begun life.start
      ≡ Some (held_channel life.begun prn doppler half_chip)
  given = rw start refl

  dumps : dumps_of_life settings zs life
      ≡ (progress settings (held_channel life.begun prn doppler half_chip) zs).dumps
  unfolding dumps_of_life
  dumps = rw start

  on : is_over settings zs life ≡ false
  unfolding is_over
  on = rw start

module _ (settings : Settings) (xs : List Sample) (life : Life) (f : Followed)
    (s : IsFollowed settings xs life f) (steady : is_steered life.start ≡ false) where
  abbrev own : Channel
  own = s.channel

  held : IsHeld life.begun life.start own
  held = held-start settings xs life.begun life.start own steady s.given

  -- after any samples it has the same channel
  pub held-given : (zs : List Sample) → channel_of settings zs life.begun life.start ≡ Some own
  held-given zs =
      given settings zs life held.prn held.doppler held.half_chip held.start_is
      ∙ ap Some held.channel_is

  begun : life.begun ≤ length xs
  begun =
      let first = channel-begun settings own xs f.follower s.follows.follows in
      omega (arith, first, ap (λ (c : Channel). c.start) held.channel_is)

  -- the dumps of the life are those of its channel
  pub held-dumps : (ys : List Sample)
      → dumps_of_life settings ys life ≡ (progress settings own ys).dumps
  held-dumps ys =
      dumps settings ys life held.prn held.doppler held.half_chip held.start_is
      ∙ ap (λ (c : Channel). (progress settings c ys).dumps) held.channel_is

  -- it isn't over, whatever samples come
  pub held-on : (ys : List Sample) → is_over settings ys life ≡ false
  held-on ys = on settings ys life held.prn held.doppler held.half_chip held.start_is

  pub held-by-now : AllByRecursion (λ (d : DefinedDump). d.time ≤ length xs)
      (dumps_of_life settings xs life)
  held-by-now =
      rw (held-dumps xs) (dumps-within settings own xs
      (channel-begun settings own xs f.follower s.follows.follows))

  pub held-quiet : (zs : List Sample) → 0 < length zs
      → progress settings own (xs ++ zs) ≡ progress settings own xs
      → life_events settings (xs ++ zs) (Some life) ≡ []
  held-quiet zs more same =
      hold-quiet settings xs zs life held.prn held.doppler held.half_chip held.start_is begun more
      (subst (λ (c : Channel). progress settings c (xs ++ zs) ≡ progress settings c xs)
      (sym held.channel_is) same)

  pub held-brings : (ys : List Sample) (is_shown : Bool) (d : Dump) (g : Followed)
      → followed.is_steered g ≡ false → followed.Takes settings own xs ys g (Some d)
      → Brings settings xs ys life (Some (Dumped d is_shown))
  held-brings ys is_shown d g steers t =
      let now : DefinedDump = record { time = length (xs ++ ys); counts = counts_in d.counts } in
      let plain : d ≡ plain_dump d.counts = rw steers at t.brings.1 in
      let nothing : steered_events_in d ≡ [] = ap steered_events_in plain in (
        held-dumps (xs ++ ys) ∙ t.brings.0 ∙ ap (λ ds. ds ++ now ∷ []) (sym (held-dumps xs)),
        hold-tells settings (xs ++ ys) life held.prn held.doppler held.half_chip held.start_is
            (progress settings own xs).dumps now
            (ap (λ (c : Channel). (progress settings c (xs ++ ys)).dumps) held.channel_is
            ∙ t.brings.0) refl
            ∙ ap (λ ds. when (nat_lt 0 (unprinted_count life ds)) (count (counts_in d.counts)))
            (sym (held-dumps xs))
            ∙ sym (append-nil _)
            ∙ ap (λ es. when (nat_lt 0 (unprinted_count life (dumps_of_life settings xs life)))
            (count (counts_in d.counts)) ++ es) (sym nothing),
      )
