-- A life that loops steer goes on with its channel, whatever samples come.
use Rattle.std.proofs.Common.{◌≡◌, ℕ, ◌<◌, ◌≤◌, List, [], ◌++◌, length, refl}
use Rattle.std.proofs.Common.{arith, length-append, true, false}
use Rattle.std.specs.Prelude.{Bool, ◌&&◌, nat_le, if◌then◌else◌, Option, Some, None}
use Rattle.std.proofs.lemmas.Bool.{ne_eqb, leb-true, le-leb}
use Rattle.definitions.specs.Samples.{Sample}
use Rattle.definitions.specs.Oscillators.{Settings}
use Rattle.definitions.specs.Segments.{Channel}
use Rattle.definitions.specs.Acquisition.{Plan, Cell, result_of, due_time}
use Rattle.definitions.specs.Commands.{Start, hold, track, acquire}
use Rattle.definitions.specs.Lives.{channel_of, found_channel, found_nothing, is_steered}
use Rattle.definitions.specs.Events.{due_events}
use Rattle.definitions.proofs.AcquisitionLemmas.{result_of-append}

-- what stays as it is after the samples zs
pub record GoesOn (settings : Settings) (xs zs : List Sample) (begun : ℕ) (start : Start)
    (channel : Channel) : Type 0 where
  pub given : channel_of settings (xs ++ zs) begun start ≡ Some channel
  pub finds : found_nothing settings (xs ++ zs) begun start ≡ false
  pub told : 0 < length zs → due_events settings (xs ++ zs) begun start ≡ []

module _ (settings : Settings) (xs zs : List Sample) (begun : ℕ) (plan : Plan)
    (channel : Channel) where
  abbrev cell : Cell
  cell = result_of settings plan xs begun

  abbrev due : ℕ
  due = due_time settings plan begun

  abbrev channel_if : Bool → Cell → Option Channel
  channel_if is_due c =
      if is_due && c.found then Some (found_channel settings plan begun c) else None

  found-goes-on : nat_le due (length xs) ≡ true → cell.found ≡ true
      → Some (found_channel settings plan begun cell) ≡ Some channel
      → GoesOn settings xs zs begun (acquire plan) channel
  found-goes-on now found is =
      let come : due ≤ length xs = leb-true due (length xs) now in
      let longer : nat_le due (length (xs ++ zs)) ≡ true =
      le-leb due (length (xs ++ zs)) (simp length-append (omega (arith, come))) in
      let same : result_of settings plan (xs ++ zs) begun ≡ cell =
      result_of-append settings plan xs zs begun (omega (arith, come)) in
      record {
        given = rw (longer, same, found) is;
        finds = rw (longer, same, found) refl;
        told = λ more.
            let later : due < length (xs ++ zs) = simp length-append (omega (arith, come, more)) in
            rw (ne_eqb due (length (xs ++ zs)) (λ h. omega (arith, h, later))) refl;
      }

  by_due : (t f : Bool) → nat_le due (length xs) ≡ t → cell.found ≡ f
      → channel_of settings xs begun (acquire plan) ≡ Some channel
      → GoesOn settings xs zs begun (acquire plan) channel
  by_due false f now found given = absurd (none (rw now at given))
    where
      none : None ≡ Some channel → ⊥
      none e = cc
  by_due true false now found given = absurd (none (rw (now, found) at given))
    where
      none : None ≡ Some channel → ⊥
      none e = cc
  by_due true true now found given = found-goes-on now found (rw (now, found) at given)

pub steered-on : (settings : Settings) (xs zs : List Sample) (begun : ℕ) (start : Start)
    (channel : Channel) → is_steered start ≡ true
    → channel_of settings xs begun start ≡ Some channel
    → GoesOn settings xs zs begun start channel
steered-on settings xs zs begun (hold prn doppler half_chip) channel steered given = cc
steered-on settings xs zs begun (track prn doppler half_chip) channel steered given =
    record { given = given; finds = refl; told = λ more. refl }
steered-on settings xs zs begun (acquire plan) channel steered given =
    by_due settings xs zs begun plan channel (nat_le (due_time settings plan begun) (length xs))
    (result_of settings plan xs begun).found refl refl given
