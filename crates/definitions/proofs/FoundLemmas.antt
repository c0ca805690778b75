-- The code of a found signal goes on.
use Rattle.std.proofs.Common.{◌≡◌, ℕ, ◌-◌, ◌*◌, ◌^◌, ◌≤◌, length, refl, sym}
use Rattle.std.specs.Prelude.{Bool, true, false, pos, [], Some, None, cond, nat_le, ◌&&◌}
use Rattle.std.proofs.lemmas.Bool.{and_parts, leb-true}
use Rattle.definitions.specs.Oscillators.{Settings, code_cycle, code_step}
use Rattle.definitions.specs.Segments.{Channel, Shift}
use Rattle.definitions.specs.Acquisition.{Plan, Cell, bin_of, half_chip_of, cell_shift}
use Rattle.definitions.specs.Acquisition.{result_of, due_time}
use Rattle.definitions.specs.Loops.{loops_after, shift_after}
use Rattle.definitions.specs.Lives.{found_channel}
use Rattle.definitions.proofs.PhaseLemmas.{phase-on}
use Rattle.definitions.proofs.EventLemmas.{named}
use Rattle.definitions.specs.EventLaws.{IsNamed, GoesOnFrom, FoundCodeGoesOn}

-- with no dump yet the loops ask for the shift that they began with
first-shift : (shift : Shift) → shift.w ≡ pos 0 → shift_after shift.v [] ≡ shift
unfolding loops_after
first-shift shift e = rw e refl

-- a cell of this bin and half chip is gone on from
goes-on : (settings : Settings) (plan : Plan) (start named : ℕ) (cell : Cell)
    → cell.bin ≡ bin_of plan named → cell.half_chip ≡ half_chip_of named
    → GoesOnFrom settings plan start named (found_channel settings plan start cell)
goes-on settings plan start named cell bin half_chip = record {
  satellite = refl;
  is_due = refl;
  shift = rw bin (first-shift (cell_shift plan named) refl);
  code = λ j. rw (bin, half_chip)
      (phase-on code_cycle (half_chip_of named * 2 ^ 31)
      (code_step settings (cell_shift plan named).v (pos 0))
      (due_time settings plan start - start) j);
}

pub code-goes-on : FoundCodeGoesOn
code-goes-on settings xs plan start channel e =
    by_test (nat_le (due_time settings plan start) (length xs) && the_cell.found) refl e
  where
    the_cell : Cell
    the_cell = result_of settings plan xs start

    the_channel : Channel
    the_channel = found_channel settings plan start the_cell

    by_test : (b : Bool)
        → (nat_le (due_time settings plan start) (length xs) && the_cell.found) ≡ b
        → cond b (Some the_channel) None ≡ Some channel
        → (due_time settings plan start ≤ length xs) × (named : ℕ)
        × IsNamed settings xs plan start named the_cell × (the_cell.found ≡ true)
        × GoesOnFrom settings plan start named channel
    by_test false is e = cc
    by_test true is e =
        let it : the_channel ≡ channel = cc in
        let both = and_parts _ _ is in
        let cell = named settings xs plan start in (
          leb-true (due_time settings plan start) (length xs) both.0,
          cell.0,
          cell.1,
          both.1,
          rw (sym it) (goes-on settings plan start cell.0 the_cell cell.1.bin cell.1.half_chip),
        )
