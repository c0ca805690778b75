-- A satellite that is searched for, when it begins and when it goes on.
use Rattle.std.proofs.Common.{◌≡◌, ℕ, zero, suc, ◌+◌, ◌-◌, ◌*◌, ◌/◌, ◌<◌, ◌≤◌, List, ◌++◌}
use Rattle.std.proofs.Common.{length, refl, ◌%◌, sym, ap, ◌∙◌, arith, pos, length-append, inl, inr}
use Rattle.std.specs.Prelude.{Option, Some, None, IsSome, IfSome, min, ◌↔◌}
use Rattle.std.proofs.lemmas.Bool.{iff_false, cases_lt}
use Rattle.definitions.specs.Samples.{Sample}
use Rattle.definitions.specs.Oscillators.{Settings}
use Rattle.definitions.specs.Segments.{Shift}
use Rattle.definitions.specs.Loops.{loops_after}
use Rattle.definitions.specs.Lives.{found_channel, doppler_shift}
use Rattle.definitions.specs.Acquisition.{Plan, cell_count, cells_done, dwell_end, due_time}
use Rattle.definitions.specs.Acquisition.{Cell as DefinedCell, result_of, bin_shift}
use Rattle.acquisition.specs.declared.search.Search.{Search}
use Rattle.acquisition.specs.declared.cell.Cell.{Cell}
use Rattle.acquisition.specs.declared.signal.Signal.{Signal}
use Rattle.acquisition.specs.Cells.{cell_in}
use Rattle.acquisition.specs.Searches.{StandsFor, plan_of, end_of, done_of}
use Rattle.acquisition.proofs.StandingLemmas.{stands-begun, stands-longer}
use Rattle.channels.specs.declared.searched.Searched.{Searched}
use Rattle.channels.specs.Following.{BeginsAfter}
use Rattle.channels.specs.Searching.{Searches, Takes, Answers, next_cell, due_of}

-- fours, the last of which may be less
pub quarters : (n : ℕ) → n / 4 + min 1 (n % 4) ≡ (n + 3) / 4
quarters n = omega arith

-- the cells that are done with `time` samples, or with `to` where the answer is due before: as many
-- as are left, of four samples each, are missing
done-to : (cells end before time to done : ℕ) → before ≤ time → time ≡ min to (end + 4 * cells)
    → done ≡ min cells ((before - end) / 4)
    → min cells (done + (cells - (end + 4 * cells - to + 3) / 4 - done))
    ≡ min cells ((time - end) / 4)
done-to cells end before time to done more now was = omega (arith, more, now, was)

module _ (settings : Settings) (plan : Plan) (begun : ℕ) (xs : List Sample) (old : Searched)
    (s : Searches settings plan begun xs old) where
  cells : cell_count (plan_of old.search) ≡ cell_count plan
  cells = ap (λ (p : Plan). cell_count p) s.search.plan_is

  end : end_of old.search ≡ dwell_end settings plan begun
  end = rw (s.search.start_is, s.search.periods, s.search.per_period) refl

  -- its answer is due when the acquisition's is
  pub due : due_of old ≡ due_time settings plan begun
  due = rw (end, cells) refl

  -- its next cell comes with a later sample
  pub next-later : length xs < due_of old → length xs < next_cell old
  next-later early = omega (arith, s.done, end, cells, early)

  module _ (ys : List Sample) where
    -- the cells that it has done are the same after more samples
    stands-on : (n : ℕ) → done_of old.search ≡ n
        → StandsFor settings plan begun (xs ++ ys) old.search
    stands-on zero none = stands-begun settings plan begun xs (xs ++ ys) old.search none s.search
    stands-on (suc n) some =
        let whole : dwell_end settings plan begun ≤ length xs = omega (arith, some, s.done) in
        stands-longer settings plan begun xs ys old.search whole s.search

    pub stays : StandsFor settings plan begun (xs ++ ys) old.search
    stays = stands-on (done_of old.search) refl

    both : length (xs ++ ys) ≡ length xs + length ys
    both = simp length-append (omega arith)

    -- no cell is done with samples that don't bring the next one, and nothing is named
    pub waits : length (xs ++ ys) < next_cell old → Takes settings plan begun (xs ++ ys) None old
    waits early = record {
      stands = record {
        recorded = s.recorded;
        search = stays;
        begins = omega (arith, both, s.begins);
        done = omega (arith, both, s.done, end, cells, early);
      };
      answers = omega (arith, due, early);
    }

    module _ (to : ℕ) (now : length (xs ++ ys) ≡ min to (due_of old)) where
      -- where the next cell is done, the dwell is whole
      pub whole : next_cell old ≤ to → dwell_end settings plan begun ≤ length (xs ++ ys)
      whole late = omega (arith, now, end, late)

      pub searches-on : (new : Searched) → new.settings ≡ old.settings
          → done_of new.search ≡ min (cell_count (plan_of old.search)) (done_of old.search
          + (cell_count (plan_of old.search) - (due_of old - to + 3) / 4 - done_of old.search))
          → StandsFor settings plan begun (xs ++ ys) new.search
          → Searches settings plan begun (xs ++ ys) new
      searches-on new same done stands = record {
        recorded = same ∙ s.recorded;
        search = stands;
        begins = omega (arith, both, s.begins);
        done = done ∙ rw (cells, end) (done-to (cell_count plan) (dwell_end settings plan begun)
            (length xs) (length (xs ++ ys)) to (done_of old.search) (omega (arith, both))
            (rw due at now) s.done);
      }

      -- what it names is the answer where all cells are done
      pub answers-with : (r : Option Cell) (new : Search)
          → done_of new ≡ cells_done settings plan begun (length (xs ++ ys))
          → (IsSome r ↔ (done_of new ≡ cell_count (plan_of new)))
          → IfSome r (λ cell. (settings : Settings) (plan : Plan) (begun : ℕ) (zs : List Sample)
          → StandsFor settings plan begun zs new → cell_in cell ≡ result_of settings plan zs begun)
          → StandsFor settings plan begun (xs ++ ys) new
          → Answers settings plan begun (xs ++ ys) r
      answers-with None new done named cell stands = elim (cases_lt (length (xs ++ ys))
          (due_time settings plan begun)) [
            | inl early ↦ early
            | inr late ↦ absurd (iff_false (named.0, named.1) refl
                (omega (arith, late, done, ap (λ (p : Plan). cell_count p) stands.plan_is)))
          ]
      answers-with (Some c) new done named cell stands = (
        omega (arith, named.0 refl, done, ap (λ (p : Plan). cell_count p) stands.plan_is, now, due),
        cell settings plan begun (xs ++ ys) stands,
      )

-- the channel of a cell that was found begins at the due time, with its bin's shift and with its
-- code where that has come since the dwell began
pub found-begins : (settings : Settings) (plan : Plan) (begun n : ℕ) (cell : DefinedCell)
    (signal : Signal) (ago : ℕ) → signal.prn ≡ plan.prn
    → doppler_shift signal.doppler ≡ (bin_shift plan cell.bin).v → signal.half ≡ cell.half_chip
    → n ≡ due_time settings plan begun → due_time settings plan begun - begun ≡ ago
    → BeginsAfter settings signal.prn signal.doppler signal.half ago n
    (found_channel settings plan begun cell)
unfolding loops_after
found-begins settings plan begun n cell signal ago prn shift half now since = record {
  prn_is = sym prn;
  start = sym now;
  code = rw (half, shift, since) refl;
  shift = ap (λ v. let s : Shift = record { v = v; w = pos 0 } in s) (sym shift);
}
