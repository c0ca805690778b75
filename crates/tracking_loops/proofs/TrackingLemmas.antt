-- The loops with one more dump.
use Rattle.std.proofs.Common.{◌≡◌, ◌+◌, List, [], ◌∷◌, ◌++◌, length, refl, ap, ◌∙◌, sym}
use Rattle.std.proofs.Common.{length-append}
use Rattle.std.specs.Prelude.{ℤ}
use Rattle.definitions.specs.Correlation.{Counts}
use Rattle.definitions.specs.Loops.{Loops as DefinedLoops, loops_after_dump}
use Rattle.definitions.proofs.LoopLemmas.{loops_after-more}
use Rattle.tracking_loops.specs.Standing.{steering_in, IsWatching, IsTracking, StandsFor}
use Rattle.tracking_loops.specs.Standing.{dump_count}
use Rattle.tracking_loops.specs.declared.loops.Loops.{Loops}
use Rattle.tracking_loops.specs.declared.steering.Steering.{Steering}

pub counted : (d : Counts) (old new : Steering) → steering_in new
    ≡ loops_after_dump (steering_in old) d → new.dumps ≡ old.dumps + 1
counted d old new steered = ap (λ (l : DefinedLoops). l.taken) steered

pub tracked : (start : ℤ) (dumps : List Counts) (d : Counts) (old new : Loops)
    → IsTracking start dumps old → steering_in new.steering
    ≡ loops_after_dump (steering_in old.steering) d
    → IsWatching (dumps ++ d ∷ []) new.lock → IsTracking start (dumps ++ d ∷ []) new
tracked start dumps d old new h steered watching =
    let longer : length (dumps ++ d ∷ []) ≡ length dumps + 1 = simp length-append refl in
    record {
      taken = counted d old.steering new.steering steered ∙ ap (λ n. n + 1) h.taken ∙ sym longer;
      steering = steered ∙ ap (λ (l : DefinedLoops). loops_after_dump l d) h.steering
          ∙ sym (loops_after-more start dumps d);
      lock = watching;
    }

-- the count of dumps, for callers that know the list
pub dump_count-is : (start : ℤ) (dumps : List Counts) (loops : Loops) → StandsFor start dumps loops
    → dump_count loops ≡ length dumps
unfolding StandsFor dump_count
dump_count-is start dumps loops h = h.taken
