-- The pushes with one more dump.
use Rattle.std.proofs.Common.{◌≡◌, ℕ, zero, suc, ◌≤◌, List, [], ◌∷◌, ◌++◌, length, take, drop, refl}
use Rattle.std.proofs.Common.{sym, arith, length-append}
use Rattle.std.specs.Prelude.{if◌then◌else◌, ◌&&◌}
use Rattle.std.proofs.lemmas.List.{take-append-le}
use Rattle.std.proofs.Math.Seq.{take-length, take-append_seam}
use Rattle.definitions.specs.Correlation.{Counts}
use Rattle.definitions.specs.Lock.{is_locked}
use Rattle.definitions.specs.Events.{pushes_by, pushes_of}

same_pushes : (ds es : List Counts) (k : ℕ) → k ≤ length ds
    → pushes_by (ds ++ es) k ≡ pushes_by ds k
unfolding pushes_by
same_pushes ds es zero h = refl
same_pushes ds es (suc k) h =
    rw (
      take-append-le k ds es (omega arith),
      take-append-le (suc k) ds es h,
      same_pushes ds es k (omega arith),
    )

drop_seam : (ds es : List Counts) → drop (length ds) (ds ++ es) ≡ es
drop_seam [] es = refl
drop_seam (d ∷ ds) es = drop_seam ds es

-- pushed where the loops were locked and still are; else there are none
pub pushes-more : (ds : List Counts) (d : Counts)
    → pushes_of (ds ++ d ∷ [])
    ≡ (if is_locked ds && is_locked (ds ++ d ∷ []) then pushes_of ds ++ d.ip ∷ [] else [])
unfolding pushes_by pushes_of
pushes-more ds d =
    let n : length (ds ++ d ∷ []) ≡ suc (length ds) = simp length-append (omega arith) in
    let whole : take (suc (length ds)) (ds ++ d ∷ []) ≡ ds ++ d ∷ [] =
    rw (sym n) (take-length (ds ++ d ∷ [])) in
    rw (
      n,
      whole,
      take-append_seam ds (d ∷ []),
      drop_seam ds (d ∷ []),
      same_pushes ds (d ∷ []) (length ds) (omega arith),
    )
