-- Products of samples that follow one another at a half chip, added up.
use Rattle.std.proofs.Common.{◌≡◌, ℕ, ◌+◌, ◌-◌, ◌*◌, ◌/◌, ◌^◌, ◌<◌, ◌≤◌, refl, ap, ◌∙◌, arith}
use Rattle.std.proofs.Common.{to_z, of_z, w32}
use Rattle.std.specs.Prelude.{ℤ, pos, ◌+ℤ◌, ◌==◌, cond, List, get_or, min, unsigned_abs}
use Rattle.definitions.specs.Sums.{total, sum_between}
use Rattle.definitions.proofs.SumsLemmas.{total-same, total-bound}
use Rattle.definitions.specs.Oscillators.{code_phase_after}
use Rattle.bit_planes.specs.declared.plane.TheConstants.{WORD_PLACES}
use Rattle.oscillators.specs.declared.carrier.TheConstants.{MOST_PRODUCT}
use Rattle.acquisition.specs.Folds.{IsTable, half_chip_at}
use Rattle.acquisition.specs.FoldStates.{HasRoom}
use Rattle.acquisition.specs.declared.fold.Fold.{Fold}
use Rattle.acquisition.specs.declared.half_chip_table.TheConstants.{HALF_CHIPS}
use Rattle.acquisition.proofs.FoldLemmas.{entry_in_32}
use Rattle.acquisition.proofs.PlaceLemmas.{code-goes_on, place_is}
use Rattle.acquisition.proofs.TableLemmas.{table_more}

-- a sum of parts from one on, in 32 bits
pub record IsRunSum (part : ℕ → ℤ) (first len : ℕ) (sum : ℤ) : Type 0 where
  pub value : to_z w32 (of_z w32 sum) ≡ total (λ j. part (first + j)) len
  pub small : unsigned_abs (to_z w32 (of_z w32 sum)) ≤ 9 * len

pub is_run_sum : (part : ℕ → ℤ) (first len : ℕ) (sum : ℤ) → len ≤ 14
    → ((j : ℕ) → j < first + len → unsigned_abs (part j) ≤ 9)
    → sum ≡ sum_between part first (first + len) → IsRunSum part first len sum
is_run_sum part first len sum few small is =
    let long : first + len - first ≡ len = omega arith in
    let value : sum ≡ total (λ j. part (first + j)) len = rw long at is in
    let most : unsigned_abs sum ≤ len * 9 =
    rw value (total-bound (λ j. part (first + j)) 9 len (λ j h. small (first + j) (omega arith))) in
    let kept : to_z w32 (of_z w32 sum) ≡ sum = entry_in_32 sum (omega (arith, most, few)) in
    record { value = kept ∙ value; small = rw kept (omega (arith, most)) }

-- a table with such a sum more, for samples that a walk passes at one half chip
pub table_run : (y : ℕ → ℤ) (step from n done len place : ℕ) (part : ℕ → ℤ) (sum : ℤ)
    (old new : List ℤ) → IsTable y step from (n + done) old
    → ((j : ℕ) → j < len → code_phase_after (code_phase_after
    (code_phase_after 0 step (from + n)) step done) step j / 2 ^ 31 ≡ place)
    → ((j : ℕ) → j < done + len → part j ≡ y (from + n + j)) → IsRunSum part done len sum
    → ((k : ℕ) → k < HALF_CHIPS → get_or new k (pos 0)
    ≡ get_or old k (pos 0) +ℤ cond (place == k) (to_z w32 (of_z w32 sum)) (pos 0))
    → IsTable y step from (n + (done + len)) new
table_run y step from n done len place part sum old new is here of run more =
    let all : n + done + len ≡ n + (done + len) = omega arith in
    rw all at (table_more y step from (n + done) len place (to_z w32 (of_z w32 sum)) old new is
    at_place (run.value ∙ total-same (λ j. part (done + j)) (λ j. y (from + (n + done + j))) len
    (λ j h. of (done + j) (omega (arith, h)) ∙ ap y (on j))) more)
  where
    on : (j : ℕ) → from + n + (done + j) ≡ from + (n + done + j)
    on j = omega arith

    at_place : (j : ℕ) → j < len → half_chip_at step (from + (n + done + j)) ≡ place
    at_place j h =
        let code : ℕ = code_phase_after 0 step (from + n) in
        let phase : ℕ = code_phase_after (code_phase_after code step done) step j in
        let way : phase ≡ code_phase_after code step (done + j) =
        code-goes_on code (code_phase_after code step done) step step done j refl refl in
        let same : phase / 2 ^ 31 ≡ half_chip_at step (from + (n + done + j)) =
        place_is code phase step (from + n) (done + j) refl way ∙ ap (half_chip_at step) (on j) in
        rw same at (here j h)

-- of products of a word that a walk and the word's end leave, at most fourteen are added up
pub word_sum : (part : ℕ → ℤ) (count done left near len : ℕ) (sum : ℤ) → len ≡ min near 14
    → near ≡ min left (count - done) → done < count → count ≤ WORD_PLACES
    → ((j : ℕ) → j < WORD_PLACES → unsigned_abs (part j) ≤ MOST_PRODUCT)
    → sum ≡ sum_between part done (done + len) → IsRunSum part done len sum
word_sum part count done left near len sum is_len is_near more inside small is =
    is_run_sum part done len sum (omega (arith, is_len))
    (λ j h. small j (omega (arith, h, is_len, is_near, more, inside))) is

-- the room that is left for the products of a word that are still to come
pub room_left : (count done : ℕ) (old fold : Fold) → done < count → HasRoom count old
    → ((n : ℕ) → HasRoom (done + n) old → HasRoom n fold) → HasRoom (count - done) fold
room_left count done old fold more room kept =
    let whole : done + (count - done) ≡ count = omega (arith, more) in
    kept (count - done) (rw whole room)

pub room_less : (m n : ℕ) (fold : Fold) → m ≤ n → HasRoom n fold → HasRoom m fold
room_less m n fold less room = record {
  in_phase = omega (arith, less, room.in_phase);
  quadrature = omega (arith, less, room.quadrature);
}
