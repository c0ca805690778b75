-- The sum over a fold with the signs of a code, from the sums over its chips of 1.
use Rattle.std.proofs.Common.{◌≡◌, ℕ, zero, suc, ◌+◌, ◌-◌, ◌*◌, ◌/◌, ◌%◌, ◌^◌, ◌<◌, ◌≤◌, refl}
use Rattle.std.proofs.Common.{sym, ap, ◌∙◌, arith}
use Rattle.std.specs.Prelude.{ℤ, pos, negsuc, ◌+ℤ◌, ◌-ℤ◌, ◌*ℤ◌, ◌==◌, Bool, true, false, cond}
use Rattle.std.specs.Prelude.{List, length, get_or, slice_index, unsigned_abs}
use Rattle.std.proofs.lemmas.Int.{ints}
use Rattle.definitions.specs.Sums.{total}
use Rattle.definitions.specs.Codes.{chip, chip_sign}
use Rattle.definitions.proofs.SumsLemmas.{total-same}
use Rattle.acquisition.specs.Folds.{correlation, correlation_to, sizes_to, total_to}
use Rattle.acquisition.specs.Ones.{AreOnes, count_of, first_place, next_place}
use Rattle.acquisition.specs.Rings.{chip_from, cell_sum, half_chip_in_ring, IsRing, IsSumAtOnes}
use Rattle.acquisition.specs.Rings.{place_of, sum_at, AreRaised, HasSmallCells, IsPairAtOnes}
use Rattle.acquisition.specs.Rings.{IsPart, with_next}
use Rattle.acquisition.specs.Twos.{HasPairs}
use Rattle.acquisition.specs.declared.chip_ring.TheConstants.{RAISED}
use Rattle.acquisition.specs.declared.half_chip_table.HalfChipTable.{HalfChipTable}
use Rattle.acquisition.specs.declared.ones.Ones.{Ones}
use Rattle.acquisition.specs.declared.sums.TheConstants.{MOST_PERIOD_SUM}
use Rattle.acquisition.proofs.SignLemmas.{sign_of_one, sign_of_zero}
use Rattle.acquisition.specs.declared.fold.TheConstants.{MOST_SMALL}
use Rattle.acquisition.proofs.FoldLemmas.{entry_in_32}
use Rattle.acquisition.proofs.TableLemmas.{correlation_size, size_of_one}
use Rattle.std.proofs.Common.{to_z, of_z, w32}
use Rattle.std.proofs.lemmas.Int.{to_z-of_z, fits_signed_from_abs}
use Rattle.acquisition.specs.declared.half_chip_table.TheConstants.{HALF_CHIPS}
use Rattle.ca_codes.specs.declared.book.TheConstants.{CODE_CHIPS}

-- a sum whose terms go round by one
total-next : (f : ℕ → ℤ) (n : ℕ) → total (λ k. f (suc k)) n +ℤ f 0 ≡ total f n +ℤ f n
unfolding total
total-next f zero = refl
total-next f (suc n) =
    moved (total (λ k. f (suc k)) n) (f (suc n)) (f 0) (total f n) (f n) (total-next f n)
  where
    moved : (a b c d e : ℤ) → a +ℤ c ≡ d +ℤ e → a +ℤ b +ℤ c ≡ d +ℤ e +ℤ b
    moved a b c d e h = omega (arith, ints, h)

total-round : (f : ℕ → ℤ) (n : ℕ) → f n ≡ f 0 → total (λ k. f (suc k)) n ≡ total f n
total-round f n same =
    cancel (total (λ k. f (suc k)) n) (f 0) (total f n) (f n) (total-next f n) same
  where
    cancel : (a b c d : ℤ) → a +ℤ b ≡ c +ℤ d → d ≡ b → a ≡ c
    cancel a b c d h e = omega (arith, ints, h, e)

-- a sum around a cycle, wherever it begins
total-turned : (f : ℕ → ℤ) (h : ℕ)
    → total (λ k. f ((h + k) % HALF_CHIPS)) HALF_CHIPS ≡ total f HALF_CHIPS
total-turned f zero =
    total-same (λ k. f ((0 + k) % HALF_CHIPS)) f HALF_CHIPS (λ k below. ap f (inside k below))
  where
    inside : (k : ℕ) → k < HALF_CHIPS → (0 + k) % HALF_CHIPS ≡ k
    inside k below = omega (arith, below)
total-turned f (suc h) =
    total-same (λ k. f ((suc h + k) % HALF_CHIPS)) (λ k. f ((h + suc k) % HALF_CHIPS)) HALF_CHIPS
    (λ k below. ap (λ (m : ℕ). f (m % HALF_CHIPS)) (on h k))
    ∙ total-round (λ k. f ((h + k) % HALF_CHIPS)) HALF_CHIPS (ap f (around h))
    ∙ total-turned f h
  where
    on : (h k : ℕ) → suc h + k ≡ h + suc k
    on h k = omega arith

    around : (h : ℕ) → (h + HALF_CHIPS) % HALF_CHIPS ≡ (h + 0) % HALF_CHIPS
    around h = omega arith

-- a sum by pairs
total-pairs : (f : ℕ → ℤ) (n : ℕ) → total f (2 * n) ≡ total (λ c. f (2 * c) +ℤ f (2 * c + 1)) n
unfolding total
total-pairs f zero = refl
total-pairs f (suc n) =
    let e : 2 * suc n ≡ suc (suc (2 * n)) = omega arith in
    let g : suc (2 * n) ≡ 2 * n + 1 = omega arith in
    rw (e, total-pairs f n, g)
    (grouped (total (λ c. f (2 * c) +ℤ f (2 * c + 1)) n) (f (2 * n)) (f (2 * n + 1)))
  where
    grouped : (a b c : ℤ) → a +ℤ b +ℤ c ≡ a +ℤ (b +ℤ c)
    grouped a b c = omega (arith, ints)

-- a sum with signs is the sum without them, less twice that at chips of 1
total-signs : (t : ℕ → ℤ) (prn : ℕ) (at : ℕ → ℕ) (n : ℕ)
    → total (λ k. t k *ℤ chip_sign prn (at k)) n
    ≡ total t n -ℤ pos 2 *ℤ total (λ k. cond (chip prn (at k) == 1) (t k) (pos 0)) n
unfolding total
total-signs t prn at zero = refl
total-signs t prn at (suc n) =
    rw (total-signs t prn at n) (one_more (chip prn (at n) == 1) (chip_sign prn (at n)) (t n)
    (total t n) (total (λ k. cond (chip prn (at k) == 1) (t k) (pos 0)) n)
    (sign_of_one prn (at n)) (sign_of_zero prn (at n)))
  where
    less : (t a b : ℤ) → a -ℤ pos 2 *ℤ b +ℤ t *ℤ negsuc 0 ≡ a +ℤ t -ℤ pos 2 *ℤ (b +ℤ t)
    less t a b = omega (arith, ints)

    more : (t a b : ℤ) → a -ℤ pos 2 *ℤ b +ℤ t *ℤ pos 1 ≡ a +ℤ t -ℤ pos 2 *ℤ (b +ℤ pos 0)
    more t a b = omega (arith, ints)

    one_more : (is : Bool) (sign t a b : ℤ) → (is ≡ true → sign ≡ negsuc 0)
        → (is ≡ false → sign ≡ pos 1)
        → a -ℤ pos 2 *ℤ b +ℤ t *ℤ sign ≡ a +ℤ t -ℤ pos 2 *ℤ (b +ℤ cond is t (pos 0))
    one_more true sign t a b one nought = rw (one refl) (less t a b)
    one_more false sign t a b one nought = rw (nought refl) (more t a b)

-- the half chip from a cell's first one on, counted around the code, by its number in the code
abbrev from_cell : ℕ → ℕ → ℕ
from_cell cell m = (m + 2 * HALF_CHIPS - cell) % HALF_CHIPS

-- the entry of a table at a half chip of the code that begins `cell` half chips on, where the chip
-- there is 1
at_one : ℕ → ℕ → List ℤ → ℕ → ℤ
at_one prn cell table m =
    cond (chip prn (m / 2) == 1) (get_or table (from_cell cell m) (pos 0)) (pos 0)

entry_at_one : (prn cell k : ℕ) (table : List ℤ) → cell ≤ 2 * HALF_CHIPS → k < HALF_CHIPS
    → cond (chip prn ((cell + k) / 2) == 1) (get_or table k (pos 0)) (pos 0)
    ≡ at_one prn cell table ((cell + k) % HALF_CHIPS)
unfolding at_one chip
entry_at_one prn cell k table few below =
    let place : from_cell cell ((cell + k) % HALF_CHIPS) ≡ k = omega (arith, few, below) in
    let here : (cell + k) % HALF_CHIPS / 2 % CODE_CHIPS ≡ (cell + k) / 2 % CODE_CHIPS =
    omega arith in
    rw (place, here) refl

chip_at_one : (prn cell c : ℕ) (table : List ℤ) → cell ≤ 2 * HALF_CHIPS
    → at_one prn cell table (2 * c) +ℤ at_one prn cell table (2 * c + 1)
    ≡ cond (chip prn c == 1) (chip_from table (from_cell cell (2 * c))) (pos 0)
unfolding at_one
chip_at_one prn cell c table few =
    let first : 2 * c / 2 ≡ c = omega arith in
    let second : (2 * c + 1) / 2 ≡ c = omega arith in
    let next : from_cell cell (2 * c + 1) ≡ (from_cell cell (2 * c) + 1) % HALF_CHIPS =
    omega (arith, few) in
    rw (first, second, next) (both (chip prn c == 1)
    (get_or table (from_cell cell (2 * c)) (pos 0))
    (get_or table ((from_cell cell (2 * c) + 1) % HALF_CHIPS) (pos 0)))
  where
    both : (is : Bool) (a b : ℤ)
        → cond is a (pos 0) +ℤ cond is b (pos 0) ≡ cond is (a +ℤ b) (pos 0)
    both true a b = refl
    both false a b = refl

-- the sum over a table at the chips of 1, chip by chip
pub sum_at_ones : ℕ → ℕ → List ℤ → ℤ
sum_at_ones prn cell table = total
    (λ c. cond (chip prn c == 1) (chip_from table (from_cell cell (2 * c))) (pos 0)) CODE_CHIPS

pub less_ones : (prn cell : ℕ) (table : List ℤ) → cell ≤ 2 * HALF_CHIPS → correlation prn cell table
    ≡ total_to table HALF_CHIPS -ℤ pos 2 *ℤ sum_at_ones prn cell table
unfolding correlation_to total_to sum_at_ones
less_ones prn cell table few =
    let entry : ℕ → ℤ = λ k. get_or table k (pos 0) in
    total-signs entry prn (λ k. (cell + k) / 2) HALF_CHIPS
    ∙ ap (λ (z : ℤ). total entry HALF_CHIPS -ℤ pos 2 *ℤ z)
    (total-same (λ k. cond (chip prn ((cell + k) / 2) == 1) (entry k) (pos 0))
    (λ k. at_one prn cell table ((cell + k) % HALF_CHIPS)) HALF_CHIPS
    (λ k below. entry_at_one prn cell k table few below)
    ∙ total-turned (at_one prn cell table) cell ∙ total-pairs (at_one prn cell table) CODE_CHIPS
    ∙ total-same (λ c. at_one prn cell table (2 * c) +ℤ at_one prn cell table (2 * c + 1))
    (λ c. cond (chip prn c == 1) (chip_from table (from_cell cell (2 * c))) (pos 0)) CODE_CHIPS
    (λ c below. chip_at_one prn cell c table few))

-- a sum of terms that are all raised by as much
total-raised : (b : ℕ) (f : ℕ → ℤ) (n : ℕ)
    → total (λ k. pos b +ℤ f k) n ≡ pos (b * n) +ℤ total f n
unfolding total
total-raised b f zero = let e : b * 0 ≡ 0 = omega arith in rw e refl
total-raised b f (suc n) =
    let e : b * suc n ≡ b * n + b = omega arith in
    rw (total-raised b f n, e) (apart (b * n) b (total f n) (f n))
  where
    apart : (m b : ℕ) (z y : ℤ) → pos m +ℤ z +ℤ (pos b +ℤ y) ≡ pos (m + b) +ℤ (z +ℤ y)
    apart m b z y = omega (arith, ints)

-- the entries of a ring at the places of some chips, and at those of twos
ring_entry : (half l place : ℕ) → ℕ
ring_entry half l place = half_chip_in_ring (place_of half place + l)

next_entry : (half l place : ℕ) → half < HALF_CHIPS → l < 64
    → half_chip_in_ring (next_place (place_of half place + l))
    ≡ ring_entry half l (next_place place)
unfolding ring_entry
next_entry half l place inside lane = omega (arith, inside, lane)

-- the raised sum over a ring at the chips of 1
pub raised_ones : (prn half l : ℕ) (alone twos ring : List ℕ) (table : List ℤ) → half < HALF_CHIPS
    → l < 64 → AreOnes prn CODE_CHIPS alone twos → IsRing table ring
    → sum_at (slice_index ring) half alone (length alone) l
    +ℤ sum_at (with_next (slice_index ring)) half twos (length twos) l
    ≡ pos (RAISED * count_of alone twos) +ℤ sum_at_ones prn (half + l) table
unfolding sum_at_ones ring_entry
raised_ones prn half l alone twos ring table inside lane ones is =
    let from : ℕ → ℤ = λ p. chip_from table (ring_entry half l p) in
    let first : sum_at (slice_index ring) half alone (length alone) l
    ≡ pos (RAISED * length alone) +ℤ total (λ k. from (slice_index alone k)) (length alone) =
    total-same (λ k. pos (slice_index ring (place_of half (slice_index alone k) + l)))
    (λ k. pos RAISED +ℤ from (slice_index alone k)) (length alone)
    (λ k h. is (place_of half (slice_index alone k) + l) (omega (arith, lane)))
    ∙ total-raised RAISED (λ k. from (slice_index alone k)) (length alone) in
    let second : sum_at (with_next (slice_index ring)) half twos (length twos) l
    ≡ pos (2 * RAISED * length twos)
    +ℤ total (λ k. from (slice_index twos k) +ℤ from (next_place (slice_index twos k)))
    (length twos) =
    total-same (λ k. pos (with_next (slice_index ring) (place_of half (slice_index twos k) + l)))
    (λ k. pos (2 * RAISED)
    +ℤ (from (slice_index twos k) +ℤ from (next_place (slice_index twos k)))) (length twos)
    (λ k h. two (slice_index twos k))
    ∙ total-raised (2 * RAISED)
    (λ k. from (slice_index twos k) +ℤ from (next_place (slice_index twos k))) (length twos) in
    rw (first, second)
    (added (length alone) (length twos)
    (total (λ k. from (slice_index alone k)) (length alone))
    (total (λ k. from (slice_index twos k) +ℤ from (next_place (slice_index twos k)))
    (length twos)) (sum_at_ones prn (half + l) table)
    (ones.sums from
    ∙ total-same (λ c. cond (chip prn c == 1) (from (first_place c)) (pos 0))
    (λ c. cond (chip prn c == 1) (chip_from table (from_cell (half + l) (2 * c))) (pos 0))
    CODE_CHIPS (λ c below. ap (λ (k : ℕ). cond (chip prn c == 1) (chip_from table k) (pos 0))
    (at_chip c below))))
  where
    at_chip : (c : ℕ) → c < CODE_CHIPS
        → ring_entry half l (first_place c) ≡ from_cell (half + l) (2 * c)
    at_chip c below = omega (arith, inside, lane, below)

    both : (a b : ℕ) (x y : ℤ) → pos a ≡ pos RAISED +ℤ x → pos b ≡ pos RAISED +ℤ y
        → pos (a + b) ≡ pos (2 * RAISED) +ℤ (x +ℤ y)
    both a b x y e f = omega (arith, ints, e, f)

    two : (p : ℕ) → pos (with_next (slice_index ring) (place_of half p + l))
        ≡ pos (2 * RAISED) +ℤ (chip_from table (ring_entry half l p)
        +ℤ chip_from table (ring_entry half l (next_place p)))
    two p = both (slice_index ring (place_of half p + l))
        (slice_index ring (next_place (place_of half p + l)))
        (chip_from table (ring_entry half l p))
        (chip_from table (ring_entry half l (next_place p)))
        (is (place_of half p + l) (omega (arith, lane)))
        (is (next_place (place_of half p + l)) (omega arith)
        ∙ ap (λ (k : ℕ). pos RAISED +ℤ chip_from table k) (next_entry half l p inside lane))

    added : (m n : ℕ) (x y z : ℤ) → x +ℤ y ≡ z
        → (pos (RAISED * m) +ℤ x) +ℤ (pos (2 * RAISED * n) +ℤ y)
        ≡ pos (RAISED * (m + 2 * n)) +ℤ z
    added m n x y z e = omega (arith, ints, e)

-- a table's entries are no greater than the samples of a period
pub table_sizes : (table : HalfChipTable) → sizes_to table.sums HALF_CHIPS ≤ MOST_PERIOD_SUM
table_sizes table = table.small

-- how many chips of 1 there are
abbrev pub ones_of : Ones → ℕ
ones_of ones = count_of ones.alone.items ones.twos.items

-- the sum of all samples less twice those at chips of 1, from a lane
pub record IsCellSum (prn cell : ℕ) (table : List ℤ) (sum : ℤ) : Type 0 where
  pub value : sum ≡ correlation prn cell table
  pub small : unsigned_abs sum ≤ MOST_PERIOD_SUM

pub is_cell_sum : (ones : Ones) (half l lane : ℕ) (table : List ℤ) (ring : List ℕ)
    (whole sum : ℤ) → half < HALF_CHIPS → l < 64 → sizes_to table HALF_CHIPS ≤ MOST_PERIOD_SUM
    → IsRing table ring → whole ≡ total_to table HALF_CHIPS
    → IsSumAtOnes ones (slice_index ring) half l lane
    → sum ≡ cell_sum whole lane (ones_of ones)
    → IsCellSum ones.prn (half + l) table sum
is_cell_sum ones half l lane table ring whole sum inside few small is all at is_sum =
    let cell : ℕ = half + l in
    let ones_sum : ℤ = sum_at_ones ones.prn cell table in
    let count : ℕ = ones_of ones in
    let raised : pos lane ≡ pos (RAISED * count) +ℤ ones_sum = at
    ∙ raised_ones ones.prn half l ones.alone.items ones.twos.items ring table inside few ones.are
    is in
    let value : sum ≡ correlation ones.prn cell table = is_sum
    ∙ rw (all, raised, lowered (RAISED * count) ones_sum)
    (sym (less_ones ones.prn cell table (omega (arith, inside, few)))) in
    record {
      value = value;
      small = rw value (omega (arith, correlation_size ones.prn cell HALF_CHIPS table, small));
    }
  where
    lowered : (n : ℕ) (z : ℤ) → pos n +ℤ z -ℤ pos n ≡ z
    lowered n z = omega (arith, ints)

pub small_cells : (table : List ℤ) (ring : List ℕ) (whole : ℤ)
    → sizes_to table HALF_CHIPS ≤ MOST_PERIOD_SUM → IsRing table ring
    → whole ≡ total_to table HALF_CHIPS
    → HasSmallCells ring whole
small_cells table ring whole sizes is all ones half l lane inside few at =
    (is_cell_sum ones half l lane table ring whole (cell_sum whole lane (ones_of ones)) inside few
    sizes is all at refl).small

-- the ring of a part
pub is_part : (table : HalfChipTable) (ring : List ℕ) (whole : ℤ) → IsRing table.sums ring
    → whole ≡ total_to table.sums HALF_CHIPS → IsPart ring whole
is_part table ring whole is all = record {
  raised = λ i h.
      let k : ℕ = half_chip_in_ring i in
      bounded (slice_index ring i) (get_or table.sums k (pos 0))
      (get_or table.sums ((k + 1) % HALF_CHIPS) (pos 0)) (is i h)
      (size_of_one table.sums k HALF_CHIPS (omega arith))
      (size_of_one table.sums ((k + 1) % HALF_CHIPS) HALF_CHIPS (omega arith));
  cells = small_cells table.sums ring whole (table_sizes table) is all;
}
  where
    bounded : (n : ℕ) (a b : ℤ) → pos n ≡ pos RAISED +ℤ (a +ℤ b)
        → unsigned_abs a ≤ sizes_to table.sums HALF_CHIPS
        → unsigned_abs b ≤ sizes_to table.sums HALF_CHIPS
        → n ≤ 2 * RAISED
    bounded n a b e small_a small_b =
        omega (arith, ints, e, small_a, small_b, table_sizes table)

-- the sum at the chips of 1, from a lane over the ring of a part alone
total-zeros : (n : ℕ) → total (λ _. pos 0) n ≡ pos 0
unfolding total
total-zeros zero = refl
total-zeros (suc n) = rw (total-zeros n) refl

pub pairs_of_part : (ring : List ℕ) → AreRaised ring → HasPairs (slice_index ring) (λ _. 0) ring
pairs_of_part ring raised i h = sym (kept (slice_index ring i) (raised i h))
  where
    kept : (n : ℕ) → n ≤ 2 * RAISED → (n + 2 ^ 16 * 0) % 2 ^ 32 ≡ n
    kept n small = omega (arith, small)

pub record IsPartAtOnes (ones : Ones) (ring : List ℕ) (half l lane : ℕ) : Type 0 where
  pub sum : IsSumAtOnes ones (slice_index ring) half l lane
  pub most : lane ≤ 2 * RAISED * CODE_CHIPS

pub part_at_ones : (ones : Ones) (ring : List ℕ) (whole : ℤ) (half l lane : ℕ) → half < HALF_CHIPS
    → l < 64 → IsPart ring whole → unsigned_abs whole ≤ MOST_PERIOD_SUM
    → IsPairAtOnes ones (slice_index ring) (λ _. 0) half l lane
    → IsPartAtOnes ones ring half l lane
part_at_ones ones ring whole half l lane inside few part small is =
    let count : ℕ = ones_of ones in
    let none : pos is.of_second ≡ pos 0 = is.is_second
    ∙ rw (total-zeros (length ones.alone.items), total-zeros (length ones.twos.items)) refl in
    let most : is.of_first ≤ 2 * RAISED * CODE_CHIPS =
    bounded whole is.of_first count ones.are.few small
    (part.cells ones half l is.of_first inside few is.is_first) in
    let same : lane ≡ is.of_first = is.is_pair ∙ alone is.of_first is.of_second none most in
    record { sum = rw same is.is_first; most = rw same most }
  where
    bounded : (whole : ℤ) (n count : ℕ) → count ≤ CODE_CHIPS → unsigned_abs whole ≤ MOST_PERIOD_SUM
        → unsigned_abs (cell_sum whole n count) ≤ MOST_PERIOD_SUM → n ≤ 2 * RAISED * CODE_CHIPS
    bounded whole n count few small cell = omega (arith, ints, few, small, cell)

    alone : (n m : ℕ) → pos m ≡ pos 0 → n ≤ 2 * RAISED * CODE_CHIPS → (n + 2 ^ 16 * m) % 2 ^ 32 ≡ n
    alone n m none most = omega (arith, ints, none, most)

-- and so for cells that follow one another
abbrev pub AreAtOnes : Ones → List ℕ → ℕ → List ℕ → Type 0
AreAtOnes ones ring half lanes = (first second : ℕ → ℕ) → HasPairs first second ring
    → (l : ℕ) → l < 64 → IsPairAtOnes ones first second half l (slice_index lanes l)

pub part_cell : (ones : Ones) (ring lanes : List ℕ) (whole : ℤ) (half l : ℕ) → half < HALF_CHIPS
    → l < 64 → IsPart ring whole → unsigned_abs whole ≤ MOST_PERIOD_SUM
    → AreAtOnes ones ring half lanes → IsPartAtOnes ones ring half l (slice_index lanes l)
part_cell ones ring lanes whole half l inside few part small are =
    part_at_ones ones ring whole half l (slice_index lanes l) inside few part small
    (are (slice_index ring) (λ _. 0) (pairs_of_part ring part.raised) l few)

pub part_small : (ones : Ones) (ring lanes : List ℕ) (whole sum : ℤ) (half l : ℕ)
    → half < HALF_CHIPS
    → l < 64 → IsPart ring whole → unsigned_abs whole ≤ MOST_PERIOD_SUM
    → AreAtOnes ones ring half lanes
    → sum ≡ cell_sum whole (slice_index lanes l) (ones_of ones)
    → unsigned_abs (to_z w32 (of_z w32 sum)) ≤ MOST_PERIOD_SUM
part_small ones ring lanes whole sum half l inside few part small are is =
    let at = part_cell ones ring lanes whole half l inside few part small are in
    let cell : unsigned_abs sum ≤ MOST_PERIOD_SUM =
    rw is (part.cells ones half l (slice_index lanes l) inside few at.sum) in
    rw (entry_in_32 sum cell) cell

-- a small number in 32 bits
pub kept_small : (z : ℤ) → unsigned_abs z ≤ MOST_SMALL → to_z w32 (of_z w32 z) ≡ z
kept_small z small = to_z-of_z w32 z (fits_signed_from_abs w32 z (omega (arith, small)))

-- a cell's sum is no greater than the sizes of the entries
pub small_sum : (prn cell : ℕ) (table : List ℤ) (sum : ℤ) → IsCellSum prn cell table sum
    → sizes_to table HALF_CHIPS ≤ MOST_SMALL → unsigned_abs sum ≤ MOST_SMALL
small_sum prn cell table sum is small =
    rw is.value (omega (arith, correlation_size prn cell HALF_CHIPS table, small))
