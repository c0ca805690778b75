-- A word more in the lanes of a tally.
use Rattle.std.proofs.Common.{◌≡◌, ℕ, ◌+◌, ◌*◌, ◌≤◌, ◌<◌, refl, arith, List}
use Rattle.std.specs.Prelude.{◌+ℤ◌, bit_and, slice_index, length}
use Rattle.definitions.specs.Correlation.{sum_of_counts, no_counts}
use Rattle.oscillators.specs.declared.code_words.ChipLanes.{ChipLanes}
use Rattle.lane_correlator.specs.Bytes.{AreAtMost, AreMasks}
use Rattle.lane_correlator.specs.Bytes.{signed_total}
use Rattle.lane_correlator.specs.ByteSums.{HasLanes}
use Rattle.lane_correlator.specs.LaneTotals.{AreAdded, AreNone, AreLow, in_phase_of, quadrature_of}
use Rattle.lane_correlator.specs.Chips.{lanes_in, AreMasksOfChips}
use Rattle.lane_correlator.specs.Tallies.{word_sums, AreAllLow, AddsWord}
use Rattle.lane_correlator.specs.declared.tally.Tally.{Tally}
use Rattle.lane_correlator.specs.declared.lane_sums.LaneSums.{LaneSums}
use Rattle.lane_correlator.specs.declared.wiped.Wiped.{Wiped}
use Rattle.lane_correlator.proofs.ByteLemmas.{none_of_lanes, none_low}
use Rattle.lane_correlator.proofs.HalfLemmas.{word_added, word_low}
use Rattle.oscillators.specs.Lanes.{HasAllLanes}
use Rattle.std.specs.Simd.Lanes.{zip2}

-- the products of a word with one kind of chips are added to both sums, and no lane is more than n
-- in size then
pub record IsAdded (n : ℕ) (i q masks : List ℕ) (a t a1 t1 : LaneSums) : Type 0 where
  pub in_phase : in_phase_of a1 t1 ≡ in_phase_of a t +ℤ signed_total i masks
  pub quadrature : quadrature_of a1 t1 ≡ quadrature_of a t +ℤ signed_total q masks
  pub low : AreLow n a1 t1

-- the lanes of a sum are bytes
pub record AreBytes (s : LaneSums) : Type 0 where
  pub in_phase : (k : ℕ) → k < 32 → slice_index s.i k < 256
  pub quadrature : (k : ℕ) → k < 32 → slice_index s.q k < 256

-- one kind of chips
kind_added : (n m : ℕ) (p : Wiped) (masks : List ℕ) (a t a1 t1 : LaneSums) → HasLanes p
    → length masks ≡ 64 → AreBytes t → n + 2 * m ≤ 127 → AreLow n a t → AreAtMost m p.i
    → AreAtMost m p.q → AreMasks masks → AreAdded p.i p.q a a1
    → AreAdded (zip2 bit_and p.i masks) (zip2 bit_and p.q masks) t t1
    → IsAdded (n + 2 * m) p.i p.q masks a t a1 t1
kind_added n m p masks a t a1 t1 long lm bytes room low si sq are all turned = record {
  in_phase = word_added p.i masks a.i t.i a1.i t1.i n m long.in_phase lm bytes.in_phase room
      low.in_phase si are all.in_phase turned.in_phase;
  quadrature = word_added p.q masks a.q t.q a1.q t1.q n m long.quadrature lm bytes.quadrature
      room low.quadrature sq are all.quadrature turned.quadrature;
  low = record {
    in_phase = word_low p.i masks a.i t.i a1.i t1.i n m long.in_phase lm bytes.in_phase room
        low.in_phase si are all.in_phase turned.in_phase;
    quadrature = word_low p.q masks a.q t.q a1.q t1.q n m long.quadrature lm bytes.quadrature
        room low.quadrature sq are all.quadrature turned.quadrature;
  };
}

-- three kinds of chips
lanes_added : (n : ℕ) (p : Wiped) (chips : ChipLanes) (a e f g a1 e1 f1 g1 : LaneSums)
    → IsAdded n p.i p.q chips.early a e a1 e1 → IsAdded n p.i p.q chips.prompt a f a1 f1
    → IsAdded n p.i p.q chips.late a g a1 g1
    → lanes_in a1 e1 f1 g1 ≡ sum_of_counts (lanes_in a e f g) (word_sums p chips)
lanes_added n p chips a e f g a1 e1 f1 g1 early prompt late = rw (
  early.in_phase,
  early.quadrature,
  prompt.in_phase,
  prompt.quadrature,
  late.in_phase,
  late.quadrature,
) refl

-- what `LaneSums::add` promises of the products that masks leave
abbrev pub AddsMasked : Wiped → List ℕ → LaneSums → LaneSums → Type 0
AddsMasked p masks s t = AreAdded (zip2 bit_and p.i masks) (zip2 bit_and p.q masks) s t

bytes_in : (s : LaneSums) → AreBytes s
bytes_in s = record { in_phase = s.bytes_i; quadrature = s.bytes_q }

pub word_added_to : (n most : ℕ) (t u : Tally) (p : Wiped) (chips : ChipLanes) → HasLanes p
    → HasAllLanes chips → n + 2 * most ≤ 127 → AreAllLow n t → AreAtMost most p.i
    → AreAtMost most p.q → AreMasksOfChips chips → AreAdded p.i p.q t.all u.all
    → AddsMasked p chips.early t.early u.early → AddsMasked p chips.prompt t.prompt u.prompt
    → AddsMasked p chips.late t.late u.late → AddsWord (n + 2 * most) p chips t u
word_added_to n most t u p chips long lanes room low si sq masks all early prompt late =
    let e : IsAdded (n + 2 * most) p.i p.q chips.early t.all t.early u.all u.early =
    kind_added n most p chips.early t.all t.early u.all u.early long lanes.early
    (bytes_in t.early) room low.early si sq masks.early all early in
    let f : IsAdded (n + 2 * most) p.i p.q chips.prompt t.all t.prompt u.all u.prompt =
    kind_added n most p chips.prompt t.all t.prompt u.all u.prompt long lanes.prompt
    (bytes_in t.prompt) room low.prompt si sq masks.prompt all prompt in
    let g : IsAdded (n + 2 * most) p.i p.q chips.late t.all t.late u.all u.late =
    kind_added n most p chips.late t.all t.late u.all u.late long lanes.late (bytes_in t.late) room
    low.late si sq masks.late all late in
    record {
      sums = lanes_added (n + 2 * most) p chips t.all t.early t.prompt t.late u.all u.early
          u.prompt u.late e f g;
      low = record { early = e.low; prompt = f.low; late = g.low };
    }

-- lanes with nothing in them
pub none_in : (a e f g : LaneSums) → AreNone a → AreNone e → AreNone f → AreNone g
    → lanes_in a e f g ≡ no_counts
none_in a e f g all early prompt late = rw (
  none_of_lanes a.i e.i all.in_phase early.in_phase,
  none_of_lanes a.q e.q all.quadrature early.quadrature,
  none_of_lanes a.i f.i all.in_phase prompt.in_phase,
  none_of_lanes a.q f.q all.quadrature prompt.quadrature,
  none_of_lanes a.i g.i all.in_phase late.in_phase,
  none_of_lanes a.q g.q all.quadrature late.quadrature,
) refl

pub low_none : (n : ℕ) (a t : LaneSums) → AreNone a → AreNone t → AreLow n a t
low_none n a t all turned = record {
  in_phase = none_low a.i t.i all.in_phase turned.in_phase n;
  quadrature = none_low a.q t.q all.quadrature turned.quadrature n;
}

-- lanes that are low are also lower than more
lower : (n m : ℕ) (a t : LaneSums) → n ≤ m → AreLow n a t → AreLow m a t
lower n m a t more low = record {
  in_phase = λ k h. omega (arith, more, low.in_phase k h);
  quadrature = λ k h. omega (arith, more, low.quadrature k h);
}

pub all_lower : (n m : ℕ) (t : Tally) → n ≤ m → AreAllLow n t → AreAllLow m t
all_lower n m t more low = record {
  early = lower n m t.all t.early more low.early;
  prompt = lower n m t.all t.prompt more low.prompt;
  late = lower n m t.all t.late more low.late;
}
