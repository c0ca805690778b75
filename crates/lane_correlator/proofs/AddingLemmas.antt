-- Words that are added to a tally some at a time.
use Rattle.std.proofs.Common.{◌≡◌, ℕ, ◌+◌, ◌-◌, ◌*◌, ◌≤◌, ◌∙◌, arith, refl}
use Rattle.lane_correlator.specs.Adding.{HasRoom, GoesOn}
use Rattle.lane_correlator.specs.declared.replica.RunPart.{RunPart}
use Rattle.lane_correlator.specs.declared.replica.WordReplica.{WordReplica}
use Rattle.lane_correlator.specs.declared.tally.Tally.{Tally}

-- what words take of the room in lanes
pub taken : (a b d n k : ℕ) → a ≤ b → b ≤ d → n + (b - a) * k + (d - b) * k ≡ n + (d - a) * k
taken a b d n k low high =
    let all : d - a ≡ b - a + (d - b) = omega arith in
    rw all (both (b - a) (d - b))
  where
    both : (x y : ℕ) → n + x * k + y * k ≡ n + (x + y) * k
    both x y = omega arith

pub one_more_word : (a b n k : ℕ) → a ≤ b → n + (b - a) * k + k ≡ n + (b + 1 - a) * k
one_more_word a b n k h =
    let one : (b + 1 - b) * k ≡ k = let is : b + 1 - b ≡ 1 = omega arith in rw is (omega arith) in
    rw one at (taken a b (b + 1) n k h (omega arith))

-- lanes that have room for words have it for the first of them
pub room_first : (part : RunPart) (a b d n most : ℕ) (t : Tally) → a ≤ b → b ≤ d
    → HasRoom part a d n most t → HasRoom part a b n most t
room_first part a b d n most t low high room = record {
  product = room.product;
  low = room.low;
  room = omega (arith, taken a b d n (2 * most) low high, room.room);
}

-- a replica that goes on
pub goes_none : (a : ℕ) (r : WordReplica) → GoesOn a a r r
goes_none a r = record { stand = λ start p h at. at; step = refl; prn = refl }

pub goes_both : (a b d : ℕ) (r s q : WordReplica) → a ≤ b → GoesOn a b r s → GoesOn b d s q
    → GoesOn a d r q
goes_both a b d r s q low first second = record {
  stand = λ start p h at.
      second.stand start p (omega (arith, h, low)) (first.stand start p h at);
  step = second.step ∙ first.step;
  prn = second.prn ∙ first.prn;
}
