-- What one more push reports.
use Rattle.std.proofs.Common.{◌≡◌, ℕ, ◌<◌, List, [], ◌∷◌, ◌++◌, length, refl, ◌∙◌}
use Rattle.std.proofs.Common.{arith, append-nil, length-append}
use Rattle.std.specs.Prelude.{Bool, true, false, ℤ, not, ◌&&◌, Some, None, is_some, nat_lt}
use Rattle.std.proofs.lemmas.Bool.{lt-ltb, le-ltb}
use Rattle.definitions.specs.BitEdge.{edge_of, bits_of}
use Rattle.definitions.specs.Frames.{found_by}
use Rattle.definitions.specs.Events.{edge, front_of, push_events, bit_events}
use Rattle.definitions.proofs.LifeLemmas.{front_of-append}
use Rattle.bit_sync.specs.Standing as standing
use Rattle.nav_message.specs.Standing.{HasRead, StandsFor}
use Rattle.nav_message.specs.declared.message.Message.{Message}

front-push : (ps : List ℤ) (p : ℤ) → front_of (ps ++ p ∷ []) ≡ ps
unfolding front_of
front-push ps p = front_of-append ps (p ∷ []) (omega arith) ∙ append-nil ps

no_bits : (n : ℕ) → nat_lt n n ≡ false
no_bits n = le-ltb n n (omega arith)

module _ (pushes : List ℤ) (ip : ℤ) where
  nothing-now : (b : Bool) → (b && not b) ≡ false
  nothing-now true = refl
  nothing-now false = refl

  pub nothing-told : edge_of (pushes ++ ip ∷ []) ≡ edge_of pushes
      → bits_of (pushes ++ ip ∷ []) ≡ bits_of pushes → push_events (pushes ++ ip ∷ []) ≡ []
  unfolding push_events
  nothing-told same bits =
      rw (
        front-push pushes ip,
        same,
        bits,
        nothing-now (is_some (edge_of pushes)),
        no_bits (length (bits_of pushes)),
      ) refl

  pub edge-told : edge_of pushes ≡ None → edge_of (pushes ++ ip ∷ []) ≡ Some (length pushes)
      → bits_of (pushes ++ ip ∷ []) ≡ bits_of pushes → push_events (pushes ++ ip ∷ []) ≡ edge ∷ []
  unfolding push_events
  edge-told before now bits =
      rw (front-push pushes ip, before, now, bits, no_bits (length (bits_of pushes))) refl

  pub bit-told : (bit : Bool) → edge_of (pushes ++ ip ∷ []) ≡ edge_of pushes
      → bits_of (pushes ++ ip ∷ []) ≡ bits_of pushes ++ bit ∷ []
      → push_events (pushes ++ ip ∷ [])
      ≡ bit_events (bits_of pushes ++ bit ∷ []) (found_by (bits_of pushes ++ bit ∷ []))
  unfolding push_events
  bit-told bit same bits =
      let more : length (bits_of pushes) < length (bits_of pushes ++ bit ∷ []) =
      simp length-append (omega arith) in
      rw (
        front-push pushes ip,
        same,
        bits,
        nothing-now (is_some (edge_of pushes)),
        lt-ltb (length (bits_of pushes)) (length (bits_of pushes ++ bit ∷ [])) more,
      ) refl

-- ---- what is kept goes on

pub has-read : (pushes : List ℤ) (message : Message) → StandsFor pushes message
    → HasRead (bits_of pushes) message
has-read pushes message h = record { frames = h.frames; sets = h.sets }

pub stands-with : (pushes : List ℤ) (bits : List Bool) (message : Message)
    → standing.StandsFor pushes message.bits → bits_of pushes ≡ bits → HasRead bits message
    → StandsFor pushes message
stands-with pushes bits message edges same read = record {
  bits = edges;
  frames = rw same read.frames;
  sets = rw same read.sets;
}
