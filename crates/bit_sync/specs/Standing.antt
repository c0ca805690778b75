-- What is kept stands for the pushes so far.
use Rattle.std.specs.Prelude.{◌≡◌, ℕ, ◌-◌, ◌%◌, ◌<◌, Bool, ℤ, pos, ◌+ℤ◌, List, [], ◌∷◌, fold}
use Rattle.std.specs.Prelude.{length, drop, slice_index, Option, Some, None}
use Rattle.definitions.specs.BitEdge.{edge_of}
use Rattle.bit_sync.specs.Changes.{sign_of_last, changes_since_reset}
use Rattle.bit_sync.specs.declared.edge_search.EdgeSearch.{EdgeSearch}
use Rattle.bit_sync.specs.declared.bit_sum.BitSum.{BitSum}
use Rattle.bit_sync.specs.declared.bit_sync.SyncState.{SyncState}
use Rattle.bit_sync.specs.declared.bit_sync.SyncState.TheVariants.{Searching, Summing}
use Rattle.bit_sync.specs.declared.bit_sync.BitSync.{BitSync}

-- no push is the edge yet
pub record IsSearching (pushes : List ℤ) (search : EdgeSearch) : Type 0 where
  pub no_edge : edge_of pushes ≡ None
  pub place : search.place ≡ length pushes % 20
  pub last : search.last ≡ sign_of_last pushes
  pub changes : (at : ℕ) → at < 20 → slice_index search.changes at ≡ changes_since_reset pushes at

-- the edge is known, and what is summed up is the pushes after the last whole bit
pub record IsSumming (pushes : List ℤ) (bit : BitSum) : Type 0 where
  pub edge : ℕ
  pub edge_is : edge_of pushes ≡ Some edge
  pub count : bit.count ≡ (length pushes - edge) % 20
  pub sum : bit.sum ≡ fold ◌+ℤ◌ (pos 0) (drop (length pushes - bit.count) pushes)

-- the bit that is whole, if one is
abbrev pub whole_bits : Option Bool → List Bool
whole_bits None = []
whole_bits (Some bit) = bit ∷ []

abbrev pub StandsAt : List ℤ → SyncState → Type 0
StandsAt pushes (Searching search) = IsSearching pushes search
StandsAt pushes (Summing bit) = IsSumming pushes bit

unfoldable pub StandsFor : List ℤ → BitSync → Type 0
StandsFor pushes sync = StandsAt pushes sync.stage
