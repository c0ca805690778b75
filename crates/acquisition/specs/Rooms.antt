-- What the room of a search has.
use Rattle.std.specs.Prelude.{◌≡◌, vec_len}
use Rattle.std.specs.List.{HoldsAt}
use Rattle.acquisition.specs.declared.bin_powers.BinPowers.{BinPowers}
use Rattle.acquisition.specs.declared.search_room.SearchRoom.{SearchRoom}

-- a search works there: the room has the powers of the bin that is worked on
abbrev pub HasBegun : SearchRoom → Type 0
HasBegun room = vec_len room.powers ≡ 1

-- P holds of these powers
abbrev pub ForPowers : SearchRoom → (BinPowers → Type 0) → Type 0
ForPowers room P = HoldsAt P room.powers.items 0
