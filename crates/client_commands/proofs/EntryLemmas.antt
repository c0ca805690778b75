-- The entries of lines, one line at a time.
use Rattle.std.proofs.Common.{◌≡◌, ℕ, List, [], ◌∷◌, refl}
use Rattle.definitions.specs.Scripts.{Verb, Entry, entry_of, entries_after}

-- a line without an entry
pub line_passed : (known : List Verb) (slots before : ℕ) (line : List ℕ)
    (lines behind : List (List ℕ)) → lines ≡ line ∷ behind → [] ≡ entry_of known slots before line
    → entries_after known slots before lines ≡ entries_after known slots before behind
unfolding entries_after
line_passed known slots before line lines behind is none = rw (is, ← none) refl

-- a line with one
pub line_entered : (known : List Verb) (slots before : ℕ) (line : List ℕ)
    (lines behind : List (List ℕ)) (entry : Entry) → lines ≡ line ∷ behind
    → entry ∷ [] ≡ entry_of known slots before line
    → entries_after known slots before lines ≡ entry ∷ entries_after known slots entry.time behind
unfolding entries_after
line_entered known slots before line lines behind entry is here = rw (is, ← here) refl

pub no_line : (known : List Verb) (slots before : ℕ) (lines : List (List ℕ)) → lines ≡ []
    → entries_after known slots before lines ≡ []
unfolding entries_after
no_line known slots before lines none = rw none refl
