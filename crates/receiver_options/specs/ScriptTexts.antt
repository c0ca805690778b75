-- Script files, whose bytes may be known, and their texts.
use Rattle.std.specs.Prelude.{◌≡◌, ◌<◌, ◌⊎◌, ℕ, List, [], ◌∷◌, length, Option, IfSome}

-- these are a file's bytes
abbrev pub IsTextOf : Option (List ℕ) → List ℕ → Type 0
IsTextOf known text = IfSome known (λ all. text ≡ all)

-- each of these is the text of its file
abbrev pub AreTextsOf : List (Option (List ℕ)) → List (List ℕ) → Type 0
AreTextsOf [] [] = Unit {0}
AreTextsOf [] (text ∷ texts) = ⊥
AreTextsOf (known ∷ files) [] = ⊥
AreTextsOf (known ∷ files) (text ∷ texts) = IsTextOf known text × AreTextsOf files texts

-- a file that may be refused: its bytes aren't known, or are more than 16 MiB
abbrev pub MayBeRefused : Option (List ℕ) → Type 0
MayBeRefused known = IfSome known (λ all. 16777216 < length all)

abbrev pub SomeMayBeRefused : List (Option (List ℕ)) → Type 0
SomeMayBeRefused [] = ⊥
SomeMayBeRefused (known ∷ files) = MayBeRefused known ⊎ SomeMayBeRefused files
