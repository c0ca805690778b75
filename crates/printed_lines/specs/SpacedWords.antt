-- Words after others, a space before each.
use Rattle.std.specs.Prelude.{ℕ, List, ◌∷◌, ◌++◌, flat_map}

-- a line with one more word, a space before it
abbrev pub with_word : List ℕ → List ℕ → List ℕ
with_word line word = line ++ 32 ∷ word

-- the words that these write, a space before each
abbrev pub with_spaces : {A : Type 0} → (A → List ℕ) → List A → List ℕ
with_spaces text xs = flat_map (λ x. 32 ∷ text x) xs
