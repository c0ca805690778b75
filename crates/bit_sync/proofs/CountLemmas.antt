-- Counts over ranges of numbers.
use Rattle.std.proofs.Common.{◌≡◌, ℕ, zero, suc, ◌+◌, ◌<◌, List, [], ◌∷◌, ◌++◌, length, get_or, map}
use Rattle.std.proofs.Common.{refl, ap, ◌∙◌, sym, arith}
use Rattle.std.specs.Prelude.{Bool, count_by, cond}
use Rattle.std.specs.List.{range_with_len}
use Rattle.std.proofs.lemmas.List.{map-id}
use Rattle.std.proofs.lemmas.List.Sums.{sum_by_push, sum_by-cons}
use Rattle.std.proofs.lemmas.List.FromFn.{map-range_with_len_more, fill_by_all}

pub count_by-range_same : (f g : ℕ → Bool) (a n : ℕ) → ((i : ℕ) → i < a + n → f i ≡ g i)
    → count_by f (range_with_len a n) ≡ count_by g (range_with_len a n)
count_by-range_same f g a zero same = refl
count_by-range_same f g a (suc n) same =
    sum_by-cons (λ i. cond (f i) 1 0) a (range_with_len (a + 1) n)
    ∙ ap (λ (b : Bool). cond b 1 0 + count_by f (range_with_len (a + 1) n)) (same a (omega arith))
    ∙ ap (λ c. cond (g a) 1 0 + c) (count_by-range_same f g (a + 1) n (λ i h. same i (omega arith)))
    ∙ sym (sum_by-cons (λ i. cond (g i) 1 0) a (range_with_len (a + 1) n))

pub range_more : (a n : ℕ) → range_with_len a (n + 1) ≡ range_with_len a n ++ (a + n) ∷ []
range_more a n = simp map-id at (map-range_with_len_more (λ (x : ℕ). x) a n (a + n) refl)

pub count_by-range_more : (f : ℕ → Bool) (a n : ℕ)
    → count_by f (range_with_len a (n + 1)) ≡ count_by f (range_with_len a n) + cond (f (a + n)) 1 0
count_by-range_more f a n =
    rw range_more (sum_by_push (λ i. cond (f i) 1 0) (range_with_len a n) (a + n))

count_by-map : (p : ℕ → Bool) (f : ℕ → ℕ) (xs : List ℕ)
    → count_by p (map f xs) ≡ count_by (λ x. p (f x)) xs
count_by-map p f [] = refl
count_by-map p f (x ∷ xs) =
    sum_by-cons (λ n. cond (p n) 1 0) (f x) (map f xs)
    ∙ ap (λ c. cond (p (f x)) 1 0 + c) (count_by-map p f xs)
    ∙ sym (sum_by-cons (λ n. cond (p (f n)) 1 0) x xs)

-- a list of what a function gives at each place
pub count_by_places : (p : ℕ → Bool) (f : ℕ → ℕ) (xs : List ℕ) (n : ℕ) → length xs ≡ n
    → ((at : ℕ) → at < n → get_or xs at 0 ≡ f at)
    → count_by p xs ≡ count_by (λ at. p (f at)) (range_with_len 0 n)
count_by_places p f xs n e each =
    rw (fill_by_all f xs n 0 e each) (count_by-map p f (range_with_len 0 n))
