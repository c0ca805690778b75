-- The subframe that is found is that of the last start, with its last bit.
use Rattle.std.proofs.Common.{inl, inr, ◌≡◌, ◌≢◌, ℕ, ◌+◌, ◌*◌, ◌<◌, ◌≤◌, List, [], ◌∷◌, ◌++◌}
use Rattle.std.proofs.Common.{length, refl, ap, ◌∙◌, arith}
use Rattle.std.specs.Prelude.{Bool, Option, Some, None, nat_eq, ◌⊎◌}
use Rattle.std.specs.List.{AllByRecursion}
use Rattle.std.proofs.lemmas.Bool.{eq-eqb, ne_eqb, cond-true, cond-false}
use Rattle.std.proofs.lemmas.List.FromFn.{fill_by_all, get_or-map-range_with_len}
use Rattle.std.proofs.lemmas.List.FromFn.{length-map-range_with_len}
use Rattle.definitions.specs.Frames.{found_among, subframe_at, gap_from, checked_at}
use Rattle.frame_sync.specs.Search.{awaited_after, shown_at}
use Rattle.frame_sync.proofs.MoreStarts.{next_behind}
use Rattle.frame_sync.proofs.IncomingWords.{words_at, shown_at-within}

-- all of these subframes end before the last bit
abbrev pub AreBefore : ℕ → List ℕ → Type 0
AreBefore end starts = AllByRecursion (λ start. start + 300 ≤ end) starts

pub are_before-more : (end later : ℕ) → end ≤ later → (starts : List ℕ) → AreBefore end starts
    → AreBefore later starts
are_before-more end later h [] before = tt
are_before-more end later h (start ∷ starts) before =
    (omega (arith, before.0, h), are_before-more end later h starts before.1)

pub are_before-push : (end : ℕ) (starts : List ℕ) (start : ℕ) → AreBefore end starts
    → start + 300 ≤ end → AreBefore end (starts ++ start ∷ [])
are_before-push end [] start before h = (h, tt)
are_before-push end (s ∷ starts) start before h =
    (before.0, are_before-push end starts start before.1 h)

-- none of them is found
pub found_among-behind : (bits : List Bool) (end : ℕ) → end < length bits
    → (place : Option ℕ) (whole rest : List ℕ) → AreBefore end whole
    → found_among bits place (whole ++ rest) ≡ found_among bits (awaited_after place whole) rest
found_among-behind bits end within place [] rest before = refl
found_among-behind bits end within place (start ∷ whole) rest before =
    let ended : start + 300 ≤ end = before.0 in
    cond-false (nat_eq (start + 300) (length bits))
    (Some (record { subframe = subframe_at bits start; gap = gap_from place start }))
    (found_among bits (Some (start + 300)) (whole ++ rest))
    (ne_eqb (start + 300) (length bits) (λ e. omega arith))
    ∙ found_among-behind bits end within (Some (start + 300)) whole rest before.1

pub found_among-open : (bits : List Bool) (place : Option ℕ) (start : ℕ) → start + 300 ≢ length bits
    → found_among bits place (start ∷ []) ≡ None
found_among-open bits place start other =
    cond-false (nat_eq (start + 300) (length bits))
    (Some (record { subframe = subframe_at bits start; gap = gap_from place start })) None
    (ne_eqb (start + 300) (length bits) other)

pub found_among-last : (bits : List Bool) (place : Option ℕ) (start : ℕ) → start + 300 ≡ length bits
    → found_among bits place (start ∷ [])
    ≡ Some (record { subframe = subframe_at bits start; gap = gap_from place start })
found_among-last bits place start ends =
    cond-true (nat_eq (start + 300) (length bits))
    (Some (record { subframe = subframe_at bits start; gap = gap_from place start })) None
    (eq-eqb (start + 300) (length bits) ends)

-- with all its bits there, the words that are shown are those of the definition
pub subframe_at-shown : (bits : List Bool) (start : ℕ) → start + 300 ≤ length bits
    → record { words = words_at bits start } ≡ subframe_at bits start
unfolding subframe_at
subframe_at-shown bits start within =
    ap (λ ws. record { words = ws })
    (fill_by_all (λ i. checked_at bits (start + 30 * i)) (words_at bits start) 10 None
    (length-map-range_with_len (λ i. shown_at bits (start + 30 * i)) 0 10)
    (λ i h. get_or-map-range_with_len (λ k. shown_at bits (start + 30 * k)) 0 10 i i None h
    (omega arith) ∙ shown_at-within bits (start + 30 * i) (omega arith)))

-- the place that is awaited, as the definition's search and the state have it
pub next_behind-awaited : (place : ℕ) (starts : List ℕ)
    → awaited_after (Some place) starts ≡ Some (next_behind place starts)
next_behind-awaited place [] = refl
next_behind-awaited place (start ∷ starts) = next_behind-awaited (start + 300) starts

pub awaited_after-push : (place : Option ℕ) (starts : List ℕ) (start : ℕ)
    → awaited_after place (starts ++ start ∷ []) ≡ Some (start + 300)
awaited_after-push place [] start = refl
awaited_after-push place (s ∷ starts) start = awaited_after-push (Some (s + 300)) starts start

pub next_behind-push : (place : ℕ) (starts : List ℕ) (start : ℕ)
    → next_behind place (starts ++ start ∷ []) ≡ start + 300
next_behind-push place [] start = refl
next_behind-push place (s ∷ starts) start = next_behind-push (s + 300) starts start

-- it is 0 where there was no start, and then none is awaited, or after a whole subframe
pub awaited-cases : (starts : List ℕ)
    → ((awaited_after None starts ≡ None) × (next_behind 0 starts ≡ 0))
    ⊎ ((awaited_after None starts ≡ Some (next_behind 0 starts))
    × (300 ≤ next_behind 0 starts))
awaited-cases [] = inl (refl, refl)
awaited-cases (start ∷ starts) =
    inr (next_behind-awaited (start + 300) starts, far (start + 300) starts (omega arith))
  where
    far : (place : ℕ) (starts : List ℕ) → 300 ≤ place → 300 ≤ next_behind place starts
    far place [] h = h
    far place (s ∷ starts) h = far (s + 300) starts (omega arith)
