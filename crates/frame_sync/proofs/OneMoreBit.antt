-- What one more bit makes of a search.
use Rattle.std.proofs.Common.{inl, inr, ◌≡◌, ℕ, ◌+◌, ◌-◌, ◌%◌, ◌^◌, ◌<◌, ◌≤◌, List, [], ◌∷◌, ◌++◌}
use Rattle.std.proofs.Common.{length, refl, sym, ap, ◌∙◌, subst, arith}
use Rattle.std.specs.Prelude.{Bool, true, false, Option, Some, None, SomeIff, nat_le, unwrap_or}
use Rattle.std.specs.Prelude.{◌⊎◌}
use Rattle.std.proofs.lemmas.Bool.{and_parts, and_from, and_left, le-leb, leb-true, lt-leb}
use Rattle.std.proofs.lemmas.Bool.{false_from_ne_true}
use Rattle.std.proofs.lemmas.List.{append-nil}
use Rattle.definitions.specs.Frames as frames
use Rattle.definitions.specs.Frames.{is_candidate, starts_of, found_by, found_among, gap_from}
use Rattle.definitions.specs.Frames.{subframe_at, checked_at, number_at, prior_at, is_header}
use Rattle.frame_sync.specs.Bits.{number_of, has_header_in, bits_in, word_in}
use Rattle.frame_sync.specs.Search.{IsSearched, IsIncoming, awaited_after}
use Rattle.frame_sync.specs.Incoming.{StartsHere, header_in, with_word_in}
use Rattle.frame_sync.specs.declared.incoming.Incoming.{Incoming}
use Rattle.frame_sync.proofs.Windows.{number_at-window, checked_at-window}
use Rattle.frame_sync.proofs.MoreStarts.{longer, place, is_start, added, next_behind, length-longer}
use Rattle.frame_sync.proofs.MoreStarts.{starts_of-more, candidate-within, candidate-second}
use Rattle.frame_sync.proofs.IncomingWords.{words_at, header_words-at, words-with_word_in}
use Rattle.frame_sync.proofs.IncomingWords.{start-with_word_in}
use Rattle.frame_sync.proofs.WholeSubframes.{AreBefore, are_before-more, are_before-push}
use Rattle.frame_sync.proofs.WholeSubframes.{found_among-behind, found_among-open, found_among-last}
use Rattle.frame_sync.proofs.WholeSubframes.{subframe_at-shown, awaited_after-push}
use Rattle.frame_sync.proofs.WholeSubframes.{next_behind-push, awaited-cases}

module _ (bits : List Bool) (bit : Bool) where
  -- the search goes on like this, and this was found with the last bit
  pub record IsStep (awaited : Option ℕ) (incoming : Option Incoming)
      (found : Option frames.Found) : Type 0 where
    pub searched : IsSearched (longer bits bit) awaited incoming
    pub is_found : found ≡ found_by (longer bits bit)

  module _ (window : ℕ) (seen : window ≡ number_of (longer bits bit) % 2 ^ 64) where
    is_candidate-window : (n : ℕ) → 2 ≤ n → n + 60 ≡ length bits + 1
        → is_candidate (longer bits bit) n ≡ has_header_in window
    unfolding is_candidate has_header_in
    is_candidate-window n second ends =
        let long : length (longer bits bit) ≡ n + 60 = length-longer bits bit ∙ sym ends in
        let within : n + 60 ≤ length (longer bits bit) = omega arith in
        let prior : number_at (longer bits bit) (n - 2) 2 ≡ bits_in window 60 2 =
        number_at-window (longer bits bit) window seen (n - 2) 2 60 (omega arith)
        (omega arith) in
        let first : checked_at (longer bits bit) n ≡ word_in window 30 =
        checked_at-window (longer bits bit) window seen n 30 second (omega arith)
        (omega arith) in
        let other : checked_at (longer bits bit) (n + 30) ≡ word_in window 0 =
        checked_at-window (longer bits bit) window seen (n + 30) 0 (omega arith) (omega arith)
        (omega arith) in
        let last : number_at (longer bits bit) (n + 58) 2 ≡ bits_in window 0 2 =
        number_at-window (longer bits bit) window seen (n + 58) 2 0 (omega arith)
        (omega arith) in
        rw (
          le-leb 2 n second,
          le-leb (n + 60) (length (longer bits bit)) within,
          prior,
          first,
          other,
          last,
        ) refl

    from_cases : (awaited : Option ℕ) (next : ℕ)
        → (((awaited ≡ None) × (next ≡ 0)) ⊎ ((awaited ≡ Some next) × (300 ≤ next)))
        → ((unwrap_or awaited 2 ≡ 2) × (next ≡ 0)) ⊎ ((unwrap_or awaited 2 ≡ next) × (300 ≤ next))
    from_cases awaited next (inl (e, f)) = inl (ap (λ (o : Option ℕ). unwrap_or o 2) e, f)
    from_cases awaited next (inr (e, f)) = inr (ap (λ (o : Option ℕ). unwrap_or o 2) e, f)

    second_or_later : (awaited : Option ℕ) (next : ℕ)
        → (((unwrap_or awaited 2 ≡ 2) × (next ≡ 0)) ⊎ ((unwrap_or awaited 2 ≡ next) × (300 ≤ next)))
        → (2 ≤ unwrap_or awaited 2) × (next ≤ unwrap_or awaited 2)
    second_or_later awaited next (inl (e, f)) = (omega arith, omega arith)
    second_or_later awaited next (inr (e, f)) = (omega arith, omega arith)

    starts_here : (awaited : Option ℕ) (next : ℕ)
        → (((unwrap_or awaited 2 ≡ 2) × (next ≡ 0)) ⊎ ((unwrap_or awaited 2 ≡ next) × (300 ≤ next)))
        → is_start bits bit next ≡ true → StartsHere window (length bits + 1) awaited
    starts_here awaited next cases starts =
        let parts =
        and_parts (nat_le next (place bits bit))
        (is_candidate (longer bits bit) (place bits bit)) starts in
        let behind : next ≤ place bits bit = leb-true next (place bits bit) parts.0 in
        let within : place bits bit + 60 ≤ length (longer bits bit) =
        candidate-within (longer bits bit) (place bits bit) parts.1 in
        let second : 2 ≤ place bits bit =
        candidate-second (longer bits bit) (place bits bit) parts.1 in (
          by_case cases behind second,
          sym (is_candidate-window (place bits bit) second (omega arith)) ∙ parts.1,
        )
      where
        by_case : (((unwrap_or awaited 2 ≡ 2) × (next ≡ 0))
            ⊎ ((unwrap_or awaited 2 ≡ next) × (300 ≤ next))) → next ≤ place bits bit
            → 2 ≤ place bits bit → unwrap_or awaited 2 + 60 ≤ length bits + 1
        by_case (inl (e, f)) behind second = omega arith
        by_case (inr (e, f)) behind second = omega arith

    is_start-here : (awaited : Option ℕ) (next : ℕ)
        → (2 ≤ unwrap_or awaited 2) × (next ≤ unwrap_or awaited 2)
        → StartsHere window (length bits + 1) awaited → is_start bits bit next ≡ true
    is_start-here awaited next late here =
        let from : unwrap_or awaited 2 + 60 ≤ length bits + 1 = here.0 in
        and_from (nat_le next (place bits bit)) (is_candidate (longer bits bit) (place bits bit))
        (le-leb next (place bits bit) (omega (arith, late.1)))
        (is_candidate-window (place bits bit) (omega (arith, late.0)) (omega (arith, late.0))
        ∙ here.1)

    module _ (awaited : Option ℕ) (search_before : IsSearched bits awaited None) where
      whole_before : starts_of bits ≡ search_before.whole
      whole_before = search_before.starts ∙ append-nil search_before.whole

      awaits_next : ((unwrap_or awaited 2 ≡ 2) × (next_behind 0 search_before.whole ≡ 0))
          ⊎ ((unwrap_or awaited 2 ≡ next_behind 0 search_before.whole)
          × (300 ≤ next_behind 0 search_before.whole))
      awaits_next =
          from_cases awaited (next_behind 0 search_before.whole)
          (rw search_before.awaits (awaited-cases search_before.whole))

      starts_now : starts_of (longer bits bit)
          ≡ search_before.whole ++ added bits bit (next_behind 0 search_before.whole)
      starts_now = rw whole_before at (starts_of-more bits bit)

      still_whole : AreBefore (length (longer bits bit)) search_before.whole
      still_whole =
          are_before-more (length bits) (length (longer bits bit))
          (omega (arith, length-longer bits bit)) search_before.whole search_before.are_whole

      nothing_starts : (StartsHere window (length bits + 1) awaited → ⊥) → IsStep awaited None None
      unfolding found_by
      nothing_starts none =
          let not_here : is_start bits bit (next_behind 0 search_before.whole) ≡ false =
          false_from_ne_true (is_start bits bit (next_behind 0 search_before.whole))
          (λ t. none (starts_here awaited (next_behind 0 search_before.whole) awaits_next t)) in
          let starts : starts_of (longer bits bit) ≡ search_before.whole ++ [] =
          rw not_here at starts_now in
          record {
            searched =
                record {
                  whole = search_before.whole;
                  starts = starts;
                  are_whole = still_whole;
                  awaits = search_before.awaits;
                  comes = λ x e. cc;
                };
            is_found = sym (ap (λ (ns : List ℕ). found_among (longer bits bit) None ns) starts
                ∙ found_among-behind (longer bits bit) (length bits)
                (omega (arith, length-longer bits bit)) None search_before.whole []
                search_before.are_whole);
          }

      header_starts : StartsHere window (length bits + 1) awaited
          → IsStep awaited (Some (header_in window (length bits + 1))) None
      unfolding found_by
      header_starts here =
          let late = second_or_later awaited (next_behind 0 search_before.whole) awaits_next in
          let from : unwrap_or awaited 2 + 60 ≤ length bits + 1 = here.0 in
          let second : 2 ≤ place bits bit = omega (arith, late.0) in
          let ends : place bits bit + 60 ≡ length bits + 1 = omega (arith, late.0) in
          let is_here : is_start bits bit (next_behind 0 search_before.whole) ≡ true =
          is_start-here awaited (next_behind 0 search_before.whole) late here in
          let starts : starts_of (longer bits bit) ≡ search_before.whole ++ place bits bit ∷ [] =
          rw is_here at starts_now in
          let incoming : IsIncoming (longer bits bit) (header_in window (length bits + 1)) =
          record {
            has_prior = second;
            has_header = omega (arith, length-longer bits bit);
            is_open = omega (arith, length-longer bits bit);
            words = header_words-at bits bit window seen (place bits bit) second ends;
          } in
          record {
            searched =
                record {
                  whole = search_before.whole;
                  starts = starts;
                  are_whole = still_whole;
                  awaits = search_before.awaits;
                  comes =
                      λ x e. let same : (header_in window (length bits + 1)) ≡ x =
                      cc in subst (IsIncoming (longer bits bit)) same incoming;
                };
            is_found = sym (ap (λ (ns : List ℕ). found_among (longer bits bit) None ns) starts
                ∙ found_among-behind (longer bits bit) (length bits)
                (omega (arith, length-longer bits bit)) None search_before.whole
                (place bits bit ∷ []) search_before.are_whole
                ∙ found_among-open (longer bits bit) (awaited_after None search_before.whole)
                (place bits bit) (λ e. omega (arith, length-longer bits bit)));
          }

      pub step-searching : (o : Option Incoming)
          → SomeIff o (StartsHere window (length bits + 1) awaited)
          (header_in window (length bits + 1)) → IsStep awaited o None
      step-searching None none = nothing_starts none
      step-searching (Some x) here =
          subst (λ (i : Incoming). IsStep awaited (Some i) None) (sym here.1) (header_starts here.0)

    module _ (awaited : Option ℕ) (before : Incoming)
        (search_before : IsSearched bits awaited (Some before)) where
      came : IsIncoming bits before
      came = search_before.comes before refl

      abbrev with_bit : Incoming
      with_bit = with_word_in window (length bits + 1) before

      starts_stay : starts_of (longer bits bit) ≡ search_before.whole ++ before.start ∷ []
      starts_stay =
          let is_open : length bits < before.start + 300 = came.is_open in
          let next : next_behind 0 (search_before.whole ++ before.start ∷ []) ≡ before.start + 300 =
          next_behind-push 0 search_before.whole before.start in
          let none : is_start bits bit (before.start + 300) ≡ false =
          and_left (nat_le (before.start + 300) (place bits bit))
          (is_candidate (longer bits bit) (place bits bit))
          (lt-leb (before.start + 300) (place bits bit) (omega arith)) in
          rw (search_before.starts, next, none) at (starts_of-more bits bit)
          ∙ append-nil (search_before.whole ++ before.start ∷ [])

      found_now : found_by (longer bits bit)
          ≡ found_among (longer bits bit) awaited (before.start ∷ [])
      unfolding found_by
      found_now =
          ap (λ (ns : List ℕ). found_among (longer bits bit) None ns) starts_stay
          ∙ found_among-behind (longer bits bit) (length bits)
          (omega (arith, length-longer bits bit)) None search_before.whole (before.start ∷ [])
          search_before.are_whole
          ∙ ap (λ (o : Option ℕ). found_among (longer bits bit) o (before.start ∷ []))
          (sym search_before.awaits)

      pub step-open : length bits + 1 < before.start + 300 → IsStep awaited (Some with_bit) None
      step-open is_open =
          let same_start : with_bit.start ≡ before.start =
          start-with_word_in window (length bits + 1) before in
          let incoming : IsIncoming (longer bits bit) with_bit = record {
            has_prior = rw same_start came.has_prior;
            has_header =
                rw same_start (let h : before.start + 60 ≤ length bits = came.has_header in
                omega (arith, length-longer bits bit));
            is_open = rw same_start (omega (arith, length-longer bits bit));
            words = rw same_start (words-with_word_in bits bit window seen before came);
          } in
          record {
            searched = record {
              whole = search_before.whole;
              starts = starts_stay ∙ ap (λ (n : ℕ). search_before.whole ++ n ∷ []) (sym same_start);
              are_whole =
                  are_before-more (length bits) (length (longer bits bit))
                  (omega (arith, length-longer bits bit)) search_before.whole
                  search_before.are_whole;
              awaits = search_before.awaits;
              comes =
                  λ x e. let same : with_bit ≡ x =
                  cc in subst (IsIncoming (longer bits bit)) same incoming;
            };
            is_found =
                sym (found_now ∙ found_among-open (longer bits bit) awaited before.start
                (λ e. omega (arith, length-longer bits bit)));
          }

      pub step-whole : length bits + 1 ≡ before.start + 300
          → IsStep (Some (length bits + 1)) None
          (Some (record { subframe = with_bit.subframe; gap = gap_from awaited before.start }))
      step-whole ends =
          let words : with_bit.subframe.words ≡ words_at (longer bits bit) before.start =
          words-with_word_in bits bit window seen before came in
          let its : with_bit.subframe ≡ subframe_at (longer bits bit) before.start =
          ap (λ ws. record { words = ws }) words
          ∙ subframe_at-shown (longer bits bit) before.start
          (omega (arith, length-longer bits bit)) in
          record {
            searched = record {
              whole = search_before.whole ++ before.start ∷ [];
              starts = starts_stay ∙ sym (append-nil (search_before.whole ++ before.start ∷ []));
              are_whole =
                  are_before-push (length (longer bits bit)) search_before.whole before.start
                  (are_before-more (length bits) (length (longer bits bit))
                  (omega (arith, length-longer bits bit)) search_before.whole
                  search_before.are_whole) (omega (arith, length-longer bits bit));
              awaits =
                  ap (λ (n : ℕ). Some n) ends
                  ∙ sym (awaited_after-push None search_before.whole before.start);
              comes = λ x e. cc;
            };
            is_found =
                ap (λ (s : frames.Subframe). Some
                (record { subframe = s; gap = gap_from awaited before.start })) its
                ∙ sym (found_now
                ∙ found_among-last (longer bits bit) awaited before.start
                (omega (arith, length-longer bits bit)));
          }
