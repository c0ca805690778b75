-- The words of a subframe that is coming in, as far as their bits are there.
use Rattle.std.proofs.Common.{inl, inr, ◌≡◌, ◌≢◌, ℕ, zero, suc, ◌+◌, ◌-◌, ◌*◌, ◌/◌, ◌%◌, ◌^◌, ◌<◌}
use Rattle.std.proofs.Common.{◌≤◌, List, [], ◌∷◌, length, get_or, set, map, refl, sym, ◌∙◌, arith}
use Rattle.std.specs.Prelude.{Bool, true, false, Option, None, nat_le, nat_eq, cond, replicate, ◌⊎◌}
use Rattle.std.specs.List.{range_with_len}
use Rattle.std.proofs.lemmas.Bool.{cases_lt, cases_eq, le-leb, lt-leb, eqb-true, eqb-false}
use Rattle.std.proofs.lemmas.Bool.{cond-true, cond-false}
use Rattle.std.proofs.lemmas.List.{get_or-set_same, get_or-set_other, length-set}
use Rattle.std.proofs.lemmas.List.FromFn.{fill_by_all, get_or-map-range_with_len}
use Rattle.std.proofs.lemmas.List.FromFn.{length-map-range_with_len}
use Rattle.definitions.specs.Frames as frames
use Rattle.definitions.specs.Frames.{checked_at}
use Rattle.definitions.proofs.StartLemmas.{checked_at-append}
use Rattle.frame_sync.specs.Bits.{number_of, word_in, header_words_in}
use Rattle.frame_sync.specs.Search.{shown_at, IsIncoming}
use Rattle.frame_sync.specs.Incoming.{with_word_in}
use Rattle.frame_sync.specs.declared.incoming.Incoming.{Incoming}
use Rattle.frame_sync.proofs.MoreStarts.{longer, length-longer}
use Rattle.frame_sync.proofs.Windows.{checked_at-window}

pub shown_at-within : (bits : List Bool) (n : ℕ) → n + 30 ≤ length bits
    → shown_at bits n ≡ checked_at bits n
shown_at-within bits n within =
    cond-true (nat_le (n + 30) (length bits)) (checked_at bits n) None
    (le-leb (n + 30) (length bits) within)

shown_at-past : (bits : List Bool) (n : ℕ) → length bits < n + 30 → shown_at bits n ≡ None
shown_at-past bits n past =
    cond-false (nat_le (n + 30) (length bits)) (checked_at bits n) None
    (lt-leb (n + 30) (length bits) past)

-- the words of a subframe that starts here, as far as they are shown
abbrev pub words_at : List Bool → ℕ → List (Option ℕ)
words_at bits start = map (λ i. shown_at bits (start + 30 * i)) (range_with_len 0 10)

get_or-words_at : (bits : List Bool) (start i : ℕ) → i < 10
    → get_or (words_at bits start) i None ≡ shown_at bits (start + 30 * i)
get_or-words_at bits start i below =
    get_or-map-range_with_len (λ k. shown_at bits (start + 30 * k)) 0 10 i i None below
    (omega arith)

length-words_at : (bits : List Bool) (start : ℕ) → length (words_at bits start) ≡ 10
length-words_at bits start = length-map-range_with_len (λ i. shown_at bits (start + 30 * i)) 0 10

abbrev missing : Option ℕ
missing = None

get_or-nones : (n i : ℕ) → get_or (replicate n missing) i missing ≡ missing
get_or-nones zero i = refl
get_or-nones (suc n) zero = refl
get_or-nones (suc n) (suc i) = get_or-nones n i

module _ (bits : List Bool) (bit : Bool) (window : ℕ)
    (seen : window ≡ number_of (longer bits bit) % 2 ^ 64) where
  -- a word that doesn't end with the last bit is shown as before
  shown_at-more : (n : ℕ) → n + 30 ≢ length bits + 1
      → shown_at bits n ≡ shown_at (longer bits bit) n
  shown_at-more n other = by_place (cases_lt (length bits) (n + 30))
    where
      by_place : ((length bits < n + 30) ⊎ (n + 30 ≤ length bits))
          → shown_at bits n ≡ shown_at (longer bits bit) n
      by_place (inl past) =
          shown_at-past bits n past
          ∙ sym (shown_at-past (longer bits bit) n (omega (arith, length-longer bits bit)))
      by_place (inr within) =
          shown_at-within bits n within ∙ sym (checked_at-append bits (bit ∷ []) n within)
          ∙ sym (shown_at-within (longer bits bit) n (omega (arith, length-longer bits bit)))

  -- a word that ends a few bits before the end is the one in the window
  word_in-shown : (n behind : ℕ) → 2 ≤ n → n + 30 + behind ≡ length bits + 1 → behind ≤ 32
      → word_in window behind ≡ shown_at (longer bits bit) n
  word_in-shown n behind second ends near =
      let long : length (longer bits bit) ≡ n + 30 + behind =
      omega (arith, length-longer bits bit) in
      sym (shown_at-within (longer bits bit) n (omega arith)
      ∙ checked_at-window (longer bits bit) window seen n behind second long near)

  -- with the last bit of a header, its two words are there
  pub header_words-at : (start : ℕ) → 2 ≤ start → start + 60 ≡ length bits + 1
      → header_words_in window ≡ words_at (longer bits bit) start
  header_words-at start second ends =
      fill_by_all (λ i. shown_at (longer bits bit) (start + 30 * i)) (header_words_in window) 10
      None refl each_word
    where
      each_word : (i : ℕ) → i < 10
          → get_or (header_words_in window) i None ≡ shown_at (longer bits bit) (start + 30 * i)
      each_word zero below =
          word_in-shown (start + 30 * 0) 30 (omega arith) (omega arith) (omega arith)
      each_word (suc zero) below =
          word_in-shown (start + 30 * 1) 0 (omega arith) (omega arith) (omega arith)
      each_word (suc (suc i)) below =
          get_or-nones 8 i
          ∙ sym (shown_at-past (longer bits bit) (start + 30 * suc (suc i))
          (omega (arith, length-longer bits bit)))

  -- with the last bit of a word, that word is there
  word_set : (start word : ℕ) → 2 ≤ start → word < 10 → start + 30 * word + 30 ≡ length bits + 1
      → set (words_at bits start) word (word_in window 0) ≡ words_at (longer bits bit) start
  word_set start word second below ends =
      fill_by_all (λ i. shown_at (longer bits bit) (start + 30 * i))
      (set (words_at bits start) word (word_in window 0)) 10 None
      (length-set (words_at bits start) word (word_in window 0) ∙ length-words_at bits start)
      (λ i h. by_word i h (cases_eq i word))
    where
      by_word : (i : ℕ) → i < 10 → ((i ≡ word) ⊎ (i ≡ word → ⊥))
          → get_or (set (words_at bits start) word (word_in window 0)) i None
          ≡ shown_at (longer bits bit) (start + 30 * i)
      by_word i h (inl same) =
          rw same (get_or-set_same (words_at bits start) word (word_in window 0) None
          (omega (arith, length-words_at bits start))
          ∙ word_in-shown (start + 30 * word) 0 (omega arith) (omega arith) (omega arith))
      by_word i h (inr other) =
          get_or-set_other (words_at bits start) word i (word_in window 0) None other
          ∙ get_or-words_at bits start i h
          ∙ shown_at-more (start + 30 * i) (λ e. other (omega arith))

  words_stay : (start : ℕ) → ((i : ℕ) → i < 10 → start + 30 * i + 30 ≢ length bits + 1)
      → words_at bits start ≡ words_at (longer bits bit) start
  words_stay start none_ends =
      fill_by_all (λ i. shown_at (longer bits bit) (start + 30 * i)) (words_at bits start) 10 None
      (length-words_at bits start)
      (λ i h. get_or-words_at bits start i h ∙ shown_at-more (start + 30 * i) (none_ends i h))

  pub words-with_word_in : (incoming : Incoming) → IsIncoming bits incoming
      → (with_word_in window (length bits + 1) incoming).subframe.words
      ≡ words_at (longer bits bit) incoming.start
  words-with_word_in incoming comes =
      by_test (nat_eq ((length bits + 1 - incoming.start) % 30) 0) refl
    where
      by_test : (b : Bool) → nat_eq ((length bits + 1 - incoming.start) % 30) 0 ≡ b
          → (cond b (record {
            start = incoming.start;
            subframe =
                record {
                  words =
                      set incoming.subframe.words ((length bits + 1 - incoming.start) / 30 - 1)
                      (word_in window 0);
                };
          }) incoming).subframe.words
          ≡ words_at (longer bits bit) incoming.start
      by_test true e =
          let whole : (length bits + 1 - incoming.start) % 30 ≡ 0 =
          eqb-true ((length bits + 1 - incoming.start) % 30) 0 e in
          let has_prior : 2 ≤ incoming.start = comes.has_prior in
          let has_header : incoming.start + 60 ≤ length bits = comes.has_header in
          let is_open : length bits < incoming.start + 300 = comes.is_open in
          rw comes.words (word_set incoming.start ((length bits + 1 - incoming.start) / 30 - 1)
          has_prior (omega arith) (omega arith))
      by_test false e =
          let open_word : (length bits + 1 - incoming.start) % 30 ≡ 0 → ⊥ =
          eqb-false ((length bits + 1 - incoming.start) % 30) 0 e in
          comes.words ∙ words_stay incoming.start (λ i h f. open_word (omega arith))

pub start-with_word_in : (window pushed : ℕ) (incoming : Incoming)
    → (with_word_in window pushed incoming).start ≡ incoming.start
start-with_word_in window pushed incoming =
    by_test (nat_eq ((pushed - incoming.start) % 30) 0)
    (record {
      words =
          set incoming.subframe.words ((pushed - incoming.start) / 30 - 1) (word_in window 0);
    })
  where
    by_test : (b : Bool) (subframe : frames.Subframe)
        → (cond b (record { start = incoming.start; subframe = subframe }) incoming).start
        ≡ incoming.start
    by_test true subframe = refl
    by_test false subframe = refl
