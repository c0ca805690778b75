-- A header in a window is two words that are headed, in a frame of equal bits.
use Rattle.std.proofs.Common.{◌≡◌, ℕ, zero, suc, ◌∷◌, refl, sym, ◌∙◌, true}
use Rattle.std.specs.Prelude.{Bool, false, ◌&&◌, ◌||◌, ◌==◌, nat_le, IsTrue, Option, Some, None}
use Rattle.std.specs.Prelude.{SomeIff, All, replicate}
use Rattle.std.proofs.Math.Bool.{and_comm}
use Rattle.std.proofs.lemmas.Bool.{and_parts, and_from, and_left, and_right, both_ways}
use Rattle.std.proofs.lemmas.List.Elements.{All-cons, All-nil}
use Rattle.definitions.specs.Frames as frames
use Rattle.definitions.specs.Frames.{is_header, has_preamble, id_in}
use Rattle.frame_sync.specs.Words.{IsWord, IsSubframe, has_header}
use Rattle.frame_sync.specs.Bits.{bits_in, word_in, is_framed_in, has_header_in, header_words_in}

regrouped : (x a b c l : Bool) → (x && a && b && c && l) ≡ ((x && l) && (a && b && c))
regrouped false a b c l = refl
regrouped true a b c l = and_comm (a && b && c) l

is_header-parts : (prior last : ℕ) (first second : Option ℕ)
    → is_header prior first second last
    ≡ ((((prior == 0) || (prior == 3)) && (last == prior)) && has_header first second)
is_header-parts prior last (Some data1) (Some data2) =
    regrouped ((prior == 0) || (prior == 3)) (has_preamble data1) (nat_le 1 (id_in data2))
    (nat_le (id_in data2) 5) (last == prior)
is_header-parts prior last (Some data1) None =
    sym (and_right (((prior == 0) || (prior == 3)) && (last == prior)) false refl)
is_header-parts prior last None second =
    sym (and_right (((prior == 0) || (prior == 3)) && (last == prior)) false refl)

has_header_in-parts : (window : ℕ)
    → has_header_in window
    ≡ (is_framed_in window && has_header (word_in window 30) (word_in window 0))
unfolding has_header_in
has_header_in-parts window =
    is_header-parts (bits_in window 60 2) (bits_in window 0 2) (word_in window 30)
    (word_in window 0)

-- two words and eight that are missing
are_words : (first second : Option ℕ) → IsWord first → IsWord second
    → All IsWord (first ∷ second ∷ replicate 8 None)
are_words first second p q =
    All-cons IsWord first (second ∷ replicate 8 None) p
    (All-cons IsWord second (replicate 8 None) q (nones 8))
  where
    nones : (n : ℕ) → All IsWord (replicate n None)
    nones zero = All-nil IsWord
    nones (suc n) = All-cons IsWord None (replicate n None) tt (nones n)

same_since : {T : Type 0} (found : Option T) (P Q : Type 0) (value other : T) → value ≡ other
    → (P → Q) → (Q → P) → SomeIff found P value → SomeIff found Q other
same_since None P Q value other e to from h = λ q. h (from q)
same_since (Some x) P Q value other e to from h = (to h.0, h.1 ∙ e)

-- in a frame, the words decide
pub header_in_frame : (window : ℕ) (first second : Option ℕ) (found : Option frames.Subframe)
    → is_framed_in window ≡ true → first ≡ word_in window 30 → second ≡ word_in window 0
    → IsWord first → IsWord second
    → SomeIff found (IsSubframe (first ∷ second ∷ replicate 8 None))
    (record { words = first ∷ second ∷ replicate 8 None })
    → SomeIff found (IsTrue (has_header_in window)) (record { words = header_words_in window })
header_in_frame window first second found framed is_first is_second p q h =
    let all : has_header_in window ≡ (is_framed_in window && has_header first second) =
    rw (is_first, is_second) (has_header_in-parts window) in
    same_since found (IsSubframe (first ∷ second ∷ replicate 8 None))
    (IsTrue (has_header_in window)) (record { words = first ∷ second ∷ replicate 8 None })
    (record { words = header_words_in window })
    (rw (is_first, is_second) refl)
    (λ s. all ∙ and_from (is_framed_in window) (has_header first second) framed s.are_headed)
    (λ headed. record {
      are_ten = refl;
      are_words = are_words first second p q;
      are_headed =
          (and_parts (is_framed_in window) (has_header first second) (sym all ∙ headed)).1;
    })
    h

pub none_out_of_frame : (window : ℕ) → is_framed_in window ≡ false → IsTrue (has_header_in window)
    → ⊥
none_out_of_frame window unframed headed =
    both_ways (has_header_in window)
    (has_header_in-parts window
    ∙ and_left (is_framed_in window) (has_header (word_in window 30) (word_in window 0))
    unframed) headed

pub ruleset headers = (header_in_frame, none_out_of_frame)
