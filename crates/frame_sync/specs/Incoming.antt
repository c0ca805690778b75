-- What the newest bit makes of the subframe that is coming in.
use Rattle.std.specs.Prelude.{ℕ, ◌+◌, ◌-◌, ◌/◌, ◌%◌, ◌≤◌, ◌==◌, IsTrue, if◌then◌else◌, Option}
use Rattle.std.specs.Prelude.{unwrap_or, slice_set}
use Rattle.frame_sync.specs.Bits.{word_in, has_header_in, header_words_in}
use Rattle.frame_sync.specs.declared.incoming.Incoming.{Incoming}

-- the newest 60 of the bits that were pushed are a header, at or after the place that is awaited,
-- or 2 where none is
abbrev pub StartsHere : ℕ → ℕ → Option ℕ → Type 0
StartsHere window pushed awaited =
    (unwrap_or awaited 2 + 60 ≤ pushed) × IsTrue (has_header_in window)

-- the subframe whose header is the newest 60 bits
abbrev pub header_in : ℕ → ℕ → Incoming
header_in window pushed =
    record { start = pushed - 60; subframe = record { words = header_words_in window } }

-- a subframe with the word that ends with the newest bit, if one does
abbrev pub with_word_in : ℕ → ℕ → Incoming → Incoming
with_word_in window pushed incoming =
    let taken = pushed - incoming.start in
    if taken % 30 == 0
    then record {
      start = incoming.start;
      subframe =
          record {
            words =
                slice_set incoming.subframe.words (taken / 30 - 1) (word_in window 0);
          };
    }
    else incoming
