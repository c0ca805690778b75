-- A search that stands for some bits stands for one more, as the code goes on.
use Rattle.std.proofs.Common.{◌≡◌, ℕ, ◌+◌, ◌-◌, ◌*◌, ◌%◌, ◌^◌, ◌<◌, ◌≤◌, List, [], ◌∷◌, ◌++◌}
use Rattle.std.proofs.Common.{length, refl, sym, ap, ◌∙◌, subst, arith}
use Rattle.std.specs.Prelude.{Bool, Option, Some, None, SomeIff}
use Rattle.definitions.specs.Frames.{bit_number, starts_of, starts_from, gap_from}
use Rattle.frame_sync.specs.Bits.{number_of}
use Rattle.frame_sync.specs.Search.{IsSearched, IsIncoming, StandsFor}
use Rattle.frame_sync.specs.Incoming.{StartsHere, header_in, with_word_in}
use Rattle.frame_sync.specs.declared.incoming.Incoming.{Incoming}
use Rattle.frame_sync.specs.declared.sync.FrameSync.{FrameSync}
use Rattle.frame_sync.proofs.Windows.{seen-push}
use Rattle.frame_sync.proofs.MoreStarts.{length-longer}
use Rattle.frame_sync.proofs.IncomingWords.{start-with_word_in}
use Rattle.frame_sync.proofs.OneMoreBit.{IsStep, step-searching, step-open, step-whole}

-- no bits have no start
pub nothing_searched : IsSearched [] None None
unfolding starts_of starts_from
nothing_searched =
    record { whole = []; starts = refl; are_whole = tt; awaits = refl; comes = λ x e. cc }

pub nothing_seen : number_of [] % 2 ^ 64 ≡ 0
unfolding number_of
nothing_seen = refl

module _ (bits : List Bool) (bit : Bool) (sync : FrameSync) (stood : StandsFor bits sync)
    (window : ℕ) (moved : window ≡ (sync.window.bits * 2 + bit_number bit) % 2 ^ 64) where
  pub seen_now : window ≡ number_of (bits ++ bit ∷ []) % 2 ^ 64
  seen_now = seen-push bits bit sync.window.bits window stood.seen moved

  pub counted_now : sync.pushed + 1 ≡ length (bits ++ bit ∷ [])
  counted_now = omega (arith, stood.counted, length-longer bits bit)

  pub searching : sync.incoming ≡ None → (o : Option Incoming)
      → SomeIff o (StartsHere window (sync.pushed + 1) sync.awaited)
      (header_in window (sync.pushed + 1))
      → IsStep bits bit sync.awaited o None
  searching none o started =
      let before : IsSearched bits sync.awaited None =
      subst (IsSearched bits sync.awaited) none stood.searched in
      let counted : sync.pushed ≡ length bits = stood.counted in
      step-searching bits bit window seen_now sync.awaited before o (rw counted at started)

  module _ (before incoming : Incoming) (is_before : sync.incoming ≡ Some before)
      (is_incoming : incoming ≡ with_word_in window (sync.pushed + 1) before) where
    searched_before : IsSearched bits sync.awaited (Some before)
    searched_before = subst (IsSearched bits sync.awaited) is_before stood.searched

    came : IsIncoming bits before
    came = searched_before.comes before refl

    same_start : incoming.start ≡ before.start
    same_start =
        ap (λ (i : Incoming). i.start) is_incoming
        ∙ start-with_word_in window (sync.pushed + 1) before

    is_with_bit : with_word_in window (length bits + 1) before ≡ incoming
    is_with_bit =
        let counted : sync.pushed ≡ length bits = stood.counted in sym (rw counted at is_incoming)

    pub still_open : sync.pushed + 1 - incoming.start < 300
        → IsStep bits bit sync.awaited (Some incoming) None
    still_open short =
        let counted : sync.pushed ≡ length bits = stood.counted in
        let has_header : before.start + 60 ≤ length bits = came.has_header in
        subst (λ (i : Incoming). IsStep bits bit sync.awaited (Some i) None) is_with_bit
        (step-open bits bit window seen_now sync.awaited before searched_before
        (omega (arith, same_start)))

    pub made_whole : 300 ≤ sync.pushed + 1 - incoming.start
        → IsStep bits bit (Some (sync.pushed + 1)) None
        (Some (record {
          subframe = incoming.subframe;
          gap = gap_from sync.awaited incoming.start;
        }))
    made_whole long =
        let counted : sync.pushed ≡ length bits = stood.counted in
        let is_open : length bits < before.start + 300 = came.is_open in
        let step =
        step-whole bits bit window seen_now sync.awaited before searched_before
        (omega (arith, same_start)) in
        rw (counted, same_start, ← is_with_bit) step
