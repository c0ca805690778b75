-- What is known where a slot takes the samples of a window.
use Rattle.std.proofs.Common.{◌≡◌, ℕ, ◌<◌, ◌≤◌, List, length, sym, ap, ◌∙◌, arith, inl, inr}
use Rattle.std.specs.Prelude.{Bool, true, false, Option, None, IsSome, ◌↔◌, pos}
use Rattle.std.specs.Option.{is_some}
use Rattle.std.proofs.lemmas.Bool.{cases_lt}
use Rattle.std.proofs.lemmas.List.{get_or-take}
use Rattle.definitions.specs.Samples.{Sample, sample_at, real}
use Rattle.sample_planes.specs.Sources.{AreSamplesOf}
use Rattle.sample_history.specs.declared.history.SampleHistory.{SampleHistory}
use Rattle.sample_history.specs.Histories as histories
use Rattle.channels.specs.declared.searched.Searched.{Searched}
use Rattle.channels.specs.declared.window.Window.{Window}
use Rattle.channels.specs.Searching.{start_of}
use Rattle.channels.specs.Windows.{IsOver, history_of}

-- the samples that a window is over are in its history, from one on that it holds
held-over : (xs : List Sample) (w : Window) (begun : ℕ) → IsOver xs w
    → histories.first_of (history_of w) ≤ begun
    → AreSamplesOf xs begun (length xs) (histories.held_in (history_of w))
held-over xs w begun over held n low high =
    let history = over.stands.history in
    history.held n (omega (arith, held, low))
    (omega (arith, history.taken, over.within, high))
    ∙ sym (ap (λ (zs : List Sample). sample_at zs n) (sym over.begins)
    ∙ get_or-take (length xs) over.all n (real (pos 0)) high)

-- and those from the first one of a dwell on, where it is found in the history
pub dwell-over : (xs : List Sample) (w : Window) (h : SampleHistory) (s : Searched) (begun : ℕ)
    → IsOver xs w → h ≡ history_of w → histories.first_of (history_of w) ≤ start_of s
    → start_of s ≡ begun
    → AreSamplesOf xs begun (length xs) (histories.held_in h)
dwell-over xs w h s begun over is held start =
    rw is (held-over xs w begun over
    (omega (arith, start, held)))

-- where nothing came by a number it comes after it
pub not-come : (b : Bool) (next to : ℕ) → (b ≡ true) ↔ (next ≤ to) → b ≡ false → to < next
not-come b next to came none = elim (cases_lt to next) [
  | inl early ↦ early
  | inr late ↦ let both : false ≡ true = sym none ∙ came.1 late in cc
]

pub not-due : {A : Type 0} (o : Option A) (due to : ℕ) → IsSome o ↔ (due ≤ to) → o ≡ None
    → to < due
not-due o due to named none = not-come (is_some o) due to named (ap is_some none)
