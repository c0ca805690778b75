-- The lines of a whole text, one by one.
use Rattle.std.proofs.Common.{◌≤◌, length, ℕ, List, refl, ap, ◌∙◌, arith}
use Rattle.std.specs.Prelude.{Some}
use Rattle.definitions.specs.Oscillators.{Settings}
use Rattle.definitions.specs.Samples.{Sample}
use Rattle.definitions.specs.Events.{acquired, count, subframe, reported, almanacs}
use Rattle.definitions.specs.Receiver.{Client, full}
use Rattle.definitions.proofs.TextLemmas.{client-alone}
use Rattle.definitions.proofs.PrintedVerbLemmas.{counts-printed, acquisitions-printed}
use Rattle.definitions.proofs.PrintedVerbLemmas.{words-printed, almanacs-printed, pages-printed}
use Rattle.receiver.specs.Printed.{ServesEachAlone, CountsAreSums, AcquisitionsNameTheGreatest}
use Rattle.receiver.specs.Printed.{WordsPass, PagesPass, AlmanacsAgree, LinesAreRight}

module _ (settings : Settings) (clients : List Client) (xs : List Sample) where
  served-alone : length clients ≤ 8
      → ServesEachAlone settings clients xs (full settings xs clients)
  served-alone few = λ k client found.
      client-alone settings xs clients k client found (omega (arith, few))

  counts-are-sums : CountsAreSums settings clients xs (full settings xs clients)
  counts-are-sums = λ i line word found verb_is is.
      let e =
      counts-printed settings clients xs line
      ((i, found), verb_is ∙ ap (λ (w : List ℕ). Some w) is) in
      (count e.0, (e.0, refl), e.1)

  acquisitions-name-the-greatest :
      AcquisitionsNameTheGreatest settings clients xs (full settings xs clients)
  acquisitions-name-the-greatest = λ i line word found verb_is is.
      let e =
      acquisitions-printed settings clients xs line
      ((i, found), verb_is ∙ ap (λ (w : List ℕ). Some w) is) in
      (acquired e.0 e.1, (e.0, e.1, refl), e.2)

  words-pass : WordsPass settings clients xs (full settings xs clients)
  words-pass = λ i line word found verb_is is.
      let e =
      words-printed settings clients xs line
      ((i, found), verb_is ∙ ap (λ (w : List ℕ). Some w) is) in
      (subframe e.0, (e.0, refl), e.1)

  pages-pass : PagesPass settings clients xs (full settings xs clients)
  pages-pass = λ i line word found verb_is is.
      let e = pages-printed settings clients xs line word is ((i, found), verb_is) in
      (reported e.0, (e.0, e.1, refl), e.2)

  almanacs-agree : AlmanacsAgree settings clients xs (full settings xs clients)
  almanacs-agree = λ i line word found verb_is is.
      let e =
      almanacs-printed settings clients xs line
      ((i, found), verb_is ∙ ap (λ (w : List ℕ). Some w) is) in
      (almanacs e.0, (e.0, refl), e.1)

  -- all that is shown by the lines, for eight clients at most
  pub lines-are-right : length clients ≤ 8
      → LinesAreRight settings clients xs (full settings xs clients)
  lines-are-right few = record {
    alone = served-alone few;
    counts = counts-are-sums;
    acquisitions = acquisitions-name-the-greatest;
    words = words-pass;
    pages = pages-pass;
    almanacs = almanacs-agree;
  }
