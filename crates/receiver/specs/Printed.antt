-- What is shown by the lines of a text, one by one.
use Rattle.std.specs.Prelude.{◌≡◌, ◌+◌, ℕ, List, slice_get, Some, codes}
use Rattle.definitions.specs.Oscillators.{Settings}
use Rattle.definitions.specs.Samples.{Sample}
use Rattle.definitions.specs.Correlation.{Counts}
use Rattle.definitions.specs.Acquisition.{Cell}
use Rattle.definitions.specs.Frames.{Subframe}
use Rattle.definitions.specs.DataSets.{Report, AlmanacSet}
use Rattle.definitions.specs.Events.{Event, acquired, count, subframe, reported, almanacs}
use Rattle.definitions.specs.Lines.{lines_of}
use Rattle.definitions.specs.Receiver.{Client, lines_of_client, alone_to_end}
use Rattle.definitions.specs.PrintedLaws.{IsLineOf, IsPageVerb, report_verb, verb_of}

-- The text has for each client, after its number, the lines of a receiver with that client alone
-- over these samples, and then its end, whatever the others ask.
abbrev pub ServesEachAlone : Settings → List Client → List Sample → List ℕ → Type 0
ServesEachAlone settings clients xs text =
    (k : ℕ) (client : Client) → slice_get clients k ≡ Some client
    → lines_of_client (1 + k) (lines_of text) ≡ alone_to_end settings xs client

-- Each line of the text with such a word after its client and its time is that of such an event. A
-- slot emits the event with the samples up to the line's time, and the event is right: `IsLineOf`
-- says what that is for each kind.
abbrev pub EachLine : Settings → List Client → List Sample → List ℕ
    → (List ℕ → Type 0) → (List ℕ → Event → Type 0) → Type 0
EachLine settings clients xs text verb kind =
    (i : ℕ) (line word : List ℕ) → slice_get (lines_of text) i ≡ Some line
    → verb_of line ≡ Some word → verb word
    → (event : Event) × kind word event × IsLineOf settings clients xs line event

-- Each count is that of a dump: the six plain sums over its samples.
abbrev pub CountsAreSums : Settings → List Client → List Sample → List ℕ → Type 0
CountsAreSums settings clients xs text =
    EachLine settings clients xs text (λ word. word ≡ codes "count")
    (λ _ event. (c : Counts) × (event ≡ count c))

-- Each acquisition names the first greatest cell of its plan over its dwell.
abbrev pub AcquisitionsNameTheGreatest : Settings → List Client → List Sample → List ℕ → Type 0
AcquisitionsNameTheGreatest settings clients xs text =
    EachLine settings clients xs text (λ word. word ≡ codes "acq")
    (λ _ event. (prn : ℕ) × (cell : Cell) × (event ≡ acquired prn cell))

-- Each word of a subframe that is shown passes with the two bits before it.
abbrev pub WordsPass : Settings → List Client → List Sample → List ℕ → Type 0
WordsPass settings clients xs text =
    EachLine settings clients xs text (λ word. word ≡ codes "sub")
    (λ _ event. (s : Subframe) × (event ≡ subframe s))

-- Each page and each set of pages is of the kind that its line names, and comes from words that all
-- pass.
abbrev pub PagesPass : Settings → List Client → List Sample → List ℕ → Type 0
PagesPass settings clients xs text =
    EachLine settings clients xs text IsPageVerb
    (λ word event. (r : Report) × (report_verb r ≡ Some word) × (event ≡ reported r))

abbrev pub AlmanacsAgree : Settings → List Client → List Sample → List ℕ → Type 0
AlmanacsAgree settings clients xs text =
    EachLine settings clients xs text (λ word. word ≡ codes "als")
    (λ _ event. (set : AlmanacSet) × (event ≡ almanacs set))

-- What is shown by the lines of a run that came to its end: each client's are those of a receiver
-- with that client alone, and what each line names is right.
pub record LinesAreRight (settings : Settings) (clients : List Client) (xs : List Sample)
    (text : List ℕ) : Type 0 where
  pub alone : ServesEachAlone settings clients xs text
  pub counts : CountsAreSums settings clients xs text
  pub acquisitions : AcquisitionsNameTheGreatest settings clients xs text
  pub words : WordsPass settings clients xs text
  pub pages : PagesPass settings clients xs text
  pub almanacs : AlmanacsAgree settings clients xs text
