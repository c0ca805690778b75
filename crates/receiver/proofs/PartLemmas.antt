-- A front of a text is a front of a longer one.
use Rattle.std.proofs.Common.{◌≡◌, ℕ, List, ◌++◌, ap, sym, ◌∙◌, append_assoc}
use Rattle.std.specs.Prelude.{Option}
use Rattle.definitions.specs.Samples.{Sample}
use Rattle.definitions.specs.Oscillators.{Settings}
use Rattle.definitions.specs.Receiver.{Client, body}
use Rattle.definitions.proofs.BodyLemmas.{body-append}
use Rattle.receiver.specs.Texts.{AppendsPart}

pub part-longer : (a b : Option (List ℕ)) (text rest whole : List ℕ) → whole ≡ text ++ rest
    → AppendsPart a b text → AppendsPart a b whole
part-longer a b text rest whole e p = (
  p.0 ++ rest,
  record {
    written = (p.1).written;
    appended = (p.1).appended;
    whole = e ∙ ap (λ r. r ++ rest) (p.1).whole ∙ append_assoc (p.1).written p.0 rest;
  },
)

pub body-part-longer : (settings : Settings) (clients : List Client) (a b : Option (List ℕ))
    (xs ys all : List Sample) → xs ++ ys ≡ all → AppendsPart a b (body settings xs clients)
    → AppendsPart a b (body settings all clients)
body-part-longer settings clients a b xs ys all e p =
    let longer = body-append settings clients xs ys in
    part-longer a b (body settings xs clients) longer.0 (body settings all clients)
    (ap (λ r. body settings r clients) (sym e) ∙ longer.1) p
