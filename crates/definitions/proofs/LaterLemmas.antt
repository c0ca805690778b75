-- With more samples come lines of later times alone.
use Rattle.std.proofs.Common.{◌≡◌, ℕ, suc, ◌+◌, ◌<◌, List, [], ◌∷◌, ◌++◌, length, refl, sym, ap}
use Rattle.std.proofs.Common.{◌∙◌, append_assoc, append-nil, arith, length-append}
use Rattle.std.specs.Prelude.{map, flat_map}
use Rattle.std.specs.List.{AllByRecursion, enumerate_from}
use Rattle.definitions.specs.Samples.{Sample}
use Rattle.definitions.specs.Oscillators.{Settings}
use Rattle.definitions.specs.Texts.{for_client}
use Rattle.definitions.specs.Receiver.{Client, timed_texts, event_texts, answer_texts}
use Rattle.definitions.specs.Receiver.{event_lines, answer_lines, lines_at, for_each_client}
use Rattle.definitions.specs.Receiver.{body_lines}
use Rattle.definitions.specs.TextLaws.{IsLaterThan, MoreSamplesEmitLater}
use Rattle.definitions.proofs.BodyLemmas.{body_lines-more}

all-append : (P : List ℕ → Type 0) (xs ys : List (List ℕ)) → AllByRecursion P xs
    → AllByRecursion P ys → AllByRecursion P (xs ++ ys)
all-append P [] ys hx hy = hy
all-append P (x ∷ xs) ys hx hy = (hx.0, all-append P xs ys hx.1 hy)

-- texts at the last time, after a client's number
texts-later : (t client : ℕ) (xs : List Sample) → t < length xs → (texts : List (List ℕ))
    → AllByRecursion (IsLaterThan t) (map (for_client client) (timed_texts xs texts))
texts-later t client xs h [] = tt
texts-later t client xs h (text ∷ texts) =
    ((client, length xs, text, h, refl), texts-later t client xs h texts)

clients-later : (t : ℕ) (xs : List Sample) → t < length xs
    → (texts : Client → List (List ℕ)) (k : ℕ) (clients : List Client)
    → AllByRecursion (IsLaterThan t)
    (flat_map (λ (p : ℕ × Client). map (for_client p.0) (timed_texts xs (texts p.1)))
    (enumerate_from k clients))
clients-later t xs h texts k [] = tt
clients-later t xs h texts k (client ∷ clients) =
    all-append (IsLaterThan t) (map (for_client k) (timed_texts xs (texts client)))
    (flat_map (λ (p : ℕ × Client). map (for_client p.0) (timed_texts xs (texts p.1)))
    (enumerate_from (k + 1) clients))
    (texts-later t k xs h (texts client)) (clients-later t xs h texts (k + 1) clients)

lines_at-later : (settings : Settings) (clients : List Client) (t : ℕ)
    (xs : List Sample) → t < length xs
    → AllByRecursion (IsLaterThan t) (lines_at settings clients xs)
unfolding lines_at event_lines answer_lines for_each_client
lines_at-later settings clients t xs h =
    all-append (IsLaterThan t) (event_lines settings clients xs)
    (answer_lines settings clients xs)
    (clients-later t xs h (λ client. event_texts settings client xs) 1 clients)
    (clients-later t xs h (λ client. answer_texts settings client xs) 1 clients)

-- all of the lines that further samples add
added-later : (settings : Settings) (clients : List Client) (t : ℕ)
    (xs ys : List Sample) → t < suc (length xs)
    → (rest : List (List ℕ))
    × (body_lines settings (xs ++ ys) clients
    ≡ body_lines settings xs clients ++ rest) × AllByRecursion (IsLaterThan t) rest
added-later settings clients t xs [] h = (
  [],
  ap (λ zs. body_lines settings zs clients) (append-nil xs)
      ∙ sym (append-nil (body_lines settings xs clients)),
  tt,
)
added-later settings clients t xs (y ∷ ys) h =
    let long : length (xs ++ y ∷ []) ≡ suc (length xs) = length-append xs (y ∷ []) ∙ omega arith in
    let later = added-later settings clients t (xs ++ y ∷ []) ys (omega arith) in
    let now = lines_at settings clients (xs ++ y ∷ []) in (
      now ++ later.0,
      ap (λ zs. body_lines settings zs clients) (sym (append_assoc xs (y ∷ []) ys))
          ∙ later.1 ∙ ap (λ ls. ls ++ later.0) (body_lines-more settings xs y clients)
          ∙ append_assoc (body_lines settings xs clients) now later.0,
      all-append (IsLaterThan t) now later.0
          (lines_at-later settings clients t (xs ++ y ∷ []) (omega arith)) later.2,
    )

pub more-later : MoreSamplesEmitLater
more-later settings clients xs ys =
    added-later settings clients (length xs) xs ys (omega arith)
