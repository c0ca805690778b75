-- What is written when a sample is added: the text so far, and the lines at the new time.
use Rattle.std.proofs.Common.{◌≡◌, ℕ, zero, suc, ◌+◌, ◌<◌, ◌≤◌, List, [], ◌∷◌, ◌++◌, length, take}
use Rattle.std.proofs.Common.{refl, ap, ◌∙◌, arith, length-append, sym}
use Rattle.std.proofs.lemmas.List.{append_assoc}
use Rattle.std.specs.Prelude.{flat_map, fold, Option, None}
use Rattle.std.specs.List.{range_with_len, AllByRecursion}
use Rattle.std.proofs.lemmas.List.{take-append-le}
use Rattle.std.proofs.lemmas.Grind.{flat_map-append}
use Rattle.std.proofs.lemmas.List.Sums.{fold_push}
use Rattle.std.proofs.Math.Seq.{take-length}
use Rattle.std.proofs.Common.{append-nil}
use Rattle.definitions.specs.Samples.{Sample}
use Rattle.definitions.specs.Oscillators.{Settings}
use Rattle.definitions.specs.Commands.{TimedRequest}
use Rattle.definitions.specs.Lines.{as_bytes, ended_line}
use Rattle.definitions.specs.Lives.{Life, life_of, life_after}
use Rattle.definitions.specs.Receiver.{alone, lines_alone_at, Client, body_lines, body}
use Rattle.definitions.specs.Receiver.{lines_at, at_each_time}

range_more : (a n : ℕ) → range_with_len a (suc n) ≡ range_with_len a n ++ (a + n) ∷ []
range_more a zero = let e : a + 0 ≡ a = omega arith in rw e
range_more a (suc n) =
    let e : a + 1 + n ≡ a + suc n = omega arith in rw e at (ap (λ r. a ∷ r) (range_more (a + 1) n))

flat_map-range_same : {B : Type 0} (f g : ℕ → List B) (a n : ℕ) → ((t : ℕ) → t < a + n → f t ≡ g t)
    → flat_map f (range_with_len a n) ≡ flat_map g (range_with_len a n)
flat_map-range_same f g a zero same = refl
flat_map-range_same f g a (suc n) same =
    rw (same a (omega arith), flat_map-range_same f g (a + 1) n (λ t h. same t (omega arith)))

pub at_each_time-more : (lines : List Sample → List (List ℕ)) (xs : List Sample) (x : Sample)
    → at_each_time lines (xs ++ x ∷ []) ≡ at_each_time lines xs ++ lines (xs ++ x ∷ [])
unfolding at_each_time
at_each_time-more lines xs x =
    let longer : List Sample = xs ++ x ∷ [] in
    let n : ℕ = length xs in
    let e : length longer ≡ suc n = simp length-append (omega arith) in
    let f : length longer + 1 ≡ suc (n + 1) = omega arith in
    let whole : take (0 + (n + 1)) longer ≡ longer =
    let g : 0 + (n + 1) ≡ length longer = omega arith in rw g (take-length longer) in
    let before =
    flat_map-range_same (λ t. lines (take t longer)) (λ t. lines (take t xs)) 0 (n + 1)
    (λ t h. ap lines (take-append-le t xs (x ∷ []) (omega arith))) in
    let parts =
    flat_map-append (λ t. lines (take t longer)) (range_with_len 0 (n + 1))
    ((0 + (n + 1)) ∷ []) in
    let last : flat_map (λ t. lines (take t longer)) ((0 + (n + 1)) ∷ []) ≡ lines longer =
    rw whole (append-nil (lines longer)) in
    ap (λ k. flat_map (λ t. lines (take t longer)) (range_with_len 0 k)) f
    ∙ ap (λ ts. flat_map (λ t. lines (take t longer)) ts) (range_more 0 (n + 1))
    ∙ parts
    ∙ ap (λ r. r ++ flat_map (λ t. lines (take t longer)) ((0 + (n + 1)) ∷ [])) before
    ∙ ap (λ r. flat_map (λ t. lines (take t xs)) (range_with_len 0 (n + 1)) ++ r) last

-- one more sample: the lines so far, and those of the new time
pub body_lines-more : (settings : Settings) (xs : List Sample) (x : Sample)
    (clients : List Client)
    → body_lines settings (xs ++ x ∷ []) clients
    ≡ body_lines settings xs clients ++ lines_at settings clients (xs ++ x ∷ [])
unfolding body_lines
body_lines-more settings xs x clients =
    at_each_time-more (lines_at settings clients) xs x

pub alone-more : (settings : Settings) (xs : List Sample) (x : Sample)
    (client : Client)
    → alone settings (xs ++ x ∷ []) client
    ≡ alone settings xs client ++ lines_alone_at settings client (xs ++ x ∷ [])
unfolding alone
alone-more settings xs x client =
    at_each_time-more (lines_alone_at settings client) xs x

pub as_bytes-append : (ls ms : List (List ℕ)) → as_bytes (ls ++ ms) ≡ as_bytes ls ++ as_bytes ms
unfolding as_bytes
as_bytes-append ls ms = flat_map-append ended_line ls ms

-- the lines at the times of further samples
pub body_lines-append : (settings : Settings) (clients : List Client)
    (xs ys : List Sample)
    → (rest : List (List ℕ))
    × (body_lines settings (xs ++ ys) clients
    ≡ body_lines settings xs clients ++ rest)
body_lines-append settings clients xs [] = (
  [],
  ap (λ zs. body_lines settings zs clients) (append-nil xs)
      ∙ sym (append-nil (body_lines settings xs clients)),
)
body_lines-append settings clients xs (y ∷ ys) =
    let later = body_lines-append settings clients (xs ++ y ∷ []) ys in
    let e : xs ++ y ∷ ys ≡ (xs ++ y ∷ []) ++ ys = sym (append_assoc xs (y ∷ []) ys) in (
      lines_at settings clients (xs ++ y ∷ []) ++ later.0,
      ap (λ zs. body_lines settings zs clients) e ∙ later.1
          ∙ ap (λ ls. ls ++ later.0) (body_lines-more settings xs y clients)
          ∙ append_assoc (body_lines settings xs clients)
          (lines_at settings clients (xs ++ y ∷ [])) later.0,
    )

-- the text of more samples begins with that of fewer
pub body-append : (settings : Settings) (clients : List Client)
    (xs ys : List Sample)
    → (rest : List ℕ)
    × (body settings (xs ++ ys) clients ≡ body settings xs clients ++ rest)
unfolding body
body-append settings clients xs ys =
    let lines = body_lines-append settings clients xs ys in (
      as_bytes lines.0,
      ap as_bytes lines.1
          ∙ as_bytes-append (body_lines settings xs clients) lines.0,
    )

-- commands that all came by now leave the same life, whatever samples follow
pub life_of-append : (settings : Settings) (xs ys : List Sample) (commands : List TimedRequest)
    → AllByRecursion (λ (c : TimedRequest). c.time ≤ length xs) commands
    → life_of settings (xs ++ ys) commands ≡ life_of settings xs commands
unfolding life_of
life_of-append settings xs ys commands early = folded None commands early
  where
    folded : (life : Option Life) (cs : List TimedRequest)
        → AllByRecursion (λ (c : TimedRequest). c.time ≤ length xs) cs
        → fold (life_after settings (xs ++ ys)) life cs ≡ fold (life_after settings xs) life cs
    folded life [] e = refl
    folded life (c ∷ cs) e =
        rw (take-append-le c.time xs ys e.0) (folded (life_after settings xs life c) cs e.1)

-- one more command
pub life_of-more : (settings : Settings) (xs : List Sample) (commands : List TimedRequest)
    (c : TimedRequest)
    → life_of settings xs (commands ++ c ∷ [])
    ≡ life_after settings xs (life_of settings xs commands) c
unfolding life_of
life_of-more settings xs commands c = fold_push (life_after settings xs) None commands c
