-- A command that is refused changes nothing.
use Rattle.std.proofs.Common.{◌≡◌, ℕ, ◌≤◌, List, ◌∷◌, [], ◌++◌, length, take, refl, arith, ap, ◌∙◌}
use Rattle.std.proofs.Common.{sym}
use Rattle.std.specs.Prelude.{Option, Some, None, fold}
use Rattle.std.specs.List.{AllByRecursion}
use Rattle.std.proofs.lemmas.List.{take-append-le}
use Rattle.std.proofs.Math.Seq.{take-length}
use Rattle.definitions.specs.Samples.{Sample}
use Rattle.definitions.specs.Oscillators.{Settings}
use Rattle.definitions.specs.Commands.{Request, TimedRequest, begin, counts, state, stop}
use Rattle.definitions.specs.Lives.{Life, life_of, life_after, life_with, still_on, life_now}
use Rattle.definitions.specs.Answers.{answer_with, answer_at_end, refused}
use Rattle.definitions.proofs.BodyLemmas.{life_of-append, life_of-more}

refused-with : (settings : Settings) (xs : List Sample) (latest on : Option Life) (time number : ℕ)
    (request : Request) → answer_with settings xs on request ≡ refused number
    → life_with latest on time request ≡ latest
refused-with settings xs latest None time number (begin start) e = cc
refused-with settings xs latest (Some on) time number (begin start) e = refl
refused-with settings xs latest None time number (counts n) e = refl
refused-with settings xs latest (Some on) time number (counts n) e = cc
refused-with settings xs latest None time number state e = refl
refused-with settings xs latest (Some on) time number state e = refl
refused-with settings xs latest None time number stop e = refl
refused-with settings xs latest (Some on) time number stop e = cc

folded-append : {A B : Type 0} (f : B → A → B) (b : B) (xs ys : List A)
    → fold f b (xs ++ ys) ≡ fold f (fold f b xs) ys
folded-append f b [] ys = refl
folded-append f b (x ∷ xs) ys = folded-append f (f b x) xs ys

-- a command at the time of the last sample that is refused leaves the life as it is
pub refused-more : (settings : Settings) (xs : List Sample) (before : List TimedRequest)
    (command : TimedRequest) (number : ℕ)
    → command.time ≡ length xs → answer_at_end settings xs before command.request ≡ refused number
    → life_of settings xs (before ++ command ∷ []) ≡ life_of settings xs before
unfolding answer_at_end life_now
refused-more settings xs before command number now e =
    let whole : take command.time xs ≡ xs = rw now (take-length xs) in
    life_of-more settings xs before command
    ∙ ap (λ zs. life_with (life_of settings xs before)
    (still_on settings zs (life_of settings xs before)) command.time command.request) whole
    ∙ refused-with settings xs (life_of settings xs before)
    (still_on settings xs (life_of settings xs before)) command.time number command.request e

-- so it may be left out of the history, whatever samples and commands follow
pub refused-left_out : (settings : Settings) (xs ys : List Sample)
    (before after : List TimedRequest) (command : TimedRequest) (number : ℕ)
    → AllByRecursion (λ (c : TimedRequest). c.time ≤ length xs) before → command.time ≡ length xs
    → answer_at_end settings xs before command.request ≡ refused number
    → life_of settings (xs ++ ys) (before ++ command ∷ after)
    ≡ life_of settings (xs ++ ys) (before ++ after)
unfolding answer_at_end life_of life_now
refused-left_out settings xs ys before after command number early now e =
    let longer : List Sample = xs ++ ys in
    let same : life_of settings longer before ≡ life_of settings xs before =
    life_of-append settings xs ys before early in
    let whole : take command.time longer ≡ xs =
    rw now (take-append-le (length xs) xs ys (omega arith) ∙ take-length xs) in
    let stays : life_after settings longer (life_of settings longer before) command
    ≡ life_of settings longer before =
    ap (λ zs. life_with (life_of settings longer before)
    (still_on settings zs (life_of settings longer before)) command.time command.request) whole
    ∙ refused-with settings xs (life_of settings longer before)
    (still_on settings xs (life_of settings longer before)) command.time number command.request
    (ap (λ l. answer_with settings xs (still_on settings xs l) command.request) same ∙ e) in
    folded-append (life_after settings longer) None before (command ∷ after)
    ∙ ap (λ l. fold (life_after settings longer) l after) stays
    ∙ sym (folded-append (life_after settings longer) None before after)
