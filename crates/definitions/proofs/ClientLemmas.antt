-- Among the lines of all clients, those of one are what that client gets alone.
use Rattle.std.proofs.Common.{◌≡◌, ℕ, zero, suc, ◌+◌, ◌^◌, ◌<◌, ◌≤◌, List, [], ◌∷◌, ◌++◌, length}
use Rattle.std.proofs.Common.{take, drop, refl, ap, ◌∙◌, sym, arith, true, false}
use Rattle.std.specs.Prelude.{flat_map, map, nat_eq, Some, slice_get}
use Rattle.std.specs.List.{range_with_len, enumerate_from, starts_with}
use Rattle.std.specs.Fmt.{decimal}
use Rattle.std.proofs.lemmas.Fmt.{decimal_injective}
use Rattle.std.proofs.lemmas.List.Elements.{filter-append}
use Rattle.std.proofs.lemmas.List.{append-nil}
use Rattle.std.proofs.lemmas.Bool.{and_parts, true_from_ne_false, false_from_ne_true, eqb-true}
use Rattle.std.proofs.lemmas.Bool.{eqb-false}
use Rattle.definitions.specs.Oscillators.{Settings}
use Rattle.definitions.specs.Samples.{Sample}
use Rattle.definitions.specs.Texts.{for_client}
use Rattle.definitions.specs.Receiver.{Client, lines_of_client, is_of_client}
use Rattle.definitions.specs.Receiver.{for_each_client, lines_at, event_lines, answer_lines}
use Rattle.definitions.specs.Receiver.{lines_alone_at, body_lines, end_lines, full_lines, end_line}
use Rattle.definitions.specs.Receiver.{alone, alone_to_end, at_each_time, timed_texts, event_texts}
use Rattle.definitions.specs.Receiver.{answer_texts}
use Rattle.definitions.proofs.MarkLemmas.{Without, IsOther}
use Rattle.definitions.proofs.VerbLemmas.{decimal-word}

same : (n : ℕ) → nat_eq n n ≡ true
same n = true_from_ne_false (nat_eq n n) (λ e. eqb-false n n e refl)

map-append : {A B : Type 0} (f : A → B) (xs ys : List A) → map f (xs ++ ys) ≡ map f xs ++ map f ys
map-append f [] ys = refl
map-append f (x ∷ xs) ys = ap (λ r. f x ∷ r) (map-append f xs ys)

of_client-append : (c : ℕ) (xs ys : List (List ℕ))
    → lines_of_client c (xs ++ ys) ≡ lines_of_client c xs ++ lines_of_client c ys
unfolding lines_of_client
of_client-append c xs ys = rw (filter-append, map-append)

of_client-flat_map : {A : Type 0} (c : ℕ) (f : A → List (List ℕ)) (ts : List A)
    → lines_of_client c (flat_map f ts) ≡ flat_map (λ t. lines_of_client c (f t)) ts
unfolding lines_of_client
of_client-flat_map c f [] = refl
of_client-flat_map c f (t ∷ ts) =
    of_client-append c (f t) (flat_map f ts)
    ∙ ap (λ r. lines_of_client c (f t) ++ r) (of_client-flat_map c f ts)

-- a word and a space, before a line
begins-own : (w line : List ℕ) → starts_with nat_eq (w ++ 32 ∷ line) (w ++ 32 ∷ []) ≡ true
begins-own [] line = refl
begins-own (b ∷ w) line = rw (same b) (begins-own w line)

drop-own : (w line : List ℕ) → drop (length (w ++ 32 ∷ [])) (w ++ 32 ∷ line) ≡ line
drop-own [] line = refl
drop-own (b ∷ w) line = drop-own w line

begins-other : (w v line : List ℕ) → Without 32 w → Without 32 v
    → starts_with nat_eq (v ++ 32 ∷ line) (w ++ 32 ∷ []) ≡ true → w ≡ v
unfolding Without IsOther
begins-other [] [] line hw hv e = refl
begins-other [] (b ∷ v) line hw hv e =
    absurd (spaced (eqb-true 32 b (and_parts (nat_eq 32 b) _ e).0) hv.0)
  where
    spaced : 32 ≡ b → nat_eq b 32 ≡ false → ⊥
    spaced is not = eqb-false b 32 not (sym is)
begins-other (a ∷ w) [] line hw hv e =
    absurd (eqb-false a 32 hw.0 (eqb-true a 32 (and_parts (nat_eq a 32) _ e).0))
begins-other (a ∷ w) (b ∷ v) line hw hv e =
    let both = and_parts (nat_eq a b) _ e in
    ap (λ c. c ∷ w) (eqb-true a b both.0) ∙ ap (λ r. b ∷ r) (begins-other w v line hw.1 hv.1 both.1)

-- a client's own line, and another's
own_line : (c : ℕ) (line : List ℕ) → is_of_client c (for_client c line) ≡ true
unfolding is_of_client
own_line c line = begins-own (decimal c) line

other_line : (c d : ℕ) (line : List ℕ) → c < 2 ^ 64 → d < 2 ^ 64 → (c ≡ d → ⊥)
    → is_of_client c (for_client d line) ≡ false
unfolding is_of_client
other_line c d line h k ne =
    false_from_ne_true
    _ (λ yes. ne (decimal_injective c d h k
    (begins-other (decimal c) (decimal d) line (decimal-word c).whole (decimal-word d).whole
    yes)))

own_lines : (c : ℕ) (ls : List (List ℕ)) → lines_of_client c (map (for_client c) ls) ≡ ls
unfolding lines_of_client
own_lines c [] = refl
own_lines c (l ∷ ls) = rw (own_line c l, drop-own (decimal c) l) (ap (λ r. l ∷ r) (own_lines c ls))

other_lines : (c d : ℕ) (ls : List (List ℕ)) → c < 2 ^ 64 → d < 2 ^ 64 → (c ≡ d → ⊥)
    → lines_of_client c (map (for_client d) ls) ≡ []
unfolding lines_of_client
other_lines c d [] h k ne = refl
other_lines c d (l ∷ ls) h k ne = rw (other_line c d l h k ne) (other_lines c d ls h k ne)

-- the lines that a client numbered from b on gets
numbered : (Client → List (List ℕ)) → ℕ → List Client → List (List ℕ)
numbered lines b clients =
    flat_map (λ (p : ℕ × Client). map (for_client p.0) (lines p.1)) (enumerate_from b clients)

none_of_later : (lines : Client → List (List ℕ)) (c b : ℕ) (clients : List Client) → c < b
    → b + length clients ≤ 2 ^ 64 → lines_of_client c (numbered lines b clients) ≡ []
unfolding numbered lines_of_client
none_of_later lines c b [] h few = refl
none_of_later lines c b (s ∷ ss) h few =
    of_client-append c (map (for_client b) (lines s)) (numbered lines (b + 1) ss)
    ∙ ap (λ r. r ++ lines_of_client c (numbered lines (b + 1) ss))
    (other_lines c b (lines s) (omega (arith, few)) (omega (arith, few))
    (λ e. omega (arith, e, h)))
    ∙ none_of_later lines c (b + 1) ss (omega arith) (omega (arith, few))

of_client-numbered : (lines : Client → List (List ℕ)) (b k : ℕ) (clients : List Client)
    (client : Client) → slice_get clients k ≡ Some client → b + length clients ≤ 2 ^ 64
    → lines_of_client (b + k) (numbered lines b clients) ≡ lines client
unfolding numbered
of_client-numbered lines b k [] client found few = cc
of_client-numbered lines b zero (s ∷ ss) client found few =
    let e : b + 0 ≡ b = omega arith in
    let it : s ≡ client = cc in
    rw e (of_client-append b (map (for_client b) (lines s)) (numbered lines (b + 1) ss)
    ∙ ap (λ r. r ++ lines_of_client b (numbered lines (b + 1) ss)) (own_lines b (lines s))
    ∙ ap (λ r. lines s ++ r) (none_of_later lines b (b + 1) ss (omega arith) (omega (arith, few)))
    ∙ append-nil (lines s) ∙ ap lines it)
of_client-numbered lines b (suc k) (s ∷ ss) client found few =
    let e : b + suc k ≡ (b + 1) + k = omega arith in
    rw e (of_client-append (b + 1 + k) (map (for_client b) (lines s)) (numbered lines (b + 1) ss)
    ∙ ap (λ r. r ++ lines_of_client (b + 1 + k) (numbered lines (b + 1) ss))
    (other_lines (b + 1 + k) b (lines s) (below ss k client found (b + 1) (omega (arith, few)))
    (omega (arith, few)) (λ h. omega (arith, h)))
    ∙ of_client-numbered lines (b + 1) k ss client found (omega (arith, few)))
  where
    below : (ss : List Client) (k : ℕ) (client : Client) → slice_get ss k ≡ Some client → (b : ℕ)
        → b + length ss ≤ 2 ^ 64 → b + k < 2 ^ 64
    below [] k client found b h = cc
    below (s ∷ ss) zero client found b h = omega (arith, h)
    below (s ∷ ss) (suc k) client found b h =
        omega (arith, below ss k client found (b + 1) (omega (arith, h)))

of_client-each : (lines : Client → List (List ℕ)) (k : ℕ) (clients : List Client) (client : Client)
    → slice_get clients k ≡ Some client → length clients < 2 ^ 64
    → lines_of_client (1 + k) (for_each_client lines clients) ≡ lines client
unfolding for_each_client numbered
of_client-each lines k clients client found few =
    of_client-numbered lines 1 k clients client found (omega (arith, few))

of_client-at : (settings : Settings) (k : ℕ) (clients : List Client)
    (client : Client) → slice_get clients k ≡ Some client → length clients < 2 ^ 64
    → (xs : List Sample)
    → lines_of_client (1 + k) (lines_at settings clients xs)
    ≡ lines_alone_at settings client xs
unfolding lines_at event_lines answer_lines lines_alone_at
of_client-at settings k clients client found few xs =
    of_client-append (1 + k)
    (for_each_client (λ c. timed_texts xs (event_texts settings c xs)) clients)
    (for_each_client (λ c. timed_texts xs (answer_texts settings c xs)) clients)
    ∙ ap (λ r. r ++ lines_of_client (1 + k)
    (for_each_client (λ c. timed_texts xs (answer_texts settings c xs)) clients))
    (of_client-each (λ c. timed_texts xs (event_texts settings c xs)) k clients client
    found few)
    ∙ ap (λ r. timed_texts xs (event_texts settings client xs) ++ r)
    (of_client-each (λ c. timed_texts xs (answer_texts settings c xs)) k clients client
    found few)

flat_map-same : {A B : Type 0} (f g : A → List B) (xs : List A) → ((x : A) → f x ≡ g x)
    → flat_map f xs ≡ flat_map g xs
flat_map-same f g [] e = refl
flat_map-same f g (x ∷ xs) e = rw (e x, flat_map-same f g xs e)

-- among the lines of all clients, those of client k + 1 are what it gets alone
pub lines_of_client-body : (settings : Settings) (xs : List Sample)
    (clients : List Client) (k : ℕ) (client : Client) → slice_get clients k ≡ Some client
    → length clients < 2 ^ 64
    → lines_of_client (1 + k) (body_lines settings xs clients)
    ≡ alone settings xs client
unfolding body_lines alone at_each_time
lines_of_client-body settings xs clients k client found few =
    of_client-flat_map (1 + k) (λ t. lines_at settings clients (take t xs))
    (range_with_len 0 (length xs + 1))
    ∙ flat_map-same (λ t. lines_of_client (1 + k) (lines_at settings clients (take t xs)))
    (λ t. lines_alone_at settings client (take t xs)) (range_with_len 0 (length xs + 1))
    (λ t. of_client-at settings k clients client found few (take t xs))

-- the same with the ends
pub lines_of_client-full : (settings : Settings) (xs : List Sample)
    (clients : List Client) (k : ℕ) (client : Client) → slice_get clients k ≡ Some client
    → length clients < 2 ^ 64
    → lines_of_client (1 + k) (full_lines settings xs clients)
    ≡ alone_to_end settings xs client
unfolding full_lines end_lines alone_to_end
lines_of_client-full settings xs clients k client found few =
    of_client-append (1 + k) (body_lines settings xs clients) (end_lines xs clients)
    ∙ ap (λ r. r ++ lines_of_client (1 + k) (end_lines xs clients))
    (lines_of_client-body settings xs clients k client found few)
    ∙ ap (λ r. alone settings xs client ++ r)
    (of_client-each (λ c. end_line xs ∷ []) k clients client found few)

-- one client's lines, where there is no other
single : (lines : Client → List (List ℕ)) (client : Client)
    → for_each_client lines (client ∷ []) ≡ map (for_client 1) (lines client)
unfolding for_each_client
single lines client = append-nil (map (for_client 1) (lines client))

map-flat_map : {A : Type 0} (g : List ℕ → List ℕ) (f : A → List (List ℕ)) (ts : List A)
    → map g (flat_map f ts) ≡ flat_map (λ t. map g (f t)) ts
map-flat_map g f [] = refl
map-flat_map g f (t ∷ ts) =
    map-append g (f t) (flat_map f ts) ∙ ap (λ r. map g (f t) ++ r) (map-flat_map g f ts)

single-at : (settings : Settings) (client : Client) (xs : List Sample)
    → lines_at settings (client ∷ []) xs
    ≡ map (for_client 1) (lines_alone_at settings client xs)
unfolding lines_at event_lines answer_lines lines_alone_at
single-at settings client xs =
    ap (λ r. r ++ for_each_client (λ c. timed_texts xs (answer_texts settings c xs))
    (client ∷ [])) (single (λ c. timed_texts xs (event_texts settings c xs)) client)
    ∙ ap (λ r. map (for_client 1) (timed_texts xs (event_texts settings client xs)) ++ r)
    (single (λ c. timed_texts xs (answer_texts settings c xs)) client)
    ∙ sym (map-append (for_client 1) (timed_texts xs (event_texts settings client xs))
    (timed_texts xs (answer_texts settings client xs)))

-- a run with one client writes what that client gets alone
pub full_lines-single : (settings : Settings) (xs : List Sample)
    (client : Client)
    → full_lines settings xs (client ∷ [])
    ≡ map (for_client 1) (alone_to_end settings xs client)
unfolding full_lines body_lines end_lines alone_to_end alone at_each_time
full_lines-single settings xs client =
    ap (λ r. r ++ for_each_client (λ c. end_line xs ∷ []) (client ∷ []))
    (flat_map-same (λ t. lines_at settings (client ∷ []) (take t xs))
    (λ t. map (for_client 1) (lines_alone_at settings client (take t xs)))
    (range_with_len 0 (length xs + 1)) (λ t. single-at settings client (take t xs))
    ∙ sym (map-flat_map (for_client 1) (λ t. lines_alone_at settings client (take t xs))
    (range_with_len 0 (length xs + 1))))
    ∙ ap (λ r. map (for_client 1)
    (flat_map (λ t. lines_alone_at settings client (take t xs))
    (range_with_len 0 (length xs + 1))) ++ r) (single (λ c. end_line xs ∷ []) client)
    ∙ sym (map-append (for_client 1)
    (flat_map (λ t. lines_alone_at settings client (take t xs))
    (range_with_len 0 (length xs + 1))) (end_line xs ∷ []))
