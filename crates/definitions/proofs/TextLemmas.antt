-- The laws of the text, from those of its lines.
use Rattle.std.proofs.Common.{◌≡◌, ℕ, ◌+◌, ◌^◌, ◌<◌, List, length, ap, ◌∙◌, sym}
use Rattle.std.specs.Prelude.{Some, slice_get, map, ◌∷◌, []}
use Rattle.definitions.specs.Samples.{Sample}
use Rattle.definitions.specs.Oscillators.{Settings}
use Rattle.definitions.specs.Lines.{lines_of, as_bytes}
use Rattle.definitions.specs.Receiver.{Client, body, full, full_lines, body_lines}
use Rattle.definitions.specs.Receiver.{end_lines, lines_of_client, alone, alone_to_end}
use Rattle.definitions.specs.Runs.{BeginsWith}
use Rattle.definitions.proofs.LineLemmas.{lines-as_bytes, full-lines, body-lines}
use Rattle.definitions.proofs.ClientLemmas.{lines_of_client-body, lines_of_client-full}
use Rattle.definitions.proofs.ClientLemmas.{full_lines-single}
use Rattle.definitions.specs.Texts.{for_client}
use Rattle.definitions.proofs.BodyLemmas.{as_bytes-append}

pub lines_of-full : (settings : Settings) (xs : List Sample)
    (clients : List Client)
    → lines_of (full settings xs clients) ≡ full_lines settings xs clients
unfolding full
lines_of-full settings xs clients =
    lines-as_bytes (full_lines settings xs clients) (full-lines settings xs clients)

pub lines_of-body : (settings : Settings) (xs : List Sample)
    (clients : List Client)
    → lines_of (body settings xs clients) ≡ body_lines settings xs clients
unfolding body
lines_of-body settings xs clients =
    lines-as_bytes (body_lines settings xs clients) (body-lines settings xs clients)

pub client-alone : (settings : Settings) (xs : List Sample)
    (clients : List Client) (k : ℕ) (client : Client) → slice_get clients k ≡ Some client
    → length clients < 2 ^ 64
    → lines_of_client (1 + k) (lines_of (full settings xs clients))
    ≡ alone_to_end settings xs client
client-alone settings xs clients k client found few =
    ap (lines_of_client (1 + k)) (lines_of-full settings xs clients)
    ∙ lines_of_client-full settings xs clients k client found few

pub client-alone_in_body : (settings : Settings) (xs : List Sample)
    (clients : List Client) (k : ℕ) (client : Client) → slice_get clients k ≡ Some client
    → length clients < 2 ^ 64
    → lines_of_client (1 + k) (lines_of (body settings xs clients))
    ≡ alone settings xs client
client-alone_in_body settings xs clients k client found few =
    ap (lines_of_client (1 + k)) (lines_of-body settings xs clients)
    ∙ lines_of_client-body settings xs clients k client found few

pub two_worlds : (settings : Settings) (xs : List Sample)
    (clients others : List Client) (k j : ℕ) (client : Client)
    → slice_get clients k ≡ Some client → length clients < 2 ^ 64 → slice_get others j ≡ Some client
    → length others < 2 ^ 64
    → lines_of_client (1 + k) (lines_of (full settings xs clients))
    ≡ lines_of_client (1 + j) (lines_of (full settings xs others))
two_worlds settings xs clients others k j client found few there small =
    client-alone settings xs clients k client found few
    ∙ sym (client-alone settings xs others j client there small)

pub full-begins : (settings : Settings) (clients : List Client)
    (xs : List Sample)
    → BeginsWith (full settings xs clients) (body settings xs clients)
unfolding full full_lines body
full-begins settings clients xs = (
  as_bytes (end_lines xs clients),
  as_bytes-append (body_lines settings xs clients) (end_lines xs clients),
)

pub full-single : (settings : Settings) (xs : List Sample) (client : Client)
    → full settings xs (client ∷ [])
    ≡ as_bytes (map (for_client 1) (alone_to_end settings xs client))
unfolding full
full-single settings xs client = ap as_bytes (full_lines-single settings xs client)
