use Rattle.std.proofs.Common.{◌≡◌, length, map, take, ◌++◌, [], ◌∷◌, ap, sym, ◌∙◌, List, arith}
use Rattle.std.proofs.lemmas.List.{length-map, map-append, take_all}
use Rattle.definitions.specs.Scripts.{Entry}
use Rattle.definitions.specs.Receiver.{entries_of}
use Rattle.receiver.specs.Clients.{clients_with}
use Rattle.receiver.specs.Queues.{left_of}
use Rattle.receiver.proofs.ShareLemmas.{entries-more, clients-number}
use Rattle.receiver.proofs.queues.queues_of.Goals as goal

pub loop-index-preserved : goal.loop-index-preserved
loop-index-preserved c =
    let shares = c.args.shares.now in
    let scripts = c.args.scripts.now in
    let i = c.loop-index.index in
    let all : List (List Entry) =
    map entries_of (clients_with shares (map (λ script. script.now) scripts)) in
    record {
      entries =
          ap (map left_of) c.push.ensures.items
          ∙ map-append left_of c.loop-index.queues.items (c.new.result ∷ [])
          ∙ ap (λ (l : List (List Entry)). l ++ left_of c.new.result ∷ [])
          c.loop-index.invariant.entries
          ∙ ap (λ (es : List Entry). take i all ++ es ∷ []) c.new.ensures
          ∙ sym (entries-more (λ script. script.now) shares scripts _ i c.loop-index-test.true
          c.requires.each);
      many = omega (arith, c.push.ensures.len, c.loop-index.invariant.many);
    }

pub returns : goal.returns
returns c =
    let shares = c.args.shares.now in
    let texts : List (List _) = map (λ script. script.now) c.args.scripts.now in
    let many : length texts ≡ length c.args.scripts.now = length-map c.args.scripts.now _ in
    let number : length (clients_with shares texts) ≡ length texts =
    clients-number shares texts (c.requires.each ∙ sym many) in
    let all : List (List Entry) = map entries_of (clients_with shares texts) in
    let few : length all ≡ length (clients_with shares texts) = length-map _ entries_of in
    c.loop-index.invariant.entries
    ∙ take_all c.loop-index.index all (omega (arith, few, number, many, c.loop-index-test.false))
