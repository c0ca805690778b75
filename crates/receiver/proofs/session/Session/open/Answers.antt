use Rattle.std.proofs.Common.{◌≡◌, ℕ, List, [], length, map, ap, sym, ◌∙◌, true}
use Rattle.std.specs.List.{list_all}
use Rattle.std.proofs.lemmas.List.{length-map}
use Rattle.definitions.specs.Receiver.{commands_to, entries_of}
use Rattle.definitions.specs.Runs.{is_share}
use Rattle.receiver.specs.Clients.{clients_with}
use Rattle.receiver.specs.Queues.{left_of, are_in_shares}
use Rattle.receiver.proofs.OpeningLemmas.{queues-open, waiting-open}
use Rattle.receiver.proofs.ShareLemmas.{clients-shares, clients-number, in-shares}
use Rattle.receiver.proofs.session.Session.open.Goals as goal

pub returns-clause-stands : goal.returns-clause-stands
unfolding commands_to
returns-clause-stands c =
    let texts : List (List ℕ) = map (λ script. script.now) c.args.scripts.now in
    let each : length c.args.shares.now ≡ length texts =
    c.requires.each ∙ sym (length-map c.args.scripts.now _) in
    record {
      done = λ client. [];
      bank = c.in_ok-bank.ensures.stands;
      shares = clients-shares c.args.shares.now texts each ∙ sym c.in_ok-bank.ensures.given;
      queues = queues-open 1 _ c.queues_of.result.items c.queues_of.ensures;
      waits = waiting-open c.args.settings _ c.queues_of.result.items c.queues_of.ensures;
    }

pub invariant_of-result-clause-in_shares : goal.invariant_of-result-clause-in_shares
invariant_of-result-clause-in_shares c =
    let texts : List (List ℕ) = map (λ script. script.now) c.args.scripts.now in
    let each : length c.args.shares.now ≡ length texts =
    c.requires.each ∙ sym (length-map c.args.scripts.now _) in
    let right : list_all is_share c.args.shares.now ≡ true =
    ap (list_all is_share) (sym c.in_ok-bank.ensures.given) ∙ c.in_ok-bank.bank.shared in
    ap (λ (l : List ℕ). are_in_shares l c.queues_of.result.items) c.in_ok-bank.ensures.given
    ∙ in-shares c.args.shares.now texts c.queues_of.result.items each right c.queues_of.ensures

pub invariant_of-result-clause-clients : goal.invariant_of-result-clause-clients
invariant_of-result-clause-clients c =
    let texts : List (List ℕ) = map (λ script. script.now) c.args.scripts.now in
    let each : length c.args.shares.now ≡ length texts =
    c.requires.each ∙ sym (length-map c.args.scripts.now _) in
    sym (length-map c.queues_of.result.items left_of) ∙ ap length c.queues_of.ensures
    ∙ length-map (clients_with c.args.shares.now texts) entries_of
    ∙ clients-number c.args.shares.now texts each ∙ sym each
    ∙ ap length (sym c.in_ok-bank.ensures.given)
