use Rattle.std.proofs.Common.{◌∙◌, ℕ, List, sym, refl}
use Rattle.channel_slots.specs.declared.seat.Seat.{Seat}
use Rattle.channel_slots.specs.BankStates.{time_of}
use Rattle.channel_slots.proofs.CommandLemmas.{stands-at}
use Rattle.channel_slots.proofs.CellLemmas.{cells-at, cells-nowhere, cells-shown}
use Rattle.channel_slots.proofs.ShareLemmas.{once-of, nowhere}
use Rattle.channel_slots.proofs.bank.Bank.cells_done.Goals as goal

pub returns-in_err-at-clause-done : goal.returns-in_err-at-clause-done
returns-in_err-at-clause-done c =
    let ps : List Seat = c.args.self.now.seats.items.items in
    let shares : List ℕ = c.args.self.now.shares.items in
    c.from_residual.ensures ∙ sym (cells-nowhere ps c.args.client c.args.slot
    (nowhere shares ps c.args.client c.args.slot c.args.self.now.keys
    (c.in_err-at.ensures.none refl)))

pub returns-clause-done : goal.returns-clause-done
returns-clause-done c =
    let ps : List Seat = c.args.self.now.seats.items.items in
    c.cells_done.ensures ∙ sym (cells-at ps c.in_ok-at.at c.args.client c.args.slot
    c.index.result.now (once-of c.args.self.now.shares.items ps c.args.self.now.keys)
    c.in_ok-at.ensures.there c.index.ensures)

pub returns-clause-shown : goal.returns-clause-shown
returns-clause-shown c settings xs asked s has =
    let ps : List Seat = c.args.self.now.seats.items.items in
    c.cells_done.ensures ∙ cells-shown settings xs _ c.index.result.now.slot
    (stands-at settings xs asked ps c.in_ok-at.at c.args.client c.args.slot
    (time_of c.args.self.now) c.index.result.now c.index.result.now
    (once-of c.args.self.now.shares.items ps c.args.self.now.keys) c.in_ok-at.ensures.there
    c.index.ensures s.slots)
