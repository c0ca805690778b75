use Rattle.std.proofs.Common.{◌∙◌, sym}
use Rattle.client_commands.proofs.PieceLemmas.{piece_found, last_piece, no_piece}
use Rattle.client_commands.proofs.words.next_piece.Goals as goal

pub returns-then-is_empty : goal.returns-then-is_empty
returns-then-is_empty c = no_piece c.args.end c.args.text.now
    (sym c.is_empty.ensures ∙ c.if-is_empty.true)

pub returns-in-Some : goal.returns-in-Some
returns-in-Some c = piece_found c.args.end c.args.text.now c.in-Some.at
    (sym c.place_of.ensures ∙ c.in-Some.is)

pub returns-in-None : goal.returns-in-None
returns-in-None c = last_piece c.args.end c.args.text.now
    (sym c.is_empty.ensures ∙ c.if-is_empty.false) (sym c.place_of.ensures ∙ c.in-None.is)
