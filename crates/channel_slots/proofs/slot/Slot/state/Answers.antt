use Rattle.std.proofs.Common.{◌∙◌, ap, subst}
use Rattle.std.specs.Prelude.{Some}
use Rattle.definitions.specs.Commands.{state}
use Rattle.channel_slots.specs.Stages.{is_idle, Follows}
use Rattle.channel_slots.proofs.SearchLemmas.{shows-searched}
use Rattle.channel_slots.proofs.SlotLemmas.{has-life, life-now, answers, idle-shown}
use Rattle.channel_slots.proofs.slot.Slot.state.Goals as goal

pub returns-in-Idle : goal.returns-in-Idle
returns-in-Idle c settings xs commands s =
    idle-shown settings xs commands c.args.self.now s (ap is_idle c.in-Idle.is)

pub returns-in-Searching : goal.returns-in-Searching
returns-in-Searching c settings xs commands s =
    let on = ap is_idle c.in-Searching.is in
    let i = has-life settings xs commands c.args.self.now s on in
    shows-searched settings xs i.life c.in-Searching.searched
    (subst (Follows settings xs i.life) c.in-Searching.is i.follows) _ _ _
    c.prn.ensures c.done.ensures c.cells.ensures
    ∙ answers settings xs commands c.args.self.now s state (Some i.life)
    (life-now settings xs commands c.args.self.now s on)

pub returns-in-Following : goal.returns-in-Following
returns-in-Following c settings xs commands s =
    let on = ap is_idle c.in-Following.is in
    let i = has-life settings xs commands c.args.self.now s on in
    c.state_of.ensures settings xs i.life
    (subst (Follows settings xs i.life) c.in-Following.is i.follows)
    ∙ answers settings xs commands c.args.self.now s state (Some i.life)
    (life-now settings xs commands c.args.self.now s on)
