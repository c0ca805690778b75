use Rattle.std.proofs.Common.{refl, rules}
use Rattle.recordings.proofs.choice.Choice.in_phase.Goals.{then-self, else-self}
use Rattle.recordings.proofs.choice.Choice.in_phase.Goals as goal

pub returns : goal.returns
returns c = record {
  place_is =
      elim c.if-self.branch [
        | then-self w ↦ rw w.if-self.true w.result-is
        | else-self w ↦ rw w.if-self.false w.result-is
      ];
  centre_is = search rules;
  turned_is = refl;
}
