use Rattle.std.proofs.Common.{refl}
use Rattle.seldomplough.proofs.receiver.Receiver.command.Goals as goal

pub returns : goal.returns
returns c = record {
  answered = c.command.ensures.answer;
  stands = c.command.ensures.stands;
  none = c.command.ensures.none;
  refused = λ refusal. rw (c.command.ensures.refused refusal) refl;
  settings_same = c.command.ensures.same.settings;
  shares_same = c.command.ensures.same.shares;
  time_same = c.command.ensures.time;
  events_same = refl;
}
