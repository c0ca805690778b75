use Rattle.std.proofs.Common.{rules}
use Rattle.channel_slots.proofs.slot_news.SlotNews.time.Goals as goal

pub returns : goal.returns
returns c = search rules
