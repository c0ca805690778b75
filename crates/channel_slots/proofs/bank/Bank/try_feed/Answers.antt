use Rattle.std.proofs.Common.{refl}
use Rattle.channel_slots.proofs.bank.Bank.try_feed.Goals as goal

pub returns-clause-takes : goal.returns-clause-takes
returns-clause-takes c ok = c.feed.ensures.takes

pub returns-then-ne-clause-packing : goal.returns-then-ne-clause-packing
returns-then-ne-clause-packing c other = refl

pub returns-then-len-gt-MAX_SAMPLES-clause-too_long :
    goal.returns-then-len-gt-MAX_SAMPLES-clause-too_long
returns-then-len-gt-MAX_SAMPLES-clause-too_long c same long = refl

pub returns-then-len-time-clause-too_many : goal.returns-then-len-time-clause-too_many
returns-then-len-time-clause-too_many c same short many = refl
