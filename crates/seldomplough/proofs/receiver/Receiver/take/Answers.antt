use Rattle.std.proofs.Common.{◌≡◌, ◌∙◌, ◌+◌, ℕ, List, length, arith, ap}
use Rattle.definitions.specs.Samples.{samples, sample_count}
use Rattle.seldomplough.specs.Receivers.{packing_in, time_of}
use Rattle.seldomplough.proofs.AloneLemmas.{alone}
use Rattle.seldomplough.proofs.receiver.Receiver.take.Goals as goal

pub returns-clause-taken : goal.returns-clause-taken
returns-clause-taken c =
    let taken : List ℕ = c.split_at.result.0.now in
    let came : c.new-run.result.samples ≡ samples (packing_in c.args.self.now) taken =
    c.new-run.ensures.samples ∙ ap (λ p. samples p taken) c.format.ensures in
    let takes = rw came at c.feed.ensures.takes in
    let size : length taken ≡ c.fitting-count.result = c.split_at.ensures.front_len in
    let time =
    c.feed.ensures.takes.time
    ∙ ap (λ n. time_of c.args.self.now + n)
    (c.new-run.ensures.count ∙ ap (λ p. sample_count p taken) c.format.ensures) in
    record {
      taken = taken;
      split = c.split_at.ensures.by_index.0;
      some = λ any. omega (arith, any, size, c.if-count-min.false, c.min.ensures);
      few = rw size c.fitting-count.ensures.short;
      most = λ left. rw (time, size) (c.fitting-count.ensures.most
          (omega (arith, left, size, c.split_at.ensures.back_len)));
      takes = takes;
      alone = λ settings xs asked stands client first.
          alone settings asked _ xs _ _ client first (takes.taken settings xs asked stands).told;
      time = time;
      settings_same = c.feed.ensures.same.settings;
      shares_same = c.feed.ensures.same.shares;
    }
