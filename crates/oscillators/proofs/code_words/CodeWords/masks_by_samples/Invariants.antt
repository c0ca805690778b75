use Rattle.std.proofs.Common.{◌≡◌, ℕ, ◌+◌, ◌^◌, ◌<◌, length, get_or}
use Rattle.oscillators.proofs.SampleLemmas.{mask_at}
use Rattle.oscillators.proofs.code_words.CodeWords.masks_by_samples.Given as goal

abbrev pub invariant-loop-k : goal.invariant-loop-k
invariant-loop-k l = record {
  early_long : length l.early ≡ 64;
  prompt_long : length l.prompt ≡ 64;
  late_long : length l.late ≡ 64;
  early : (i : ℕ) → i < l.k → get_or l.early i 0
      ≡ mask_at l.table 1 (l.self.phase + 2 ^ 31) l.self.step i;
  prompt : (i : ℕ) → i < l.k → get_or l.prompt i 0
      ≡ mask_at l.table 1 l.self.phase l.self.step i;
  late : (i : ℕ) → i < l.k → get_or l.late i 0
      ≡ mask_at l.table 0 (l.self.phase + 2 ^ 31) l.self.step i;
}
