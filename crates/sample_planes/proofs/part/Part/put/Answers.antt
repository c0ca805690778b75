use Rattle.std.proofs.Common.{◌+◌, ◌*◌, ◌%◌, ◌<◌, ◌≡◌, ◌∙◌, ℕ, List, length, get_or, ap, rules}
use Rattle.sample_planes.specs.CodedParts.{lane_of}
use Rattle.sample_planes.specs.Signs.{code_at}
use Rattle.sample_planes.proofs.CodeLemmas.{put_word, put_at, put_before, put_each}
use Rattle.sample_planes.proofs.part.Part.put.Goals as goal

pub invariant_of-self : goal.invariant_of-self
invariant_of-self c =
    let codes : List ℕ = c.args.self.now.codes in
    let long : length codes ≡ 1024 = search rules in
    let r = c.requires in
    record {
      few = rw (put_word codes c.args.codes c.args.w long r.word)
          (put_each (λ (code : ℕ). code < 16) codes c.args.codes c.args.w long r.long r.word
          c.args.self.now.few (λ k h. (r.codes k h).few));
      fourth = rw (put_word codes c.args.codes c.args.w long r.word)
          (put_each (λ (code : ℕ). code % 4 ≡ 0) codes c.args.codes c.args.w long r.long r.word
          c.args.self.now.fourth (λ k h. (r.codes k h).fourth));
    }

pub returns-clause-there : goal.returns-clause-there
unfolding code_at
returns-clause-there c j h =
    let codes : List ℕ = c.args.self.now.codes in
    let long : length codes ≡ 1024 = search rules in
    ap (λ (xs : List ℕ). get_or xs (lane_of (64 * c.args.w + j)) 0)
    (put_word codes c.args.codes c.args.w long c.requires.word)
    ∙ put_at codes c.args.codes c.args.w j long c.requires.long c.requires.word h

pub returns-clause-kept : goal.returns-clause-kept
unfolding code_at
returns-clause-kept c i h =
    let codes : List ℕ = c.args.self.now.codes in
    let long : length codes ≡ 1024 = search rules in
    ap (λ (xs : List ℕ). get_or xs (lane_of i) 0)
    (put_word codes c.args.codes c.args.w long c.requires.word)
    ∙ put_before codes c.args.codes c.args.w i h
