use Rattle.std.proofs.Common.{◌≡◌, ◌∙◌, ◌*◌, ◌++◌, List, ℕ, length, refl, rules}
use Rattle.recordings.specs.Recordings.{IsPacked, group_of}
use Rattle.recordings.specs.declared.recipe.Recipe.{Recipe}
use Rattle.recordings.proofs.StreamLemmas.{taken, some_group, HasTaken}
use Rattle.recordings.proofs.packer.Packer.take.Goals as goal

pub returns-in-Ok-clause-stands : goal.returns-in-Ok-clause-stands
returns-in-Ok-clause-stands c bytes before stands =
    let recipe : Recipe = c.args.self.now.recipe in
    let held : List ℕ = c.args.self.now.held.items in
    let written : List ℕ = c.pack.new.written.items in
    let all : c.deref.result.now ≡ held ++ c.args.piece.now =
    c.deref.ensures.value ∙ c.in_ok-extend_from_slice.ensures.items in
    let packed : IsPacked recipe (held ++ c.args.piece.now) written = rw all at
    c.in-Ok.ensures.packed in
    let has : HasTaken recipe bytes c.args.piece.now held before written =
    taken recipe bytes c.args.piece.now held before written (some_group recipe) stands.packed
    stands.held packed in
    let sized : c.len.result ≡ length written = search rules in
    let count : c.len.result * c.group.result ≡ length written * group_of recipe =
    rw (sized, c.group.ensures.value) refl in
    record {
      packed = has.packed;
      held = rw (c.drop_front.ensures, count, c.in_ok-extend_from_slice.ensures.items) has.left;
    }
