-- The bytes that are measured are the front of a stretch.
use Rattle.std.proofs.Common.{◌≡◌, ℕ, zero, suc, ◌-◌, ◌<◌, List, [], ◌∷◌, ◌++◌, length}
use Rattle.std.proofs.Common.{take, drop, refl, sym, ap, ◌∙◌, arith}
use Rattle.std.proofs.Common.{append-nil}
use Rattle.std.specs.Prelude.{Option, Some, min}
use Rattle.std.specs.Io.KnownBytes.{Consumes, IsAtEnd}
use Rattle.std.proofs.lemmas.List.{length-take}
use Rattle.recordings.specs.Stretches.{Shows}
use Rattle.recordings.specs.declared.recipe.TheConstants.{MOST_BYTES}
use Rattle.recordings.specs.declared.stretch.Stretch.{Stretch}
use Rattle.recordings.proofs.StretchLemmas.{take-two}
use Rattle.packer.specs.Runs.{HasCome}
use Rattle.packer.proofs.RunLemmas.{HasShown, shown_first, all_shown, shown_to_end}
use Rattle.packer.proofs.RunLemmas.{first_come, more_come}

-- while a recording is read, the first bytes that the stretch showed of it are kept
pub record HasGathered (skip most : ℕ) (all : List ℕ) (remaining : Option (List ℕ))
    (stretch : Stretch) (bytes : List ℕ) : Type 0 where
  pub come : HasCome skip most all remaining stretch
  pub front : bytes ≡ take MOST_BYTES come.shown

-- as much of some bytes as there is room for
pub taken_to_room : (room : ℕ) (xs : List ℕ) → take (min (length xs) room) xs ≡ take room xs
taken_to_room zero xs = let e : min (length xs) zero ≡ zero = omega arith in rw e refl
taken_to_room (suc room) [] = let e : min 0 (suc room) ≡ 0 = omega arith in rw e refl
taken_to_room (suc room) (x ∷ xs) =
    let e : min (suc (length xs)) (suc room) ≡ suc (min (length xs) room) = omega arith in
    rw e (ap (λ (zs : List ℕ). x ∷ zs) (taken_to_room room xs))

pub none_gathered : (skip most : ℕ) (all : List ℕ) (remaining : Option (List ℕ))
    (stretch : Stretch) → remaining ≡ Some all → Shows skip most [] [] stretch
    → HasGathered skip most all remaining stretch []
none_gathered skip most all remaining stretch known shows = record {
  come = first_come skip most all remaining stretch known shows;
  front = refl;
}

-- of what is shown next as much is kept as there is room
pub more_gathered : (skip most : ℕ) (all : List ℕ) (old new : Option (List ℕ))
    (before after : Stretch) (bytes piece wanted : List ℕ)
    → HasGathered skip most all old before bytes → length bytes < MOST_BYTES
    → Consumes old new piece
    → ((came shown : List ℕ) → Shows skip most came shown before
    → Shows skip most (came ++ piece) (shown ++ wanted) after)
    → HasGathered skip most all new after (bytes ++ take (MOST_BYTES - length bytes) wanted)
more_gathered skip most all old new before after bytes piece wanted g room consumes shows =
    let sized : length bytes ≡ min MOST_BYTES (length g.come.shown) =
    ap length g.front ∙ length-take MOST_BYTES g.come.shown in
    let same : length g.come.shown ≡ length bytes = omega (arith, sized, room) in
    record {
      come = more_come skip most all old new before after piece wanted g.come consumes shows;
      front =
          ap (λ (xs : List ℕ). xs ++ take (MOST_BYTES - length bytes) wanted) g.front
          ∙ ap (λ (n : ℕ). take MOST_BYTES g.come.shown ++ take (MOST_BYTES - n) wanted) (sym same)
          ∙ sym (take-two MOST_BYTES g.come.shown wanted);
    }

-- all that is wanted came
pub gathered_over : (skip most : ℕ) (all : List ℕ) (remaining : Option (List ℕ))
    (stretch : Stretch) (bytes : List ℕ) → HasGathered skip most all remaining stretch bytes
    → stretch.left ≡ 0 → bytes ≡ take MOST_BYTES (take most (drop skip all))
gathered_over skip most all remaining stretch bytes g over =
    g.front ∙ ap (take MOST_BYTES) (all_shown skip most all remaining stretch g.come over)

-- there is room for no more
pub gathered_full : (skip most : ℕ) (all : List ℕ) (remaining : Option (List ℕ))
    (stretch : Stretch) (bytes : List ℕ) → HasGathered skip most all remaining stretch bytes
    → length bytes ≡ MOST_BYTES → bytes ≡ take MOST_BYTES (take most (drop skip all))
gathered_full skip most all remaining stretch bytes g full =
    let c = g.come in
    let s : HasShown skip most all c.shown =
    shown_first skip most all c.came c.left c.shown c.split c.shows.part in
    let sized : length bytes ≡ min MOST_BYTES (length c.shown) =
    ap length g.front ∙ length-take MOST_BYTES c.shown in
    let none : MOST_BYTES - length c.shown ≡ 0 = omega (arith, sized, full) in
    g.front ∙ sym (ap (take MOST_BYTES) s.split ∙ take-two MOST_BYTES c.shown s.ahead
    ∙ ap (λ (n : ℕ). take MOST_BYTES c.shown ++ take n s.ahead) none
    ∙ append-nil (take MOST_BYTES c.shown))

-- the recording has ended
pub gathered_to_end : (skip most : ℕ) (all : List ℕ) (remaining new : Option (List ℕ))
    (stretch : Stretch) (bytes piece : List ℕ)
    → HasGathered skip most all remaining stretch bytes → Consumes remaining new piece
    → piece ≡ [] → IsAtEnd new → bytes ≡ take MOST_BYTES (take most (drop skip all))
gathered_to_end skip most all remaining new stretch bytes piece g consumes none at_end =
    g.front
    ∙ ap (take MOST_BYTES) (shown_to_end skip most all remaining stretch piece new g.come consumes
    none at_end)
