-- The course of a run, from its beginning to its end.
use Rattle.std.proofs.Common.{◌≡◌, ℕ, zero, suc, ◌-◌, ◌<◌, List, [], ◌++◌, length}
use Rattle.std.proofs.Common.{take, drop, refl, sym, ap, ◌∙◌, arith}
use Rattle.std.proofs.Common.{append_assoc, append-nil, subst}
use Rattle.std.specs.Prelude.{Option, Some, None, Result, Ok, Err, IfErr, IsErrAnd, min}
use Rattle.std.specs.Io.KnownBytes.{Appends, Consumes, IsAtEnd, Keeps}
use Rattle.std.proofs.KnownBytes.{Keeps-refl}
use Rattle.std.proofs.lemmas.List.{length-take, length-drop}
use Rattle.recordings.specs.Packers.{StandsFor, recipe_in}
use Rattle.recordings.specs.Stretches.{Shows}
use Rattle.recordings.specs.declared.recipe.Recipe.{Recipe}
use Rattle.recordings.specs.declared.packer.Packer.{Packer}
use Rattle.recordings.specs.declared.stretch.Stretch.{Stretch}
use Rattle.recordings.proofs.StretchLemmas.{drop-two, take-two}
use Rattle.recordings.specs.declared.fault.PackFault.{PackFault}
use Rattle.recordings.specs.declared.fault.PackFault.TheVariants as faults
use Rattle.packer.specs.Devices.{AppendsFront}
use Rattle.packer.specs.Statuses.{failure_of}
use Rattle.packer.specs.declared.failure.Failure.{Failure}
use Rattle.packer.specs.declared.failure.Failure.TheVariants.{NoMemory, NotANumber, Output}
use Rattle.packer.specs.Runs.{HasPacked, HasPackedFront, HasBrokenOff, Packs, HasCome, IsCourse}
use Rattle.packer.specs.Runs.{bytes_ahead}

-- ---- known bytes

pub appends-none : (known : Option (List ℕ)) → Appends known known []
appends-none None = tt
appends-none (Some xs) = sym (append-nil xs)

pub appends-more : (start old new : Option (List ℕ)) (written more : List ℕ)
    → Appends start old written → Appends old new more → Appends start new (written ++ more)
appends-more None old new written more a b = tt
appends-more (Some xs) None new written more a b = absurd a
appends-more (Some xs) (Some ys) None written more a b = absurd b
appends-more (Some xs) (Some ys) (Some zs) written more a b =
    b ∙ ap (λ (l : List ℕ). l ++ more) a ∙ append_assoc xs written more

pub appends-kept : (start old new : Option (List ℕ)) (written : List ℕ)
    → Appends start old written → Keeps old new → Appends start new written
appends-kept None old new written a b = tt
appends-kept (Some xs) None new written a b = absurd a
appends-kept (Some xs) (Some ys) None written a b = absurd b
appends-kept (Some xs) (Some ys) (Some zs) written a b = b ∙ a

pub record IsRest (left bytes : List ℕ) (new : Option (List ℕ)) : Type 0 where
  pub behind : List ℕ
  pub is : new ≡ Some behind
  pub split : left ≡ bytes ++ behind

pub rest_of : (old new : Option (List ℕ)) (left bytes : List ℕ) → old ≡ Some left
    → Consumes old new bytes → IsRest left bytes new
rest_of old new left bytes e h =
    known new (let P : Option (List ℕ) → Type 0 = λ o. Consumes o new bytes in subst P e h)
  where
    known : (new : Option (List ℕ)) → Consumes (Some left) new bytes → IsRest left bytes new
    known None h = absurd h
    known (Some ys) h = record { behind = ys; is = refl; split = h }

pub nothing_left : (left bytes : List ℕ) (new : Option (List ℕ)) → IsRest left bytes new → bytes ≡
    []
    → IsAtEnd new → left ≡ []
nothing_left left bytes new r e at_end =
    r.split ∙ ap (λ (xs : List ℕ). xs ++ r.behind) e
    ∙ (let P : Option (List ℕ) → Type 0 = λ o. IsAtEnd o in subst P r.is at_end)

-- ---- the end of a run

-- all that is wanted came
pub shown_whole : (skip most : ℕ) (came left : List ℕ)
    → most - length (take most (drop skip came)) ≡ 0
    → take most (drop skip came) ≡ take most (drop skip (came ++ left))
shown_whole skip most came left full =
    let front : List ℕ = drop skip came in
    let back : List ℕ = drop (skip - length came) left in
    let sized : length (take most front) ≡ min most (length front) = length-take most front in
    let none : most - length front ≡ 0 = omega arith in
    sym (ap (take most) (drop-two skip came left) ∙ take-two most front back
    ∙ ap (λ (k : ℕ). take most front ++ take k back) none ∙ append-nil (take most front))

module _ (skip most : ℕ) (all : List ℕ) (remaining : Option (List ℕ)) (stretch : Stretch) where
  pub all_shown : (c : HasCome skip most all remaining stretch) → stretch.left ≡ 0
      → c.shown ≡ take most (drop skip all)
  all_shown c over =
      let full : most - length (take most (drop skip c.came)) ≡ 0 =
      ap (λ (xs : List ℕ). most - length xs) (sym c.shows.part) ∙ sym c.shows.left ∙ over in
      c.shows.part ∙ shown_whole skip most c.came c.left full
      ∙ ap (λ (xs : List ℕ). take most (drop skip xs)) (sym c.split)

  pub shown_to_end : (bytes : List ℕ) (new : Option (List ℕ))
      → (c : HasCome skip most all remaining stretch) → Consumes remaining new bytes → bytes ≡ []
      → IsAtEnd new → c.shown ≡ take most (drop skip all)
  shown_to_end bytes new c consumes none at_end =
      let left : c.left ≡ [] =
      nothing_left c.left bytes new (rest_of remaining new c.left bytes c.rest consumes) none
      at_end in
      let came : all ≡ c.came =
      c.split ∙ ap (λ (xs : List ℕ). c.came ++ xs) left ∙ append-nil c.came in
      c.shows.part ∙ ap (λ (xs : List ℕ). take most (drop skip xs)) (sym came)

  abbrev pub first_come : remaining ≡ Some all → Shows skip most [] [] stretch
      → HasCome skip most all remaining stretch
  first_come known shows = record {
    came = [];
    left = all;
    shown = [];
    split = refl;
    rest = known;
    shows = shows;
  }

-- what came with one more piece
abbrev pub more_come : (skip most : ℕ) (all : List ℕ) (old new : Option (List ℕ))
    (before after : Stretch) (piece wanted : List ℕ) → HasCome skip most all old before
    → Consumes old new piece
    → ((bytes shown : List ℕ) → Shows skip most bytes shown before
    → Shows skip most (bytes ++ piece) (shown ++ wanted) after)
    → HasCome skip most all new after
more_come skip most all old new before after piece wanted c consumes shows =
    let r : IsRest c.left piece new = rest_of old new c.left piece c.rest consumes in
    record {
      came = c.came ++ piece;
      left = r.behind;
      shown = c.shown ++ wanted;
      split =
          c.split ∙ ap (λ (xs : List ℕ). c.came ++ xs) r.split
          ∙ sym (append_assoc c.came piece r.behind);
      rest = r.is;
      shows = shows c.came c.shown c.shows;
    }

module _ (recipe : Recipe) (skip most : ℕ) (all : List ℕ) (start : Option (List ℕ))
    (remaining contents : Option (List ℕ)) (stretch : Stretch) (packer : Packer) where
  pub ends-over : IsCourse recipe skip most all start remaining contents stretch packer
      → stretch.left ≡ 0 → HasPacked recipe (take most (drop skip all)) start contents
  ends-over c over = record {
    written = c.written;
    appended = c.appended;
    packed = rw (← all_shown skip most all remaining stretch c.come over, ← c.recipe_is)
        c.stands.packed;
  }

  pub ends-empty : (bytes : List ℕ) (new : Option (List ℕ))
      → IsCourse recipe skip most all start remaining contents stretch packer
      → Consumes remaining new bytes → bytes ≡ [] → IsAtEnd new
      → HasPacked recipe (take most (drop skip all)) start contents
  ends-empty bytes new c consumes none at_end = record {
    written = c.written;
    appended = c.appended;
    packed =
        let whole : c.come.shown ≡ take most (drop skip all) =
        shown_to_end skip most all remaining stretch bytes new c.come consumes none at_end in
        rw (← whole, ← c.recipe_is) c.stands.packed;
  }

-- ---- one more piece

pub one_more : (recipe : Recipe) (skip most : ℕ) (all : List ℕ) (start : Option (List ℕ))
    (old_rest new_rest old_held new_held : Option (List ℕ)) (old_stretch new_stretch : Stretch)
    (old_packer new_packer : Packer) (piece wanted more : List ℕ)
    → IsCourse recipe skip most all start old_rest old_held old_stretch old_packer
    → Consumes old_rest new_rest piece
    → ((bytes shown : List ℕ) → Shows skip most bytes shown old_stretch
    → Shows skip most (bytes ++ piece) (shown ++ wanted) new_stretch)
    → ((bytes before : List ℕ) → StandsFor bytes before old_packer
    → StandsFor (bytes ++ wanted) (before ++ more) new_packer)
    → recipe_in new_packer ≡ recipe_in old_packer
    → Appends old_held new_held more
    → IsCourse recipe skip most all start new_rest new_held new_stretch new_packer
one_more recipe skip most all start old_rest new_rest old_held new_held old_stretch new_stretch
    old_packer new_packer piece wanted more c consumes shows stands same appends = record {
      come = more_come skip most all old_rest new_rest old_stretch new_stretch piece wanted c.come
          consumes shows;
      written = c.written ++ more;
      stands = stands c.come.shown c.written c.stands;
      recipe_is = same ∙ c.recipe_is;
      appended = appends-more start old_held new_held c.written more c.appended appends;
    }

pub beginning : (recipe : Recipe) (skip most : ℕ) (all : List ℕ) (remaining contents : Option
    (List ℕ)) (stretch : Stretch) (packer : Packer) → remaining ≡ Some all
    → Shows skip most [] [] stretch → StandsFor [] [] packer → recipe_in packer ≡ recipe
    → IsCourse recipe skip most all contents remaining contents stretch packer
beginning recipe skip most all remaining contents stretch packer known shows stands is = record {
  come = first_come skip most all remaining stretch known shows;
  written = [];
  stands = stands;
  recipe_is = is;
  appended = appends-none contents;
}

pub flushed : (recipe : Recipe) (stretch : List ℕ) (start old new : Option (List ℕ))
    → HasPacked recipe stretch start old → Keeps old new → HasPacked recipe stretch start new
flushed recipe stretch start old new h kept = record {
  written = h.written;
  appended = appends-kept start old new h.written h.appended kept;
  packed = h.packed;
}

-- ---- a front of the packing

-- what is wanted of all bytes begins with what is wanted of those that came
pub record HasShown (skip most : ℕ) (all shown : List ℕ) : Type 0 where
  pub ahead : List ℕ
  pub split : take most (drop skip all) ≡ shown ++ ahead

pub shown_first : (skip most : ℕ) (all came left shown : List ℕ) → all ≡ came ++ left
    → shown ≡ take most (drop skip came) → HasShown skip most all shown
shown_first skip most all came left shown split part =
    let front : List ℕ = drop skip came in
    let back : List ℕ = take (most - length front) (drop (skip - length came) left) in
    record {
      ahead = back;
      split =
          ap (λ (xs : List ℕ). take most (drop skip xs)) split
          ∙ ap (take most) (drop-two skip came left)
          ∙ take-two most front (drop (skip - length came) left)
          ∙ ap (λ (xs : List ℕ). xs ++ back) (sym part);
    }

-- a whole packing is a front
pub front_of_whole : (recipe : Recipe) (stretch : List ℕ) (start old new : Option (List ℕ))
    → HasPacked recipe stretch start old → Keeps old new → HasPackedFront recipe stretch start new
front_of_whole recipe stretch start old new h kept = record {
  came = stretch;
  ahead = [];
  split = sym (append-nil stretch);
  written = h.written;
  rest = [];
  appended = appends-kept start old new h.written h.appended kept;
  packed = let e : h.written ++ [] ≡ h.written = append-nil h.written in rw e h.packed;
}

-- in its course a run has written a front
pub front_of_course : (recipe : Recipe) (skip most : ℕ) (all : List ℕ) (start : Option (List ℕ))
    (remaining old new : Option (List ℕ)) (stretch : Stretch) (packer : Packer)
    → IsCourse recipe skip most all start remaining old stretch packer → Keeps old new
    → HasPackedFront recipe (take most (drop skip all)) start new
front_of_course recipe skip most all start remaining old new stretch packer c kept =
    let s : HasShown skip most all c.come.shown =
    shown_first skip most all c.come.came c.come.left c.come.shown c.come.split c.come.shows.part in
    record {
      came = c.come.shown;
      ahead = s.ahead;
      split = s.split;
      written = c.written;
      rest = [];
      appended = appends-kept start old new c.written c.appended kept;
      packed =
          let e : c.written ++ [] ≡ c.written = append-nil c.written in
          rw (e, ← c.recipe_is) c.stands.packed;
    }

-- and where the writer took a front of the next bytes
pub front_of_more : (recipe : Recipe) (skip most : ℕ) (all : List ℕ) (start : Option (List ℕ))
    (old_rest new_rest old_held new_held : Option (List ℕ)) (old_stretch new_stretch : Stretch)
    (old_packer new_packer : Packer) (piece wanted more : List ℕ)
    → IsCourse recipe skip most all start old_rest old_held old_stretch old_packer
    → Consumes old_rest new_rest piece
    → ((bytes shown : List ℕ) → Shows skip most bytes shown old_stretch
    → Shows skip most (bytes ++ piece) (shown ++ wanted) new_stretch)
    → ((bytes before : List ℕ) → StandsFor bytes before old_packer
    → StandsFor (bytes ++ wanted) (before ++ more) new_packer)
    → recipe_in new_packer ≡ recipe_in old_packer
    → AppendsFront old_held new_held more
    → HasPackedFront recipe (take most (drop skip all)) start new_held
front_of_more recipe skip most all start old_rest new_rest old_held new_held old_stretch new_stretch
    old_packer new_packer piece wanted more c consumes shows stands same f =
    let come : HasCome skip most all new_rest new_stretch = more_come skip most all old_rest
    new_rest
    old_stretch new_stretch piece wanted c.come consumes shows in
    let s : HasShown skip most all (c.come.shown ++ wanted) =
    shown_first skip most all come.came come.left come.shown come.split come.shows.part in
    record {
      came = c.come.shown ++ wanted;
      ahead = s.ahead;
      split = s.split;
      written = c.written ++ f.written;
      rest = f.rest;
      appended = appends-more start old_held new_held c.written f.written c.appended f.appended;
      packed =
          let whole : (c.written ++ f.written) ++ f.rest ≡ c.written ++ more =
          append_assoc c.written f.written f.rest
          ∙ ap (λ (xs : List ℕ). c.written ++ xs) (sym f.whole) in
          let is : recipe_in new_packer ≡ recipe = same ∙ c.recipe_is in
          rw (whole, ← is) (stands c.come.shown c.written c.stands).packed;
    }

-- ---- the end comes

nothing_shown : (skip most : ℕ) → ◌≡◌ {A = List ℕ} [] (take most (drop skip []))
nothing_shown zero zero = refl
nothing_shown zero (suc most) = refl
nothing_shown (suc skip) zero = refl
nothing_shown (suc skip) (suc most) = refl

-- with each piece fewer bytes are ahead
pub fewer_ahead : (old new : Stretch) (piece wanted : List ℕ) → 0 < length piece
    → (old.left ≡ 0 → ⊥)
    → ((skip most : ℕ) (bytes shown : List ℕ) → Shows skip most bytes shown old
    → Shows skip most (bytes ++ piece) (shown ++ wanted) new)
    → bytes_ahead new < bytes_ahead old
fewer_ahead old new piece wanted some more shows =
    let begun : Shows old.skip old.left [] [] old = record {
      part = nothing_shown old.skip old.left;
      before = omega arith;
      left = omega arith;
    } in
    let s : Shows old.skip old.left piece wanted new = shows old.skip old.left [] [] begun in
    let sized : length wanted ≡ min old.left (length piece - old.skip) =
    ap length s.part ∙ length-take old.left (drop old.skip piece)
    ∙ ap (min old.left) (length-drop old.skip piece) in
    let left : 0 < old.left = positive old.left more in
    omega (arith, s.before, s.left, sized, left, some)
  where
    positive : (n : ℕ) → (n ≡ 0 → ⊥) → 0 < n
    positive zero more = absurd (more refl)
    positive (suc n) more = omega arith

-- ---- failures

-- what holds of a failure holds where it is passed on
pub broken : {T : Type 0} (r : Result T Failure) (e : Failure) (P : Failure → Type 0)
    → IsErrAnd r (λ x. x ≡ e) → P e → IfErr r P
broken (Ok x) e P h p = tt
broken (Err x) e P h p = subst P (sym h) p

pub same_fault : (fault : PackFault) → failure_of fault ≡ NotANumber → fault ≡ faults.NotANumber
same_fault faults.NoMemory e = cc
same_fault faults.NotANumber e = refl

pub packs_at_error : (recipe : Recipe) (stretch : List ℕ) (old new : Option (List ℕ))
    (r : Result (Unit {0}) Failure) (e : Failure) → IsErrAnd r (λ x. x ≡ e)
    → HasBrokenOff recipe stretch old new e → Packs recipe stretch old new r
packs_at_error recipe stretch old new (Ok x) e h b = absurd h
packs_at_error recipe stretch old new (Err x) e h b =
    subst (HasBrokenOff recipe stretch old new) (sym h) b

-- no memory before the first read
pub packs_without_memory : (recipe : Recipe) (skip most : ℕ) (all : List ℕ)
    (remaining contents : Option (List ℕ)) (stretch : Stretch) (packer : Packer)
    (r : Result (Unit {0}) Failure) → IsErrAnd r (λ x. x ≡ NoMemory)
    → IsCourse recipe skip most all contents remaining contents stretch packer
    → Packs recipe (take most (drop skip all)) contents contents r
packs_without_memory recipe skip most all remaining contents stretch packer r h course =
    packs_at_error recipe (take most (drop skip all)) contents contents r NoMemory h (record {
      front =
          front_of_course recipe skip most all contents remaining contents contents stretch packer
          course (Keeps-refl contents);
      number = λ e numbers. cc;
    })

-- the end of a run, with its flush
pub packs_at_end : (recipe : Recipe) (stretch : List ℕ) (start old new : Option (List ℕ))
    (r : Result (Unit {0}) Failure) → HasPacked recipe stretch start old → Keeps old new
    → IfErr r (λ failure. failure ≡ Output) → Packs recipe stretch start new r
packs_at_end recipe stretch start old new (Ok x) h kept fault =
    flushed recipe stretch start old new h kept
packs_at_end recipe stretch start old new (Err failure) h kept fault = record {
  front = front_of_whole recipe stretch start old new h kept;
  number = λ e numbers. let clash : Output ≡ NotANumber = sym fault ∙ e in cc;
}
