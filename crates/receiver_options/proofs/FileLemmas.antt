-- Script files and their texts.
use Rattle.std.proofs.Common.{◌≡◌, ℕ, zero, suc, ◌+◌, ◌<◌, ◌≤◌, List, [], ◌∷◌, ◌++◌, length, take}
use Rattle.std.proofs.Common.{get_or, map, ap, ◌∙◌, arith, inl, inr}
use Rattle.std.specs.Prelude.{Option, Some, None, IfSome, option_map, min, Result, Ok, Err, IfErr}
use Rattle.std.specs.Prelude.{IsErrAnd, ◌⊎◌}
use Rattle.receiver_options.specs.declared.fault.OptionFault.{OptionFault}
use Rattle.receiver_options.specs.declared.fault.OptionFault.TheVariants.{NoMemory, Script}
use Rattle.std.proofs.lemmas.List.{take_all, length-take, map_more}
use Rattle.receiver_options.specs.ScriptTexts.{IsTextOf, AreTextsOf, MayBeRefused, SomeMayBeRefused}

-- what was read of a file, up to one byte more than it may have
pub whole-text : (known left : Option (List ℕ)) (limit : ℕ) (before text : List ℕ)
    → left ≡ option_map (take limit) known → limit ≡ 16777217 → before ≡ []
    → IfSome left (λ all. text ≡ before ++ all) → length text ≤ 16777216 → IsTextOf known text
whole-text None left limit before text is most none h short = tt
whole-text (Some all) left limit before text is most none h short =
    let read : text ≡ take 16777217 all =
    (rw is at h) ∙ ap (λ (b : List ℕ). b ++ take limit all) none
    ∙ ap (λ (n : ℕ). take n all) most in
    let cut : length text ≡ min 16777217 (length all) = ap length read ∙ length-take 16777217 all in
    read ∙ take_all 16777217 all (omega (arith, cut, short))

pub one-more-text : (files : List (Option (List ℕ))) (texts : List (List ℕ))
    (known : Option (List ℕ)) (text : List ℕ) → AreTextsOf files texts → IsTextOf known text
    → AreTextsOf (files ++ known ∷ []) (texts ++ text ∷ [])
one-more-text [] [] known text all one = (one, tt)
one-more-text [] (t ∷ texts) known text all one = absurd all
one-more-text (f ∷ files) [] known text all one = absurd all
one-more-text (f ∷ files) (t ∷ texts) known text all one =
    (all.0, one-more-text files texts known text all.1 one)

pub refused-at : {A : Type 0} (known : A → Option (List ℕ)) (paths : List A) (i : ℕ) (d : A)
    → i < length paths → MayBeRefused (known (get_or paths i d))
    → SomeMayBeRefused (map known paths)
refused-at known [] i d below may = absurd (omega (arith, below))
refused-at known (p ∷ paths) zero d below may = inl may
refused-at known (p ∷ paths) (suc i) d below may =
    inr (refused-at known paths i d (omega (arith, below)) may)

-- one file more is read
pub texts-more : {A : Type 0} (known : A → Option (List ℕ)) (paths : List A) (i : ℕ) (d : A)
    (texts more : List (List ℕ)) (text : List ℕ) → i < length paths → more ≡ texts ++ text ∷ []
    → AreTextsOf (map known (take i paths)) texts → IsTextOf (known (get_or paths i d)) text
    → AreTextsOf (map known (take (i + 1) paths)) more
texts-more known paths i d texts more text below is all one =
    rw (map_more known paths i d below, is)
    (one-more-text (map known (take i paths)) texts (known (get_or paths i d)) text all one)

-- a file is refused
pub read-refused : {A T : Type 0} (known : A → Option (List ℕ)) (paths : List A) (i : ℕ) (d : A)
    (r : Result T OptionFault) (fault : OptionFault) → i < length paths
    → IsErrAnd r (λ x. x ≡ fault)
    → ((fault ≡ NoMemory) ⊎ ((fault ≡ Script) × MayBeRefused (known (get_or paths i d))))
    → IfErr r (λ fault. (fault ≡ NoMemory)
    ⊎ ((fault ≡ Script) × SomeMayBeRefused (map known paths)))
read-refused known paths i d (Ok x) fault below is h = tt
read-refused known paths i d (Err x) fault below is (inl e) = inl (is ∙ e)
read-refused known paths i d (Err x) fault below is (inr h) =
    inr (is ∙ h.0, refused-at known paths i d below h.1)
