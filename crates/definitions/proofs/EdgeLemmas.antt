-- The push that brings the edge brings no bit.
use Rattle.std.proofs.Common.{inl, inr, ◌≡◌, ℕ, suc, ◌-◌, ◌<◌, List, [], ◌∷◌, ◌++◌, length, refl}
use Rattle.std.proofs.Common.{sym, ap, ◌∙◌, arith, length-append, append-nil}
use Rattle.std.specs.Prelude.{Bool, true, false, ℤ, not, ◌&&◌, Option, Some, None, is_some, ◌⊎◌}
use Rattle.std.proofs.lemmas.Bool.{and_parts}
use Rattle.definitions.specs.Sums.{least_below}
use Rattle.definitions.specs.BitEdge.{has_edge, edge_of, is_edge, bits_of, bits_after}
use Rattle.definitions.specs.Events.{front_of}
use Rattle.definitions.proofs.SumsLemmas.{least_below-some, least_below-none}
use Rattle.definitions.proofs.BitLemmas.{is_edge-append}
use Rattle.definitions.proofs.LifeLemmas.{front_of-append}
use Rattle.definitions.proofs.LockEndLemmas.{snoc}

-- ---- the edge comes with no bit
front-push : (ps : List ℤ) (p : ℤ) → front_of (ps ++ p ∷ []) ≡ ps
unfolding front_of
front-push ps p = front_of-append ps (p ∷ []) (omega arith) ∙ one ps p
  where
    one : (ps : List ℤ) (p : ℤ) → ps ++ front_of (p ∷ []) ≡ ps
    one ps p = append-nil ps

length-bits : (pushes : List ℤ) (k : ℕ) → length pushes ≡ suc k
    → length (bits_after pushes (Some k)) ≡ 0
length-bits pushes k e = let one : length pushes - k ≡ 1 = omega (arith, e) in rw one refl

pub clash : {b : Bool} → b ≡ true → b ≡ false → ⊥
clash t f = cc

edge-last : (ps : List ℤ) (p : ℤ) (k : ℕ) → edge_of (ps ++ p ∷ []) ≡ Some k → edge_of ps ≡ None
    → length (ps ++ p ∷ []) ≡ suc k
unfolding edge_of
edge-last ps p k some none =
    let l = least_below-some (is_edge (ps ++ p ∷ [])) (length (ps ++ p ∷ [])) k some in
    let long : length (ps ++ p ∷ []) ≡ suc (length ps) = simp length-append (omega arith) in
    by_place (place k (length ps) (omega (arith, long, l.below))) l.passes long
  where
    place : (k n : ℕ) → k < suc n → (k < n) ⊎ (k ≡ n)
    place k n h = grind arith

    by_place : ((k < length ps) ⊎ (k ≡ length ps)) → is_edge (ps ++ p ∷ []) k ≡ true
        → length (ps ++ p ∷ []) ≡ suc (length ps) → length (ps ++ p ∷ []) ≡ suc k
    by_place (inl before) passes long =
        absurd (clash (sym (is_edge-append ps (p ∷ []) k before) ∙ passes)
        (least_below-none (is_edge ps) (length ps) none k before))
    by_place (inr last) passes long = long ∙ ap suc (sym last)

pub edge-alone : (pushes : List ℤ) → (has_edge pushes && not (has_edge (front_of pushes))) ≡ true
    → length (bits_of pushes) ≡ 0
unfolding bits_of edge_of least_below
edge-alone pushes now = by_last (snoc pushes)
  where
    no_edge : (o : Option ℕ) → not (is_some o) ≡ true → o ≡ None
    no_edge None e = refl
    no_edge (Some k) e = cc

    by_edge : (ps : List ℤ) (p : ℤ) → pushes ≡ ps ++ p ∷ [] → (o : Option ℕ) → edge_of pushes ≡ o
        → is_some o ≡ true → edge_of ps ≡ None → length (bits_after pushes o) ≡ 0
    by_edge ps p e None some is none = cc
    by_edge ps p e (Some k) some is none =
        length-bits pushes k (ap length e ∙ edge-last ps p k (ap edge_of (sym e) ∙ some) none)

    by_last : ((pushes ≡ []) ⊎ ((ps : List ℤ) × (p : ℤ) × (pushes ≡ ps ++ p ∷ [])))
        → length (bits_after pushes (edge_of pushes)) ≡ 0
    by_last (inl none) = absurd (clash (and_parts _ _ now).0 (ap has_edge none ∙ nothing_there))
      where
        nothing_there : has_edge [] ≡ false
        nothing_there = refl
    by_last (inr (ps, p, e)) =
        let parts = and_parts (has_edge pushes) (not (has_edge (front_of pushes))) now in
        by_edge ps p e (edge_of pushes) refl parts.0
        (no_edge (edge_of ps)
        (ap (λ (l : List ℤ). not (has_edge l)) (sym (ap front_of e ∙ front-push ps p))
        ∙ parts.1))
