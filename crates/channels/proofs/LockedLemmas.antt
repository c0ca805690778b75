-- The pushes of a message, from lock to lock.
use Rattle.std.proofs.Common.{◌≡◌, inl, inr, List, [], ◌∷◌, ◌++◌, refl, sym, ap, ◌∙◌}
use Rattle.std.specs.Prelude.{true, false, Bool, ◌&&◌, ◌⊎◌, if◌then◌else◌}
use Rattle.definitions.specs.Sums.{least_below}
use Rattle.definitions.specs.BitEdge.{edge_of, has_edge, bits_of}
use Rattle.definitions.specs.Correlation.{Counts}
use Rattle.definitions.specs.Events.{pushes_by, pushes_of, push_events, front_of}
use Rattle.definitions.specs.Lock.{is_locked}
use Rattle.definitions.proofs.PushLemmas.{pushes-more}
use Rattle.definitions.proofs.LockEndLemmas.{snoc}

-- the loops aren't locked before the first dump, and with no push no message reports anything
pub not-locked : is_locked [] ≡ false
unfolding is_locked
not-locked = refl

pub no-edge : has_edge [] ≡ false
unfolding edge_of least_below
no-edge = refl

pub tells-nothing : push_events [] ≡ []
unfolding push_events edge_of least_below bits_of front_of
tells-nothing = refl

module _ (dumps : List Counts) (d : Counts) where
  -- a dump is pushed where the loops were locked and still are
  pub pushed : is_locked dumps ≡ true → is_locked (dumps ++ d ∷ []) ≡ true
      → pushes_of (dumps ++ d ∷ []) ≡ pushes_of dumps ++ d.ip ∷ []
  pushed before now = pushes-more dumps d ∙ rw (before, now) refl

  pub none-before : is_locked dumps ≡ false → pushes_of (dumps ++ d ∷ []) ≡ []
  none-before before = pushes-more dumps d ∙ rw before refl

  pub none-now : is_locked (dumps ++ d ∷ []) ≡ false → pushes_of (dumps ++ d ∷ []) ≡ []
  none-now now = pushes-more dumps d ∙ off (is_locked dumps) (is_locked (dumps ++ d ∷ [])) now
    where
      off : (b c : Bool) → c ≡ false
          → (if b && c then pushes_of dumps ++ d.ip ∷ [] else []) ≡ []
      off true c e = rw e refl
      off false c e = refl

no-pushes : pushes_of [] ≡ []
unfolding pushes_of pushes_by
no-pushes = refl

-- where they aren't locked nothing is pushed
pub none-unlocked : (dumps : List Counts) → is_locked dumps ≡ false → pushes_of dumps ≡ []
none-unlocked dumps e = by_last (snoc dumps)
  where
    by_last : ((dumps ≡ []) ⊎ ((ys : List Counts) × (y : Counts) × (dumps ≡ ys ++ y ∷ [])))
        → pushes_of dumps ≡ []
    by_last (inl none) = rw none no-pushes
    by_last (inr (ys, y, is)) = rw is (none-now ys y (rw is at e))

-- where an edge is found they are locked
pub edge-locked : (dumps : List Counts) → has_edge (pushes_of dumps) ≡ true
    → is_locked dumps ≡ true
edge-locked dumps e = by_lock (is_locked dumps) refl
  where
    by_lock : (b : Bool) → is_locked dumps ≡ b → is_locked dumps ≡ true
    by_lock true is = is
    by_lock false is =
        absurd (clash (sym (ap has_edge (none-unlocked dumps is) ∙ no-edge) ∙ e))
      where
        clash : false ≡ true → ⊥
        clash f = cc
