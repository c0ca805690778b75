-- Floats that are no numbers, among some.
use Rattle.std.proofs.Common.{◌≡◌, ◌<◌, ℕ, zero, suc, List, [], ◌∷◌, ◌++◌, length, get_or}
use Rattle.std.proofs.Common.{arith, inl, inr, true, subst, sym, refl}
use Rattle.std.specs.Prelude.{is_nan}
use lib.Ieee.{Float}
use Rattle.recordings.specs.declared.fault.PackFault.{PackFault}
use Rattle.recordings.specs.declared.fault.PackFault.TheVariants as pack_faults
use Rattle.seldomplough.specs.declared.packing_fault.PackingFault.TheVariants as faults
use Rattle.seldomplough.specs.Packings.{HasNan, fault_of}

pub nan-at : (values : List Float) (i : ℕ) (other : Float) → i < length values
    → is_nan (get_or values i other) ≡ true → HasNan values
nan-at [] i other h e = absurd (omega arith)
nan-at (v ∷ values) zero other h e = inl e
nan-at (v ∷ values) (suc i) other h e = inr (nan-at values i other (omega arith) e)

nan-append : (front rest : List Float) → HasNan front → HasNan (front ++ rest)
nan-append [] rest h = absurd h
nan-append (v ∷ front) rest h =
    elim h [ inl e ↦ inl e | inr later ↦ inr (nan-append front rest later) ]

pub nan-front : (values front rest : List Float) → values ≡ front ++ rest → HasNan front
    → HasNan values
nan-front values front rest split h = subst HasNan (sym split) (nan-append front rest h)

pub is-no-number : (fault : PackFault) → fault_of fault ≡ faults.NotANumber
    → fault ≡ pack_faults.NotANumber
is-no-number pack_faults.NoMemory e = cc
is-no-number pack_faults.NotANumber e = refl
