-- Bytes that a writer takes in several writes.
use Rattle.std.proofs.Common.{◌≡◌, ℕ, zero, suc, ◌+◌, ◌-◌, List, [], ◌∷◌, ◌++◌, length, take}
use Rattle.std.proofs.Common.{drop, refl, sym, ap, arith, subst, take-append-drop}
use Rattle.std.specs.Prelude.{Option, Result, Ok, Err, OnErr}
use Rattle.std.specs.Io.KnownBytes.{Appends, Keeps}
use Rattle.std.proofs.KnownBytes.{Appends-trans, Appends-kept}
use Rattle.std.proofs.lemmas.List.{take_rest}
use Rattle.packer.specs.Devices.{AppendsFront}

-- what an error says
pub on_err : {T E : Type 0} (r : Result T E) (P : Type 0) → P → OnErr r P
on_err (Ok x) P p = tt
on_err (Err e) P p = p

take-more : (m n : ℕ) (xs : List ℕ) → take m xs ++ take n (drop m xs) ≡ take (m + n) xs
take-more zero n xs = let e : zero + n ≡ n = omega arith in rw e refl
take-more (suc m) zero [] = let e : suc m + zero ≡ suc m = omega arith in rw e refl
take-more (suc m) (suc n) [] = let e : suc m + suc n ≡ suc (m + suc n) = omega arith in rw e refl
take-more (suc m) n (x ∷ xs) =
    let e : suc m + n ≡ suc (m + n) = omega arith in
    rw e (ap (λ (l : List ℕ). x ∷ l) (take-more m n xs))

-- the writer took n more bytes
pub took : (a b c : Option (List ℕ)) (bytes : List ℕ) (sent n : ℕ) → Appends a b (take sent bytes)
    → Appends b c (take n (take (length bytes - sent) (drop sent bytes)))
    → Appends a c (take (sent + n) bytes)
took a b c bytes sent n before next =
    subst (Appends a c) (take-more sent n bytes)
    (Appends-trans a b c (take sent bytes) (take n (drop sent bytes)) before
    (subst (λ (l : List ℕ). Appends b c (take n l)) (take_rest bytes sent) next))

-- or failed after some
pub front_of : (a b c : Option (List ℕ)) (bytes : List ℕ) (sent : ℕ)
    → Appends a b (take sent bytes) → Keeps b c → AppendsFront a c bytes
front_of a b c bytes sent before kept = record {
  written = take sent bytes;
  rest = drop sent bytes;
  appended = Appends-kept a b c (take sent bytes) before kept;
  whole = sym (take-append-drop sent bytes);
}
