-- A list that is written part by part.
use Rattle.std.proofs.Common.{◌≡◌, ◌≤◌, ℕ, List, [], ◌++◌, length, drop, arith, sym, append_assoc}
use Rattle.std.proofs.Common.{append-nil, length-append, length-drop}
use Rattle.std.specs.Prelude.{ℤ}
use Rattle.std.proofs.lemmas.List.{take_at, drop_at}
use borrow.Rule.Slice.PartMut.{put_mid}

-- a write right after the first elements
written_behind : (a k : ℕ) (xs ys zs : List ℤ) → length xs ≡ a
    → put_mid a k (xs ++ zs) ys ≡ xs ++ ys ++ drop k zs
written_behind a k xs ys zs e =
    rw (take_at xs zs a e, drop_at xs zs a e) (sym (append_assoc xs ys (drop k zs)))

-- two parts leave as much as there was after them
pub two_written : (xs ys zs c e2 : List ℤ) → xs ≡ c → ys ≡ e2 → length c ≡ 11 → length e2 ≡ 11
    → length zs ≡ 20 → 31 ≤ length (put_mid 11 11 (xs ++ zs) ys)
two_written xs ys zs c e2 x y n m k =
    rw (x, y, written_behind 11 11 c e2 zs n) (simp (length-append, length-drop) (omega arith))

-- all three
pub three_written : (xs ys ws zs c e2 e3 : List ℤ) → xs ≡ c → ys ≡ e2 → ws ≡ e3 → length c ≡ 11
    → length e2 ≡ 11 → drop 9 (drop 11 zs) ≡ []
    → put_mid 22 9 (put_mid 11 11 (xs ++ zs) ys) ws ≡ c ++ e2 ++ e3
three_written xs ys ws zs c e2 e3 x y w n m none =
    let both : length (c ++ e2) ≡ 22 = simp length-append (omega arith) in
    rw (
      x,
      y,
      w,
      written_behind 11 11 c e2 zs n,
      written_behind 22 9 (c ++ e2) e3 (drop 11 zs) both,
      none,
    ) (append-nil (c ++ e2 ++ e3))
