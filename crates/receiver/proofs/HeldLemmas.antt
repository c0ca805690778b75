-- Text that is held back for a writer.
use Rattle.std.proofs.Common.{◌≡◌, ◌≤◌, ◌+◌, ◌-◌, ℕ, List, [], ◌++◌, length, take, drop, refl, sym}
use Rattle.std.proofs.Common.{ap, ◌∙◌, append_assoc, append-nil, subst, take-append-drop, arith}
use Rattle.std.proofs.Common.{None, Some}
use Rattle.std.specs.Prelude.{Option}
use Rattle.std.proofs.lemmas.List.{append_cancel_left, drop-drop, length-drop}
use Rattle.std.proofs.lemmas.List.{take_all}
use Rattle.std.specs.Io.KnownBytes.{Appends, Keeps, append_known}
use Rattle.std.proofs.KnownBytes.{Appends-nil, Appends-trans, Appends-kept, Keeps-trans}
use Rattle.std.proofs.KnownBytes.{append_known-moved}
use Rattle.receiver.specs.Texts.{AppendsPart, Grows}

-- ---- what a writer holds grows

pub grows-none : (a : Option (List ℕ)) → Grows a a
grows-none a = ([], Appends-nil a)

pub grows-kept : (a b c : Option (List ℕ)) → Grows a b → Keeps b c → Grows a c
grows-kept a b c g k = (g.0, Appends-kept a b c g.0 g.1 k)

pub grows-on : (a b c : Option (List ℕ)) → Grows a b → Grows b c → Grows a c
grows-on a b c g h = (g.0 ++ h.0, Appends-trans a b c g.0 h.0 g.1 h.1)

-- ---- what is promised

-- a call that failed wrote no part of its text
pub kept-part : (a b : Option (List ℕ)) (text : List ℕ) → Keeps a b → AppendsPart a b text
kept-part a b text k = (
  text,
  record {
    written = [];
    appended = Appends-kept a a b [] (Appends-nil a) k;
    whole = refl;
  },
)

same-front : (x more h written : List ℕ) → (x ++ more) ++ h ≡ x ++ written → more ++ h ≡ written
same-front x more h written e =
    append_cancel_left x (more ++ h) written (sym (append_assoc x more h) ∙ e)

-- a front of a text is promised, so what the writer holds is a front of it
pub unheld : (a b : Option (List ℕ)) (h text : List ℕ) → Grows a b
    → AppendsPart a (append_known b h) text → AppendsPart a b text
unheld None b h text g p = (text, record { written = []; appended = tt; whole = refl })
unheld (Some x) None h text g p = absurd g.1
unheld (Some x) (Some y) h text g p =
    let e : g.0 ++ h ≡ (p.1).written =
    same-front x g.0 h (p.1).written (ap (λ r. r ++ h) (sym g.1) ∙ (p.1).appended) in (
      h ++ p.0,
      record {
        written = g.0;
        appended = g.1;
        whole = (p.1).whole ∙ ap (λ r. r ++ p.0) (sym e) ∙ append_assoc g.0 h p.0;
      },
    )

-- where nothing is held back, the writer holds what is promised
pub none-held : (a : Option (List ℕ)) (h : List ℕ) → h ≡ [] → append_known a h ≡ a
none-held None h e = refl
none-held (Some x) h e = ap (λ r. Some (x ++ r)) e ∙ ap (λ r. Some r) (append-nil x)

-- the writer took the front of what is held back
pub moved : (a b c : Option (List ℕ)) (bytes : List ℕ) (sent n : ℕ)
    → Keeps a (append_known b (drop sent bytes)) → Appends b c (take n (drop sent bytes))
    → Keeps a (append_known c (drop (sent + n) bytes))
moved a b c bytes sent n k p =
    let rest = drop (sent + n) bytes in
    let cut : drop sent bytes ≡ take n (drop sent bytes) ++ rest =
    sym (take-append-drop n (drop sent bytes))
    ∙ ap (λ r. take n (drop sent bytes) ++ r) (drop-drop n sent bytes) in
    Keeps-trans a _ _ k
    (append_known-moved b c (take n (drop sent bytes)) rest (drop sent bytes) p cut)

-- a slice from a place on, of the same list
pub slice-from : (xs ys : List ℕ) (k : ℕ) → xs ≡ ys → take (length xs - k) (drop k xs) ≡ drop k ys
slice-from xs ys k e =
    take_all (length xs - k) (drop k xs)
    (subst (λ n. n ≤ length xs - k) (sym (length-drop k xs)) (omega arith)) ∙ ap (drop k) e
