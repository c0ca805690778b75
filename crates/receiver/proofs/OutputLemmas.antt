-- What an output was given, call by call.
use Rattle.std.proofs.Common.{◌≡◌, ℕ, List, ◌++◌, refl, ◌∙◌, sym, subst}
use Rattle.std.specs.Borrow.{GName}
use Rattle.std.specs.Prelude.{Bool, true, Option, Result, Ok, Err, IsErr}
use Rattle.std.specs.Io.KnownBytes.{Appends, Keeps}
use Rattle.devices.specs.Calls.{ReportsFailure}
use Rattle.receiver.specs.Texts.{WroteUpTo, AppendsPart, Grows}
use Rattle.receiver.specs.Outputs.{promised, Adds, Writes}
use Rattle.devices.specs.declared.sink.Sink.{Ghosts as Sink}
use Rattle.receiver.specs.declared.output.Output.{Output}
use Rattle.std.proofs.KnownBytes.{Appends-kept}
use Rattle.std.proofs.lemmas.Result.{MatchResult-from_err}
use Rattle.receiver.proofs.TextLemmas.{wrote-none, wrote-text, wrote-part, appended-part}
use Rattle.receiver.proofs.HeldLemmas.{grows-none, grows-on, kept-part}

-- no call failed
abbrev pub Wrote : {W : Type 0} → Sink W → Output W → Output W → Type 0
Wrote sink old new = Writes {A = ℕ} {E = ℕ} sink old new (Ok 0)

pub nothing-written : {W : Type 0} (sink : Sink W) (out : Output W) → Wrote sink out out
nothing-written sink out =
    record { same = refl; grows = grows-none (sink.contents out.writer.now); failure = refl }

tells-after : {A E : Type 0} (r : Result A E) (x y z : Bool) → y ≡ x → ReportsFailure y z r
    → ReportsFailure x z r
tells-after (Ok n) x y z e f = f ∙ e
tells-after (Err n) x y z e f = f

-- one call after another
pub writes-then : {W A B E F : Type 0} (sink : Sink W) (a b c : Output W) (x : A) (r : Result B F)
    → Writes {A = A} {E = E} sink a b (Ok x) → Writes sink b c r → Writes sink a c r
writes-then sink a b c x r p q = record {
  same = q.same ∙ p.same;
  grows =
      grows-on (sink.contents a.writer.now) (sink.contents b.writer.now)
      (sink.contents c.writer.now) p.grows q.grows;
  failure = tells-after r _ _ _ p.failure q.failure;
}

pub tells-err : {A E : Type 0} (r : Result A E) (x y : Bool) → IsErr r → y ≡ true
    → ReportsFailure x y r
tells-err r x y is e = MatchResult-from_err r _ _ is (λ _. e)

-- a call that failed after others
pub writes-broke : {W A B E F : Type 0} (sink : Sink W) (a b c : Output W) (e : E) (r : Result B F)
    → Wrote sink a b → Writes {A = A} {E = E} sink b c (Err e) → IsErr r → Writes sink a c r
writes-broke sink a b c e r p q is = record {
  same = q.same ∙ p.same;
  grows =
      grows-on (sink.contents a.writer.now) (sink.contents b.writer.now)
      (sink.contents c.writer.now) p.grows q.grows;
  failure = tells-err r _ _ is q.failure;
}

pub wrote-then : {W A E : Type 0} (sink : Sink W) (a b c : Output W) (x : A) → Wrote sink a b
    → Writes {A = A} {E = E} sink b c (Ok x) → Wrote sink a c
wrote-then sink a b c x p q =
    let then = writes-then sink a b c 0 (Ok x) p q in
    record { same = then.same; grows = then.grows; failure = then.failure }

-- no call failed, so a result is one that says so
pub writes-ok : {W A E : Type 0} (sink : Sink W) (a b : Output W) (x : A) → Wrote sink a b
    → Writes {A = A} {E = E} sink a b (Ok x)
writes-ok sink a b x w = record { same = w.same; grows = w.grows; failure = w.failure }

pub adds-err : {A E : Type 0} (a b : Option (List ℕ)) (text : List ℕ) (r : Result A E) → IsErr r
    → AppendsPart a b text → Adds a b text r
adds-err a b text r is p = MatchResult-from_err r _ _ is (λ _. p)

-- a text was added, and then what was promised was kept
pub adds-kept : {A E : Type 0} (a b c : Option (List ℕ)) (text : List ℕ) (r : Result A E)
    → Appends a b text → Keeps b c → Adds a c text r
adds-kept a b c text (Ok x) p k = Appends-kept a b c text p k
adds-kept a b c text (Err e) p k = appended-part a b c text p k

-- ---- a text that is put part by part

-- of a text all but what is left was put
pub record HasPut {W : Type 0} (sink : Sink W) (old new : Output W) (text left : List ℕ) : Type 0
  where
    pub wrote : Wrote sink old new
    pub up_to : WroteUpTo (promised sink old) (promised sink new) text left

pub put-none : {W : Type 0} (sink : Sink W) (out : Output W) (text : List ℕ)
    → HasPut sink out out text text
put-none sink out text =
    record { wrote = nothing-written sink out; up_to = wrote-none (promised sink out) text }

pub put-more : {W A E : Type 0} (sink : Sink W) (a b c : Output W)
    (text left line rest : List ℕ) (x : A) → HasPut sink a b text left → left ≡ line ++ rest
    → Appends (promised sink b) (promised sink c) line
    → Writes {A = A} {E = E} sink b c (Ok x) → HasPut sink a c text rest
put-more sink a b c text left line rest x h e p w = record {
  wrote = wrote-then sink a b c x h.wrote w;
  up_to =
      wrote-text (promised sink a) (promised sink b) (promised sink c) text left line rest h.up_to
      e p;
}

pub put-broke : {W A E : Type 0} (sink : Sink W) (a b c : Output W)
    (text left line rest : List ℕ) (r : Result A E) → HasPut sink a b text left
    → left ≡ line ++ rest → Keeps (promised sink b) (promised sink c)
    → IsErr r → Adds (promised sink a) (promised sink c) text r
put-broke sink a b c text left line rest r h cut k is =
    adds-err (promised sink a) (promised sink c) text r is
    (wrote-part (promised sink a) (promised sink b) (promised sink c) text left line rest h.up_to
    cut (kept-part (promised sink b) (promised sink c) line k))

-- ---- the writer that an output was made of

-- what it ends as is what the output has at last
pub at-end : {W A E : Type 0} (sink : Sink W) (Q : W → Type 0) (name : GName) (x : W)
    (first last : Output W) (r : Result A E) → first.writer.ghost_name ≡ name
    → Writes sink first last r → (name ≡ last.writer.ghost_name → x ≡ last.writer.now)
    → Q last.writer.now → Q x
at-end sink Q name x first last r same w e q = subst Q (sym (e (sym (w.same ∙ same)))) q

pub writes-from : {W A E : Type 0} (sink : Sink W) (w : W) (first last : Output W)
    (r : Result A E) → first.writer.now ≡ w → Writes sink first last r
    → Grows (sink.contents w) (sink.contents last.writer.now)
    × ReportsFailure (sink.has_failed w) (sink.has_failed last.writer.now) r
writes-from sink w first last r same p =
    subst (λ v. Grows (sink.contents v) (sink.contents last.writer.now)
    × ReportsFailure (sink.has_failed v) (sink.has_failed last.writer.now) r) same
    (p.grows, p.failure)
