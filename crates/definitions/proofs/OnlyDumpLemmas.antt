-- No other dumps than those of a channel are plain sums over one run of the code after another.
use Rattle.std.proofs.Common.{inl, inr, ◌≡◌, ℕ, zero, suc, ◌+◌, ◌-◌, ◌<◌, ◌≤◌, List, [], ◌∷◌, ◌++◌}
use Rattle.std.proofs.Common.{length, take, drop, refl, sym, ap, ◌∙◌, arith}
use Rattle.std.specs.Prelude.{Option, Some, None, slice_get}
use Rattle.std.proofs.lemmas.Bool.{cases_lt}
use Rattle.std.proofs.lemmas.List.{take-append-drop, take_all, length-take-le}
use Rattle.definitions.specs.Samples.{Sample}
use Rattle.definitions.specs.Oscillators.{Settings, code_cycle}
use Rattle.definitions.specs.Correlation.{Phases, phases_after, counts_over}
use Rattle.definitions.specs.Segments.{Channel, Dump, dumps_of}
use Rattle.definitions.specs.SlotLaws.{time_after_dumps, phases_after_dumps, IsDump, AreDumps}
use Rattle.definitions.specs.SlotLaws.{NoOtherDumps}
use Rattle.definitions.proofs.DumpLemmas.{are-dumps, time-append, phases-append}
use Rattle.definitions.proofs.AlmanacLemmas.{within}

-- ---- lists
take-some : {A : Type 0} (xs : List A) (k : ℕ) (x : A) → slice_get xs k ≡ Some x
    → take (suc k) xs ≡ take k xs ++ x ∷ []
take-some [] k x e = cc
take-some (y ∷ ys) zero x e = let it : y ≡ x = cc in rw it refl
take-some (y ∷ ys) (suc k) x e = ap (λ r. y ∷ r) (take-some ys k x e)

none-there : {A : Type 0} (xs : List A) (k : ℕ) → slice_get xs k ≡ None → length xs ≤ k
none-there [] k e = omega arith
none-there (y ∷ ys) zero e = cc
none-there (y ∷ ys) (suc k) e = omega (arith, none-there ys k e)

take-none : {A : Type 0} (xs : List A) (k : ℕ) → slice_get xs k ≡ None → take (suc k) xs ≡ take k xs
take-none xs k e =
    let short = none-there xs k e in
    take_all (suc k) xs (omega (arith, short)) ∙ sym (take_all k xs short)

-- ---- what comes after the first dumps rests on them alone
module _ (settings : Settings) (channel : Channel) where
  time-take : (ds : List Dump) (k : ℕ) → k ≤ length ds
      → time_after_dumps channel ds k ≡ time_after_dumps channel (take k ds) k
  time-take ds k h =
      ap (λ l. time_after_dumps channel l k) (sym (take-append-drop k ds))
      ∙ time-append settings channel (take k ds) (drop k ds) k
      (omega (arith, length-take-le k ds h))

  phases-take : (ds : List Dump) (k : ℕ) → k ≤ length ds
      → phases_after_dumps settings channel ds k ≡ phases_after_dumps settings channel (take k ds) k
  phases-take ds k h =
      ap (λ l. phases_after_dumps settings channel l k) (sym (take-append-drop k ds))
      ∙ phases-append settings channel (take k ds) (drop k ds) k
      (omega (arith, length-take-le k ds h))

-- two dumps of one segment are one
one-time : (channel : Channel) (xs : List Sample) (start : ℕ) (p : Phases) (d e : Dump)
    → IsDump channel xs start p d → IsDump channel xs start p e → d.time < e.time → ⊥
one-time channel xs start p d e hd he less =
    omega (arith, he.not_sooner d.time hd.later less, hd.through)

one-dump : (channel : Channel) (xs : List Sample) (start : ℕ) (p : Phases) (d e : Dump)
    → IsDump channel xs start p d → IsDump channel xs start p e → d ≡ e
one-dump channel xs start p d e hd he =
    let time : d.time ≡ e.time =
    same d.time e.time (one-time channel xs start p d e hd he)
    (one-time channel xs start p e d he hd) in
    let sums : d.counts ≡ e.counts =
    hd.sums ∙ ap (counts_over channel.prn p xs start) time ∙ sym he.sums in
    equal d e time sums
  where
    same : (a b : ℕ) → (a < b → ⊥) → (b < a → ⊥) → a ≡ b
    same a b f g = elim (cases_lt a b) [
      | inl less ↦ absurd (f less)
      | inr le ↦ elim (cases_lt b a) [ inl more ↦ absurd (g more) | inr ge ↦ omega (arith, le, ge) ]
    ]

    equal : (d e : Dump) → d.time ≡ e.time → d.counts ≡ e.counts → d ≡ e
    equal d e f g =
        ap (λ t. record { time = t; counts = d.counts }) f
        ∙ ap (λ c. record { time = e.time; counts = c }) g

module _ (settings : Settings) (channel : Channel) (xs : List Sample) where
  -- no dump stands in one list where the other has ended
  no-more : (these those : List Dump) (k : ℕ) (d : Dump) → AreDumps settings channel xs these
      → AreDumps settings channel xs those → take k these ≡ take k those
      → slice_get these k ≡ Some d → slice_get those k ≡ None → ⊥
  no-more these those k d ha hb same there none =
      let inside : k < length these = within these k d there in
      let long : length (take k these) ≡ k = length-take-le k these (omega (arith, inside)) in
      let short : length those ≤ k = none-there those k none in
      let whole : take k those ≡ those = take_all k those short in
      let count : length those ≡ k = ap length (sym whole) ∙ ap length (sym same) ∙ long in
      let start : time_after_dumps channel these k ≡ time_after_dumps channel those (length those) =
      time-take settings channel these k (omega (arith, inside))
      ∙ ap (λ l. time_after_dumps channel l k) (same ∙ whole)
      ∙ ap (time_after_dumps channel those) (sym count) in
      let phases : phases_after_dumps settings channel these k
      ≡ phases_after_dumps settings channel those (length those) =
      phases-take settings channel these k (omega (arith, inside))
      ∙ ap (λ l. phases_after_dumps settings channel l k) (same ∙ whole)
      ∙ ap (phases_after_dumps settings channel those) (sym count) in
      ended (time_after_dumps channel these k) (time_after_dumps channel those (length those))
      (phases_after_dumps settings channel these k)
      (phases_after_dumps settings channel those (length those)) start phases (ha.each k d there)
      hb.no_more
    where
      ended : (a b : ℕ) (p q : Phases) → a ≡ b → p ≡ q → IsDump channel xs a p d
          → ((e : ℕ) → b < e → e ≤ length xs → (phases_after q (e - b)).code < code_cycle) → ⊥
      ended a b p q start phases is none =
          let it : IsDump channel xs b q d = moved start phases is in
          omega (arith, none d.time it.later it.within, it.through)
        where
          moved : {a b : ℕ} {p q : Phases} → a ≡ b → p ≡ q → IsDump channel xs a p d
              → IsDump channel xs b q d
          moved f g it = rw (sym f, sym g) it

  both : (these those : List Dump) → AreDumps settings channel xs these
      → AreDumps settings channel xs those → (k : ℕ) → take k these ≡ take k those
  both these those ha hb zero = refl
  both these those ha hb (suc k) =
      by_place (both these those ha hb k) (slice_get these k) (slice_get those k) refl refl
    where
      moved : {a b : ℕ} {p q : Phases} {d : Dump} → a ≡ b → p ≡ q → IsDump channel xs a p d
          → IsDump channel xs b q d
      moved f g it = rw (sym f, sym g) it

      by_place : take k these ≡ take k those → (o p : Option Dump) → slice_get these k ≡ o
          → slice_get those k ≡ p → take (suc k) these ≡ take (suc k) those
      by_place same None None e f = take-none these k e ∙ same ∙ sym (take-none those k f)
      by_place same (Some d) None e f = absurd (no-more these those k d ha hb same e f)
      by_place same None (Some d) e f = absurd (no-more those these k d hb ha (sym same) f e)
      by_place same (Some d) (Some c) e f =
          let here : k < length these = within these k d e in
          let there : k < length those = within those k c f in
          let start : time_after_dumps channel those k ≡ time_after_dumps channel these k =
          time-take settings channel those k (omega (arith, there))
          ∙ ap (λ l. time_after_dumps channel l k) (sym same)
          ∙ sym (time-take settings channel these k (omega (arith, here))) in
          let phases : phases_after_dumps settings channel those k
          ≡ phases_after_dumps settings channel these k =
          phases-take settings channel those k (omega (arith, there))
          ∙ ap (λ l. phases_after_dumps settings channel l k) (sym same)
          ∙ sym (phases-take settings channel these k (omega (arith, here))) in
          let one : d ≡ c =
          one-dump channel xs (time_after_dumps channel these k)
          (phases_after_dumps settings channel these k) d c (ha.each k d e)
          (moved start phases (hb.each k c f)) in
          take-some these k d e ∙ ap (λ l. l ++ d ∷ []) same ∙ ap (λ x. take k those ++ x ∷ []) one
          ∙ sym (take-some those k c f)

pub no-others : NoOtherDumps
no-others settings channel xs dumps are =
    let others : List Dump = dumps_of settings channel xs in
    let n : ℕ = length dumps + length others in
    sym (take_all n dumps (omega arith))
    ∙ both settings channel xs dumps others are (are-dumps settings channel xs) n
    ∙ take_all n others (omega arith)
