-- Samples of what reads gave.
use Rattle.std.proofs.Common.{◌≡◌, ℕ, ◌+◌, ◌-◌, ◌*◌, ◌/◌, ◌%◌, ◌<◌, ◌≤◌, List, [], ◌++◌, length}
use Rattle.std.proofs.Common.{take, drop, refl, sym, ap, ap₂, ◌∙◌, arith, min, subst, inl, inr}
use Rattle.std.proofs.Common.{take-append-drop, true≢false}
use Rattle.std.proofs.lemmas.List.{take_all, take_min, length-take, length-take-le}
use Rattle.std.proofs.Math.Seq.{take-append_seam, take-append-add}
use Rattle.std.proofs.Math.Nat.{min-le_left, min-eq_right}
use Rattle.std.specs.Prelude.{Bool, true, false, nat_lt, ◌||◌, ◌==◌, ◌↔◌}
use Rattle.std.specs.Prelude.{Option, Result, MatchResult}
use Rattle.std.specs.Io.KnownBytes.{Consumes, Keeps}
use Rattle.std.proofs.lemmas.Bool.{cases_lt, eq-eqb, ltb-true, lt-ltb, ne_eqb}
use Rattle.std.proofs.Math.Bool.{or-false, or-true}
use Rattle.definitions.specs.Oscillators.{Settings}
use Rattle.definitions.specs.Receiver.{Client, body}
use Rattle.definitions.specs.Runs as runs
use Rattle.definitions.specs.Samples.{Sample, Packing, real1, real2, iq1, iq2, samples}
use Rattle.definitions.specs.Samples.{sample_count, samples_per_byte}
use Rattle.definitions.proofs.SampleLemmas.{sample_count-append, samples-append, samples-length}
use Rattle.definitions.proofs.SampleLemmas.{count_of}
use Rattle.devices.specs.Moments.{Devices}
use Rattle.receiver.specs.declared.session.Session.{Session}
use Rattle.receiver.specs.Runs.{EndedAs, IsWrittenTo, TakesOn, samples_read, samples_before}
use Rattle.receiver.specs.Sessions.{packing_in, time_of}
use Rattle.receiver.specs.Texts.{AppendsPart}
use Rattle.receiver.proofs.RunLemmas.{written-kept}

-- a read that gave some bytes leaves it as it was whether one gave none
pub some-given : (n : ℕ) {old new : Bool} → (n ≡ 0 → ⊥) → new ≡ (old || (n == 0)) → new ≡ old
some-given n {old} some is = is ∙ ap (λ none. old || none) (ne_eqb n 0 some) ∙ or-false old

-- a read that gave none
pub none-given : (n : ℕ) (old : Bool) {new : Bool} → n ≡ 0 → new ≡ (old || (n == 0)) → new ≡ true
none-given n old none is = is ∙ ap (λ none. old || none) (eq-eqb n 0 none) ∙ or-true old

-- a reader that hasn't failed isn't asked again by the next read
pub asked-once : {first again failed new : Bool} → again ≡ first → failed ≡ false
    → new ≡ (again || failed) → new ≡ first
asked-once {first} a f is = is ∙ ap₂ (λ again failed. again || failed) a f ∙ or-false first

-- ---- the samples of the bytes that come next

-- they come before the limit as far as the bytes have room before it
front-taken : (packing : Packing) (bytes : List ℕ) (left used : ℕ)
    → left % samples_per_byte packing ≡ 0
    → used ≡ min (length bytes) (left / samples_per_byte packing)
    → samples packing (take used bytes) ≡ take left (samples packing bytes)
front-taken packing bytes left used whole u =
    let front : List ℕ = take used bytes in
    let back : List ℕ = drop used bytes in
    let le : used ≤ length bytes = subst (λ k. k ≤ length bytes) (sym u) (min-le_left _ _) in
    let many : length (samples packing front) ≡ min left (length (samples packing bytes)) =
    samples-length packing front ∙ count_of packing front used (length-take-le used bytes le)
    ∙ fits packing whole u ∙ ap (min left) (sym (samples-length packing bytes)) in
    sym (take-append_seam (samples packing front) (samples packing back))
    ∙ ap (take (length (samples packing front))) (sym (samples-append packing front back))
    ∙ ap₂ (λ (k : ℕ) (b : List ℕ). take k (samples packing b)) many (take-append-drop used bytes)
    ∙ take_min left (samples packing bytes)
  where
    fits : (p : Packing) → left % samples_per_byte p ≡ 0
        → used ≡ min (length bytes) (left / samples_per_byte p)
        → samples_per_byte p * used ≡ min left (sample_count p bytes)
    fits real1 w v = omega (arith, w, v)
    fits real2 w v = omega (arith, w, v)
    fits iq1 w v = omega (arith, w, v)
    fits iq2 w v = omega (arith, w, v)

-- the same of what take_bytes computes
pub taken-before : (session : Session) (limit : ℕ) (bytes : List ℕ) (packing : Packing)
    (time per used : ℕ) {run : List Sample} → run ≡ samples packing (take used bytes)
    → packing ≡ packing_in session → time ≡ time_of session
    → per ≡ samples_per_byte packing
    → (limit - time_of session) % samples_per_byte (packing_in session) ≡ 0
    → used ≡ min (length bytes) ((limit - time) / per)
    → run ≡ samples_before limit session bytes
taken-before session limit bytes packing time per used is p t e whole u =
    let own : Packing = packing_in session in
    let left : ℕ = limit - time_of session in
    let room : used ≡ min (length bytes) (left / samples_per_byte own) =
    u ∙ ap (λ k. min (length bytes) ((limit - k) / per)) t
    ∙ ap (λ k. min (length bytes) (left / k)) (e ∙ ap (λ (q : Packing). samples_per_byte q) p) in
    is ∙ ap (λ (q : Packing). samples q (take used bytes)) p
    ∙ front-taken own bytes left used whole room

-- some bytes stay where they have more samples than there are before the limit
pub left-past : (packing : Packing) (time limit count used : ℕ) → time ≤ limit
    → (limit - time) % samples_per_byte packing ≡ 0
    → used ≡ min count ((limit - time) / samples_per_byte packing)
    → (nat_lt used count ≡ true) ↔ (limit < time + samples_per_byte packing * count)
left-past packing time limit count used within whole u = (
  λ less. more packing whole u (ltb-true used count less),
  λ past. lt-ltb used count (less packing whole u past),
)
  where
    more : (p : Packing) → (limit - time) % samples_per_byte p ≡ 0
        → used ≡ min count ((limit - time) / samples_per_byte p) → used < count
        → limit < time + samples_per_byte p * count
    more real1 w v l = omega (arith, within, w, v, l)
    more real2 w v l = omega (arith, within, w, v, l)
    more iq1 w v l = omega (arith, within, w, v, l)
    more iq2 w v l = omega (arith, within, w, v, l)

    less : (p : Packing) → (limit - time) % samples_per_byte p ≡ 0
        → used ≡ min count ((limit - time) / samples_per_byte p)
        → limit < time + samples_per_byte p * count → used < count
    less real1 w v l = omega (arith, within, w, v, l)
    less real2 w v l = omega (arith, within, w, v, l)
    less iq1 w v l = omega (arith, within, w, v, l)
    less iq2 w v l = omega (arith, within, w, v, l)

-- the time after those, where nothing stands between the limit and a whole byte
pub time-before : (session : Session) (limit : ℕ) (bytes : List ℕ) → time_of session ≤ limit
    → time_of session + length (samples_before limit session bytes)
    ≡ min limit (time_of session + sample_count (packing_in session) bytes)
time-before session limit bytes within =
    let count : length (samples (packing_in session) bytes)
    ≡ sample_count (packing_in session) bytes = samples-length (packing_in session) bytes in
    let cut : length (samples_before limit session bytes)
    ≡ min (limit - time_of session) (length (samples (packing_in session) bytes)) =
    length-take (limit - time_of session) (samples (packing_in session) bytes) in
    omega (arith, cut, count, within)

-- ---- what was read, up to the limit

-- up to a limit of whole bytes whole bytes are left
pub whole-left : (packing : Packing) (read : List ℕ) (limit time : ℕ) → limit % 8 ≡ 0
    → time ≡ sample_count packing read → (limit - time) % samples_per_byte packing ≡ 0
whole-left real1 read limit time whole t = omega (arith, whole, t)
whole-left real2 read limit time whole t = omega (arith, whole, t)
whole-left iq1 read limit time whole t = omega (arith, whole, t)
whole-left iq2 read limit time whole t = omega (arith, whole, t)

-- from `old` to `new` all that reads gave came before the limit, and was taken
pub record HasRead (limit : ℕ) (first session : Session) (old new : Devices) : Type 0 where
  pub read : List ℕ
  pub consumed : Consumes old.remaining new.remaining read
  pub ended : EndedAs runs.unfinished old new
  pub time : time_of session ≡ sample_count (packing_in session) read
  pub within : time_of session ≤ limit
  pub at : (settings : Settings) (clients : List Client) (start : Option (List ℕ))
      → IsWrittenTo settings clients start first old.contents []
      → IsWrittenTo settings clients start session new.contents (samples_read settings limit read)

all-before : (packing : Packing) (read : List ℕ) (limit time : ℕ)
    → time ≡ sample_count packing read → time ≤ limit → length (samples packing read) ≤ limit
all-before packing read limit time t within =
    subst (λ n. n ≤ limit) (t ∙ sym (samples-length packing read)) within

up_to-both : (packing : Packing) (read bytes : List ℕ) (limit time : ℕ)
    → time ≡ sample_count packing read → time ≤ limit
    → take limit (samples packing read) ++ take (limit - time) (samples packing bytes)
    ≡ take limit (samples packing (read ++ bytes))
up_to-both packing read bytes limit time t within =
    let xs : List Sample = samples packing read in
    let ys : List Sample = samples packing bytes in
    let len : length xs ≡ time = samples-length packing read ∙ sym t in
    let cut : length xs + (limit - time) ≡ limit = omega (arith, len, within) in
    ap (λ (r : List Sample). r ++ take (limit - time) ys)
    (take_all limit xs (all-before packing read limit time t within))
    ∙ sym (take-append-add xs ys (limit - time)) ∙ ap (λ k. take k (xs ++ ys)) cut
    ∙ ap (take limit) (sym (samples-append packing read bytes))

-- the time after all the bytes that come next
pub time-on : (before after : Session) (limit : ℕ) (read bytes : List ℕ) (past : Bool)
    → time_of before ≡ sample_count (packing_in before) read
    → packing_in after ≡ packing_in before
    → time_of after ≡ min limit (time_of before + sample_count (packing_in before) bytes)
    → (past ≡ true) ↔ (limit < time_of before + sample_count (packing_in before) bytes)
    → past ≡ false → time_of after ≡ sample_count (packing_in after) (read ++ bytes)
time-on before after limit read bytes past t same now beyond not =
    let count : ℕ = time_of before + sample_count (packing_in before) bytes in
    let within : count ≤ limit =
    elim (cases_lt limit count) [
      | inl more ↦ absurd (true≢false (sym (beyond.1 more) ∙ not))
      | inr fits ↦ fits
    ] in
    now ∙ min-eq_right within
    ∙ ap (λ k. k + sample_count (packing_in before) bytes) t
    ∙ sym (sample_count-append (packing_in before) read bytes)
    ∙ ap (λ (p : Packing). sample_count p (read ++ bytes)) (sym same)

-- for each run that the session stands for
module _ {limit : ℕ} {first session : Session} {old new : Devices}
    (has : HasRead limit first session old new) (settings : Settings) (clients : List Client)
    (start : Option (List ℕ)) (at : IsWrittenTo settings clients start first old.contents []) where
  own : packing_in session ≡ settings.packing
  own =
      let now = has.at settings clients start at in
      ap (λ (r : Settings). r.packing) now.stands.bank.recorded

  -- what has been read so far is within the limit
  pub within-limit : length (samples settings.packing has.read) ≤ limit
  within-limit =
      all-before settings.packing has.read limit (time_of session)
      (has.time ∙ ap (λ (p : Packing). sample_count p has.read) own) has.within

  -- more than the limit came
  pub beyond-limit : (bytes : List ℕ)
      → limit < time_of session + sample_count (packing_in session) bytes
      → limit < length (samples settings.packing (has.read ++ bytes))
  beyond-limit bytes past =
      let many : length (samples settings.packing (has.read ++ bytes))
      ≡ time_of session + sample_count (packing_in session) bytes =
      samples-length settings.packing (has.read ++ bytes)
      ∙ ap (λ (p : Packing). sample_count p (has.read ++ bytes)) (sym own)
      ∙ sample_count-append (packing_in session) has.read bytes
      ∙ ap (λ k. k + sample_count (packing_in session) bytes) (sym has.time) in
      subst (λ k. limit < k) (sym many) past

  -- what is written where nothing came
  pub still-written : (sent : Option (List ℕ)) → Keeps new.contents sent
      → IsWrittenTo settings clients start session sent (samples_read settings limit has.read)
  still-written sent kept =
      written-kept settings clients start session new.contents sent
      (samples_read settings limit has.read) (has.at settings clients start at) kept

  -- what is written where bytes came and were taken
  pub took-on : {A E : Type 0} (after : Session) (sent then : Option (List ℕ)) (bytes : List ℕ)
      (result : Result A E) → Keeps new.contents sent
      → TakesOn (samples_before limit session bytes) session after sent then result
      → let xs : List Sample = samples_read settings limit (has.read ++ bytes) in
      MatchResult result (λ _. IsWrittenTo settings clients start after then xs)
      (λ _. AppendsPart start then (body settings xs clients))
  took-on after sent then bytes result kept takes =
      let xs : List Sample = samples_read settings limit has.read in
      let both : xs ++ samples_before limit session bytes
      ≡ samples_read settings limit (has.read ++ bytes) =
      subst (λ (p : Packing). take limit (samples p has.read) ++ samples_before limit session bytes
      ≡ take limit (samples p (has.read ++ bytes))) own
      (up_to-both (packing_in session) has.read bytes limit (time_of session) has.time has.within)
      in
      subst (λ (ys : List Sample). MatchResult result
      (λ _. IsWrittenTo settings clients start after then ys)
      (λ _. AppendsPart start then (body settings ys clients))) both
      (takes settings clients start xs (still-written sent kept))

-- nothing read is no sample
pub none_counted : (packing : Packing) → 0 ≡ sample_count packing []
none_counted real1 = refl
none_counted real2 = refl
none_counted iq1 = refl
none_counted iq2 = refl
