-- What the options ask for, and what was done.
use Rattle.std.proofs.Common.{◌≡◌, ◌∙◌, ℕ, List, take, drop, refl, sym, ap, subst, inl, inr}
use Rattle.std.specs.Prelude.{Bool, false, Option, Some, None, unwrap_or, Result, Ok, Err, IsErrAnd}
use Rattle.std.specs.Prelude.{codes}
use Rattle.clap.specs.declared.parser.matches.Found.{Found}
use Rattle.clap.specs.Matches.{first_value}
use Rattle.sample_planes.specs.declared.format.Format.{Format}
use Rattle.recordings.specs.declared.choice.Choice.{Choice}
use Rattle.recordings.specs.declared.value_kind.ValueKind.{ValueKind}
use Rattle.recordings.specs.declared.recipe.Recipe.{Recipe}
use Rattle.devices.specs.Moments.{Devices}
use Rattle.packer.specs.Devices.{SaysWhich}
use Rattle.packer.specs.Options.{Asks, IsAsked, IsStretch, HasNoStretch, is_measured_in}
use Rattle.packer.specs.Options.{kind_in, from_in, is_pairs_name, format_in, threshold_in}
use Rattle.packer.specs.Runs.{Packs}
use Rattle.packer.specs.Statuses.{status_of}
use Rattle.packer.specs.Endings.{CarriesOut}
use Rattle.packer.specs.declared.failure.Failure.{Failure}

-- without a threshold there is no choice
pub no_threshold : (found : Found) (choice : Choice) (kind : ValueKind) (is_paired : Bool)
    (format : Format) → Asks found choice → kind ≡ kind_in (from_in found)
    → is_paired ≡ is_pairs_name (from_in found) → Some format ≡ format_in found is_paired
    → None ≡ threshold_in kind format (first_value found (codes "threshold")) → ⊥
no_threshold found choice kind is_paired format asks k p f none =
    let text : Option (List ℕ) = first_value found (codes "threshold") in
    let pairs : choice.is_paired ≡ is_paired = asks.is_paired ∙ sym p in
    let same : choice.format ≡ format =
    ap (λ (o : Option Format). unwrap_or o format)
    (sym asks.format ∙ ap (λ (b : Bool). format_in found b) pairs ∙ sym f) in
    let there : threshold_in kind format text ≡ Some choice.threshold =
    subst (λ (g : Format). threshold_in kind g text ≡ Some choice.threshold) same
    (subst (λ (j : ValueKind). threshold_in j choice.format text ≡ Some choice.threshold)
    (asks.kind ∙ sym k) asks.threshold) in
    let clash : None ≡ Some choice.threshold = none ∙ there in cc

pub err_is : {T E : Type 0} (r : Result T E) (e : E) → IsErrAnd r (λ x. x ≡ e) → r ≡ Err e
err_is (Ok x) e h = absurd h
err_is (Err x) e h = ap Err h

-- no stretch can be had
pub refused : (found : Found) (devices : Devices) (recipe : Recipe)
    (r : Result (Unit {0}) Failure) (failure : Failure) → r ≡ Err failure
    → status_of (Err failure) ≡ 2 → IsAsked found recipe → HasNoStretch found recipe
    → CarriesOut found devices devices r
refused found devices recipe r failure is status asked none = inl (record {
  failure = failure;
  is_answer = is;
  status = ap status_of is ∙ status;
  why = inr (recipe, asked, none);
  untouched = refl;
})

-- the stretch was packed, or some of it
pub packed : (found : Found) (recipe made : Recipe) (skip most : ℕ) (old new : Devices)
    (r answer : Result (Unit {0}) Failure) → answer ≡ r → is_measured_in found ≡ false
    → IsAsked found recipe → IsStretch found recipe skip most → made ≡ recipe → SaysWhich old new r
    → ((all : List ℕ) → old.remaining ≡ Some all
    → Packs made (take most (drop skip all)) old.contents new.contents r)
    → CarriesOut found old new answer
packed found recipe made skip most old new r answer is plain asked stretch same which packs =
    subst (CarriesOut found old new) (sym is) (inr (inr (inr (record {
      asks = plain;
      recipe = recipe;
      is_asked = asked;
      skip = skip;
      most = most;
      stretch = stretch;
      which = which;
      packs = λ all known.
          subst (λ (m : Recipe). Packs m (take most (drop skip all)) old.contents
          new.contents r) same
          (packs all known);
    }))))
