-- Values that are each in their range are a plan.
use Rattle.std.proofs.Common.{◌≡◌, ◌<◌, ◌≤◌, ◌↔◌, ℕ, ◌∷◌, [], refl, arith}
use Rattle.std.specs.Prelude.{ℤ, pos, Result, Ok, Err, IfOk}
use Rattle.std.specs.Result.{result_or}
use Rattle.definitions.specs.Acquisition.{Plan}
use Rattle.acquisition.specs.Plans.{IsCentre, IsDwell, IsThreshold}
use Rattle.acquisition.specs.declared.plan.TheConstants.{MOST_SIDE_BINS}
use Rattle.acquisition.specs.declared.plan.PlanFault.{PlanFault}
use Rattle.acquisition.specs.declared.plan.PlanFault.TheVariants.{Centre, Bins, Dwell, Threshold}
use Rattle.client_commands.specs.declared.refusal.LineRefusal.{LineRefusal}
use Rattle.client_commands.specs.Reading.{values_of_plan}

pub in_range_is_plan : (prn : ℕ) (centre : ℤ) (bins dwell threshold : ℕ)
    (tried : Result Plan PlanFault) (refusal : LineRefusal) → IsCentre centre
    → bins ≤ MOST_SIDE_BINS
    → IsDwell dwell → IsThreshold threshold → (tried ≡ Err Centre ↔ (¬ IsCentre centre))
    → (tried ≡ Err Bins ↔ (IsCentre centre × (MOST_SIDE_BINS < bins)))
    → (tried ≡ Err Dwell ↔ (IsCentre centre × (bins ≤ MOST_SIDE_BINS) × (¬ IsDwell dwell)))
    → (tried ≡ Err Threshold
    ↔ (IsCentre centre × (bins ≤ MOST_SIDE_BINS) × IsDwell dwell × (¬ IsThreshold threshold)))
    → IfOk tried (λ plan. plan ≡ record {
      prn = prn;
      centre = centre;
      bins = bins;
      dwell = dwell;
      threshold = threshold;
    })
    → values_of_plan (result_or tried (Err refusal))
    ≡ Ok (pos prn ∷ centre ∷ pos bins ∷ pos dwell ∷ pos threshold ∷ [])
in_range_is_plan prn centre bins dwell threshold (Ok plan) refusal c b d t fc fb fd ft same =
    rw same refl
in_range_is_plan prn centre bins dwell threshold (Err Centre) refusal c b d t fc fb fd ft same =
    absurd (fc.0 refl c)
in_range_is_plan prn centre bins dwell threshold (Err Bins) refusal c b d t fc fb fd ft same =
    let out = fb.0 refl in absurd (omega (arith, out.1))
in_range_is_plan prn centre bins dwell threshold (Err Dwell) refusal c b d t fc fb fd ft same =
    let out = fd.0 refl in absurd (out.2 d)
in_range_is_plan prn centre bins dwell threshold (Err Threshold) refusal c b d t fc fb fd ft same =
    let out = ft.0 refl in absurd (out.3 t)
