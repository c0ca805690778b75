-- What is answered where the values are of another kind than the recording.
use Rattle.std.proofs.Common.{◌≡◌, true, false, refl}
use Rattle.std.specs.Prelude.{◌≢◌, ◌↔◌}

pub other-kind : {A K : Type 0} (answer : A) (kind wanted : K)
    → (kind ≡ wanted → true ≡ false) → (answer ≡ answer) ↔ (kind ≢ wanted)
other-kind answer kind wanted differs =
    (λ same is. let clash : true ≡ false = differs is in cc, λ other. refl)
