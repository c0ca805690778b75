use Rattle.std.proofs.Common.{◌≡◌, [], ◌∷◌, ◌++◌, refl, ap, ◌∙◌, sym, arith, w32, to_z, of_z}
use Rattle.std.specs.Prelude.{◌+ℤ◌}
use Rattle.std.specs.Int.{is_negative}
use Rattle.std.proofs.lemmas.Int.{ints}
use Rattle.definitions.specs.BitEdge.{bits_of}
use Rattle.bit_sync.proofs.BitsLemmas.{part-goes_on, part-bits, whole-goes_on, whole-bits}
use Rattle.bit_sync.proofs.bit_sum.BitSum.push.Goals as goal

pub returns-then-self-lt-PUSHES_OF_BIT-clause-goes_on :
    goal.returns-then-self-lt-PUSHES_OF_BIT-clause-goes_on
returns-then-self-lt-PUSHES_OF_BIT-clause-goes_on c pushes h =
    part-goes_on pushes c.args.ip c.args.self.now h _ c.if-self-lt-PUSHES_OF_BIT.true refl
    (omega (arith, ints))

pub returns-then-self-lt-PUSHES_OF_BIT-clause-bit :
    goal.returns-then-self-lt-PUSHES_OF_BIT-clause-bit
returns-then-self-lt-PUSHES_OF_BIT-clause-bit c pushes h =
    part-bits pushes c.args.ip c.args.self.now h c.if-self-lt-PUSHES_OF_BIT.true

pub returns-clause-goes_on : goal.returns-clause-goes_on
returns-clause-goes_on c pushes h =
    whole-goes_on pushes c.args.ip c.args.self.now h _ (omega arith) refl refl

pub returns-clause-bit : goal.returns-clause-bit
returns-clause-bit c pushes h =
    let sum : to_z w32
    (of_z w32 (to_z w32
    (of_z w32 (to_z w32 (of_z w32 c.args.self.now.sum) +ℤ to_z w32 (of_z w32 c.args.ip)))))
    ≡ c.args.self.now.sum +ℤ c.args.ip = omega (arith, ints) in
    whole-bits pushes c.args.ip c.args.self.now h (omega arith)
    ∙ ap (λ z. bits_of pushes ++ is_negative z ∷ []) (sym sum)
