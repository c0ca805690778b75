use Rattle.std.proofs.Common.{arith}
use Rattle.std.proofs.lemmas.Float.{not_nan_f32_bits}
use Rattle.packer.proofs.floats.value.Goals as goal

-- a float whose size is below infinity is a number
pub float_from_bits-bits : goal.float_from_bits-bits
float_from_bits-bits c =
    not_nan_f32_bits c.from_le_bytes-bits.result (omega (arith, c.if-size-lt-INFINITY.true))
