use Rattle.std.proofs.Common.{rules, ℕ, ◌∙◌, ◌++◌, List, ap, arith}
use Rattle.circular_buffer.specs.Buffer.{buffer, keep_last}
use Rattle.sample_history.proofs.ShiftLemmas.{copied}
use Rattle.sample_history.proofs.ring_bytes.append_bits.Goals as goal

pub returns-then-place-eq0 : goal.returns-then-place-eq0
returns-then-place-eq0 c =
    let ring = c.args.ring.now in
    c.extend_from_slice.ensures
    ∙ ap (λ (xs : List ℕ). buffer (keep_last ring.capacity (ring.items ++ xs)) ring.capacity)
    (copied c.args.bytes.now c.args.place c.args.count c.if-place-eq0.true
    (omega (arith, c.requires.within, c.if-place-eq0.true)) (λ i. search (rules, c.type_inv.bytes)))
