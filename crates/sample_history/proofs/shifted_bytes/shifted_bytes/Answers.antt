use Rattle.std.proofs.Common.{ℕ, ◌+◌, ◌*◌, ◌∙◌, take, arith}
use Rattle.std.proofs.lemmas.List.{get_or-take, length-take-le}
use Rattle.std.proofs.lemmas.List.FromFn.{fill_by_all}
use Rattle.sample_history.specs.Shifts.{byte_from, bytes_from}
use Rattle.sample_history.proofs.ShiftLemmas.{read_on}
use Rattle.sample_history.proofs.shifted_bytes.shifted_bytes.Goals as goal

pub returns : goal.returns
unfolding bytes_from
returns c =
    let bytes = c.args.bytes.now in
    fill_by_all (λ (k : ℕ). byte_from bytes (c.args.place + 8 * k)) (take c.args.count c.loop-k.out)
    c.args.count 0
    (length-take-le c.args.count c.loop-k.out
    (omega (arith, c.loop-k.invariant.long, c.requires.few)))
    (λ k h. get_or-take c.args.count c.loop-k.out k 0 h
    ∙ c.loop-k.invariant.bytes k (omega (arith, h, c.loop-k.auto.k-end, c.loop-k-test.false))
    ∙ read_on bytes c.args.place k)
