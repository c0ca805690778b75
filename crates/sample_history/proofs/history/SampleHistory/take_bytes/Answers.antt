use Rattle.std.proofs.Common.{◌≡◌, ℕ, ◌+◌, ◌*◌, ◌/◌, ◌%◌, ◌≤◌, length, refl, ap, arith, rules}
use Rattle.std.proofs.Common.{length-append}
use Rattle.definitions.specs.Samples.{samples_per_byte, samples_from}
use Rattle.definitions.proofs.SampleLemmas.{samples_from-length}
use Rattle.sample_planes.specs.Packings.{width_of}
use Rattle.sample_history.specs.Histories.{packing_in}
use Rattle.sample_history.proofs.HistoryLemmas.{held_next}
use Rattle.sample_history.proofs.PlaceLemmas.{width_from, used_bits, room_kept, count_kept}
use Rattle.sample_history.proofs.PlaceLemmas.{run_within}
use Rattle.sample_history.proofs.history.SampleHistory.take_bytes.Goals as goal

pub returns-clause-stands : goal.returns-clause-stands
returns-clause-stands c xs before =
    let h = c.args.self.now in
    let packing = packing_in h in
    let per : ℕ = c.per_byte-per_byte.result in
    let is_per = c.per_byte-per_byte.ensures in
    let width : 8 / per ≡ width_of packing = width_from packing per is_per in
    let whole : ℕ = (h.taken % per + c.args.len) / per in
    let is_whole : (h.taken % per + c.args.len) / per
    ≡ (h.taken % samples_per_byte packing + c.args.len) / samples_per_byte packing =
    ap (λ (n : ℕ). (h.taken % n + c.args.len) / n) is_per in
    let is_used : 8 / per * (h.taken % per) ≡ used_bits packing h.taken =
    rw (width, is_per) refl in
    let is_start : 8 / per * c.args.first ≡ width_of packing * c.args.first =
    ap (λ (n : ℕ). n * c.args.first) width in
    let g = c.grow-self.ensures in
    let old : length h.whole.items ≤ h.taken / samples_per_byte packing = omega (arith, h.kept) in
    let new = c.grow-self.new.ring.items in
    let short : length c.grow-self.new.ring.items
    ≤ length h.whole.items + (h.taken % per + c.args.len) / per = omega (arith, g.count) in
    let count : length (samples_from packing c.args.bytes.now c.args.first c.args.len)
    ≡ c.args.len = samples_from-length packing c.args.bytes.now c.args.first c.args.len in
    record {
      taken = rw (length-append, count) (omega (arith, before.taken));
      held = held_next packing xs h.whole.items h.partial c.args.bytes.now h.taken c.args.first
          c.args.len (8 / per * (h.taken % per)) (8 / per * c.args.first) whole new
          c.grow-self.result is_used is_start is_whole old short g.bytes before.taken before.held;
      kept = rw g.capacity (room_kept packing h.taken c.args.len whole h.whole.capacity
          (length h.whole.items) (length new) is_whole h.kept g.count);
    }

pub grow-self-requires-clause-within : goal.grow-self-requires-clause-within
grow-self-requires-clause-within c = run_within (packing_in c.args.self.now)
    c.per_byte-per_byte.result c.args.self.now.taken c.args.first c.args.len
    (length c.args.bytes.now) c.per_byte-per_byte.ensures c.requires.within

pub invariant_of-self : goal.invariant_of-self
invariant_of-self c =
    let h = c.args.self.now in
    let per : ℕ = c.per_byte-per_byte.result in
    let is_whole : (h.taken % per + c.args.len) / per
    ≡ (h.taken % samples_per_byte (packing_in h) + c.args.len) / samples_per_byte (packing_in h) =
    ap (λ (n : ℕ). (h.taken % n + c.args.len) / n) c.per_byte-per_byte.ensures in
    record {
      few = search rules;
      kept = rw c.grow-self.ensures.capacity (count_kept (packing_in h) h.taken c.args.len
          ((h.taken % per + c.args.len) / per) h.whole.capacity (length h.whole.items)
          (length c.grow-self.new.ring.items) is_whole h.kept c.grow-self.ensures.count);
    }
