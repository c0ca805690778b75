use Rattle.std.proofs.Common.{◌≡◌, ℕ, ◌+◌, ◌-◌, ◌∷◌, [], ◌++◌, length, refl, ap, arith}
use Rattle.circular_buffer.specs.Buffer.{Buffer, keep_last}
use Rattle.sample_history.specs.Shifts.{bytes_from}
use Rattle.sample_history.proofs.RingLemmas.{grows, grows-none, grows-count}
use Rattle.sample_history.proofs.RingLemmas.{grows-whole, grows_whole-count}
use Rattle.sample_history.proofs.ShiftLemmas.{bytes_from-length}
use Rattle.sample_history.proofs.ring_bytes.grow.Goals as goal

-- what the ring holds at the end
kept : (c : goal.After-shifted_byte-3) → c.append_bits-2.new.ring.items
    ≡ keep_last c.args.ring.now.capacity (keep_last c.args.ring.now.capacity
    (c.args.ring.now.items ++ c.filled_byte-head.result ∷ []) ++ bytes_from c.args.bytes.now
    (c.args.start + 8 - c.args.used) (c.args.whole - 1))
kept c =
    let pushed = ap (λ (b : Buffer ℕ). b.items) c.push_back.ensures.items in
    let room = ap (λ (b : Buffer ℕ). b.capacity) c.push_back.ensures.items in
    rw (room, pushed) at (ap (λ (b : Buffer ℕ). b.items) c.append_bits-2.ensures)

pub returns-then-whole-eq0-clause-bytes : goal.returns-then-whole-eq0-clause-bytes
returns-then-whole-eq0-clause-bytes c =
    rw (c.if-whole-eq0.true, c.filled_byte-head.ensures, c.shifted_byte-2.ensures)
    (grows-none c.args.ring.now.items _ c.args.bytes.now (c.args.start + 8 - c.args.used))

pub returns-clause-count : goal.returns-clause-count
returns-clause-count c =
    let some : c.args.whole - 1 + 1 ≡ c.args.whole = omega (arith, c.if-whole-eq0.false) in
    rw some at (grows-count c.args.ring.now.capacity c.args.ring.now.items c.filled_byte-head.result
    (c.args.whole - 1) (bytes_from c.args.bytes.now (c.args.start + 8 - c.args.used)
    (c.args.whole - 1)) c.append_bits-2.new.ring.items (kept c)
    (bytes_from-length c.args.bytes.now (c.args.start + 8 - c.args.used) (c.args.whole - 1))
    c.requires.holds)

pub returns-clause-bytes : goal.returns-clause-bytes
returns-clause-bytes c =
    let ring = c.args.ring.now.items in
    let new = c.append_bits-2.new.ring.items in
    let behind : ℕ = c.args.start + 8 - c.args.used in
    let some : c.args.whole - 1 + 1 ≡ c.args.whole = omega (arith, c.if-whole-eq0.false) in
    let gone : length ring + c.args.whole - length new
    ≡ length ring + (c.args.whole - 1 + 1) - length new = rw some refl in
    let here = grows c.args.ring.now.capacity ring c.filled_byte-head.result c.args.bytes.now
    (c.args.start + 8 - c.args.used) (c.args.whole - 1) (length ring + c.args.whole - length new)
    new (kept c) gone
    (bytes_from-length c.args.bytes.now (c.args.start + 8 - c.args.used) (c.args.whole - 1)) in
    rw c.shifted_byte-3.ensures
    (rw (some, c.filled_byte-head.ensures, c.shifted_byte-2.ensures) at here)

pub returns-then-used-eq0-clause-count : goal.returns-then-used-eq0-clause-count
returns-then-used-eq0-clause-count c =
    grows_whole-count c.args.ring.now.capacity c.args.ring.now.items c.args.bytes.now c.args.start
    c.args.whole c.append_bits.new.ring.items
    (ap (λ (b : Buffer ℕ). b.items) c.append_bits.ensures) c.requires.holds

pub returns-then-used-eq0-clause-bytes : goal.returns-then-used-eq0-clause-bytes
returns-then-used-eq0-clause-bytes c =
    let behind : c.args.start + 8 - 0 ≡ c.args.start + 8 = omega arith in
    rw (c.shifted_byte.ensures, c.if-used-eq0.true, behind)
    (grows-whole c.args.ring.now.capacity c.args.ring.now.items c.args.begun c.args.bytes.now
    c.args.start c.args.whole
    (length c.args.ring.now.items + c.args.whole - length c.append_bits.new.ring.items)
    c.append_bits.new.ring.items (ap (λ (b : Buffer ℕ). b.items) c.append_bits.ensures) refl)
