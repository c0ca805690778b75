use Rattle.std.proofs.Common.{◌≡◌, ℕ, List, length, refl, sym, ap, ◌∙◌, subst}
use Rattle.std.specs.List.{AllByRecursion}
use Rattle.channel_slots.specs.BankStates.{shares_of}
use Rattle.receiver.specs.declared.queue.Queue.{Queue}
use Rattle.receiver.specs.Queues.{NoneDue, left_of, are_in_shares}
use Rattle.receiver.specs.Sessions.{until_next, lines_left}
use Rattle.receiver.proofs.SessionLemmas.{some-then, none-waiting, none-due-gap, at-least, took}
use Rattle.receiver.proofs.SessionLemmas.{as-many-still, fewer-left}
use Rattle.receiver.proofs.ShareLemmas.{due-in-share, in-shares-still}
use Rattle.receiver.proofs.session.Session.next_due.Goals as goal

pub returns-clause-first : goal.returns-clause-first
returns-clause-first c =
    let t =
    took c.args.self.now.queues c.deref_mut.result.now c.take_due.new.queues c.time-now.result
    c.take_due.result c.deref_mut.ensures.value c.take_due.ensures.some c.take_due.ensures.none
    c.take_due.ensures.kept in
    some-then _ _ (λ due h. at-least c.time-now.result 1 c.args.self.now.queues.items
    c.take_due.new.queues due h) c.take_due.result t.some

pub returns-clause-slot : goal.returns-clause-slot
returns-clause-slot c =
    let t =
    took c.args.self.now.queues c.deref_mut.result.now c.take_due.new.queues c.time-now.result
    c.take_due.result c.deref_mut.ensures.value c.take_due.ensures.some c.take_due.ensures.none
    c.take_due.ensures.kept in
    let now : ℕ = c.time-now.result in
    let old : List Queue = c.args.self.now.queues.items in
    let new : List Queue = c.take_due.new.queues in
    some-then _ _ (λ due h. due-in-share now 1 (shares_of c.args.self.now.bank) old new due
    c.args.self.now.in_shares h (at-least now 1 old new due h)) c.take_due.result t.some

pub returns-clause-fewer : goal.returns-clause-fewer
unfolding lines_left
returns-clause-fewer c =
    let t =
    took c.args.self.now.queues c.deref_mut.result.now c.take_due.new.queues c.time-now.result
    c.take_due.result c.deref_mut.ensures.value c.take_due.ensures.some c.take_due.ensures.none
    c.take_due.ensures.kept in
    rw t.whole (some-then _ _ (λ due h. fewer-left c.time-now.result 1
    c.args.self.now.queues.items c.take_due.new.queues due h) c.take_due.result t.some)

pub returns-clause-some : goal.returns-clause-some
returns-clause-some c =
    let t =
    took c.args.self.now.queues c.deref_mut.result.now c.take_due.new.queues c.time-now.result
    c.take_due.result c.deref_mut.ensures.value c.take_due.ensures.some c.take_due.ensures.none
    c.take_due.ensures.kept in
    some-then _ _ (λ due h. record {
      bank = refl;
      queues = rw (t.whole, ← c.time-now.ensures.taken) h;
    }) c.take_due.result t.some

pub returns-clause-ready : goal.returns-clause-ready
unfolding until_next
returns-clause-ready c none =
    let t =
    took c.args.self.now.queues c.deref_mut.result.now c.take_due.new.queues c.time-now.result
    c.take_due.result c.deref_mut.ensures.value c.take_due.ensures.some c.take_due.ensures.none
    c.take_due.ensures.kept in
    rw (t.whole ∙ t.kept none, ← c.time-now.ensures.taken)
    (none-due-gap c.time-now.result c.args.self.now.queues.items (t.none none))

pub returns-clause-none : goal.returns-clause-none
returns-clause-none c none settings clients xs waiting s =
    let t =
    took c.args.self.now.queues c.deref_mut.result.now c.take_due.new.queues c.time-now.result
    c.take_due.result c.deref_mut.ensures.value c.take_due.ensures.some c.take_due.ensures.none
    c.take_due.ensures.kept in
    let old : List Queue = c.args.self.now.queues.items in
    let same = t.whole ∙ t.kept none in
    let now : c.time-now.result ≡ length xs = c.time-now.ensures.taken ∙ s.bank.now in
    let nothing =
    none-waiting settings xs s.done 1 clients old s.queues
    (subst (λ (t : ℕ). AllByRecursion (λ (q : Queue). NoneDue t (left_of q)) old) now
    (t.none none)) in (
      s.waits ∙ nothing,
      record {
        done = s.done;
        bank = s.bank;
        shares = s.shares;
        queues = rw same s.queues;
        waits = rw same (sym nothing);
      },
    )

pub invariant_of-self-clause-in_shares : goal.invariant_of-self-clause-in_shares
invariant_of-self-clause-in_shares c =
    let t =
    took c.args.self.now.queues c.deref_mut.result.now c.take_due.new.queues c.time-now.result
    c.take_due.result c.deref_mut.ensures.value c.take_due.ensures.some c.take_due.ensures.none
    c.take_due.ensures.kept in
    ap (are_in_shares (shares_of c.args.self.now.bank)) t.whole
    ∙ in-shares-still c.time-now.result (shares_of c.args.self.now.bank)
    c.args.self.now.queues.items c.take_due.new.queues c.take_due.result
    c.args.self.now.in_shares t.some t.kept

pub invariant_of-self-clause-clients : goal.invariant_of-self-clause-clients
invariant_of-self-clause-clients c =
    let t =
    took c.args.self.now.queues c.deref_mut.result.now c.take_due.new.queues c.time-now.result
    c.take_due.result c.deref_mut.ensures.value c.take_due.ensures.some c.take_due.ensures.none
    c.take_due.ensures.kept in
    ap length t.whole
    ∙ as-many-still c.time-now.result c.args.self.now.queues.items c.take_due.new.queues
    c.take_due.result t.some t.kept
    ∙ c.args.self.now.clients
