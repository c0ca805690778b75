use Rattle.std.proofs.Common.{◌≡◌, List, [], ◌++◌, length, refl, ap, ◌∙◌, arith, append-nil}
use Rattle.std.proofs.Common.{false}
use Rattle.std.specs.Prelude.{Some, None}
use Rattle.definitions.specs.Samples.{Sample}
use Rattle.definitions.specs.Acquisition.{Plan}
use Rattle.channels.specs.Windows.{dump_of, history_of}
use Rattle.sample_history.specs.Histories.{first_of}
use Rattle.channels.specs.Searching.{next_cell}
use Rattle.channels.specs.declared.searched.Searched.{Searched}
use Rattle.channel_slots.specs.Stages.{is_idle}
use Rattle.channel_slots.specs.declared.slot_news.SlotNews.TheVariants.{Dump}
use Rattle.channel_slots.proofs.ChanceLemmas.{dump-chance}
use Rattle.channel_slots.proofs.NewsLemmas.{few-events}
use Rattle.channel_slots.proofs.TakesLemmas.{Acquired, Dumped}
use Rattle.channel_slots.proofs.SearchLemmas.{searches-on, settled}
use Rattle.channel_slots.proofs.SlotLemmas.{idle-tells, tells, passes}
use Rattle.channel_slots.proofs.StageLemmas.{followed-takes, still-followed}
use Rattle.channel_slots.proofs.ReadyLemmas.{dump-ready, dump-later}
use Rattle.channel_slots.proofs.SettledLemmas.{settled-ready, settled-later, settled-chance}
use Rattle.channel_slots.proofs.TakeLemmas.{dwell-over, not-due, not-come}
use Rattle.channel_slots.proofs.slot.Slot.take.Goals as goal

pub returns-in-Idle-clause-emits : goal.returns-in-Idle-clause-emits
returns-in-Idle-clause-emits c settings xs ys commands more all over s =
    idle-tells settings xs commands c.args.self.now s ys more (ap is_idle c.in-Idle.is) _
    (ap is_idle c.in-Idle.is)

pub returns-in_err-cell-in-Searching-clause-emits :
    goal.returns-in_err-cell-in-Searching-clause-emits
returns-in_err-cell-in-Searching-clause-emits c = rw c.from_residual.ensures
    (λ settings xs ys commands more all over s.
    let took = c.take in
    let none : took.result ≡ None = c.in_err-cell-in-Searching.was in
    let later = not-due took.result _ c.args.to took.ensures.due none in
    let finds = rw c.in-Searching.is at c.requires.ready in
    tells settings xs commands c.args.self.now s ys more (ap is_idle c.in-Searching.is) _ None
    (λ life follows.
    let a = rw c.in-Searching.is at follows in
    let takes =
    took.ensures.takes settings a.plan life.begun xs ys (omega (arith, all, later))
    (dwell-over (xs ++ ys) _ _ c.in-Searching.searched life.begun over c.history.ensures finds.0
    a.searches.search.start_is) a.searches in
    searches-on settings xs life c.in-Searching.searched a ys took.new.self takes.stands
    (rw none at takes.answers))
    refl)

pub returns-in_ok-cell-in-Searching-clause-emits :
    goal.returns-in_ok-cell-in-Searching-clause-emits
returns-in_ok-cell-in-Searching-clause-emits c settings xs ys commands more all over s =
    let took = c.take in
    let some : took.result ≡ Some c.in_ok-cell-in-Searching.cell =
    c.in_ok-cell-in-Searching.was in
    let come = took.ensures.due.0 (rw some refl) in
    let finds = rw c.in-Searching.is at c.requires.ready in
    tells settings xs commands c.args.self.now s ys more (ap is_idle c.in-Searching.is) _
    (Some (Acquired c.prn-prn.result c.in_ok-cell-in-Searching.cell))
    (λ life follows.
    let a = rw c.in-Searching.is at follows in
    let takes =
    took.ensures.takes settings a.plan life.begun xs ys
    (omega (arith, all, c.due-time.ensures.value, took.ensures.later.due, come))
    (dwell-over (xs ++ ys) _ _ c.in-Searching.searched life.begun over c.history.ensures finds.0
    a.searches.search.start_is) a.searches in
    let stands = takes.stands in
    let answer = rw some at takes.answers in
    let same = c.prn-prn.ensures ∙ ap (λ (p : Plan). p.prn) stands.search.plan_is in
    settled settings xs life c.in-Searching.searched a ys _ _ same answer took.new.self
    stands _ (c.settle.ensures.stage took.new.self refl))
    c.settle.ensures.left

pub returns-then-not-take-clause-emits : goal.returns-then-not-take-clause-emits
returns-then-not-take-clause-emits c settings xs ys commands more all over s =
    let took = c.take-in-Following in
    let later = not-come took.result _ c.args.to took.ensures.came c.if-not-take.true in
    tells settings xs commands c.args.self.now s ys more (ap is_idle c.in-Following.is) _ None
    (λ life follows.
    let f = rw c.in-Following.is at follows in
    followed-takes settings xs ys life c.in-Following.followed f more false _ took.ensures.steered
    None (rw c.if-not-take.true at (took.ensures.takes settings _ xs ys
    (omega (arith, all, later)) over f.follows)))
    refl

pub returns-else-not-take-clause-emits : goal.returns-else-not-take-clause-emits
returns-else-not-take-clause-emits c settings xs ys commands more all over s =
    let took = c.take-in-Following in
    let noted = c.note_dump-is_shown in
    let come = took.ensures.came.0 c.if-not-take.false in
    tells settings xs commands c.args.self.now s ys more (ap is_idle c.in-Following.is)
    noted.new.self (Some (Dumped (dump_of took.new.window) noted.result))
    (λ life follows.
    let f = rw c.in-Following.is at follows in
    rw (noted.ensures.stage, c.dump.ensures)
    (followed-takes settings xs ys life c.in-Following.followed f more noted.result _
    took.ensures.steered (Some _)
    (rw c.if-not-take.false at (took.ensures.takes settings _ xs ys
    (omega (arith, all, come, c.next_dump-time.ensures.value)) over f.follows))))
    (noted.ensures.shown, noted.ensures.left)

pub returns-then-not-take-clause-passes : goal.returns-then-not-take-clause-passes
returns-then-not-take-clause-passes c settings xs commands all over s =
    let took = c.take-in-Following in
    let later = not-come took.result _ c.args.to took.ensures.came c.if-not-take.true in
    let same : length (xs ++ []) ≡ length xs =
    ap (λ (zs : List Sample). length zs) (append-nil xs) in
    passes settings xs commands c.args.self.now s (ap is_idle c.in-Following.is) _ refl
    (λ life follows.
    let f = rw c.in-Following.is at follows in
    still-followed settings xs life c.in-Following.followed took.new.self f took.ensures.steered
    (rw c.if-not-take.true at (took.ensures.takes settings _ xs []
    (omega (arith, same, all, later)) (rw (append-nil xs) over) f.follows)))

pub returns-then-not-take-clause-ready : goal.returns-then-not-take-clause-ready
returns-then-not-take-clause-ready c =
    let took = c.take-in-Following in
    let finds = rw c.in-Following.is at c.requires.ready in
    let later = not-come took.result _ c.args.to took.ensures.came c.if-not-take.true in
    (omega (arith, finds.0, finds.1, took.ensures.at, later), omega (arith, took.ensures.at))

pub returns-else-not-take-clause-ready : goal.returns-else-not-take-clause-ready
returns-else-not-take-clause-ready c =
    let took = c.take-in-Following in
    let finds = rw c.in-Following.is at c.requires.ready in
    rw c.note_dump-is_shown.ensures.stage
    (dump-ready (first_of (history_of c.args.window.now)) _ _ took.new.self _ (
      omega (arith, finds.0, finds.1, took.ensures.at, c.in-Following.followed.follower.waits),
      omega (arith, took.ensures.at),
    ))

pub returns-else-not-take-clause-chances : goal.returns-else-not-take-clause-chances
returns-else-not-take-clause-chances c =
    let took = c.take-in-Following in
    let noted = c.note_dump-is_shown.ensures in
    rw (c.in-Following.is, noted.stage)
    (omega (
      arith,
      few-events (Dump 0 c.note_dump-is_shown.result) (dump_of took.new.window),
      dump-chance c.dump.result.now.lock took.new.self,
      took.ensures.chance c.if-not-take.false,
    ))

pub returns-then-not-take-clause-all_taken : goal.returns-then-not-take-clause-all_taken
returns-then-not-take-clause-all_taken c none =
    let took = c.take-in-Following in
    let later = not-come took.result _ c.args.to took.ensures.came c.if-not-take.true in
    (omega (arith, took.ensures.at, later), omega (arith, took.ensures.at))

pub returns-else-not-take-clause-goes_on : goal.returns-else-not-take-clause-goes_on
returns-else-not-take-clause-goes_on c =
    let took = c.take-in-Following in
    let come = took.ensures.came.0 c.if-not-take.false in
    let due = c.next_dump-time.ensures.value in
    rw c.note_dump-is_shown.ensures.stage
    (dump-later c.next_dump-time.result took.new.self _
    (omega (arith, come, due, c.requires.early))
    (omega (arith, took.ensures.at, come, due, took.new.self.follower.waits)))

pub returns-in_ok-cell-in-Searching-clause-ready :
    goal.returns-in_ok-cell-in-Searching-clause-ready
returns-in_ok-cell-in-Searching-clause-ready c =
    let took = c.take in
    let finds = rw c.in-Searching.is at c.requires.ready in
    let some : took.result ≡ Some c.in_ok-cell-in-Searching.cell =
    c.in_ok-cell-in-Searching.was in
    let come = took.ensures.due.0 (rw some refl) in
    settled-ready (first_of (history_of c.args.window.now)) _ _ c.in_ok-cell-in-Searching.cell
    took.new.self _
    (c.settle.ensures.stage took.new.self refl)
    (omega (arith, finds.1, took.ensures.later.due)) (omega (arith, come, took.ensures.later.due))

pub returns-in_ok-cell-in-Searching-clause-goes_on :
    goal.returns-in_ok-cell-in-Searching-clause-goes_on
returns-in_ok-cell-in-Searching-clause-goes_on c =
    let took = c.take in
    let some : took.result ≡ Some c.in_ok-cell-in-Searching.cell =
    c.in_ok-cell-in-Searching.was in
    let come = took.ensures.due.0 (rw some refl) in
    rw c.due-time.ensures.value
    (settled-later c.in_ok-cell-in-Searching.cell took.new.self _
    (c.settle.ensures.stage took.new.self refl)
    (omega (arith, come, took.ensures.later.due, c.requires.early)))

pub returns-in_ok-cell-in-Searching-clause-chances :
    goal.returns-in_ok-cell-in-Searching-clause-chances
returns-in_ok-cell-in-Searching-clause-chances c =
    rw c.in-Searching.is (omega (
      arith,
      settled-chance c.in_ok-cell-in-Searching.cell c.take.new.self _
          (c.settle.ensures.stage c.take.new.self refl),
    ))

pub returns-in_err-cell-in-Searching-clause-ready :
    goal.returns-in_err-cell-in-Searching-clause-ready
returns-in_err-cell-in-Searching-clause-ready c =
    let later = c.take.ensures.later in
    let finds = rw c.in-Searching.is at c.requires.ready in
    (omega (arith, finds.0, later.start), omega (arith, finds.1, later.due))

pub returns-in_err-cell-in-Searching-clause-all_taken :
    goal.returns-in_err-cell-in-Searching-clause-all_taken
returns-in_err-cell-in-Searching-clause-all_taken c none =
    let took = c.take in
    let finds = rw c.in-Searching.is at c.requires.ready in
    let early =
    not-due took.result _ c.args.to took.ensures.due c.in_err-cell-in-Searching.was in
    (omega (arith, finds.0, took.ensures.later.start), omega (arith, early, took.ensures.later.due))

pub returns-in_err-cell-in-Searching-clause-goes_on :
    goal.returns-in_err-cell-in-Searching-clause-goes_on
returns-in_err-cell-in-Searching-clause-goes_on c =
    rw c.from_residual.ensures (c.take.ensures.later.next
    (not-due c.take.result _ c.args.to c.take.ensures.due c.in_err-cell-in-Searching.was))

pub returns-in_err-cell-in-Searching-clause-waits :
    goal.returns-in_err-cell-in-Searching-clause-waits
returns-in_err-cell-in-Searching-clause-waits c early =
    rw c.in-Searching.is
    (ap (λ (s : Searched). next_cell s)
    (c.take.ensures.waits (rw c.in-Searching.is at early)))

pub returns-in_ok-cell-in-Searching-clause-waits :
    goal.returns-in_ok-cell-in-Searching-clause-waits
returns-in_ok-cell-in-Searching-clause-waits c early =
    let some : c.take.result ≡ Some c.in_ok-cell-in-Searching.cell =
    c.in_ok-cell-in-Searching.was in
    let come = c.take.ensures.due.0 (rw some refl) in
    absurd (omega (arith, come, rw c.in-Searching.is at early))

pub returns-then-not-take-clause-waits : goal.returns-then-not-take-clause-waits
returns-then-not-take-clause-waits c early =
    rw c.in-Following.is (c.take-in-Following.ensures.waits c.if-not-take.true)

pub returns-else-not-take-clause-waits : goal.returns-else-not-take-clause-waits
returns-else-not-take-clause-waits c early =
    let come = c.take-in-Following.ensures.came.0 c.if-not-take.false in
    absurd (omega (arith, come, rw c.in-Following.is at early))

pub take-requires-in-Following-clause-begun : goal.take-requires-in-Following-clause-begun
take-requires-in-Following-clause-begun c =
    (rw c.in-Following.is at c.requires.ready).1

pub take-requires-in-Following-clause-open : goal.take-requires-in-Following-clause-open
take-requires-in-Following-clause-open c =
    (rw c.in-Following.is at c.requires.ready).0

pub take-requires : goal.take-requires
take-requires c =
    let finds = rw c.in-Searching.is at c.requires.ready in
    record {
      ready = record {
        from = rw c.history.ensures finds.0;
        to = rw c.history.ensures (omega (arith, c.requires.taken));
      };
    }

pub returns-in_ok-cell-in-Searching-clause-within :
    goal.returns-in_ok-cell-in-Searching-clause-within
returns-in_ok-cell-in-Searching-clause-within c =
    let some : c.take.result ≡ Some c.in_ok-cell-in-Searching.cell =
    c.in_ok-cell-in-Searching.was in
    let come = c.take.ensures.due.0 (rw some refl) in
    omega (arith, come, c.due-time.ensures.value, c.take.ensures.later.due)

pub returns-in-Idle-clause-later : goal.returns-in-Idle-clause-later
returns-in-Idle-clause-later c = tt

pub returns-in-Idle-clause-same : goal.returns-in-Idle-clause-same
returns-in-Idle-clause-same c =
    record { first = refl; end = refl; history = refl; stands = λ xs s. s }

pub returns-then-not-take-clause-goes_on : goal.returns-then-not-take-clause-goes_on
returns-then-not-take-clause-goes_on c =
    let took = c.take-in-Following in
    let later = not-come took.result _ c.args.to took.ensures.came c.if-not-take.true in
    omega (arith, later, took.ensures.waits c.if-not-take.true)
