use Rattle.std.proofs.Common.{◌≡◌, ◌-◌, true, false, [], ◌∷◌, length, map, take, get_or}
use Rattle.std.proofs.Common.{refl, sym, inl, inr, ◌∙◌, arith}
use Rattle.std.specs.List.{list_all}
use Rattle.std.proofs.lemmas.List.{take_more, take_all, map-append}
use Rattle.std.proofs.lemmas.List.Folds.{list_all_more, list_all_at}
use Rattle.std.proofs.lemmas.Result.{IfOk-from_err}
use Rattle.receiver_options.specs.Requests.{is_share_digit}
use Rattle.receiver_options.proofs.ShareLemmas.{IfErr-from_and, count-of, share-digit, shares-none}
use Rattle.receiver_options.proofs.ShareLemmas.{shares-other, shares-some}
use Rattle.receiver_options.proofs.slot_shares.shares_of.Goals as goal

pub loop-digit-preserved : goal.loop-digit-preserved
loop-digit-preserved c =
    let text = c.args.digits.now in
    let i = c.loop-digit.digit-index in
    let on : is_share_digit (get_or text i 0)
    ≡ true = share-digit c.new.result (get_or text i 0) true c.new.ensures.start c.new.ensures.end
    c.new.ensures.exhausted (sym c.if-not-contains.ensures.value) in
    record {
      shares = rw (
        c.in_ok-push.ensures.items,
        c.loop-digit.invariant.shares,
        take_more text i 0 c.loop-digit-test.true,
        map-append (λ c. c - 0x30) (take i text) (get_or text i 0 ∷ []),
      ) refl;
      digits = rw (
        list_all_more is_share_digit text i 0 c.loop-digit-test.true,
        c.loop-digit.invariant.digits,
        on,
      ) refl;
    }

pub returns-then-not-contains-clause-fault : goal.returns-then-not-contains-clause-fault
returns-then-not-contains-clause-fault c =
    let text = c.args.digits.now in
    let i = c.loop-digit.digit-index in
    let off : is_share_digit (get_or text i 0)
    ≡ false = share-digit c.new.result (get_or text i 0) false c.new.ensures.start c.new.ensures.end
    c.new.ensures.exhausted (sym c.if-not-contains.ensures.value) in
    inr (
      refl,
      shares-none c.args.clients text
          (list_all_at is_share_digit text i 0 c.loop-digit-test.true off),
    )

pub returns-then-len-clients-clause-given : goal.returns-then-len-clients-clause-given
returns-then-len-clients-clause-given c =
    let text = c.args.digits.now in
    let i = c.loop-digit.digit-index in
    let whole : take i text ≡ text = take_all i text c.loop-digit-test.false in
    let shares : c.loop-digit.shares.items
    ≡ map (λ c. c - 0x30) text = rw (← whole) c.loop-digit.invariant.shares in
    let all : list_all is_share_digit text ≡ true = rw (← whole) c.loop-digit.invariant.digits in
    let count : c.len.result
    ≡ length text = count-of text c.loop-digit.shares.items i c.len.result c.loop-digit-test.false
    c.loop-digit.invariant.shares (c.len.ensures ∙ c.loop-digit.shares.ok.0) in
    let same : length text ≡ c.args.clients = omega (arith, count, c.if-len-clients.true) in
    rw shares (shares-some c.args.clients text same all)

pub returns-else-len-clients-clause-fault : goal.returns-else-len-clients-clause-fault
returns-else-len-clients-clause-fault c =
    let text = c.args.digits.now in
    let count : c.len.result ≡ length text = count-of text c.loop-digit.shares.items
    c.loop-digit.digit-index c.len.result c.loop-digit-test.false c.loop-digit.invariant.shares
    (c.len.ensures ∙ c.loop-digit.shares.ok.0) in
    let other : ¬ (length text ≡ c.args.clients) = λ e. c.if-len-clients.false (count ∙ e) in
    inr (refl, shares-other c.args.clients text other)

pub returns-in_err-push-clause-given : goal.returns-in_err-push-clause-given
returns-in_err-push-clause-given c =
    IfOk-from_err c.from_residual.result _ c.from_residual.ensures.0

pub returns-in_err-push-clause-fault : goal.returns-in_err-push-clause-fault
returns-in_err-push-clause-fault c =
    IfErr-from_and c.from_residual.result c.from_residual.ensures.1 (λ _ told. inl told)
