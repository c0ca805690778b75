use Rattle.std.proofs.Common.{◌≢◌, ◌∙◌, rules}
use Rattle.subframes.proofs.Presence.{kind_of-page}
use Rattle.subframes.proofs.kind.Kind.of.Goals as goal

pub returns-in_default : goal.returns-in_default
returns-in_default c =
    let not_one : c.id.result ≢ 1 = search rules in
    let not_two : c.id.result ≢ 2 = search rules in
    let not_three : c.id.result ≢ 3 = search rules in
    c.of_page.ensures ∙ kind_of-page c.args.subframe.now c.id.result c.number.result c.id.ensures.id
    c.number.ensures.number not_one not_two not_three
