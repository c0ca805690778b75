use Rattle.std.proofs.Common.{rules, ◌≡◌, length, w32, refl, ap, ◌∙◌, sym}
use Rattle.std.specs.Prelude.{ℤ, Some}
use Rattle.std.specs.Int.{is_negative}
use Rattle.std.proofs.lemmas.Int.{to_z-of_z}
use Rattle.bit_sync.proofs.SearchLemmas.{unturned-found, turned-found, turned-not_found}
use Rattle.bit_sync.proofs.SearchLemmas.{unturned-goes_on, turned-goes_on, crowded-goes_on}
use Rattle.bit_sync.proofs.edge_search.EdgeSearch.push.Goals as goal

pub returns-then-not-is_change-clause-found : goal.returns-then-not-is_change-clause-found
returns-then-not-is_change-clause-found c pushes h =
    let fits = c.ranges.ip in
    let turn = simp to_z-of_z at c.turns-is_change.ensures in
    unturned-found pushes c.args.ip c.args.self.now h (sym turn ∙ c.if-not-is_change.true)

pub returns-then-not-is_change-clause-goes_on : goal.returns-then-not-is_change-clause-goes_on
returns-then-not-is_change-clause-goes_on c pushes h over =
    let fits = c.ranges.ip in
    let turn = simp to_z-of_z at c.turns-is_change.ensures in
    unturned-goes_on pushes c.args.ip c.args.self.now h _ (sym turn ∙ c.if-not-is_change.true) refl
    (ap (λ (z : ℤ). Some (is_negative z)) (to_z-of_z w32 c.args.ip fits)) refl

pub returns-then-changes-eq-EDGE_CHANGES-clause-found :
    goal.returns-then-changes-eq-EDGE_CHANGES-clause-found
returns-then-changes-eq-EDGE_CHANGES-clause-found c pushes h =
    let fits = c.ranges.ip in
    let turn = simp to_z-of_z at c.turns-is_change.ensures in
    turned-found pushes c.args.ip c.args.self.now h (sym turn ∙ c.if-not-is_change.false)
    c.if-changes-eq-EDGE_CHANGES.true

pub returns-then-is_crowded-clause-found : goal.returns-then-is_crowded-clause-found
returns-then-is_crowded-clause-found c pushes h =
    let fits = c.ranges.ip in
    let turn = simp to_z-of_z at c.turns-is_change.ensures in
    turned-not_found pushes c.args.ip c.args.self.now h (sym turn ∙ c.if-not-is_change.false)
    c.if-changes-eq-EDGE_CHANGES.false

pub returns-then-is_crowded-clause-goes_on : goal.returns-then-is_crowded-clause-goes_on
returns-then-is_crowded-clause-goes_on c pushes h over =
    let fits = c.ranges.ip in
    let turn = simp to_z-of_z at c.turns-is_change.ensures in
    let n : length c.args.self.now.changes ≡ 20 = search rules in
    crowded-goes_on pushes c.args.ip c.args.self.now h _ _ (sym turn ∙ c.if-not-is_change.false)
    c.if-changes-eq-EDGE_CHANGES.false n refl (sym c.is_crowded.ensures ∙ c.if-is_crowded.true)
    refl (ap (λ (z : ℤ). Some (is_negative z)) (to_z-of_z w32 c.args.ip fits)) refl

pub returns-else-is_crowded-clause-found : goal.returns-else-is_crowded-clause-found
returns-else-is_crowded-clause-found c pushes h =
    let fits = c.ranges.ip in
    let turn = simp to_z-of_z at c.turns-is_change.ensures in
    turned-not_found pushes c.args.ip c.args.self.now h (sym turn ∙ c.if-not-is_change.false)
    c.if-changes-eq-EDGE_CHANGES.false

pub returns-else-is_crowded-clause-goes_on : goal.returns-else-is_crowded-clause-goes_on
returns-else-is_crowded-clause-goes_on c pushes h over =
    let fits = c.ranges.ip in
    let turn = simp to_z-of_z at c.turns-is_change.ensures in
    let n : length c.args.self.now.changes ≡ 20 = search rules in
    turned-goes_on pushes c.args.ip c.args.self.now h _ (sym turn ∙ c.if-not-is_change.false)
    c.if-changes-eq-EDGE_CHANGES.false n refl (sym c.is_crowded.ensures ∙ c.if-is_crowded.false)
    refl (ap (λ (z : ℤ). Some (is_negative z)) (to_z-of_z w32 c.args.ip fits))
