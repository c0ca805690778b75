use Rattle.definitions.specs.BitEdge.{bits_of}
use Rattle.std.proofs.Common.{[], ◌∷◌, ◌++◌, ◌∙◌, sym}
use Rattle.std.proofs.lemmas.Int.{to_z-of_z}
use Rattle.std.proofs.lemmas.List.{append-nil}
use Rattle.bit_sync.specs.Standing.{StandsFor}
use Rattle.bit_sync.proofs.ChangeLemmas.{edge_of_push-some}
use Rattle.bit_sync.proofs.BitsLemmas.{bits_of-none, bits_of-edge, edge_of-kept}
use Rattle.bit_sync.proofs.bit_sync.BitSync.push.Goals as goal

pub returns-then-push-clause-stands : goal.returns-then-push-clause-stands
unfolding StandsFor
returns-then-push-clause-stands c pushes h =
    let fits = c.ranges.ip in
    let before = rw c.in-Searching.is at h in
    let edge =
    edge_of_push-some pushes _ before.no_edge
    (c.push.ensures.found pushes before ∙ c.if-push.true) in
    simp to_z-of_z at (c.begun_with.ensures pushes edge)

pub returns-then-push-clause-tells : goal.returns-then-push-clause-tells
unfolding StandsFor
returns-then-push-clause-tells c pushes h =
    let fits = c.ranges.ip in
    let before = rw c.in-Searching.is at h in
    let found = simp to_z-of_z at (c.push.ensures.found pushes before) in
    let edge = edge_of_push-some pushes c.args.ip before.no_edge (found ∙ c.if-push.true) in (
      before.no_edge,
      edge,
      bits_of-edge pushes c.args.ip edge
          ∙ sym (bits_of-none pushes before.no_edge),
    )

pub returns-else-push-clause-stands : goal.returns-else-push-clause-stands
unfolding StandsFor
returns-else-push-clause-stands c pushes h =
    let fits = c.ranges.ip in
    let before = rw c.in-Searching.is at h in
    simp to_z-of_z at (c.push.ensures.goes_on pushes before c.if-push.false)

pub returns-else-push-clause-tells : goal.returns-else-push-clause-tells
unfolding StandsFor
returns-else-push-clause-tells c pushes h =
    let fits = c.ranges.ip in
    let before = rw c.in-Searching.is at h in
    let behind = simp to_z-of_z at (c.push.ensures.goes_on pushes before c.if-push.false) in (
      behind.no_edge ∙ sym before.no_edge,
      bits_of-none (pushes ++ c.args.ip ∷ []) behind.no_edge
          ∙ sym (bits_of-none pushes before.no_edge),
    )

pub returns-in-Some-clause-stands : goal.returns-in-Some-clause-stands
unfolding StandsFor
returns-in-Some-clause-stands c pushes h =
    let fits = c.ranges.ip in
    let before = rw c.in-Summing.is at h in
    simp to_z-of_z at (c.push-in-Summing.ensures.goes_on pushes before)

pub returns-in-Some-clause-tells : goal.returns-in-Some-clause-tells
unfolding StandsFor
returns-in-Some-clause-tells c pushes h =
    let fits = c.ranges.ip in
    let before = rw c.in-Summing.is at h in (
      edge_of-kept pushes c.args.ip c.in-Summing.sum before,
      simp to_z-of_z at (c.in-Some.ensures.bit pushes before),
    )

pub returns-in-None-clause-stands : goal.returns-in-None-clause-stands
unfolding StandsFor
returns-in-None-clause-stands c pushes h =
    let fits = c.ranges.ip in
    let before = rw c.in-Summing.is at h in
    simp to_z-of_z at (c.push-in-Summing.ensures.goes_on pushes before)

pub returns-in-None-clause-tells : goal.returns-in-None-clause-tells
unfolding StandsFor
returns-in-None-clause-tells c pushes h =
    let fits = c.ranges.ip in
    let before = rw c.in-Summing.is at h in (
      edge_of-kept pushes c.args.ip c.in-Summing.sum before,
      (simp to_z-of_z at (c.in-None.ensures.bit pushes before)) ∙ append-nil (bits_of pushes),
    )
