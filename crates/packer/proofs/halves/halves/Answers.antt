use Rattle.std.proofs.Common.{◌≡◌, ◌∙◌, sym, ap, ℤ, pos, ◌-ℤ◌, to_z, of_z, w32, arith}
use Rattle.std.specs.Prelude.{option_map, neg_ℤ, Some}
use Rattle.std.proofs.lemmas.Int.{ints, to_z-of_z, to_z_pos, fits_signed_from_abs}
use Rattle.packer.proofs.TextLemmas.{halves_minus, halves_plain}
use Rattle.packer.proofs.halves.halves.Goals as goal

pub returns-in_err-twice-in-Some : goal.returns-in_err-twice-in-Some
returns-in_err-twice-in-Some c =
    let strip = c.in-Some.ensures.cases in
    c.from_residual.ensures
    ∙ sym (halves_minus c.args.text.now c.in-Some.digits.now strip.0 strip.1.1 strip.1.0 strip.2
    ∙ ap (option_map (λ n. neg_ℤ (pos n)))
    (sym c.twice.ensures.value ∙ c.in_err-twice-in-Some.was))

pub returns-in_err-twice-in-None : goal.returns-in_err-twice-in-None
returns-in_err-twice-in-None c =
    c.from_residual-in_err-twice-in-None.ensures
    ∙ sym (halves_plain c.args.text.now c.in-None.ensures.cases
    ∙ ap (option_map (λ n. pos n))
    (sym c.twice-in-None.ensures.value ∙ c.in_err-twice-in-None.was))

pub returns-in_ok-twice-in-Some : goal.returns-in_ok-twice-in-Some
returns-in_ok-twice-in-Some c =
    let strip = c.in-Some.ensures.cases in
    let n = c.in_ok-twice-in-Some.field-0 in
    let plain : to_z w32 n ≡ pos n =
    to_z_pos w32 n (omega (arith, c.in_ok-twice-in-Some.ensures.most)) in
    let size : pos 0 -ℤ pos n ≡ neg_ℤ (pos n) = omega (arith, ints) in
    let turned : to_z w32 (of_z w32 (pos 0 -ℤ to_z w32 n)) ≡ neg_ℤ (pos n) =
    ap (λ (z : ℤ). to_z w32 (of_z w32 (pos 0 -ℤ z))) plain
    ∙ ap (λ (z : ℤ). to_z w32 (of_z w32 z)) size
    ∙ to_z-of_z w32 (neg_ℤ (pos n)) (fits_signed_from_abs w32 (neg_ℤ (pos n))
    (omega (arith, ints, c.in_ok-twice-in-Some.ensures.most))) in
    ap (λ (z : ℤ). Some z) turned
    ∙ sym (halves_minus c.args.text.now c.in-Some.digits.now strip.0 strip.1.1 strip.1.0 strip.2
    ∙ ap (option_map (λ n. neg_ℤ (pos n)))
    (sym c.twice.ensures.value ∙ c.in_ok-twice-in-Some.was))

pub returns-in_ok-twice-in-None : goal.returns-in_ok-twice-in-None
returns-in_ok-twice-in-None c =
    let n = c.in_ok-twice-in-None.field-0 in
    let plain : to_z w32 n ≡ pos n =
    to_z_pos w32 n (omega (arith, c.in_ok-twice-in-None.ensures.most)) in
    ap (λ (z : ℤ). Some z) plain
    ∙ sym (halves_plain c.args.text.now c.in-None.ensures.cases
    ∙ ap (option_map (λ n. pos n))
    (sym c.twice-in-None.ensures.value ∙ c.in_ok-twice-in-None.was))
