use Rattle.std.proofs.Common.{◌≡◌, ℕ, zero, suc, ◌+◌, ◌-◌, ◌*◌, ◌/◌, ◌%◌, ◌<◌, [], ◌∷◌}
use Rattle.std.proofs.Common.{refl, ap, ◌∙◌, arith, inl, inr}
use Rattle.std.specs.Prelude.{slice_index}
use Rattle.sample_planes.specs.Packings.{IsWidth}
use Rattle.sample_planes.proofs.layout.WordLayout.bytes.Goals as goal

-- where sixteen lanes begin
begins : (a s b : ℕ) → b < 4
    → slice_index ((a + 3 * s) ∷ (a + 2 * s) ∷ (a + s) ∷ a ∷ []) b ≡ a + (3 - b) * s
begins a s zero h = refl
begins a s (suc zero) h = refl
begins a s (suc (suc zero)) h = omega arith
begins a s (suc (suc (suc zero))) h = omega arith
begins a s (suc (suc (suc (suc b)))) h = absurd (omega (arith, h))

-- the byte of a sample, from that of its place among sixteen
counted : (width start w j byte : ℕ) → IsWidth width → j < 64
    → byte ≡ width * (start + 15 - (63 - j) % 16) / 8
    → 8 * width * w + (3 - (63 - j) / 16) * (2 * width) + byte
    ≡ width * (start + 64 * w + j) / 8
counted width start w j byte wide below at = elim wide [
  | inl one ↦ let is : byte ≡ 1 * (start + 15 - (63 - j) % 16) / 8 = rw one at at in
      rw one (omega (arith, is, below))
  | inr more ↦ elim more [
    | inl two ↦ let is : byte ≡ 2 * (start + 15 - (63 - j) % 16) / 8 = rw two at at in
        rw two (omega (arith, is, below))
    | inr four ↦ let is : byte ≡ 4 * (start + 15 - (63 - j) % 16) / 8 = rw four at at in
        rw four (omega (arith, is, below))
  ]
]

there : (v width start w j byte : ℕ) → v ≡ width → IsWidth width → j < 64
    → byte ≡ width * (start + 15 - (63 - j) % 16) / 8
    → slice_index ((8 * v * w + 3 * (2 * v)) ∷ (8 * v * w + 2 * (2 * v)) ∷ (8 * v * w + 2 * v)
    ∷ (8 * v * w) ∷ []) ((63 - j) / 16) + byte ≡ width * (start + 64 * w + j) / 8
there v width start w j byte same wide below at =
    let row : (63 - j) / 16 < 4 = omega arith in
    rw (begins (8 * v * w) (2 * v) ((63 - j) / 16) row, same)
    (counted width start w j byte wide below at)

pub returns-clause-bytes : goal.returns-clause-bytes
returns-clause-bytes c width start is j below =
    let lane : 63 - j < 64 = omega arith in
    let l = c.args.self.now in
    c.pick_from_four.ensures.picked (63 - j) lane
    ∙ ap (slice_index c.args.near.now) (there l.width width start c.args.w j
    (slice_index l.bytes (63 - j)) is.width_is is.is_width below (is.bytes (63 - j) lane))
