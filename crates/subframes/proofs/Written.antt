-- The names that the definitions compute for the health of satellites 1 to 24 are the written ones.
use Rattle.std.proofs.Common.{◌≡◌, ℕ, zero, suc, ◌+◌, ◌/◌, ◌%◌, ◌*◌, ◌<◌, ◌≤◌, List, [], ◌∷◌, ◌++◌}
use Rattle.std.proofs.Common.{map, refl, sym, ap, ◌∙◌, arith, inl, inr}
use Rattle.std.proofs.Math.Path.{ap₂}
use Rattle.std.specs.Prelude.{codes, pos, nat_lt, cond}
use Rattle.std.specs.Fmt.{decimal}
use Rattle.std.specs.List.{range_with_len}
use Rattle.std.proofs.lemmas.Bool.{cases_lt, lt-ltb, le-ltb, cond-true, cond-false}
use Rattle.std.proofs.lemmas.Fmt.{decimal_digit, decimal_step}
use Rattle.definitions.specs.Fields as fields
use Rattle.definitions.specs.Fields.{unsigned, bits, place_of, health_field, health_fields}
use Rattle.subframes.specs.Entries.{health_name, field_named}
use Rattle.subframes.specs.declared.health.HealthField.{HealthField}
use Rattle.subframes.specs.declared.health.HealthField.TheVariants as health

-- one or two digits
abbrev written : ℕ → List ℕ
written n = cond (nat_lt n 10) ((48 + n) ∷ []) ((48 + n / 10) ∷ (48 + n % 10) ∷ [])

decimal-written : (n : ℕ) → n < 100 → decimal n ≡ written n
decimal-written n h = elim (cases_lt n 10) [
  | inl below ↦ decimal_digit n below
      ∙ sym (cond-true (nat_lt n 10) ((48 + n) ∷ []) ((48 + n / 10) ∷ (48 + n % 10) ∷ [])
      (lt-ltb n 10 below))
  | inr above ↦ decimal_step n above (omega arith)
      ∙ ap (λ ds. ds ++ ((48 + n % 10) ∷ [])) (decimal_digit (n / 10) (omega arith))
      ∙ sym (cond-false (nat_lt n 10) ((48 + n) ∷ []) ((48 + n / 10) ∷ (48 + n % 10) ∷ [])
      (le-ltb n 10 above))
]

abbrev written_field : ℕ → fields.Field
written_field k = let first = 91 + 30 * (k / 4) + 6 * (k % 4) in
    unsigned (codes "h" ++ written (k + 1)) (bits first (first + 5) ∷ []) (pos 0)

all_written : (a n : ℕ) → a + n ≤ 24
    → map health_field (range_with_len a n) ≡ map written_field (range_with_len a n)
all_written a zero h = refl
all_written a (suc n) h =
    ap₂ (λ (f : fields.Field) (fs : List fields.Field). f ∷ fs)
    (ap (λ ds. let first = 91 + 30 * (a / 4) + 6 * (a % 4) in
    unsigned (codes "h" ++ ds) (bits first (first + 5) ∷ []) (pos 0))
    (decimal-written (a + 1) (omega arith)))
    (all_written (a + 1) n (omega arith))

-- the table of health with the names as they are written
abbrev pub written_fields : List fields.Field
written_fields = unsigned (codes "data") (bits 61 62 ∷ []) (pos 0)
    ∷ unsigned (codes "sv") (bits 63 68 ∷ []) (pos 0)
    ∷ unsigned (codes "toa") (bits 69 76 ∷ []) (pos 12)
    ∷ unsigned (codes "wna") (bits 77 84 ∷ []) (pos 0)
    ∷ map written_field (range_with_len 0 24)

pub health_fields-written : health_fields ≡ written_fields
health_fields-written =
    ap (λ fs. unsigned (codes "data") (bits 61 62 ∷ []) (pos 0)
    ∷ unsigned (codes "sv") (bits 63 68 ∷ []) (pos 0)
    ∷ unsigned (codes "toa") (bits 69 76 ∷ []) (pos 12)
    ∷ unsigned (codes "wna") (bits 77 84 ∷ []) (pos 0) ∷ fs)
    (all_written 0 24 (omega arith))

-- a line, and a place, that is found there by its name
pub line : (f : HealthField) (found : fields.Field)
    → found ≡ field_named written_fields (health_name f)
    → found ≡ field_named health_fields (health_name f)
line f found e = e ∙ ap (λ table. field_named table (health_name f)) (sym health_fields-written)

pub place : (f : HealthField) (found : ℕ)
    → found ≡ place_of (health_name f) written_fields
    → found ≡ place_of (health_name f) health_fields
place f found e = e ∙ ap (place_of (health_name f)) (sym health_fields-written)

abbrev in_order : List HealthField
in_order = health.Data ∷ health.Sv ∷ health.Toa ∷ health.Wna
    ∷ health.H1 ∷ health.H2 ∷ health.H3 ∷ health.H4 ∷ health.H5 ∷ health.H6
    ∷ health.H7 ∷ health.H8 ∷ health.H9 ∷ health.H10 ∷ health.H11 ∷ health.H12
    ∷ health.H13 ∷ health.H14 ∷ health.H15 ∷ health.H16 ∷ health.H17 ∷ health.H18
    ∷ health.H19 ∷ health.H20 ∷ health.H21 ∷ health.H22 ∷ health.H23 ∷ health.H24 ∷ []

found_in_order : (table : List fields.Field) → table ≡ written_fields
    → map (λ f. field_named table (health_name f)) in_order ≡ table
found_in_order table e = rw e refl

pub entries_in_order : map (λ f. field_named health_fields (health_name f)) in_order ≡ health_fields
entries_in_order = found_in_order health_fields health_fields-written
