-- Worked examples of what options ask for: by docs/FORMATS.md, which has their names and ranges.
use Rattle.std.proofs.Common.{◌≡◌, [], ◌∷◌, refl}
use Rattle.std.specs.Prelude.{pos, neg_ℤ, true, false, map, Some, None, codes}
use Rattle.sample_planes.specs.declared.format.Format.TheVariants.{Real1, Real2, Iq1, Iq2}
use Rattle.recordings.specs.declared.value_kind.ValueKind.TheVariants.{U8, I8, I16, I16Be, F32}
use Rattle.recordings.specs.declared.value_kind.ValueKind.TheVariants.{Bits2Low, SignSizeLow}
use Rattle.recordings.specs.declared.value_kind.ValueKind.TheVariants.{Bits1Low, Bits1High}
use Rattle.sample_planes.specs.Names.{named_format}
use Rattle.packer.specs.Options.{kind_in, is_pairs_name, halves_in, halves_or}
use Rattle.packer.specs.Options.{usual_centre, threshold_in, is_second, twice_in, is_below_zero}

kinds : map kind_in (codes "u8" ∷ codes "i8" ∷ codes "i16" ∷ codes "i16be" ∷ codes "f32"
    ∷ codes "bits2-low" ∷ codes "bits2-sm-low" ∷ codes "bits1-low" ∷ codes "bits1-high" ∷ [])
    ≡ U8 ∷ I8 ∷ I16 ∷ I16Be ∷ F32 ∷ Bits2Low ∷ SignSizeLow ∷ Bits1Low ∷ Bits1High ∷ []
unfolding kind_in
kinds = refl

-- pairs have the kinds that real values have
kinds_of_pairs : map kind_in (codes "iq-i16be" ∷ codes "iq-bits2-sm-low" ∷ [])
    ≡ I16Be ∷ SignSizeLow ∷ []
unfolding kind_in
kinds_of_pairs = refl

pairs : map is_pairs_name (codes "iq-i8" ∷ codes "i8" ∷ codes "iq" ∷ []) ≡ true ∷ false ∷ false ∷ []
pairs = refl

formats : map named_format (codes "real1" ∷ codes "real2" ∷ codes "iq1" ∷ codes "iq2" ∷ codes "iq"
    ∷ []) ≡ Some Real1 ∷ Some Real2 ∷ Some Iq1 ∷ Some Iq2 ∷ None ∷ []
formats = refl

-- twice the numbers 12, -3, 127.5, -0.5 and 1000000.5
halves : map halves_in (codes "12" ∷ codes "-3" ∷ codes "127.5" ∷ codes "-0.5"
    ∷ codes "1000000.5" ∷ [])
    ≡ Some (pos 24) ∷ Some (neg_ℤ (pos 6)) ∷ Some (pos 255) ∷ Some (neg_ℤ (pos 1))
    ∷ Some (pos 2000001) ∷ []
unfolding halves_in twice_in
halves = refl

-- too great, another fraction, no whole part, two signs, and nothing
no_halves : map halves_in (codes "1000001" ∷ codes "1.7" ∷ codes ".5" ∷ codes "--3" ∷ [] ∷ [])
    ≡ None ∷ None ∷ None ∷ None ∷ None ∷ []
unfolding halves_in twice_in
no_halves = refl

-- unsigned bytes are about 127.5, and all else about 0
centres : map usual_centre (U8 ∷ I8 ∷ I16 ∷ F32 ∷ Bits2Low ∷ [])
    ≡ pos 255 ∷ pos 0 ∷ pos 0 ∷ pos 0 ∷ pos 0 ∷ []
centres = refl

centre_by_default : halves_or (pos 5) None ∷ halves_or (pos 5) (Some (codes "-1")) ∷ []
    ≡ Some (pos 5) ∷ Some (neg_ℤ (pos 2)) ∷ []
unfolding halves_in twice_in
centre_by_default = refl

-- two bits a part need a threshold; it is at least 0
thresholds : threshold_in I8 Real1 None ∷ threshold_in I8 Iq1 None ∷ threshold_in I8 Real2 None
    ∷ threshold_in I8 Iq2 None ∷ threshold_in I8 Real2 (Some (codes "2.5"))
    ∷ threshold_in I8 Real2 (Some (codes "0")) ∷ threshold_in I8 Real2 (Some (codes "-0.5")) ∷ []
    ≡ Some 0 ∷ Some 0 ∷ None ∷ None ∷ Some 5 ∷ Some 0 ∷ None ∷ []
unfolding halves_in twice_in
thresholds = refl

-- a float however small is below 0 where its text is, and -0 isn't
below_zero : map is_below_zero (codes "-1" ∷ codes "-1e-46" ∷ codes "-.9" ∷ codes "-0"
    ∷ codes "-0.0" ∷ codes "1e-46" ∷ [])
    ≡ true ∷ true ∷ true ∷ false ∷ false ∷ false ∷ []
below_zero = refl

parts : map is_second (Some (codes "i") ∷ Some (codes "q") ∷ None ∷ []) ≡ false ∷ true ∷ false ∷ []
parts = refl
