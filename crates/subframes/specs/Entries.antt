-- The names of the code's fields, and the entries of the definitions' tables with these names.
use Rattle.std.specs.Prelude.{ℕ, List, [], pos, find, unwrap_or, codes, bytes_eq}
use Rattle.definitions.specs.Fields as fields
use Rattle.definitions.specs.Fields.{unsigned}
use Rattle.definitions.specs.Pages as pages
use Rattle.definitions.specs.Pages.{fields_of}
use Rattle.subframes.specs.declared.clock.ClockField.TheVariants as clock
use Rattle.subframes.specs.declared.clock.ClockField.{ClockField}
use Rattle.subframes.specs.declared.ephemeris.Eph2Field.TheVariants as eph2
use Rattle.subframes.specs.declared.ephemeris.Eph2Field.{Eph2Field}
use Rattle.subframes.specs.declared.ephemeris.Eph3Field.TheVariants as eph3
use Rattle.subframes.specs.declared.ephemeris.Eph3Field.{Eph3Field}
use Rattle.subframes.specs.declared.almanac.AlmanacField.TheVariants as almanac
use Rattle.subframes.specs.declared.almanac.AlmanacField.{AlmanacField}
use Rattle.subframes.specs.declared.utc.UtcField.TheVariants as utc
use Rattle.subframes.specs.declared.utc.UtcField.{UtcField}
use Rattle.subframes.specs.declared.health.HealthField.TheVariants as health
use Rattle.subframes.specs.declared.health.HealthField.{HealthField}
use Rattle.subframes.specs.declared.fields.Field.{Field}
use Rattle.subframes.specs.declared.fields.Field.TheVariants.{Clock, Eph2, Eph3, Almanac, Utc}
use Rattle.subframes.specs.declared.fields.Field.TheVariants.{Health}

abbrev pub clock_name : ClockField → List ℕ
clock_name clock.Wn = codes "wn"
clock_name clock.L2 = codes "l2"
clock_name clock.Ura = codes "ura"
clock_name clock.Health = codes "health"
clock_name clock.Iodc = codes "iodc"
clock_name clock.L2p = codes "l2p"
clock_name clock.Tgd = codes "tgd"
clock_name clock.Toc = codes "toc"
clock_name clock.Af2 = codes "af2"
clock_name clock.Af1 = codes "af1"
clock_name clock.Af0 = codes "af0"

abbrev pub eph2_name : Eph2Field → List ℕ
eph2_name eph2.Iode = codes "iode"
eph2_name eph2.Crs = codes "crs"
eph2_name eph2.Dn = codes "dn"
eph2_name eph2.M0 = codes "m0"
eph2_name eph2.Cuc = codes "cuc"
eph2_name eph2.E = codes "e"
eph2_name eph2.Cus = codes "cus"
eph2_name eph2.Sqrta = codes "sqrta"
eph2_name eph2.Toe = codes "toe"
eph2_name eph2.Fit = codes "fit"
eph2_name eph2.Aodo = codes "aodo"

abbrev pub eph3_name : Eph3Field → List ℕ
eph3_name eph3.Cic = codes "cic"
eph3_name eph3.Om0 = codes "om0"
eph3_name eph3.Cis = codes "cis"
eph3_name eph3.I0 = codes "i0"
eph3_name eph3.Crc = codes "crc"
eph3_name eph3.W = codes "w"
eph3_name eph3.Omdot = codes "omdot"
eph3_name eph3.Iode = codes "iode3"
eph3_name eph3.Idot = codes "idot"

abbrev pub almanac_name : AlmanacField → List ℕ
almanac_name almanac.Data = codes "data"
almanac_name almanac.Sv = codes "sv"
almanac_name almanac.E = codes "e"
almanac_name almanac.Toa = codes "toa"
almanac_name almanac.Di = codes "di"
almanac_name almanac.Omdot = codes "omdot"
almanac_name almanac.Health = codes "health"
almanac_name almanac.Sqrta = codes "sqrta"
almanac_name almanac.Om0 = codes "om0"
almanac_name almanac.W = codes "w"
almanac_name almanac.M0 = codes "m0"
almanac_name almanac.Af0 = codes "af0"
almanac_name almanac.Af1 = codes "af1"

abbrev pub utc_name : UtcField → List ℕ
utc_name utc.Data = codes "data"
utc_name utc.Sv = codes "sv"
utc_name utc.Al0 = codes "al0"
utc_name utc.Al1 = codes "al1"
utc_name utc.Al2 = codes "al2"
utc_name utc.Al3 = codes "al3"
utc_name utc.Be0 = codes "be0"
utc_name utc.Be1 = codes "be1"
utc_name utc.Be2 = codes "be2"
utc_name utc.Be3 = codes "be3"
utc_name utc.A1 = codes "a1"
utc_name utc.A0 = codes "a0"
utc_name utc.Tot = codes "tot"
utc_name utc.Wnt = codes "wnt"
utc_name utc.Dtls = codes "dtls"
utc_name utc.Wnlsf = codes "wnlsf"
utc_name utc.Dn = codes "dn"
utc_name utc.Dtlsf = codes "dtlsf"

abbrev pub health_name : HealthField → List ℕ
health_name health.Data = codes "data"
health_name health.Sv = codes "sv"
health_name health.Toa = codes "toa"
health_name health.Wna = codes "wna"
health_name health.H1 = codes "h1"
health_name health.H2 = codes "h2"
health_name health.H3 = codes "h3"
health_name health.H4 = codes "h4"
health_name health.H5 = codes "h5"
health_name health.H6 = codes "h6"
health_name health.H7 = codes "h7"
health_name health.H8 = codes "h8"
health_name health.H9 = codes "h9"
health_name health.H10 = codes "h10"
health_name health.H11 = codes "h11"
health_name health.H12 = codes "h12"
health_name health.H13 = codes "h13"
health_name health.H14 = codes "h14"
health_name health.H15 = codes "h15"
health_name health.H16 = codes "h16"
health_name health.H17 = codes "h17"
health_name health.H18 = codes "h18"
health_name health.H19 = codes "h19"
health_name health.H20 = codes "h20"
health_name health.H21 = codes "h21"
health_name health.H22 = codes "h22"
health_name health.H23 = codes "h23"
health_name health.H24 = codes "h24"

-- the entry of a table with a name
abbrev pub field_named : List fields.Field → List ℕ → fields.Field
field_named table name =
    unwrap_or (find (λ (f : fields.Field). bytes_eq f.name name) table) (unsigned [] [] (pos 0))

unfoldable pub name_of : Field → List ℕ
name_of (Clock f) = clock_name f
name_of (Eph2 f) = eph2_name f
name_of (Eph3 f) = eph3_name f
name_of (Almanac f) = almanac_name f
name_of (Utc f) = utc_name f
name_of (Health f) = health_name f

-- the kind of the pages that have a field
abbrev pub kind_with : Field → pages.Kind
kind_with (Clock f) = pages.clock
kind_with (Eph2 f) = pages.eph2
kind_with (Eph3 f) = pages.eph3
kind_with (Almanac f) = pages.almanac
kind_with (Utc f) = pages.utc
kind_with (Health f) = pages.health

-- the entry that a field is
unfoldable pub entry_of : Field → fields.Field
entry_of f = field_named (fields_of (kind_with f)) (name_of f)
