use Rattle.std.proofs.Common.{length, length-append, rules, arith, ap, ◌∙◌}
use Rattle.std.proofs.Common.{FitsSigned, w8, w64}
use Rattle.std.proofs.lemmas.Int.{to_z-of_z, ints}
use Rattle.std.specs.Fmt.{signed_decimal}
use Rattle.subframes.specs.Entries.{entry_of}
use Rattle.printed_lines.proofs.FieldLemmas.{entry-length, field-words}
use Rattle.printed_lines.proofs.pages.put_field.Goals as goal

pub text-requires-2 : goal.text-requires-2
text-requires-2 c =
    let short = entry-length c.args.field in
    let name = c.as_bytes.ensures.value ∙ c.name.ensures.entry in
    record { room = rw name (omega (arith, short, c.text.ensures.longer, c.requires.room)) }

pub text-requires-3 : goal.text-requires-3
text-requires-3 c =
    let short = entry-length c.args.field in
    let name = c.as_bytes.ensures.value ∙ c.name.ensures.entry in
    let longer = rw name at c.text-2.ensures.longer in
    record { room = omega (arith, short, c.text.ensures.longer, longer, c.requires.room) }

pub integer-requires : goal.integer-requires
integer-requires c =
    let short = entry-length c.args.field in
    let name = c.as_bytes.ensures.value ∙ c.name.ensures.entry in
    let longer = rw name at c.text-2.ensures.longer in
    record {
      room =
          omega (
            arith,
            short,
            c.text.ensures.longer,
            longer,
            c.text-3.ensures.longer,
            c.requires.room,
          );
    }

pub text-requires-4 : goal.text-requires-4
text-requires-4 c =
    let short = entry-length c.args.field in
    let name = c.as_bytes.ensures.value ∙ c.name.ensures.entry in
    let longer = rw name at c.text-2.ensures.longer in
    record {
      room =
          omega (
            arith,
            short,
            c.text.ensures.longer,
            longer,
            c.text-3.ensures.longer,
            c.integer.ensures.longer,
            c.requires.room,
          );
    }

pub integer-requires-2 : goal.integer-requires-2
integer-requires-2 c =
    let short = entry-length c.args.field in
    let name = c.as_bytes.ensures.value ∙ c.name.ensures.entry in
    let longer = rw name at c.text-2.ensures.longer in
    record {
      room =
          omega (
            arith,
            short,
            c.text.ensures.longer,
            longer,
            c.text-3.ensures.longer,
            c.integer.ensures.longer,
            c.text-4.ensures.longer,
            c.requires.room,
          );
    }

pub returns-clause-text : goal.returns-clause-text
returns-clause-text c =
    let value : FitsSigned w64 c.args.value = search rules in
    let exponent : FitsSigned w8 c.exponent.result = search rules in
    let wide : FitsSigned w64 c.exponent.result = search (rules, arith, ints) in
    let name = c.as_bytes.ensures.value ∙ c.name.ensures.entry in
    rw (
      c.integer-2.ensures.text,
      c.into.ensures,
      to_z-of_z w8 c.exponent.result exponent,
      to_z-of_z w64 c.exponent.result wide,
      c.exponent.ensures,
      c.text-4.ensures.text,
      c.integer.ensures.text,
      to_z-of_z w64 c.args.value value,
      c.text-3.ensures.text,
      c.text-2.ensures.text,
      name,
      c.text.ensures.text,
    )
    (field-words c.args.line.now (entry_of c.args.field) c.args.value)

pub returns-clause-longer : goal.returns-clause-longer
returns-clause-longer c =
    let short = entry-length c.args.field in
    let name = c.as_bytes.ensures.value ∙ c.name.ensures.entry in
    let longer = rw name at c.text-2.ensures.longer in
    let exponent : FitsSigned w8 c.exponent.result = search rules in
    let wide : FitsSigned w64 c.exponent.result = search (rules, arith, ints) in
    let last =
    rw (
      c.into.ensures,
      to_z-of_z w8 c.exponent.result exponent,
      to_z-of_z w64 c.exponent.result wide,
      c.exponent.ensures,
    ) at c.integer-2.ensures.text in
    let end =
    ap length last
    ∙ length-append c.text-4.new.self (signed_decimal (entry_of c.args.field).exponent) in
    omega (
      arith,
      short,
      c.text.ensures.longer,
      longer,
      c.text-3.ensures.longer,
      c.integer.ensures.longer,
      c.text-4.ensures.longer,
      end,
    )
