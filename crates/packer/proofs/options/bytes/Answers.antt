use Rattle.std.proofs.Common.{◌∙◌, arith}
use Rattle.packer.proofs.TextLemmas.{number_read, bytes_beyond, bytes_whole, bytes_split}
use Rattle.packer.proofs.options.bytes.Goals as goal

pub returns-then-count-gt-MOST_TIME-clause-value :
    goal.returns-then-count-gt-MOST_TIME-clause-value
returns-then-count-gt-MOST_TIME-clause-value c =
    bytes_beyond c.args.recipe.now _ c.unwrap_or-count.result
    (c.unwrap_or-count.ensures
    ∙ number_read _ c.get_one.result 0 c.get_one.ensures.none c.get_one.ensures.value)
    (omega (arith, c.if-count-gt-MOST_TIME.true))

pub returns-then-bits-eq0-clause-value : goal.returns-then-bits-eq0-clause-value
returns-then-bits-eq0-clause-value c =
    bytes_whole c.args.recipe.now _ c.unwrap_or-count.result c.sample_bits.result
    (c.unwrap_or-count.ensures
    ∙ number_read _ c.get_one.result 0 c.get_one.ensures.none c.get_one.ensures.value)
    c.sample_bits.ensures.value (omega (arith, c.if-count-gt-MOST_TIME.false))
    (omega (arith, c.if-bits-eq0.true))

pub returns-else-bits-eq0-clause-value : goal.returns-else-bits-eq0-clause-value
returns-else-bits-eq0-clause-value c =
    bytes_split c.args.recipe.now _ c.unwrap_or-count.result c.sample_bits.result
    (c.unwrap_or-count.ensures
    ∙ number_read _ c.get_one.result 0 c.get_one.ensures.none c.get_one.ensures.value)
    c.sample_bits.ensures.value (omega (arith, c.if-count-gt-MOST_TIME.false))
    (omega (arith, c.if-bits-eq0.false))
