use Rattle.std.proofs.Common.{take, ap, rules}
use Rattle.std.specs.Prelude.{option_map}
use Rattle.receiver_options.proofs.FileLemmas.{whole-text}
use Rattle.receiver_options.proofs.script_files.script_from.Goals as goal

pub returns-in-Ok-clause-whole : goal.returns-in-Ok-clause-whole
returns-in-Ok-clause-whole g c =
    let limit = c.take.result.limit in
    whole-text (g.R.Read.remaining c.args.reader) _ limit c.new-bytes.result.items
    c.read_to_end.new.buf.items
    (ap (λ reader. option_map (take limit) (g.R.Read.remaining reader)) c.take.ensures.inner)
    c.take.ensures.limit c.new-bytes.ensures.items c.in-Ok.ensures.bytes (search rules)
