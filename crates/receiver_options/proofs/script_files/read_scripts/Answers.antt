use Rattle.std.proofs.Common.{◌∙◌, ap, map}
use Rattle.std.proofs.lemmas.List.{map_push}
use Rattle.receiver_options.proofs.FileLemmas.{texts-more, read-refused}
use Rattle.receiver_options.proofs.script_files.read_scripts.Goals as goal

pub returns-in_err-read-clause-fault : goal.returns-in_err-read-clause-fault
returns-in_err-read-clause-fault g c =
    read-refused (λ path. g.S.ScriptFiles.bytes_of c.args.files.now path.now) c.args.paths.now
    c.loop-path.path-index _ c.from_residual.result c.in_err-read.field-0.0
    c.loop-path-test.true c.from_residual.ensures.1 c.in_err-read.ensures.fault

pub loop-path-preserved : goal.loop-path-preserved
loop-path-preserved g c =
    texts-more (λ path. g.S.ScriptFiles.bytes_of c.args.files.now path.now) c.args.paths.now
    c.loop-path.path-index _ (map (λ text. text.items) c.loop-path.texts.items)
    _ c.in_ok-read.field-0.items c.loop-path-test.true
    (ap (map (λ text. text.items)) c.in_ok-push.ensures.items
    ∙ map_push (λ text. text.items) c.loop-path.texts.items c.in_ok-read.field-0)
    c.loop-path.invariant c.in_ok-read.ensures.whole
