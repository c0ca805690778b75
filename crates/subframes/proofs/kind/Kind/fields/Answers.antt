use Rattle.std.proofs.Common.{sym, ap, ◌∙◌}
use Rattle.subframes.specs.Entries.{entry_of, name_of}
use Rattle.subframes.specs.PageViews.{kind_in, named_fields_of}
use Rattle.subframes.proofs.Written.{entries_in_order}
use Rattle.subframes.proofs.kind.Kind.fields.Goals as goal

pub returns-in-Health : goal.returns-in-Health
unfolding entry_of name_of
returns-in-Health c = entries_in_order ∙ sym (ap (λ k. named_fields_of (kind_in k)) c.in-Health.is)
