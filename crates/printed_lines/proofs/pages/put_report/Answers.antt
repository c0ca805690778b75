use Rattle.std.proofs.Common.{◌≡◌, ◌++◌, ◌∷◌, ap, sym, ◌∙◌}
use Rattle.std.specs.Prelude.{ℕ, List}
use Rattle.definitions.specs.Events.{reported}
use Rattle.definitions.specs.Texts.{event_text}
use Rattle.data_sets.specs.Reports.{report_in}
use Rattle.data_sets.specs.declared.report.Report.{Report}
use Rattle.printed_lines.proofs.FieldLemmas.{eph-text, alm-text, utc-text, hlt-text}
use Rattle.printed_lines.proofs.pages.put_report.Goals as goal

-- the text of a report that is known
known : (line : List ℕ) (slot : ℕ) (report now : Report) → now ≡ report
    → line ++ 32 ∷ event_text slot (reported (report_in report))
    ≡ line ++ 32 ∷ event_text slot (reported (report_in now))
known line slot report now e =
    ap (λ (x : Report). line ++ 32 ∷ event_text slot (reported (report_in x))) (sym e)

-- the words after a line
behind : (line a b : List ℕ) → a ≡ b → line ++ 32 ∷ a ≡ line ++ 32 ∷ b
behind line a b e = ap (λ (x : List ℕ). line ++ 32 ∷ x) e

pub returns-in-Eph-clause-text : goal.returns-in-Eph-clause-text
returns-in-Eph-clause-text c =
    rw c.in-Eph.is at c.put_page.ensures.text
    ∙ behind c.args.line.now _ _ (eph-text c.args.slot c.in-Eph.field-0)
    ∙ known c.args.line.now c.args.slot _ c.args.report.now c.in-Eph.is

pub returns-in-Alm-clause-text : goal.returns-in-Alm-clause-text
returns-in-Alm-clause-text c =
    rw c.in-Alm.is at c.put_page-in-Alm.ensures.text
    ∙ behind c.args.line.now _ _ (alm-text c.args.slot c.in-Alm.field-0)
    ∙ known c.args.line.now c.args.slot _ c.args.report.now c.in-Alm.is

pub returns-in-Utc-clause-text : goal.returns-in-Utc-clause-text
returns-in-Utc-clause-text c =
    rw c.in-Utc.is at c.put_page-in-Utc.ensures.text
    ∙ behind c.args.line.now _ _ (utc-text c.args.slot c.in-Utc.field-0)
    ∙ known c.args.line.now c.args.slot _ c.args.report.now c.in-Utc.is

pub returns-in-Hlt-clause-text : goal.returns-in-Hlt-clause-text
returns-in-Hlt-clause-text c =
    rw c.in-Hlt.is at c.put_page-in-Hlt.ensures.text
    ∙ behind c.args.line.now _ _ (hlt-text c.args.slot c.in-Hlt.field-0)
    ∙ known c.args.line.now c.args.slot _ c.args.report.now c.in-Hlt.is
