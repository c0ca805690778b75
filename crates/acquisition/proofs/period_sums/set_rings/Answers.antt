use Rattle.std.proofs.Common.{sym, ◌∙◌}
use Rattle.std.proofs.lemmas.Bool.{false≢true}
use Rattle.acquisition.proofs.period_sums.set_rings.Goals as goal

pub returns-then-is_small : goal.returns-then-is_small
returns-then-is_small c =
    record {
      pairs = λ _. c.set_pairs.ensures;
      in_phase = λ no. absurd (false≢true (sym no ∙ c.if-is_small.true));
      quadrature = λ no. absurd (false≢true (sym no ∙ c.if-is_small.true));
    }

pub returns-else-is_small : goal.returns-else-is_small
returns-else-is_small c =
    record {
      pairs = λ is. absurd (false≢true (sym c.if-is_small.false ∙ is));
      in_phase = λ _. c.set.ensures;
      quadrature = λ _. c.set-else-is_small.ensures;
    }
