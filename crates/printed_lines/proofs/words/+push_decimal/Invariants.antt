use Rattle.printed_lines.proofs.words.+push_decimal.Given as goal

abbrev pub decreases-push_decimal : goal.decreases-push_decimal
decreases-push_decimal a = a.n
