use Rattle.std.proofs.Common.{rules, arith}
use Rattle.oscillators.proofs.WindowLemmas.{moved_windows, near_windows}
use Rattle.oscillators.proofs.code_strides.CodeStrides.windows.Goals as goal

pub overflow_add-result : goal.overflow_add-result
overflow_add-result c = search (rules, c.args.self.now.near 0 (omega arith), c.requires)

pub overflow_add-result-2 : goal.overflow_add-result-2
overflow_add-result-2 c = search (rules, c.args.self.now.near 1 (omega arith), c.requires)

pub overflow_add-result-3 : goal.overflow_add-result-3
overflow_add-result-3 c = search (rules, c.args.self.now.near 2 (omega arith), c.requires)

pub overflow_add-result-4 : goal.overflow_add-result-4
overflow_add-result-4 c = search (rules, c.args.self.now.near 3 (omega arith), c.requires)

pub returns-clause-near : goal.returns-clause-near
returns-clause-near c b h = near_windows c.args.chip c.args.self.now.windows b h
    c.args.self.now.near

pub returns-clause-begin : goal.returns-clause-begin
returns-clause-begin c step is b h =
    moved_windows c.args.chip step c.args.self.now.windows b h is.windows
