use Rattle.packer.proofs.measuring.measure_numbers.Goals as goal

pub returns-then-of_i-eq0 : goal.returns-then-of_i-eq0
returns-then-of_i-eq0 g c = record { fault = tt }
