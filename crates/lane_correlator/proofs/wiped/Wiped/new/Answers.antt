use Rattle.std.proofs.Common.{ℕ, ◌+◌, ◌%◌, ◌∙◌, sym}
use Rattle.std.proofs.lemmas.Simd.{length-zip2}
use Rattle.lane_correlator.specs.Bytes.{cosine_times, sine_times, minus_sine_times}
use Rattle.lane_correlator.proofs.TableLemmas.{cosine_table, sine_table, minus_sine_table}
use Rattle.lane_correlator.proofs.WipedLemmas.{wiped_real, wiped_complex, turned_in_cycle}
use Rattle.lane_correlator.proofs.wiped.Wiped.new.Goals as goal

pub returns-in-None-clause-wiped : goal.returns-in-None-clause-wiped
returns-in-None-clause-wiped c xs w codes some none =
    wiped_real xs w c.args.eighths c.args.codes c.turned-at.result c.products-i.result
    c.products-q.result codes (turned_in_cycle _ _ _ c.requires.cycle c.turned-at.ensures.turned)
    (c.products-i.ensures.found cosine_times cosine_table)
    (c.products-q.ensures.found minus_sine_times minus_sine_table) (rw c.in-None.is at none)

pub returns-in-Some-clause-long : goal.returns-in-Some-clause-long
returns-in-Some-clause-long c = record {
  in_phase = length-zip2 (λ (a b : ℕ). (a + b) % 256) _ _
      (c.products-i.ensures.long ∙ sym c.products.ensures.long) ∙ c.products-i.ensures.long;
  quadrature = length-zip2 (λ (a b : ℕ). (a + b) % 256) _ _
      (c.products-q.ensures.long ∙ sym c.products-in-Some.ensures.long) ∙ c.products-q.ensures.long;
}

pub returns-in-Some-clause-wiped : goal.returns-in-Some-clause-wiped
returns-in-Some-clause-wiped c xs w codes some none =
    wiped_complex xs w c.args.eighths c.args.codes c.turned-at.result c.products-i.result
    c.products-q.result codes (turned_in_cycle _ _ _ c.requires.cycle c.turned-at.ensures.turned)
    (c.products-i.ensures.found cosine_times cosine_table)
    (c.products-q.ensures.found minus_sine_times minus_sine_table) _ c.turned-at-in-Some.result
    c.products.result c.products-in-Some.result (rw c.in-Some.is at some)
    (turned_in_cycle _ _ _ c.requires.cycle c.turned-at-in-Some.ensures.turned)
    (c.products.ensures.found sine_times sine_table)
    (c.products-in-Some.ensures.found cosine_times cosine_table) c.products-i.ensures.long
    c.products-q.ensures.long c.products.ensures.long c.products-in-Some.ensures.long
