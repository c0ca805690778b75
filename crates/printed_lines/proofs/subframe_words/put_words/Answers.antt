use Rattle.std.proofs.Common.{◌≡◌, ◌+◌, ◌-◌, length, None, arith, ap, ◌∙◌, ◌++◌}
use Rattle.std.proofs.lemmas.List.{take_all}
use Rattle.definitions.specs.Texts.{word_text}
use Rattle.printed_lines.specs.SpacedWords.{with_spaces}
use Rattle.printed_lines.proofs.LineLemmas.{with_spaces-more}
use Rattle.printed_lines.proofs.subframe_words.put_words.Goals as goal

pub loop-i-preserved : goal.loop-i-preserved
loop-i-preserved c =
    let place : c.loop-i.i + 1 - 1 ≡ c.loop-i.i = omega arith in
    record {
      text =
          rw (c.put_word.ensures.text, c.word.ensures.word, place)
          (with_spaces-more word_text c.args.line.now c.loop-i.line c.args.subframe.now.words
          c.loop-i.i None (omega (arith, c.loop-i-test.true, c.word.ensures.ten))
          c.loop-i.invariant.text);
      longer = omega (arith, c.put_word.ensures.longer, c.loop-i.invariant.longer);
      ten = λ some. c.word.ensures.ten;
    }

pub returns-clause-text : goal.returns-clause-text
returns-clause-text c =
    let ten : length c.args.subframe.now.words ≡ 10 = c.loop-i.invariant.ten (omega arith) in
    c.loop-i.invariant.text
    ∙ ap (λ ws. c.args.line.now ++ with_spaces word_text ws)
    (take_all c.loop-i.i c.args.subframe.now.words (omega (arith, ten)))
