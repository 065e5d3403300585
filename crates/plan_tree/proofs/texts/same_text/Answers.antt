use Rattle.std.proofs.Common.{◌-◌, ◌&&◌, length, arith}
use Rattle.spec_script.proofs.Bools.{both}
use Rattle.plan_tree.proofs.Words.{three_words}
use Rattle.plan_tree.proofs.texts.same_text.Goals as goal

pub returns-clause-same : goal.returns-clause-same
returns-clause-same c = λ same.
    let each = both (c.same_word.result && c.same_word-2.result) c.same_word-3.result same in
    let ends = both c.same_word.result c.same_word-2.result each.0 in
    three_words c.args.one.now c.args.other.now c.min.result (length c.args.one.now - 8) (omega (arith, c.if-one-other.false)) (omega (arith, c.if-one-lt-WORD.false)) (omega (arith, c.if-one.false)) c.min.ensures
    (c.same_word.ensures.same ends.0) (c.same_word-2.ensures.same ends.1) (c.same_word-3.ensures.same each.1)
