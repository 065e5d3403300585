use Rattle.std.proofs.Common.{sym, ◌∙◌, subst, arith}
use Rattle.plan_tree.specs.declared.tree.PlanTree.{PlanTree}
use Rattle.plan_tree.specs.Stands.{StandsFor}
use Rattle.plan_search.proofs.Settles.{first_so_far, left_none, left_over, never_past, next_so_far, sequence_counts, where_false, where_true}
use Rattle.plan_search.proofs.settling.settle.Goals as goal

pub loop-raises-init : goal.loop-raises-init
loop-raises-init c = λ world tree st is. first_so_far world c.args.t.now tree c.args.sequence st is

pub raise-requires : goal.raise-requires
raise-requires c =
    let s = c.loop-raises.invariant c.requires.0 c.requires.1 c.requires.2 c.requires.3 in
    (c.requires.0, s.after, s.stands, s.is)

pub returns-then-not-is_unsettled : goal.returns-then-not-is_unsettled
returns-then-not-is_unsettled c = λ world tree st is.
    let s = c.loop-raises.invariant world tree st is in
    let counts = sequence_counts s.after c.args.sequence s.is in
    record {
      after = s.after;
      raises = s.raised;
      stands = s.stands;
      left = left_none world c.args.sequence s.after (sym (c.is_unsettled.ensures world s.after s.stands counts) ∙ c.if-not-is_unsettled.true);
      many = s.many;
    }

pub returns-then-not-raise : goal.returns-then-not-raise
returns-then-not-raise c = λ world tree st is.
    let s = c.loop-raises.invariant world tree st is in
    let counts = sequence_counts s.after c.args.sequence s.is in
    let left = where_false _ _ c.raise.result c.if-not-raise.true (c.raise.ensures.raised world s.after s.stands s.is) in
    let stands = subst (λ (t : PlanTree). StandsFor t world s.after) (sym left.1) s.stands in
    record {
      after = s.after;
      raises = s.raised;
      stands = stands;
      left = left_over world c.args.sequence s.after c.conflict.result (sym (c.is_unsettled.ensures world s.after s.stands counts) ∙ c.if-not-is_unsettled.false)
          (c.conflict.ensures world s.after stands) left.0;
      many = s.many;
    }

pub loop-raises-preserved : goal.loop-raises-preserved
loop-raises-preserved c = λ world tree st is.
    let s = c.loop-raises.invariant world tree st is in
    let counts = sequence_counts s.after c.args.sequence s.is in
    next_so_far world c.args.t.now c.loop-raises.t c.raise.new.t tree c.args.sequence c.loop-raises.raises s (sym (c.is_unsettled.ensures world s.after s.stands counts) ∙ c.if-not-is_unsettled.false)
    (where_true _ _ c.raise.result c.if-not-raise.false (c.raise.ensures.raised world s.after s.stands s.is))

pub unreachable-requires : goal.unreachable-requires
unreachable-requires c =
    let s = c.loop-raises.invariant c.requires.0 c.requires.1 c.requires.2 c.requires.3 in
    never_past c.requires.0 c.args.t.now c.loop-raises.t c.requires.1 c.args.sequence c.loop-raises.raises s (omega (arith, c.loop-raises-test.false, c.len-raises-end.ensures))
