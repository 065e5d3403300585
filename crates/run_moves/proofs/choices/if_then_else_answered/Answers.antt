use Rattle.run_moves.proofs.choices.if_then_else_answered.Goals as goal

pub returns-in-None-clause-onward : goal.returns-in-None-clause-onward
returns-in-None-clause-onward c = c.condition_answered.ensures.onward c.args.memo.now
