use Rattle.std.proofs.Common.{◌≡◌, ◌∙◌, Option, ap, subst, sym}
use Rattle.spec_script.specs.declared.syntax.Script.{Script}
use Rattle.spec_run.specs.declared.memory.Memo.TheVariants.{Nothing}
use Rattle.spec_run.specs.declared.status.Answer.TheVariants.{Success}
use Rattle.spec_run.specs.Done.{done, follow}
use Rattle.spec_run.specs.Leaves.{gives, script_node}
use Rattle.spec_run.specs.NodeScripts.{script_run}
use Rattle.spec_run.specs.Visit.{site_of}
use Rattle.run_nodes.specs.Calls.{as_given}
use Rattle.run_nodes.specs.Settles.{SettlesWith, on_board}
use Rattle.run_nodes.proofs.Following.{dropped, some_script, stopped_with, stops_with}
use Rattle.run_nodes.proofs.alone.script_node.Goals as goal

pub returns-in_err-run_for_writes-in-Some-clause-settles : goal.returns-in_err-run_for_writes-in-Some-clause-settles
returns-in_err-run_for_writes-in-Some-clause-settles g c = λ term view script ms s k.
    some_script
    (λ (o : Option Script). SettlesWith ms (as_given c.from_residual.result) (on_board c.run_for_writes.new.board s) (script_node o (site_of term view c.args.uid) ms (on_board c.args.board.now s)))
    view script _ c.in-Some.is k
    (λ x k1.
    let run = script_run (site_of term view c.args.uid) x (on_board c.args.board.now s) in
    subst (λ d. SettlesWith ms (as_given c.from_residual.result) (on_board c.run_for_writes.new.board s) d)
    (dropped ms (gives Success ms) run.answer run.state)
    (stopped_with ms (λ value _ s1. gives Success ms s1) _ _ _ _ (ap as_given (stops_with _ _ c.from_residual.ensures.1)) (c.in_err-run_for_writes-in-Some.ensures.settles term view x s k1)))

pub returns-in_ok-run_for_writes-in-Some-clause-settles : goal.returns-in_ok-run_for_writes-in-Some-clause-settles
returns-in_ok-run_for_writes-in-Some-clause-settles g c = λ term view script ms s k.
    some_script
    (λ (o : Option Script). script_node o (site_of term view c.args.uid) ms (on_board c.args.board.now s) ≡ done (record { answer = Success; memo = Nothing }) ms (on_board c.run_for_writes.new.board s))
    view script _ c.in-Some.is k
    (λ x k1.
    let run = script_run (site_of term view c.args.uid) x (on_board c.args.board.now s) in
    sym (dropped ms (gives Success ms) run.answer run.state)
    ∙ ap (λ d. follow d (λ _. ms) (λ value _ s1. gives Success ms s1)) (c.in_ok-run_for_writes-in-Some.ensures.settles term view x s k1))
