use Rattle.std.proofs.Common.{◌≡◌, ◌+◌, ◌∙◌, List, [], ap, arith, length, sym}
use Rattle.spec_session.specs.Labels.{labels}
use Rattle.spec_session.specs.Sessions.{Sitting}
use Rattle.spec_tree.specs.Terms.{node_count}
use Rattle.run_arena.specs.declared.nodes.Node.{Node}
use Rattle.host_session.specs.Five.{states_of}
use Rattle.host_session.specs.Reads.{inputs_of}
use Rattle.host_session.proofs.Labelled.{labels_counted}
use Rattle.host_session.proofs.Runners.{all_there, inputs_nowhere, inputs_past}
use Rattle.host_session.proofs.session.Session.inputs.Goals as goal

-- each node of the tree has an instance, and none has a uid after theirs
pub returns-in-Some-clause-none : goal.returns-in-Some-clause-none
returns-in-Some-clause-none c = λ past.
    let s = c.self.inside in
    let runner = c.in-Some.runner.now in
    let many = all_there (λ (nodes : List Node). length nodes ≡ 1 + node_count s.tree.term) s.runs.runners.items c.args.runner runner c.in-Some.ensures c.self.invariant.nodes in
    let count : length (labels c.args.self.now.tree) ≡ node_count s.tree.term =
    labels_counted c.args.self.now.tree.term 1 0 [] ∙ ap (λ (seen : Sitting). node_count seen.tree.term) (sym c.self.view_is) in
    c.inputs_in.ensures ∙ inputs_past runner.arena.nodes.items (states_of s.five) (node_count s.tree.term) c.args.uid many (omega arith)

pub returns-in-None-clause-inputs : goal.returns-in-None-clause-inputs
returns-in-None-clause-inputs c =
    let s = c.self.inside in
    sym (inputs_nowhere s.tree.term (states_of s.five) s.runs.runners.items c.args.runner c.args.uid c.in-None.ensures)
    ∙ ap (λ (seen : Sitting). inputs_of seen c.args.runner c.args.uid) c.self.view_is
