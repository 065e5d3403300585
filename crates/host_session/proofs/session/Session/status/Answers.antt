use Rattle.std.proofs.Common.{◌≡◌, ◌+◌, List, length, ap, sym, ◌∙◌}
use Rattle.spec_tree.specs.Terms.{node_count}
use Rattle.spec_session.specs.Sessions.{Sitting}
use Rattle.run_arena.specs.declared.nodes.Node.{Node}
use Rattle.host_session.specs.Five.{states_of}
use Rattle.host_session.specs.Reads.{status_of}
use Rattle.host_session.proofs.Runners.{all_there, status_there}
use Rattle.host_session.proofs.session.Session.status.Goals as goal

pub returns : goal.returns
returns c =
    let s = c.self.inside in
    let runner = c.in_ok-runner_of.field-0.now in
    let there = c.in_ok-runner_of.ensures in
    let many = all_there (λ (nodes : List Node). length nodes ≡ 1 + node_count s.tree.term) s.runs.runners.items c.args.runner runner there c.self.invariant.nodes in
    c.status_in.ensures
    ∙ sym (status_there s.tree.term (states_of s.five) s.runs.runners.items c.args.runner runner c.args.uid there many)
    ∙ ap (λ (seen : Sitting). status_of seen c.args.runner c.args.uid) c.self.view_is
