-- The scripts and ports of a node need only slots of its view.
use Rattle.std.proofs.Common.{◌≡◌, ℕ, length, Option, Some, None, ap, subst, sym, ◌∙◌}
use Rattle.std.specs.List.{All}
use Rattle.std.proofs.lemmas.List.{length-map}
use Rattle.spec_script.specs.declared.syntax.Script.{Script}
use Rattle.script_code.specs.declared.codes.Code.{Code}
use Rattle.spec_tree.specs.declared.term.Guards.{Guards}
use Rattle.spec_tree.specs.declared.term.Kind.{Kind}
use Rattle.spec_tree.specs.BuiltIns.{PortRule, ports_of}
use Rattle.spec_run.specs.Sites.{View}
use Rattle.spec_tree.specs.Trees.{Node as TreeNode}
use Rattle.run_arena.specs.declared.nodes.Node.{Node}
use Rattle.run_arena.specs.declared.nodes.ReadyGuards.{ReadyGuards}
use Rattle.run_arena.specs.Nodes.{AreCompiled, IsCompiled, IsNode}
use Rattle.run_arena.specs.Sources.{IsSourceOf, source_at}
use Rattle.run_nodes.specs.Given.{HasPorts}
use Rattle.run_nodes.specs.Needs.{GuardsNeedAtMost, NeedsAtMost}

needed : (view : View) (script : Option Script) (code : Option Code) → IsCompiled view script code → NeedsAtMost (length view.slots) code
needed view None None k = tt
needed view None (Some code) k = absurd k
needed view (Some script) None k = absurd k
needed view (Some script) (Some code) k = k.reach

module _ (slots : ℕ) (view : View) (as_many : length view.slots ≡ slots) where
  pub script_needs : (script : Option Script) (code : Option Code) → IsCompiled view script code → NeedsAtMost slots code
  script_needs script code k = subst (λ (n : ℕ). NeedsAtMost n code) as_many (needed view script code k)

  pub guards_need : (guards : Guards) (ready : ReadyGuards) → AreCompiled view guards ready → GuardsNeedAtMost slots ready
  guards_need guards ready k = record {
    failure_if = script_needs guards.failure_if ready.failure_if k.failure_if;
    success_if = script_needs guards.success_if ready.success_if k.success_if;
    skip_if = script_needs guards.skip_if ready.skip_if k.skip_if;
    while_true = script_needs guards.while_true ready.while_true k.while_true;
    on_success = script_needs guards.on_success ready.on_success k.on_success;
    on_failure = script_needs guards.on_failure ready.on_failure k.on_failure;
    post = script_needs guards.post ready.post k.post;
    on_halted = script_needs guards.on_halted ready.on_halted k.on_halted;
  }

  -- a node has the ports of its kind
  pub has_ports : (written : TreeNode) (whole : ℕ) (node : Node) → IsNode view written whole node → HasPorts slots node
  has_ports written whole node k = record {
    as_many =
        ap length k.ports
        ∙ length-map (ports_of written.kind) (λ (port : PortRule). source_at view written.ports port.name)
        ∙ ap (λ (kind : Kind). length (ports_of kind)) (sym k.kind);
    known = subst (λ (n : ℕ). All (IsSourceOf n) node.ports) as_many k.slots;
  }
