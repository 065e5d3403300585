use Rattle.std.proofs.Common.{◌≡◌, [], ◌∷◌, Option, Some, None, ap, sym, ◌∙◌}
use Rattle.std.specs.Prelude.{option_map}
use Rattle.plan_tree.specs.declared.node.Node.{Node}
use Rattle.spec_plan.specs.declared.part.Part.{Part}
use Rattle.spec_plan.specs.Forests.{Forest}
use Rattle.plan_tree.proofs.Expansions.{node_found}
use Rattle.plan_tree.proofs.Standing.{kept_at}
use Rattle.plan_tree.proofs.numbers.part_of.Goals as goal

pub returns-in-Some : goal.returns-in-Some
returns-in-Some c = record {
  known = λ world tree st has.
      let t = c.args.t.now in
      let found = node_found c.args.key tree has in
      let kept = kept_at t.nodes c.args.key found.0.0 found.0.1 None (t.root ∷ []) tree st.nodes found.1 in
      let same : c.in-Some.node.now ≡ kept.2.node = cc (kept.2.there, c.in-Some.ensures) in
      ap (λ (n : Node). Some n.part) same ∙ ap (λ (x : Part). Some x) kept.2.part_is ∙ sym (ap (λ (o : Option (Part × Forest)). option_map (λ (n : Part × Forest). n.0) o) found.1);
  slab = ap (λ (o : Option Node). option_map (λ (n : Node). n.part) o) c.in-Some.ensures;
}

pub returns-in-None : goal.returns-in-None
returns-in-None c = record {
  known = λ world tree st has.
      let t = c.args.t.now in
      let found = node_found c.args.key tree has in
      let kept = kept_at t.nodes c.args.key found.0.0 found.0.1 None (t.root ∷ []) tree st.nodes found.1 in
      absurd (cc (kept.2.there, c.in-None.ensures));
  slab = ap (λ (o : Option Node). option_map (λ (n : Node). n.part) o) c.in-None.ensures;
}
