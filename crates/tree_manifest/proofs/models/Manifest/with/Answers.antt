use Rattle.std.proofs.Common.{◌≡◌, ◌++◌, ◌∷◌, [], List, ℕ, ap, ◌∙◌}
use Rattle.spec_tree_file.specs.declared.models.ModelPort.{ModelPort}
use Rattle.spec_tree_file.specs.declared.models.NodeModel.{NodeModel}
use Rattle.tree_manifest.proofs.models.Manifest.with.Goals as goal

-- the entries with one more, whose parts are known
added : (es entries more : List (List ℕ × NodeModel)) (key name id : List ℕ) (ports known : List ModelPort) →
    more ≡ entries ++ (key, record { id = name; ports = ports }) ∷ [] → entries ≡ es → key ≡ id → name ≡ id → ports ≡ known →
    more ≡ es ++ (id, record { id = id; ports = known }) ∷ []
added es entries more key name id ports known made old first second third =
    made ∙ ap (λ (xs : List (List ℕ × NodeModel)). xs ++ (key, record { id = name; ports = ports }) ∷ []) old
    ∙ ap (λ (k : List ℕ). es ++ (k, record { id = name; ports = ports }) ∷ []) first
    ∙ ap (λ (k : List ℕ). es ++ (id, record { id = k; ports = ports }) ∷ []) second
    ∙ ap (λ (ps : List ModelPort). es ++ (id, record { id = id; ports = ps }) ∷ []) third

pub returns : goal.returns
returns c =
    added c.args.self c.models.inside.columns.entries c.in_ok-models.models.entries c.in_ok-copy-2.field-0 c.in_ok-copy.field-0 c.args.id.now c.of.result c.args.ports.ports
    (c.in_ok-models.ensures ∙ ap (λ (m : NodeModel). c.models.inside.columns.entries ++ (c.in_ok-copy-2.field-0, m) ∷ []) c.in_ok-of.ensures) (ap (λ m. m.entries) c.models.view_is ∙ c.self.view_is) c.in_ok-copy-2.ensures c.in_ok-copy.ensures (c.of.ensures ∙ c.into_ports.ensures)
