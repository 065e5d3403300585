-- A term with its nodes replaced, by what its children become.
use Rattle.std.proofs.Common.{◌≡◌, ◌≢◌, ℕ, List, [], ◌∷◌, ◌++◌, map, refl, ap, ◌∙◌}
use Rattle.spec_tree.specs.declared.term.Term.{Term, Term-F, fold_out-Term, out-Term, roll-Term}
use Rattle.spec_tree_file.specs.declared.mock_rules.Rules.{Rules}
use Rattle.spec_tree_file.specs.Substitutions.{by_rule, inside, node_by, replaced, rule_of, with_children}

-- the node, over what its children become
abbrev over : Rules → Term → Term-F (List ℕ → Term)
over rules term = record {
  kind = (out-Term term).kind;
  id = (out-Term term).id;
  name = (out-Term term).name;
  ports = (out-Term term).ports;
  code = (out-Term term).code;
  guards = (out-Term term).guards;
  autoremap = (out-Term term).autoremap;
  children = map (replaced rules) (out-Term term).children;
}

replaced-term : (rules : Rules) (term : Term) (above : List ℕ) → replaced rules term above ≡ node_by rules (over rules term) (map (replaced rules) (out-Term term).children) above
replaced-term rules term above = ap (λ f. f above) (fold_out-Term (List ℕ → Term) (λ node above. node_by rules node node.children above) term)

-- a node without children becomes what its rule says
pub replaced-lone : (rules : Rules) (term : Term) (above : List ℕ) → (out-Term term).children ≡ []
    → replaced rules term above ≡ by_rule rules.configurations (rule_of rules.rules (above ++ (out-Term term).name)) (with_children (out-Term term) [])
replaced-lone rules term above none = replaced-term rules term above ∙ ap (λ (cs : List Term). node_by rules (over rules term) (map (replaced rules) cs) above) none

becoming : (rules : Rules) (terms : List Term) (above : List ℕ) → map (λ (child : List ℕ → Term). child above) (map (replaced rules) terms) ≡ map (λ term. replaced rules term above) terms
becoming rules [] above = refl
becoming rules (term ∷ terms) above = ap (λ (ts : List Term). replaced rules term above ∷ ts) (becoming rules terms above)

inner : (rules : Rules) (node : Term-F (List ℕ → Term)) (terms : List Term) (above : List ℕ) → terms ≢ []
    → node_by rules node (map (replaced rules) terms) above ≡ roll-Term (with_children node (map (λ term. replaced rules term (inside node.kind node.name above)) terms))
inner rules node [] above some = absurd (some refl)
inner rules node (term ∷ terms) above some =
    ap (λ (ts : List Term). roll-Term (with_children node ts)) (becoming rules (term ∷ terms) (inside node.kind node.name above))

-- a node with children stays, over what they become
pub replaced-inner : (rules : Rules) (term : Term) (above : List ℕ) → (out-Term term).children ≢ []
    → replaced rules term above ≡ roll-Term (with_children (out-Term term) (map (λ child. replaced rules child (inside (out-Term term).kind (out-Term term).name above)) (out-Term term).children))
replaced-inner rules term above some = replaced-term rules term above ∙ inner rules (over rules term) (out-Term term).children above some
