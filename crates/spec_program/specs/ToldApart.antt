-- A tree whose openings are told apart: a tree file has one tree for each ID, and where a tree is opened more than once, rules
-- may replace other nodes in each opening.
use Rattle.std.specs.Prelude.{ℕ, List, [], ◌∷◌, ◌++◌, map, codes, Bool, true, not, ◌&&◌, if◌then◌else◌, is_some}
use Rattle.std.specs.List.{flat_map, list_any}
use Rattle.std.specs.Str.{bytes_eq}
use Rattle.spec_tree.specs.declared.term.Kind.{Kind}
use Rattle.spec_tree.specs.declared.term.Kind.TheVariants.{SubTree}
use Rattle.spec_tree.specs.declared.term.Term.{Term, Term-F, fold-Term, roll-Term}
use Rattle.spec_tree.specs.declared.term.Tree.{Tree}
use Rattle.spec_tree_file.specs.Substitutions.{inside, rule_of}
use Rattle.spec_tree_file.specs.declared.mock_rules.Rules.{Rules}

-- ---- Where trees are opened

-- a tree is opened: its ID, and the path of the SubTree node
pub record Opening : Type 0 where
  pub id : List ℕ
  pub path : List ℕ

-- the opening that a node is itself
abbrev pub opening_at : Kind → List ℕ → List ℕ → List Opening
opening_at SubTree id path = record { id = id; path = path } ∷ []
opening_at kind id path = []

-- the openings in a term, in pre-order, where the paths of its nodes begin with this text
abbrev pub openings : Term → List ℕ → List Opening
openings = fold-Term (List ℕ → List Opening) (λ node above.
    opening_at node.kind node.id (above ++ node.name)
    ++ flat_map (λ (child : List ℕ → List Opening). child (inside node.kind node.name above)) node.children)

-- whether the tree of this ID is opened at another path too
abbrev pub is_opened_elsewhere : List Opening → List ℕ → List ℕ → Bool
is_opened_elsewhere found id path = list_any (λ (o : Opening). bytes_eq o.id id && not (bytes_eq o.path path)) found

-- ---- IDs of their own

-- the ID of a node, of which it is known whether rules replace a node below it: where it is a SubTree node and they do, and
-- its tree is opened at another path too, its path stands after it in parentheses
abbrev pub own_id : List Opening → Kind → Bool → List ℕ → List ℕ → List ℕ
own_id found SubTree true id path = if is_opened_elsewhere found id path then id ++ (codes " (" ++ (path ++ codes ")")) else id
own_id found kind changed id path = id

-- a node with this ID, over these children
abbrev pub renamed : {A : Type 0} → Term-F A → List ℕ → List Term → Term
renamed node id children = roll-Term (record {
  kind = node.kind;
  id = id;
  name = node.name;
  ports = node.ports;
  code = node.code;
  guards = node.guards;
  autoremap = node.autoremap;
  children = children;
})

-- a term whose openings are told apart, and whether rules replace a node of it
pub record Apart : Type 0 where
  pub changed : Bool
  pub term : Term

-- .. of a node over these
abbrev pub apart_over : {A : Type 0} → List Opening → Term-F A → List Apart → List ℕ → Apart
apart_over found node below above =
    let changed = list_any (λ (part : Apart). part.changed) below in
    record {
      changed = changed;
      term = renamed node (own_id found node.kind changed node.id (above ++ node.name)) (map (λ (part : Apart). part.term) below);
    }

-- .. of a node whose path begins with this text
abbrev pub apart_at : {A : Type 0} → Rules → List Opening → Term-F A → List (List ℕ → Apart) → List ℕ → Apart
apart_at rules found node [] above = record {
  changed = is_some (rule_of rules.rules (above ++ node.name));
  term = renamed node node.id [];
}
apart_at rules found node children above =
    apart_over found node (map (λ (child : List ℕ → Apart). child (inside node.kind node.name above)) children) above

-- .. of a term, where the paths of its nodes begin with this text
abbrev pub apart : Rules → List Opening → Term → List ℕ → Apart
apart rules found = fold-Term (List ℕ → Apart) (λ node above. apart_at rules found node node.children above)

-- a tree in which each opening has an ID of its own where rules replace a node in it and its tree is opened at another path too
abbrev pub told_apart : Rules → Tree → Tree
told_apart rules tree = record { main = tree.main; term = (apart rules (openings tree.term []) tree.term []).term }
