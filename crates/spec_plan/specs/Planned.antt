-- The behavior tree of a plan tree.
use Rattle.std.specs.Prelude.{ℕ, false, List, [], ◌∷◌, codes, None, slice_get}
use Rattle.std.specs.Option.{option_map_or}
use Rattle.spec_tree.specs.declared.term.Guards.{Guards}
use Rattle.spec_tree.specs.declared.term.Kind.{Kind}
use Rattle.spec_tree.specs.declared.term.Kind.TheVariants.{ReactiveSequence, ReactiveFallback, Leaf}
use Rattle.spec_tree.specs.declared.term.Term.{Term, Term-F, roll-Term}
use Rattle.spec_world.specs.declared.world.Row.{Row}
use Rattle.spec_plan.specs.declared.part.Part.{Part}
use Rattle.spec_plan.specs.declared.part.Part.TheVariants.{Goals, Sequence, Fallback, Condition, Action}
use Rattle.spec_plan.specs.Forests.{Forest, Empty, Tree}

abbrev pub no_guards : Guards
no_guards = record {
  failure_if = None;
  success_if = None;
  skip_if = None;
  while_true = None;
  on_success = None;
  on_failure = None;
  post = None;
  on_halted = None;
}

-- a node that is named by its ID alone
abbrev pub plain_node : Kind → List ℕ → List Term → Term-F Term
plain_node kind id children = record {
  kind = kind;
  id = id;
  name = id;
  ports = [];
  code = None;
  guards = no_guards;
  autoremap = false;
  children = children;
}

-- the ID of a row
abbrev pub id_of : List Row → ℕ → List ℕ
id_of rows row = option_map_or (λ (found : Row). found.id) (slice_get rows row) []

-- the kind of a node, and its ID: a condition or an action is a leaf of its row
abbrev pub kind_of : Part → Kind
kind_of Goals = ReactiveSequence
kind_of (Sequence row) = ReactiveSequence
kind_of Fallback = ReactiveFallback
kind_of _ = Leaf

abbrev pub part_id : List Row → Part → List ℕ
part_id rows Goals = codes "ReactiveSequence"
part_id rows (Sequence row) = codes "ReactiveSequence"
part_id rows Fallback = codes "ReactiveFallback"
part_id rows (Condition row) = id_of rows row
part_id rows (Action row) = id_of rows row

-- the terms of the trees of a forest
abbrev pub terms_of : List Row → Forest → List Term
terms_of rows Empty = []
terms_of rows (Tree key part below rest) = roll-Term (plain_node (kind_of part) (part_id rows part) (terms_of rows below)) ∷ terms_of rows rest
