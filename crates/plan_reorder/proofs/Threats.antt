-- The heads that an action threatens, as the slab has them and as the tree has them.
use Rattle.std.proofs.Common.{◌≡◌, ℕ, ◌≤◌, Bool, true, false, cond, if◌then◌else◌, List, [], ◌∷◌, ◌++◌, map, Option, Some, None, refl, ap, sym, ◌∙◌, append-nil, append_assoc}
use Rattle.std.specs.Prelude.{option_map, slice_get}
use Rattle.std.specs.List.{filter, find}
use Rattle.std.specs.Option.{option_and_then, option_map_or, option_or, option_to_list}
use Rattle.slab.specs.Slab.{Slab}
use Rattle.spec_world.specs.declared.world.Row.{Row}
use Rattle.spec_world.specs.declared.world.World.{World}
use Rattle.spec_plan.specs.declared.domain.Test.{Test}
use Rattle.spec_plan.specs.Effects.{threatens}
use Rattle.plan_tree.specs.declared.node.Node.{Node}
use Rattle.spec_plan.specs.declared.part.Part.{Part}
use Rattle.spec_plan.specs.declared.part.Part.TheVariants.{Goals, Sequence, Fallback, Condition, Action}
use Rattle.plan_tree.specs.declared.tree.PlanTree.{PlanTree}
use Rattle.plan_tree.specs.declared.rule.Rule.{Rule}
use Rattle.spec_plan.specs.Forests.{Forest, Empty, Tree, Ancestor, Place, ancestors, is_sequence, joined, place_of, times}
use Rattle.plan_tree.specs.Sizes.{tops}
use Rattle.spec_plan.specs.Achievers.{row_threatens, test_of}
use Rattle.plan_tree.specs.Rules.{rule_of}
use Rattle.plan_tree.specs.Growth.{rule_effects}
use Rattle.plan_tree.specs.Stands.{Keeps, Stands, StandsFor}
use Rattle.plan_tree.proofs.Expansions.{rule_effects_is, rule_test_is}
use Rattle.plan_tree.proofs.Searched.{find_alike}
use Rattle.spec_plan.specs.declared.head.Head.{Head}
use Rattle.spec_plan.specs.Conflicts.{Pair, actions, conflicts_of, conflicts_with, first_condition, head_of, heads, heads_before, heads_in, outer_of, own_actions}
use Rattle.plan_reorder.specs.Looked.{condition_in, first_child, first_threat, head_at, head_in, keys_before, rule_threatens, threat_in, threatened}
use Rattle.plan_reorder.proofs.Climbed.{Above, before_at}
use Rattle.plan_reorder.proofs.Listed.{find-append, first_mapped}

pub rule_threatens_is : (rows : List Row) (action condition : ℕ) → rule_threatens (map rule_of rows) action condition ≡ row_threatens rows action condition
rule_threatens_is rows action condition =
    ap (λ (o : Option Test). option_map_or (λ (test : Test). threatens (rule_effects (map rule_of rows) action) test) o false) (rule_test_is rows condition)
    ∙ ap (λ effects. option_map_or (λ (test : Test). threatens effects test) (test_of rows condition) false) (rule_effects_is rows action)

module _ (s : Slab Node) where
  first_step : (key : ℕ) (part : Part) (below rest : Forest) → first_condition (Tree key part below rest) ≡ option_to_list (condition_in key part)
  first_step key (Condition row) below rest = refl
  first_step key Goals below rest = refl
  first_step key (Sequence row) below rest = refl
  first_step key Fallback below rest = refl
  first_step key (Action row) below rest = refl

  -- the first child is what the forest begins with
  first_is : (parent : Option ℕ) (keys : List ℕ) (f : Forest) → Stands s parent keys f → first_condition f ≡ option_to_list (first_child s keys)
  first_is parent keys Empty is = ap (λ (l : List ℕ). option_to_list (first_child s l)) (sym is)
  first_is parent keys (Tree key part below rest) (children, others, is, keeps, stands, later) =
      first_step key part below rest ∙ ap (λ (x : Part). option_to_list (condition_in key x)) (sym keeps.part_is)
      ∙ ap (λ (o : Option Node). option_to_list (option_and_then (λ (node : Node). condition_in key node.part) o)) (sym keeps.there)
      ∙ ap (λ (l : List ℕ). option_to_list (first_child s l)) (sym is)

  head_step : (key : ℕ) (children : List ℕ) (below : Forest) → Stands s (Some key) children below → (part : Part) → head_of key part below ≡ option_to_list (head_in s key part children)
  head_step key children below stands (Condition row) = refl
  head_step key children below stands Fallback = first_is (Some key) children below stands
  head_step key children below stands Goals = refl
  head_step key children below stands (Sequence row) = refl
  head_step key children below stands (Action row) = refl

  pub head_is : (parent : Option ℕ) (key : ℕ) (part : Part) (children : List ℕ) (below : Forest) → Keeps s parent key part children → Stands s (Some key) children below →
      head_of key part below ≡ option_to_list (head_at s key)
  head_is parent key part children below keeps stands =
      head_step key children below stands part
      ∙ ap (λ (x : Part). option_to_list (head_in s key x children)) (sym keeps.part_is) ∙ ap (λ (l : List ℕ). option_to_list (head_in s key keeps.node.part l)) (sym keeps.children_are)
      ∙ ap (λ (o : Option Node). option_to_list (option_and_then (λ (node : Node). head_in s key node.part node.children.items) o)) (sym keeps.there)

  module _ (rules : List Rule) (action : ℕ) where
    abbrev pub wanted : Head → Bool
    wanted head = rule_threatens rules action head.row

    abbrev pub key_found : List Head → Option ℕ
    key_found found = option_map (λ (head : Head). head.key) (find wanted found)

    threat_step : (o : Option Head) (rest : List Head) (more : Option ℕ) → more ≡ key_found rest →
        option_or (option_and_then (threatened rules action) o) more ≡ key_found (option_to_list o ++ rest)
    threat_step None rest more is = is
    threat_step (Some head) rest more is =
        elim (wanted head) as (λ (b : Bool). option_or (if b then Some head.key else None) more ≡ option_map (λ (h : Head). h.key) (cond b (Some head) (find wanted rest))) [
          | true ↦ refl
          | false ↦ is
        ]

    -- the first threatened head of some children is that of their trees
    pub first_threat_is : (parent : Option ℕ) (keys : List ℕ) (f : Forest) → Stands s parent keys f → first_threat rules s action keys ≡ key_found (heads f)
    first_threat_is parent keys Empty is = ap (first_threat rules s action) is
    first_threat_is parent keys (Tree key part below rest) (children, others, is, keeps, stands, later) =
        ap (first_threat rules s action) is
        ∙ threat_step (head_at s key) (heads rest) (first_threat rules s action others) (first_threat_is parent others rest later)
        ∙ ap (λ (l : List Head). key_found (l ++ heads rest)) (sym (head_is parent key part children below keeps stands))

    found_in : (found ys : List Head) → key_found (found ++ ys) ≡ option_or (key_found found) (key_found ys)
    found_in found ys =
        ap (option_map (λ (h : Head). h.key)) (find-append wanted found ys)
        ∙ elim (find wanted found) as (λ o. option_map (λ (h : Head). h.key) (option_or o (find wanted ys)) ≡ option_or (option_map (λ (h : Head). h.key) o) (key_found ys)) [ Some h ↦ refl | None ↦ refl ]

    module _ (root : ℕ) (tree : Forest) (stands : Stands s None (root ∷ []) tree) (apart : (n : ℕ) → times n tree ≤ 1) where
      -- what the slab finds in the node above
      pub threat_in_is : (key : ℕ) (a : Ancestor) (outer : List Ancestor) (up : Above s root tree stands apart key a outer) → threat_in rules s action key up.keeps.node ≡ key_found (heads_in a)
      threat_in_is key a outer up =
          let before : keys_before key up.keeps.node.children.items ≡ tops a.before =
          ap (keys_before key) (up.keeps.children_are ∙ up.children_of) ∙ before_at key up.below (tops a.before) up.others up.tops_of up.once in
          ap (λ (x : Part). if is_sequence x then first_threat rules s action (keys_before key up.keeps.node.children.items) else None) up.keeps.part_is
          ∙ ap (λ (l : List ℕ). if is_sequence a.part then first_threat rules s action l else None) before
          ∙ ap (λ (o : Option ℕ). if is_sequence a.part then o else None) (first_threat_is (Some a.key) (tops a.before) a.before up.left)
          ∙ elim (is_sequence a.part) as (λ (b : Bool). (if b then key_found (heads a.before) else None) ≡ key_found (if b then heads a.before else [])) [ true ↦ refl | false ↦ refl ]

      -- and in all above, from outside inwards
      pub found_above : (a : Ancestor) (outer : List Ancestor) → key_found (heads_before (a ∷ outer)) ≡ option_or (key_found (heads_before outer)) (key_found (heads_in a))
      found_above a outer = found_in (heads_before outer) (heads_in a)

-- ---- Conflicts

module _ (world : World) (t : PlanTree) (tree : Forest) (st : StandsFor t world tree) where
  -- the first conflict of an action, by the first head that it threatens
  pub own_first : (key action : ℕ) (place : Place) → place_of key tree ≡ Some place → slice_get (conflicts_of world.rows tree (record { key = key; row = action } ∷ [])) 0
      ≡ option_map (λ (head : ℕ). (key, head)) (key_found t.nodes t.rules action (heads_before (outer_of place.above)))
  own_first key action place found =
      let make : Head → Pair = λ m. (key, m.key) in
      let test : Head → Bool = λ m. row_threatens world.rows action m.row in
      let above : ancestors key tree ≡ place.above = ap (λ (o : Option Place). option_map_or (λ (p : Place). p.above) o []) found in
      let earlier = heads_before (outer_of place.above) in
      ap (λ (l : List Pair). slice_get l 0) (append-nil (conflicts_with world.rows (record { key = key; row = action }) (heads_before (outer_of (ancestors key tree)))))
      ∙ ap (λ (up : List Ancestor). slice_get (map make (filter test (heads_before (outer_of up)))) 0) above
      ∙ first_mapped make test earlier
      ∙ ap (option_map make) (find_alike test (wanted t.nodes t.rules action)
      (λ m. sym (ap (λ (rules : List Rule). rule_threatens rules action m.row) st.rules ∙ rule_threatens_is world.rows action m.row)) earlier)
      ∙ elim (find (wanted t.nodes t.rules action) earlier) as (λ o. option_map make o ≡ option_map (λ (head : ℕ). (key, head)) (option_map (λ (m : Head). m.key) o)) [ Some m ↦ refl | None ↦ refl ]

  -- an action at the top has no sequence of its own
  pub own_none : (key action : ℕ) (place : Place) → place_of key tree ≡ Some place → place.above ≡ [] → slice_get (conflicts_of world.rows tree (record { key = key; row = action } ∷ [])) 0 ≡ None
  own_none key action place found none =
      own_first key action place found ∙ ap (λ (up : List Ancestor). option_map (λ (head : ℕ). (key, head)) (key_found t.nodes t.rules action (heads_before (outer_of up)))) none

pub actions-joined : (f g : Forest) → actions (joined f g) ≡ actions f ++ actions g
actions-joined Empty g = refl
actions-joined (Tree key part below rest) g =
    ap (λ (l : List Head). own_actions key part (actions below) ++ l) (actions-joined rest g) ∙ sym (append_assoc (own_actions key part (actions below)) (actions rest) (actions g))

pub own_other : (key : ℕ) (part : Part) (below : List Head) → ((row : ℕ) → part ≡ Action row → ⊥) → own_actions key part below ≡ below
own_other key (Action row) below other = absurd (other row refl)
own_other key Goals below other = refl
own_other key (Sequence row) below other = refl
own_other key Fallback below other = refl
own_other key (Condition row) below other = refl

pub none_first : (xs : List Pair) → slice_get xs 0 ≡ None → xs ≡ []
none_first [] none = refl
none_first (x ∷ xs) none = absurd (cc none)
