-- What is read by the heads before a node, and what an action that touches none of it threatens: nothing.
use Rattle.std.proofs.Common.{◌≡◌, ℕ, zero, suc, ◌+◌, ◌<◌, ◌≤◌, Bool, true, false, cond, ◌&&◌, ◌||◌, if◌then◌else◌, List, [], ◌∷◌, ◌++◌, length, take, drop, set, get_or, Option, Some, None, refl, ap, sym, ◌∙◌, subst, arith, inl, inr, append_assoc}
use Rattle.std.specs.Prelude.{slice_index_or}
use Rattle.std.specs.List.{find, list_any}
use Rattle.std.specs.Option.{option_and_then, option_map_or, option_to_list}
use Rattle.std.proofs.lemmas.List.{take_more}
use Rattle.slab.specs.Slab.{Slab, get}
use Rattle.spec_world.specs.declared.world.Set.{Set}
use Rattle.spec_world.specs.declared.world.World.{World}
use Rattle.spec_plan.specs.declared.domain.Test.{Test}
use Rattle.spec_plan.specs.Effects.{change_threatens, threatens}
use Rattle.plan_tree.specs.declared.node.Node.{Node}
use Rattle.spec_plan.specs.declared.part.Part.{Part}
use Rattle.plan_tree.specs.declared.tree.PlanTree.{PlanTree}
use Rattle.plan_tree.specs.declared.rule.Rule.{Rule}
use Rattle.spec_plan.specs.Forests.{Forest, Empty, Tree, Ancestor, Place, is_sequence, place_of, times}
use Rattle.plan_tree.specs.Sizes.{tops}
use Rattle.plan_tree.specs.Growth.{rule_effects, rule_test}
use Rattle.plan_tree.specs.Stands.{Stands}
use Rattle.plan_tree.proofs.Counted.{is_same, tested}
use Rattle.plan_tree.proofs.Expansions.{node_found}
use Rattle.plan_tree.proofs.Places.{placed}
use Rattle.spec_plan.specs.declared.head.Head.{Head}
use Rattle.spec_plan.specs.Conflicts.{heads, heads_before, heads_in, outer_of}
use Rattle.plan_reorder.specs.Looked.{head_at, keys_before, rule_threatens}
use Rattle.plan_reorder.specs.Reads.{AreRead, IsPlaced, IsRead, is_read}
use Rattle.plan_reorder.proofs.Climbed.{Above, above_at, before_at, some_parent}
use Rattle.plan_reorder.proofs.Elements.{all_both}
use Rattle.plan_reorder.proofs.Threats.{head_is, wanted}

-- ---- The table

pub set_keeps : (read : List Bool) (i own : ℕ) → slice_index_or read own true ≡ true → slice_index_or (set read i true) own true ≡ true
set_keeps [] i own is = refl
set_keeps (b ∷ read) zero zero is = refl
set_keeps (b ∷ read) zero (suc own) is = is
set_keeps (b ∷ read) (suc i) zero is = is
set_keeps (b ∷ read) (suc i) (suc own) is = set_keeps read i own is

pub set_reads : (read : List Bool) (i : ℕ) → slice_index_or (set read i true) i true ≡ true
set_reads [] i = refl
set_reads (b ∷ read) zero = refl
set_reads (b ∷ read) (suc i) = set_reads read i

pub past_reads : (read : List Bool) (i : ℕ) → length read ≤ i → slice_index_or read i true ≡ true
past_reads [] i past = refl
past_reads (b ∷ read) zero past = absurd (omega (arith, past))
past_reads (b ∷ read) (suc i) past = past_reads read i (omega (arith, past))

-- ---- Untouched facts

right_false : (a b : Bool) → (a || b) ≡ false → b ≡ false
right_false true b is = absurd (cc is)
right_false false b is = is

module _ (read : List Bool) where
  pub none_threatens : (effects : List Set) (test : Test) → list_any (λ (effect : Set). is_read read effect.fact) effects ≡ false → is_read read test.fact ≡ true → threatens effects test ≡ false
  none_threatens [] test none has = refl
  none_threatens (effect ∷ effects) test none has = elim (tested effect.fact test.fact) [
    | inl hit ↦
        let own : is_read read effect.fact ≡ true = ap (is_read read) (is_same effect.fact test.fact hit) ∙ has in
        absurd (cc (sym none, ap (λ (b : Bool). b || list_any (λ (effect : Set). is_read read effect.fact) effects) own))
    | inr miss ↦
        let rest : list_any (λ (effect : Set). is_read read effect.fact) effects ≡ false = right_false (is_read read effect.fact) (list_any (λ (effect : Set). is_read read effect.fact) effects) none in
        ap (λ (b : Bool). (b && change_threatens test.op test.value effect.how effect.value) || threatens effects test) miss ∙ none_threatens effects test rest has
  ]

  module _ (rules : List Rule) (action : ℕ) (none : list_any (λ (effect : Set). is_read read effect.fact) (rule_effects rules action) ≡ false) where
    head_safe : (head : Head) → IsRead rules read head → rule_threatens rules action head.row ≡ false
    head_safe head has =
        elim (rule_test rules head.row) as (λ (o : Option Test). rule_test rules head.row ≡ o → option_map_or (λ (test : Test). threatens (rule_effects rules action) test) o false ≡ false) [
          | Some test ↦ λ is. none_threatens (rule_effects rules action) test none (has test is)
          | None ↦ λ is. refl
        ] refl

    pub none_wanted : (s : Slab Node) (found : List Head) → AreRead rules read found → find (wanted s rules action) found ≡ None
    none_wanted s [] all = refl
    none_wanted s (head ∷ found) all = ap (λ (b : Bool). cond b (Some head) (find (wanted s rules action) found)) (head_safe head all.0) ∙ none_wanted s found all.1

-- what was read is read
pub still_read : (rules : List Rule) (old new : List Bool) → ((own : ℕ) → is_read old own ≡ true → is_read new own ≡ true) → (found : List Head) → AreRead rules old found → AreRead rules new found
still_read rules old new kept [] all = tt
still_read rules old new kept (head ∷ found) all = ((λ test is. kept test.fact (all.0 test is)), still_read rules old new kept found all.1)

-- ---- The heads of children

abbrev pub heads_at : Slab Node → List ℕ → List Head
heads_at s [] = []
heads_at s (key ∷ keys) = option_to_list (head_at s key) ++ heads_at s keys

heads_at-append : (s : Slab Node) (xs ys : List ℕ) → heads_at s (xs ++ ys) ≡ heads_at s xs ++ heads_at s ys
heads_at-append s [] ys = refl
heads_at-append s (x ∷ xs) ys =
    ap (λ (l : List Head). option_to_list (head_at s x) ++ l) (heads_at-append s xs ys) ∙ sym (append_assoc (option_to_list (head_at s x)) (heads_at s xs) (heads_at s ys))

heads_are : (s : Slab Node) (parent : Option ℕ) (keys : List ℕ) (f : Forest) → Stands s parent keys f → heads f ≡ heads_at s keys
heads_are s parent keys Empty is = ap (heads_at s) (sym is)
heads_are s parent keys (Tree key part below rest) (children, others, is, keeps, stands, later) =
    ap (λ (l : List Head). l ++ heads rest) (head_is s parent key part children below keeps stands)
    ∙ ap (λ (l : List Head). option_to_list (head_at s key) ++ l) (heads_are s parent others rest later)
    ∙ ap (heads_at s) (sym is)

-- the heads of a sequence's first children are read, and all that was read before
pub record HasAdded (t : PlanTree) (part : Part) (keys : List ℕ) (read within : List Bool) : Type 0 where
  pub kept : (own : ℕ) → is_read read own ≡ true → is_read within own ≡ true
  pub added : is_sequence part ≡ true → AreRead t.rules within (heads_at t.nodes keys)

pub has_none : (t : PlanTree) (part : Part) (read : List Bool) → HasAdded t part [] read read
has_none t part read = record { kept = λ own is. is; added = λ is. tt }

module _ (t : PlanTree) (part : Part) (read old new : List Bool)
    (kept : (own : ℕ) → is_read old own ≡ true → is_read new own ≡ true)
  where
    one_added : (key : ℕ) → ((head : Head) → is_sequence part ≡ true → head_at t.nodes key ≡ Some head → IsRead t.rules new head) → is_sequence part ≡ true →
        AreRead t.rules new (option_to_list (head_at t.nodes key))
    one_added key added sequence = elim (head_at t.nodes key) as (λ (o : Option Head). head_at t.nodes key ≡ o → AreRead t.rules new (option_to_list o)) [
      | Some head ↦ λ is. (added head sequence is, tt)
      | None ↦ λ is. tt
    ] refl

    pub has_more : (keys : List ℕ) (i : ℕ) → i < length keys →
        ((head : Head) → is_sequence part ≡ true → head_at t.nodes (get_or keys i 0) ≡ Some head → IsRead t.rules new head) →
        HasAdded t part (take i keys) read old → HasAdded t part (take (i + 1) keys) read new
    has_more keys i within added before = record {
      kept = λ own is. kept own (before.kept own is);
      added = λ sequence.
          subst (λ (l : List Head). AreRead t.rules new l)
          (sym (ap (heads_at t.nodes) (take_more keys i 0 within) ∙ heads_at-append t.nodes (take i keys) (get_or keys i 0 ∷ [])))
          (all_both (IsRead t.rules new) (heads_at t.nodes (take i keys)) (heads_at t.nodes (get_or keys i 0 ∷ []))
          (still_read t.rules old new kept (heads_at t.nodes (take i keys)) (before.added sequence))
          (all_both (IsRead t.rules new) (option_to_list (head_at t.nodes (get_or keys i 0))) [] (one_added (get_or keys i 0) added sequence) tt));
    }

-- ---- Where a child stands

pub around : (keys : List ℕ) (i : ℕ) → i < length keys → keys ≡ take i keys ++ get_or keys i 0 ∷ drop (suc i) keys
around [] i within = absurd (omega (arith, within))
around (k ∷ keys) zero within = refl
around (k ∷ keys) (suc i) within = ap (λ (l : List ℕ). k ∷ l) (around keys i (omega (arith, within)))

module _ (t : PlanTree) (world : World) (tree : Forest) (key : ℕ) (place : Place) (node : Node) (below : Forest) (at : IsPlaced t world tree key place node below)
    (keys : List ℕ) (are : keys ≡ node.children.items) (i : ℕ) (within : i < length keys)
  where
    abbrev child : ℕ
    child = get_or keys i 0

    abbrev before_in : Bool → List Head
    before_in sequence = if sequence then heads_at t.nodes (take i keys) else []

    -- a child's place: the node is right above it
    pub record IsChild (p : Place) : Type 0 where
      pub place_is : place_of child tree ≡ Some p
      pub outer : outer_of p.above ≡ place.above
      pub heads_are : heads_before p.above ≡ heads_before place.above ++ before_in (is_sequence node.part)

    module _ (p : Place) (found : place_of child tree ≡ Some p) (a : Ancestor) (outer : List Ancestor) (above : p.above ≡ a ∷ outer) (own : key ≡ a.key)
        (up : Above t.nodes t.root tree at.stands.nodes at.stands.apart.once child a outer)
      where
        same_place : outer ≡ place.above
        same_place =
            let both : Some (record { before = up.before; above = outer }) ≡ Some place = sym up.place ∙ ap (λ (k : ℕ). place_of k tree) (sym own) ∙ at.place_is in
            ap (λ (o : Option Place). option_map_or (λ (q : Place). q.above) o []) both

        same_node : up.keeps.node ≡ node
        same_node =
            let both : Some up.keeps.node ≡ Some node = sym up.keeps.there ∙ ap (get t.nodes) (sym own) ∙ at.there in
            cc both

        same_part : a.part ≡ node.part
        same_part = sym up.keeps.part_is ∙ ap (λ (n : Node). n.part) same_node

        keys_are : keys ≡ tops a.before ++ child ∷ up.others
        keys_are = are ∙ sym (ap (λ (n : Node). n.children.items) same_node) ∙ up.keeps.children_are ∙ up.children_of

        same_before : tops a.before ≡ take i keys
        same_before =
            sym (ap (keys_before child) keys_are ∙ before_at child up.below (tops a.before) up.others up.tops_of up.once)
            ∙ ap (keys_before child) (around keys i within)
            ∙ before_at child up.below (take i keys) (drop (suc i) keys) (up.tops_of ∙ sym keys_are ∙ around keys i within) up.once

        same_heads : heads_in a ≡ before_in (is_sequence node.part)
        same_heads =
            ap (λ (x : Part). if is_sequence x then heads a.before else []) same_part
            ∙ ap (λ (l : List Head). if is_sequence node.part then l else []) (heads_are t.nodes (Some a.key) (tops a.before) a.before up.left ∙ ap (heads_at t.nodes) same_before)

        is_child : IsChild p
        is_child = record {
          place_is = found;
          outer = ap outer_of above ∙ same_place;
          heads_are = ap heads_before above ∙ ap (λ (l : List Head). heads_before outer ++ l) same_heads ∙ ap (λ (l : List Ancestor). heads_before l ++ before_in (is_sequence node.part)) same_place;
        }

    pub child_at : 1 ≤ times child tree → (n : Node) → get t.nodes child ≡ Some n → n.parent ≡ Some key → (p : Place) × IsChild p
    child_at has n there parent_is =
        let found = node_found child tree has in
        let p = placed child tree found.0 found.1 in
        let says : option_and_then (λ (m : Node). m.parent) (get t.nodes child) ≡ Some key = ap (λ (o : Option Node). option_and_then (λ (m : Node). m.parent) o) there ∙ parent_is in
        let up = some_parent t.nodes t.root tree at.stands.nodes at.stands.apart.once child key p.0 p.1 says in
        (p.0, is_child p.0 p.1 up.0 up.1 up.2 up.3 (above_at t.nodes t.root tree at.stands.nodes at.stands.apart.once child p.0 up.0 up.1 p.1 up.2))

    -- what is read before the child
    pub child_read : (read inner : List Bool) → AreRead t.rules read (heads_before place.above) → HasAdded t node.part (take i keys) read inner → (p : Place) → IsChild p →
        AreRead t.rules inner (heads_before p.above)
    child_read read inner all added p own =
        subst (λ (l : List Head). AreRead t.rules inner l) (sym own.heads_are)
        (all_both (IsRead t.rules inner) (heads_before place.above) (before_in (is_sequence node.part)) (still_read t.rules read inner added.kept (heads_before place.above) all)
        (elim (is_sequence node.part) as (λ (b : Bool). is_sequence node.part ≡ b → AreRead t.rules inner (before_in b)) [
          | true ↦ λ is. added.added is
          | false ↦ λ is. tt
        ] refl))
