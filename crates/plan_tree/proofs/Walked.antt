-- What walks over the slab find, tree by tree.
use Rattle.std.proofs.Common.{◌≡◌, ◌≢◌, ℕ, suc, ◌+◌, ◌-◌, ◌<◌, ◌≤◌, List, [], ◌∷◌, ◌++◌, length, take, drop, get_or, Option, Some, None, refl, ap, sym, ◌∙◌, subst, arith}
use Rattle.std.specs.Prelude.{slice_get}
use Rattle.slab.specs.Slab.{Slab, get}
use Rattle.spec_tree.specs.declared.term.Term.{Term, roll-Term}
use Rattle.spec_world.specs.declared.world.Row.{Row}
use Rattle.plan_tree.specs.declared.node.Node.{Node}
use Rattle.spec_plan.specs.declared.part.Part.{Part}
use Rattle.spec_plan.specs.Forests.{Forest, Empty, Tree, joined}
use Rattle.plan_tree.specs.Sizes.{height, keys_of, size}
use Rattle.spec_plan.specs.Planned.{kind_of, part_id, plain_node, terms_of}
use Rattle.plan_tree.specs.Stands.{Stands}
use Rattle.plan_tree.proofs.Split.{Split, get-append_left, get-append_right, keys-joined, length-keys, split_all, split_height, split_last, split_size, stands_none}

module _ (s : Slab Node) (keys : List ℕ) (i : ℕ) (within : i < length keys) where
  -- each key of some trees has a node
  pub no_node : get s (get_or keys i 0) ≡ None → (parent : Option ℕ) (f : Forest) → Stands s parent (take (i + 1) keys) f → ⊥
  no_node none parent f stands = let split = split_last s parent keys i f within stands in absurd (cc (none, split.keeps.there))

  module _ (node : Node) (there : get s (get_or keys i 0) ≡ Some node) where
    -- what the split at the place says of the node there
    split_node : (parent : Option ℕ) (before after : List ℕ) (f : Forest) (split : Split s parent before (get_or keys i 0) after f) → (split.part ≡ node.part) × (split.children ≡ node.children.items)
    split_node parent before after f split =
        let e : split.keeps.node ≡ node = cc (split.keeps.there, there) in
        (sym split.keeps.part_is ∙ ap (λ (n : Node). n.part) e, sym split.keeps.children_are ∙ ap (λ (n : Node). n.children.items) e)

    pub below_node : (parent : Option ℕ) (before after : List ℕ) (f : Forest) (split : Split s parent before (get_or keys i 0) after f) → Stands s (Some (get_or keys i 0)) node.children.items split.below
    below_node parent before after f split = subst (λ (l : List ℕ). Stands s (Some (get_or keys i 0)) l split.below) (split_node parent before after f split).1 split.stands_below

-- ---- Terms

pub terms-joined : (rows : List Row) (f g : Forest) → terms_of rows (joined f g) ≡ terms_of rows f ++ terms_of rows g
terms-joined rows Empty g = refl
terms-joined rows (Tree key part below rest) g =
    ap (λ (l : List Term). roll-Term (plain_node (kind_of part) (part_id rows part) (terms_of rows below)) ∷ l) (terms-joined rows rest g)

module _ (s : Slab Node) (rows : List Row) (keys : List ℕ) (i : ℕ) (within : i < length keys) (levels : ℕ) (some : 1 ≤ levels) (items now : List Term) (term : Term) (node : Node)
    (before : (parent : Option ℕ) (f : Forest) → Stands s parent (take i keys) f → height f ≤ levels → items ≡ terms_of rows f)
    (there : get s (get_or keys i 0) ≡ Some node)
    (is_term : (key : ℕ) (below : Forest) → Stands s (Some key) node.children.items below → height below ≤ levels - 1 → term ≡ roll-Term (plain_node (kind_of node.part) (part_id rows node.part) (terms_of rows below)))
    (now_is : now ≡ items ++ term ∷ [])
  where
    pub next_terms : (parent : Option ℕ) (f : Forest) → Stands s parent (take (i + 1) keys) f → height f ≤ levels → now ≡ terms_of rows f
    next_terms parent f stands low =
        let split = split_last s parent keys i f within stands in
        let high = split_height s parent (take i keys) (get_or keys i 0) [] f split in
        let own = split_node s keys i within node there parent (take i keys) [] f split in
        let left = before parent split.left split.stands_left (omega (arith, low, high)) in
        let this = is_term (get_or keys i 0) split.below (below_node s keys i within node there parent (take i keys) [] f split) (omega (arith, low, high, some)) in
        let this_part : term ≡ roll-Term (plain_node (kind_of split.part) (part_id rows split.part) (terms_of rows split.below)) =
        this ∙ ap (λ (x : Part). roll-Term (plain_node (kind_of x) (part_id rows x) (terms_of rows split.below))) (sym own.0) in
        let right : terms_of rows split.right ≡ [] = ap (terms_of rows) (stands_none s parent split.right split.stands_right) in
        now_is ∙ ap (λ (l : List Term). l ++ term ∷ []) left ∙ ap (λ (t : Term). terms_of rows split.left ++ t ∷ []) this_part
        ∙ ap (λ (l : List Term). terms_of rows split.left ++ roll-Term (plain_node (kind_of split.part) (part_id rows split.part) (terms_of rows split.below)) ∷ l) (sym right)
        ∙ sym (terms-joined rows split.left (Tree (get_or keys i 0) split.part split.below split.right)) ∙ ap (terms_of rows) (sym split.is)

module _ (s : Slab Node) (rows : List Row) (keys : List ℕ) (i : ℕ) (within : i < length keys) (levels : ℕ) (some : 1 ≤ levels) (items now : List Term) (term : Term) (node : Node)
    (before : (parent : Option ℕ) (f : Forest) → Stands s parent (take i keys) f → height f ≤ levels → (take i items ≡ terms_of rows f) × (i ≤ length items))
    (there : get s (get_or keys i 0) ≡ Some node)
    (is_term : (key : ℕ) (below : Forest) → Stands s (Some key) node.children.items below → height below ≤ levels - 1 → term ≡ roll-Term (plain_node (kind_of node.part) (part_id rows node.part) (terms_of rows below)))
    (now_is : i ≤ length items → take (i + 1) now ≡ take i items ++ term ∷ [])
    (long : i ≤ length items → i + 1 ≤ length now)
  where
    -- the same where the terms stand at the front of others
    pub next_renewed : (parent : Option ℕ) (f : Forest) → Stands s parent (take (i + 1) keys) f → height f ≤ levels → (take (i + 1) now ≡ terms_of rows f) × (i + 1 ≤ length now)
    next_renewed parent f stands low =
        let split = split_last s parent keys i f within stands in
        let high = split_height s parent (take i keys) (get_or keys i 0) [] f split in
        let left = before parent split.left split.stands_left (omega (arith, low, high)) in
        (next_terms s rows keys i within levels some (take i items) (take (i + 1) now) term node (λ p g st lo. (before p g st lo).0) there is_term (now_is left.1) parent f stands low, long left.1)

-- ---- Numbers

module _ (s : Slab Node) (keys : List ℕ) (i : ℕ) (within : i < length keys) (levels number left : ℕ) (some : 1 ≤ levels)
    (before : (parent : Option ℕ) (f : Forest) → Stands s parent (take i keys) f → height f ≤ levels → number ≡ left + size f)
  where
    module _ (parent : Option ℕ) (f : Forest) (stands : Stands s parent keys f) (low : height f ≤ levels) where
      all : Split s parent (take i keys) (get_or keys i 0) (drop (suc i) keys) f
      all = split_all s parent keys i f within stands

      past_left : number ≡ left + size all.left
      past_left = let high = split_height s parent (take i keys) (get_or keys i 0) (drop (suc i) keys) f all in before parent all.left all.stands_left (omega (arith, low, high))

      keys_are : keys_of f ≡ keys_of all.left ++ (get_or keys i 0 ∷ (keys_of all.below ++ keys_of all.right))
      keys_are = ap keys_of all.is ∙ keys-joined all.left (Tree (get_or keys i 0) all.part all.below all.right)

      at_left : (j key : ℕ) → j ≡ left → slice_get (get_or keys i 0 ∷ (keys_of all.below ++ keys_of all.right)) j ≡ Some key → slice_get (keys_of f) number ≡ Some key
      at_left j key is found =
          let many = length-keys all.left in
          let past = past_left in
          ap (λ (l : List ℕ). slice_get l number) keys_are
          ∙ get-append_right (keys_of all.left) (get_or keys i 0 ∷ (keys_of all.below ++ keys_of all.right)) number j key (omega (arith, many, past, is)) found

      -- the key itself has the number
      pub found_here : left ≡ 0 → slice_get (keys_of f) number ≡ Some (get_or keys i 0)
      found_here none = at_left 0 (get_or keys i 0) (sym none) refl

      -- or a key below it
      pub found_below : (node : Node) → get s (get_or keys i 0) ≡ Some node → (found : ℕ) → left ≢ 0 →
          ((above : Option ℕ) (g : Forest) → Stands s above node.children.items g → height g ≤ levels - 1 → slice_get (keys_of g) (left - 1) ≡ Some found) →
          slice_get (keys_of f) number ≡ Some found
      found_below node there found some_left lower =
          let high = split_height s parent (take i keys) (get_or keys i 0) (drop (suc i) keys) f all in
          let below = lower (Some (get_or keys i 0)) all.below (below_node s keys i within node there parent (take i keys) (drop (suc i) keys) f all) (omega (arith, low, high, some)) in
          at_left (suc (left - 1)) found (omega (arith, some_left)) (get-append_left (keys_of all.below) (keys_of all.right) (left - 1) found below)

    -- past one more tree
    pub past_next : (node : Node) → get s (get_or keys i 0) ≡ Some node → (rest : ℕ) → left ≢ 0 →
        ((above : Option ℕ) (g : Forest) → Stands s above node.children.items g → height g ≤ levels - 1 → left - 1 ≡ rest + size g) →
        (parent : Option ℕ) (f : Forest) → Stands s parent (take (i + 1) keys) f → height f ≤ levels → number ≡ rest + size f
    past_next node there rest some_left lower parent f stands low =
        let split = split_last s parent keys i f within stands in
        let high = split_height s parent (take i keys) (get_or keys i 0) [] f split in
        let wide = split_size s parent (take i keys) (get_or keys i 0) [] f split in
        let none : size split.right ≡ 0 = ap size (stands_none s parent split.right split.stands_right) in
        let past = before parent split.left split.stands_left (omega (arith, low, high)) in
        let below = lower (Some (get_or keys i 0)) split.below (below_node s keys i within node there parent (take i keys) [] f split) (omega (arith, low, high, some)) in
        omega (arith, wide, none, past, below, some_left)
