-- A term in an arena, opened: its node, and its children after it.
use Rattle.std.proofs.Common.{◌≡◌, ℕ, ◌+◌, ◌<◌, List, [], ◌∷◌, map, length, refl, sym, ap, subst, ◌∙◌}
use Rattle.std.proofs.lemmas.List.{length-map}
use Rattle.spec_tree.specs.declared.term.Term.{Term, Term-F, fold_out-Term, out-Term, roll-Term, roll-out-Term}
use Rattle.spec_tree.specs.declared.term.Term.TheFolds.{map-Term, rec-roll-Term}
use Rattle.spec_run.specs.Sites.{Meaning, View, remembered, sizes}
use Rattle.spec_run.specs.Visit.{meaning, meaning_of_node}
use Rattle.run_arena.specs.declared.nodes.Kept.{Kept}
use Rattle.run_arena.specs.declared.nodes.Node.{Node}
use Rattle.run_arena.specs.Nodes.{IsNode, kept_at, node_at}
use Rattle.run_arena.specs.Stands.{Reading, Standing, StandInOrder, Stands, memories_of, memory_of, node_stands, reading_of_node, uids_in_order, view_under, written}

pub map_twice : {A B C : Type 0} (f : A → B) (g : B → C) (xs : List A) → map (λ x. g (f x)) xs ≡ map g (map f xs)
map_twice f g [] = refl
map_twice f g (x ∷ xs) = ap (λ ys. g (f x) ∷ ys) (map_twice f g xs)

module _ {X : Type 0} (term : X → Term) where
  -- values that stand for terms stand as the terms do
  stand_as_terms : (stands : Term → Standing) (cs : List X) (nodes : List Node) (view : View) (uid : ℕ) →
      StandInOrder (λ c. (meaning (term c)).size) (λ c. stands (term c)) cs nodes view uid ≡ StandInOrder (λ t. (meaning t).size) stands (map term cs) nodes view uid
  stand_as_terms stands [] nodes view uid = refl
  stand_as_terms stands (c ∷ cs) nodes view uid = λ i. stands (term c) nodes view uid × stand_as_terms stands cs nodes view (uid + (meaning (term c)).size) i

  -- their uids are those of the terms
  uids_as_terms : (cs : List X) (uid : ℕ) → uids_in_order (λ c. (meaning (term c)).size) cs uid ≡ uids_in_order (λ t. (meaning t).size) (map term cs) uid
  uids_as_terms [] uid = refl
  uids_as_terms (c ∷ cs) uid = ap (λ us. uid ∷ us) (uids_as_terms cs (uid + (meaning (term c)).size))

  node_stands_as_terms : (stands : Term → Standing) (node : Term-F X) → node_stands X term (λ c. stands (term c)) node ≡ node_stands Term (λ t. t) stands (map-Term X Term term node)
  node_stands_as_terms stands node = λ i nodes view uid.
      (uid < length nodes)
      × IsNode view (record (written node) { children = sym (length-map node.children term) i }) (1 + sizes (map_twice term meaning node.children i)) (node_at nodes uid)
      × stand_as_terms stands node.children nodes (view_under view uid (written node)) (uid + 1) i
      × ((node_at nodes uid).child_uids ≡ uids_as_terms node.children (uid + 1) i)

pub stands_roll : (x : Term-F Term) → Stands (roll-Term x) ≡ node_stands Term (λ t. t) Stands x
stands_roll x = rec-roll-Term Standing node_stands (λ Y v k x. node_stands_as_terms v k x) x

-- A term that stands: its node is there, and its children come after it.
pub stands_out : (t : Term) → Stands t ≡ node_stands Term (λ t. t) Stands (out-Term t)
stands_out t = ap Stands (sym (roll-out-Term t)) ∙ stands_roll (out-Term t)

-- ---- sizes

pub size_out : (t : Term) → (meaning t).size ≡ 1 + sizes (map meaning (out-Term t).children)
size_out t = ap (λ (m : Meaning). m.size) (fold_out-Term Meaning meaning_of_node t)

-- ---- memories

pub memory_out : (t : Term) (uid : ℕ) (kept : List Kept) →
    memory_of t uid kept ≡ remembered (kept_at kept uid).status (kept_at kept uid).memo (memories_of (out-Term t).children (uid + 1) kept)
memory_out t uid kept = ap (λ (r : Reading). r.memory uid kept) (fold_out-Term Reading reading_of_node t)

pub opened : (t : Term) (nodes : List Node) (view : View) (uid : ℕ) → Stands t nodes view uid → node_stands Term (λ c. c) Stands (out-Term t) nodes view uid
opened t nodes view uid stands = subst (λ (p : Standing). p nodes view uid) (stands_out t) stands

pub closed : (t : Term) (nodes : List Node) (view : View) (uid : ℕ) → node_stands Term (λ c. c) Stands (out-Term t) nodes view uid → Stands t nodes view uid
closed t nodes view uid stands = subst (λ (p : Standing). p nodes view uid) (sym (stands_out t)) stands
