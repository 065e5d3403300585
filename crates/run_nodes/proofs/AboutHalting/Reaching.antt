-- Each node of an arena is one of a term that stands there.
use Rattle.std.proofs.Common.{◌≡◌, inl, inr, ℕ, ◌+◌, ◌<◌, ◌≤◌, List, [], ◌∷◌, map, length, refl, sym, ap, subst, ◌∙◌, arith}
use Rattle.std.proofs.lemmas.Bool.{cases_eq, cases_lt}
use Rattle.std.proofs.lemmas.List.Sums.{sum_by-cons}
use Rattle.spec_tree.specs.declared.term.Term.{Term, Term-F, ind-Term, out-roll-Term, roll-Term}
use Rattle.spec_run.specs.Sites.{Meaning, View, sizes}
use Rattle.spec_run.specs.Visit.{meaning}
use Rattle.run_arena.specs.declared.nodes.Node.{Node}
use Rattle.run_arena.specs.Nodes.{node_at}
use Rattle.run_arena.specs.Scenes.{Fits, Scene}
use Rattle.run_arena.specs.Stands.{StandAll, Stands, node_stands, view_under, written}
use Rattle.run_arena.proofs.Opened.{opened, size_out}
use Rattle.run_nodes.proofs.AboutHalting.Within.{size_of_term}

-- a term that stands at a uid, in a view of the same slots and facts
pub record StandsThere (nodes : List Node) (slots facts uid : ℕ) : Type 0 where
  pub term : Term
  pub view : View
  pub stands : Stands term nodes view uid
  pub slots_same : length view.slots ≡ slots
  pub facts_same : length view.facts ≡ facts

module _ (nodes : List Node) (slots facts : ℕ) where
  abbrev IsReached : Term → Type 0
  IsReached t = (view : View) (uid : ℕ) → Stands t nodes view uid → length view.slots ≡ slots → length view.facts ≡ facts → (p : ℕ) → uid ≤ p → p < uid + (meaning t).size → StandsThere nodes slots facts p

  all_reached : (ts : List ((t : Term) × IsReached t)) (view : View) (uid : ℕ) → StandAll (map (λ e. e.0) ts) nodes view uid → length view.slots ≡ slots → length view.facts ≡ facts → (p : ℕ) → uid ≤ p → p < uid + sizes (map meaning (map (λ e. e.0) ts)) → StandsThere nodes slots facts p
  all_reached [] view uid stand same_slots same_facts p low high = absurd (omega (arith, low, high))
  all_reached (e ∷ ts) view uid stand same_slots same_facts p low high =
      let more : sizes (map meaning (map (λ x. x.0) (e ∷ ts))) ≡ (meaning e.0).size + sizes (map meaning (map (λ x. x.0) ts)) = sum_by-cons (λ (c : Meaning). c.size) (meaning e.0) (map meaning (map (λ x. x.0) ts)) in
      elim (cases_lt p (uid + (meaning e.0).size)) [
        | inl first ↦ e.1 view uid stand.0 same_slots same_facts p low first
        | inr following ↦ all_reached ts view (uid + (meaning e.0).size) stand.1 same_slots same_facts p following (omega (arith, high, more))
      ]

  reached : (t : Term) → IsReached t
  reached = ind-Term IsReached (λ x y is view uid stands same_slots same_facts p low high.
      let here : node_stands Term (λ c. c) Stands x nodes view uid = subst (λ (z : Term-F Term). node_stands Term (λ c. c) Stands z nodes view uid) (out-roll-Term x) (opened (roll-Term x) nodes view uid stands) in
      let size : (meaning (roll-Term x)).size ≡ 1 + sizes (map meaning x.children) = size_out (roll-Term x) ∙ ap (λ (z : Term-F Term). 1 + sizes (map meaning z.children)) (out-roll-Term x) in
      let children : StandAll x.children nodes (view_under view uid (written x)) (uid + 1) → (q : ℕ) → uid + 1 ≤ q → q < uid + 1 + sizes (map meaning x.children) → StandsThere nodes slots facts q =
      subst (λ (z : Term-F Term). StandAll z.children nodes (view_under view uid (written x)) (uid + 1) → (q : ℕ) → uid + 1 ≤ q → q < uid + 1 + sizes (map meaning z.children) → StandsThere nodes slots facts q) is (λ stand q. all_reached y.children (view_under view uid (written x)) (uid + 1) stand same_slots same_facts q) in
      elim (cases_eq p uid) [
        | inl same ↦ record { term = roll-Term x; view = view; stands = subst (λ (q : ℕ). Stands (roll-Term x) nodes view q) (sym same) stands; slots_same = same_slots; facts_same = same_facts }
        | inr other ↦ children here.2 p (omega (arith, low, other)) (omega (arith, high, size))
      ])

-- for whatever fits an arena, a term fits at each of its uids
pub fits_at : (t : Term) (view : View) (uid : ℕ) (nodes : List Node) (s : Scene) → Fits t view uid nodes s → (p : ℕ) → uid ≤ p → p < uid + (node_at nodes uid).size → (c : Term) × (below : View) × Fits c below p nodes s
fits_at t view uid nodes s fits p low high =
    let there : StandsThere nodes (length view.slots) (length view.facts) p = reached nodes (length view.slots) (length view.facts) t view uid fits.stands refl refl p low (omega (arith, high, size_of_term t view uid nodes s fits)) in
    (there.term, there.view, record { stands = there.stands; few = fits.few; marks = fits.marks; leaves = fits.leaves; slots = fits.slots ∙ sym there.slots_same; facts = fits.facts ∙ sym there.facts_same })
