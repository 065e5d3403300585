-- Raise after raise.
use Rattle.std.proofs.Common.{◌≡◌, ℕ, zero, suc, ◌+◌, ◌<◌, ◌≤◌, List, Bool, true, false, Option, Some, None, MatchBool, refl, ap, sym, ◌∙◌, subst, arith}
use Rattle.std.specs.Prelude.{is_some}
use Rattle.spec_world.specs.declared.world.Row.{Row}
use Rattle.spec_world.specs.declared.world.World.{World}
use Rattle.spec_plan.specs.declared.part.Part.TheVariants.{Sequence}
use Rattle.plan_tree.specs.declared.tree.PlanTree.{PlanTree}
use Rattle.spec_plan.specs.Forests.{Forest, times}
use Rattle.plan_tree.specs.Sizes.{subtrees}
use Rattle.plan_tree.specs.Stands.{IsSequenceOf, StandsFor}
use Rattle.plan_tree.proofs.Expansions.{node_counts, part_node}
use Rattle.slab.specs.Slab.{slab_len}
use Rattle.spec_plan.specs.Conflicts.{Pair}
use Rattle.plan_reorder.specs.Raises.{Raises}
use Rattle.spec_plan.specs.Raising.{raised}
use Rattle.spec_plan.specs.Settling.{AreRaises, first_conflict}
use Rattle.plan_search.specs.Grown.{IsLeft}
use Rattle.plan_search.proofs.Nearer.{front, front_within, raised_nearer}

-- one raise more
pub raised_on : (rows : List Row) (sequence raises : ℕ) (tree now next : Forest) (pair : Pair) → AreRaises rows sequence raises tree now → first_conflict rows now ≡ Some pair → raised sequence now ≡ Some next →
    AreRaises rows sequence (raises + 1) tree next
raised_on rows sequence raises tree now next pair so_far conflict raise =
    let more : suc raises ≡ raises + 1 = omega arith in
    subst (λ (n : ℕ). AreRaises rows sequence n tree next) more (go raises tree so_far) where
      go : (raises : ℕ) (tree : Forest) → AreRaises rows sequence raises tree now → AreRaises rows sequence (suc raises) tree next
      go zero tree same =
          let end : next ≡ next = refl in
          (pair, next, ap (first_conflict rows) same ∙ conflict, ap (λ (f : Forest). raised sequence f) same ∙ raise, end)
      go (suc raises) tree (p, mid, is, moved, rest) = (p, mid, is, moved, go raises mid rest)

pub sequence_counts : (tree : Forest) (sequence : ℕ) → IsSequenceOf tree sequence → 1 ≤ times sequence tree
sequence_counts tree sequence is = let node = part_node sequence tree (Sequence is.0) is.1 in node_counts sequence tree (Sequence is.0, node.0) node.1

-- what is known of the tree after so many raises
pub record SoFar (world : World) (first now : PlanTree) (tree : Forest) (sequence raises : ℕ) : Type 0 where
  pub after : Forest
  pub raised : AreRaises world.rows sequence raises tree after
  pub stands : StandsFor now world after
  pub is : IsSequenceOf after sequence
  pub many : subtrees after ≡ subtrees tree
  pub nearer : front sequence after + raises < slab_len first.nodes

pub first_so_far : (world : World) (t : PlanTree) (tree : Forest) (sequence : ℕ) → StandsFor t world tree → IsSequenceOf tree sequence → SoFar world t t tree sequence 0
first_so_far world t tree sequence st is =
    let own : tree ≡ tree = refl in
    let within = front_within sequence tree (sequence_counts tree sequence is) in
    let whole = st.whole in
    record { after = tree; raised = own; stands = st; is = is; many = refl; nearer = omega (arith, within, whole) }

-- the first conflict, where there is one
conflict_in : (rows : List Row) (tree : Forest) → is_some (first_conflict rows tree) ≡ true → (pair : Pair) × (first_conflict rows tree ≡ Some pair)
conflict_in rows tree is = elim (first_conflict rows tree) as (λ (o : Option Pair). is_some o ≡ true → (pair : Pair) × (o ≡ Some pair)) [
  | Some pair ↦ λ e. (pair, refl)
  | None ↦ λ e. absurd (cc e)
] is

-- nothing is left where nothing conflicts
pub left_none : (world : World) (sequence : ℕ) (tree : Forest) → is_some (first_conflict world.rows tree) ≡ false → IsLeft world sequence tree None
left_none world sequence tree is = elim (first_conflict world.rows tree) as (λ (o : Option Pair). is_some o ≡ false → o ≡ None) [
  | Some pair ↦ λ e. absurd (cc e)
  | None ↦ λ e. refl
] is

-- .. and the first conflict where no raise is left
pub left_over : (world : World) (sequence : ℕ) (tree : Forest) (found : Option Pair) → is_some (first_conflict world.rows tree) ≡ true → found ≡ first_conflict world.rows tree → raised sequence tree ≡ None →
    IsLeft world sequence tree found
left_over world sequence tree found is same none = elim found as (λ (o : Option Pair). o ≡ first_conflict world.rows tree → IsLeft world sequence tree o) [
  | Some pair ↦ λ e. (sym e, none)
  | None ↦ λ e. absurd (cc (sym is, ap (λ (o : Option Pair). is_some o) (sym e)))
] same

pub next_so_far : (world : World) (first old now : PlanTree) (tree : Forest) (sequence raises : ℕ) (s : SoFar world first old tree sequence raises) →
    is_some (first_conflict world.rows s.after) ≡ true → Raises now world s.after sequence → SoFar world first now tree sequence (raises + 1)
next_so_far world first old now tree sequence raises s conflict r =
    let first_is = conflict_in world.rows s.after conflict in
    let nearer = raised_nearer sequence s.after r.tree_after s.stands.apart.once (sequence_counts s.after sequence s.is) r.is in
    let before = s.nearer in
    record {
      after = r.tree_after;
      raised = raised_on world.rows sequence raises tree s.after r.tree_after first_is.0 s.raised first_is.1 r.is;
      stands = r.stands;
      is = (s.is.0, r.kept sequence (Sequence s.is.0) s.is.1);
      many = r.many ∙ s.many;
      nearer = omega (arith, nearer, before);
    }

pub never_past : (world : World) (first now : PlanTree) (tree : Forest) (sequence raises : ℕ) → SoFar world first now tree sequence raises → slab_len first.nodes ≤ raises → ⊥
never_past world first now tree sequence raises s past = let nearer = s.nearer in absurd (omega (arith, nearer, past))

pub where_true : (P Q : Type 0) (b : Bool) → b ≡ true → MatchBool b P Q → P
where_true P Q true is p = p
where_true P Q false is q = cc is

pub where_false : (P Q : Type 0) (b : Bool) → b ≡ false → MatchBool b P Q → Q
where_false P Q true is p = cc is
where_false P Q false is q = q
