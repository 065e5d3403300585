-- Whether a term stands in an arena depends on its own nodes alone.
use Rattle.std.proofs.Common.{◌≡◌, ℕ, ◌+◌, ◌<◌, ◌≤◌, List, [], ◌∷◌, map, length, sum, refl, sym, ap, subst, ◌∙◌, arith}
use Rattle.std.proofs.lemmas.List.Sums.{sum_by-cons}
use Rattle.spec_tree.specs.declared.term.Term.{Term, Term-F, ind-Term, fold-roll-Term, roll-Term}
use Rattle.spec_run.specs.Sites.{Meaning, View, sizes}
use Rattle.spec_tree.specs.Terms.{node_count}
use Rattle.spec_run.specs.Visit.{meaning, meaning_of_node}
use Rattle.run_arena.specs.declared.nodes.Node.{Node}
use Rattle.run_arena.specs.Nodes.{IsNode, node_at}
use Rattle.run_arena.specs.Stands.{Standing, StandAll, Stands, view_under, written}
use Rattle.run_arena.proofs.Framed.{all_sizes, sizes_cons}
use Rattle.run_arena.proofs.Opened.{stands_roll}

-- these nodes are the same in both arenas, where they are there
abbrev pub AreSame : ℕ → ℕ → List Node → List Node → Type 0
AreSame uid size a b = (p : ℕ) → uid ≤ p → p < uid + size → p < length a → (p < length b) × (node_at b p ≡ node_at a p)

abbrev IsStatic : Term → Type 0
IsStatic t = (a b : List Node) (view : View) (uid : ℕ) → AreSame uid (meaning t).size a b → Stands t a view uid → Stands t b view uid

all_static : (ts : List ((t : Term) × IsStatic t)) (a b : List Node) (view : View) (uid : ℕ) → AreSame uid (all_sizes (map (λ e. e.0) ts)) a b
    → StandAll (map (λ e. e.0) ts) a view uid → StandAll (map (λ e. e.0) ts) b view uid
all_static [] a b view uid same stand = tt
all_static (e ∷ ts) a b view uid same stand =
    let whole = sizes_cons e.0 (map (λ x. x.0) ts) in (
      e.1 a b view uid (λ p low high. same p low (omega (arith, high, whole))) stand.0,
      all_static ts a b view (uid + (meaning e.0).size) (λ p low high. same p (omega (arith, low)) (omega (arith, high, whole))) stand.1,
    )

-- a term stands wherever its nodes are the same
pub static : (t : Term) (a b : List Node) (view : View) (uid : ℕ) → AreSame uid (meaning t).size a b → Stands t a view uid → Stands t b view uid
static = ind-Term IsStatic (λ x y is a b view uid same stands.
    let whole : (meaning (roll-Term x)).size ≡ 1 + all_sizes x.children = ap (λ (m : Meaning). m.size) (fold-roll-Term Meaning meaning_of_node x) in
    let here = subst (λ (p : Standing). p a view uid) (stands_roll x) stands in
    let there = same uid (omega arith) (omega (arith, whole)) here.0 in
    let children : StandAll x.children b (view_under view uid (written x)) (uid + 1) =
    subst (λ (z : Term-F Term). AreSame (uid + 1) (all_sizes z.children) a b → StandAll z.children a (view_under view uid (written x)) (uid + 1) → StandAll z.children b (view_under view uid (written x)) (uid + 1)) is
    (all_static y.children a b (view_under view uid (written x)) (uid + 1))
    (λ p low high. same p (omega (arith, low)) (omega (arith, high, whole))) here.2 in
    subst (λ (p : Standing). p b view uid) (sym (stands_roll x))
    (there.0, subst (λ (n : Node). IsNode view (written x) (1 + sizes (map (λ c. meaning c) x.children)) n) (sym there.1) here.1, children, ap (λ (n : Node). n.child_uids) there.1 ∙ here.3))

-- several terms stand wherever their nodes are the same
pub static_all : (ts : List Term) (a b : List Node) (view : View) (uid : ℕ) → AreSame uid (all_sizes ts) a b → StandAll ts a view uid → StandAll ts b view uid
static_all [] a b view uid same stand = tt
static_all (t ∷ ts) a b view uid same stand =
    let whole = sizes_cons t ts in (
      static t a b view uid (λ p low high. same p low (omega (arith, high, whole))) stand.0,
      static_all ts a b view (uid + (meaning t).size) (λ p low high. same p (omega (arith, low)) (omega (arith, high, whole))) stand.1,
    )

-- ---- sizes are counts of nodes

abbrev IsCounted : Term → Type 0
IsCounted t = (meaning t).size ≡ node_count t

all_counted : (ts : List ((t : Term) × IsCounted t)) → all_sizes (map (λ e. e.0) ts) ≡ sum (map node_count (map (λ e. e.0) ts))
all_counted [] = refl
all_counted (e ∷ ts) = omega (arith, e.1, all_counted ts, sizes_cons e.0 (map (λ x. x.0) ts), sum_by-cons (λ (k : ℕ). k) (node_count e.0) (map node_count (map (λ x. x.0) ts)))

pub size_is : (t : Term) → (meaning t).size ≡ node_count t
size_is = ind-Term IsCounted (λ x y is.
    ap (λ (m : Meaning). m.size) (fold-roll-Term Meaning meaning_of_node x)
    ∙ subst (λ (z : Term-F Term). 1 + all_sizes z.children ≡ 1 + sum (map node_count z.children)) is (ap (λ (n : ℕ). 1 + n) (all_counted y.children))
    ∙ sym (fold-roll-Term ℕ (λ node. 1 + sum node.children) x))

pub sizes_are : (ts : List Term) → all_sizes ts ≡ sum (map node_count ts)
sizes_are [] = refl
sizes_are (t ∷ ts) = omega (arith, size_is t, sizes_are ts, sizes_cons t ts, sum_by-cons (λ (k : ℕ). k) (node_count t) (map node_count ts))
