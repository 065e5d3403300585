-- Where the nodes of a term stand in an arena, and which of them stay as they were.
use Rattle.std.proofs.Common.{◌≡◌, inl, inr, ℕ, ◌+◌, ◌<◌, ◌≤◌, List, [], ◌∷◌, map, length, true, sym, ap, subst, ◌∙◌, arith, Result, Ok, Err}
use Rattle.std.specs.Prelude.{OnOk}
use Rattle.std.proofs.lemmas.Bool.{cases_eq, cases_lt}
use Rattle.std.proofs.lemmas.List.Sums.{sum_by-cons}
use Rattle.spec_run.specs.declared.status.Status.TheVariants.{Idle, Running}
use Rattle.spec_tree.specs.declared.term.Term.{Term, Term-F, ind-Term, out-Term, out-roll-Term, roll-Term}
use Rattle.spec_run.specs.Sites.{Meaning, View, sizes}
use Rattle.spec_run.specs.Visit.{meaning}
use Rattle.run_arena.specs.declared.nodes.Kept.{Kept}
use Rattle.run_arena.specs.declared.nodes.Node.{Node}
use Rattle.run_arena.specs.Nodes.{kept_at, node_at}
use Rattle.run_arena.specs.Scenes.{Fits, Scene}
use Rattle.run_arena.specs.Stands.{Beside, StandAll, Stands, node_stands, uids_of, view_under, written}
use Rattle.run_arena.proofs.Opened.{opened, size_out}
use Rattle.run_nodes.specs.Halting.Halts.{RunningAreHeld}
use Rattle.run_nodes.proofs.AboutHalting.Marks.{as_many_marks}
use Rattle.run_nodes.proofs.AboutHalting.Memories.{IsChild, child_stands, child_within}

-- ---- Bounds

abbrev IsWithin : Term → Type 0
IsWithin t = (nodes : List Node) (view : View) (uid : ℕ) → Stands t nodes view uid → uid + (meaning t).size ≤ length nodes

all_within : (ts : List ((t : Term) × IsWithin t)) (nodes : List Node) (view : View) (uid : ℕ) → uid ≤ length nodes → StandAll (map (λ e. e.0) ts) nodes view uid → uid + sizes (map meaning (map (λ e. e.0) ts)) ≤ length nodes
all_within [] nodes view uid low stand = omega (arith, low)
all_within (e ∷ ts) nodes view uid low stand =
    let first : uid + (meaning e.0).size ≤ length nodes = e.1 nodes view uid stand.0 in
    omega (arith, sum_by-cons (λ (c : Meaning). c.size) (meaning e.0) (map meaning (map (λ x. x.0) ts)), all_within ts nodes view (uid + (meaning e.0).size) first stand.1)

-- the nodes of a term that stands are nodes of the arena
pub stands_within : (t : Term) (nodes : List Node) (view : View) (uid : ℕ) → Stands t nodes view uid → uid + (meaning t).size ≤ length nodes
stands_within = ind-Term IsWithin (λ x y is nodes view uid stands.
    let here : node_stands Term (λ c. c) Stands x nodes view uid = subst (λ (z : Term-F Term). node_stands Term (λ c. c) Stands z nodes view uid) (out-roll-Term x) (opened (roll-Term x) nodes view uid stands) in
    let children : StandAll x.children nodes (view_under view uid (written x)) (uid + 1) → uid + 1 + sizes (map meaning x.children) ≤ length nodes =
    subst (λ (z : Term-F Term). StandAll z.children nodes (view_under view uid (written x)) (uid + 1) → uid + 1 + sizes (map meaning z.children) ≤ length nodes) is (all_within y.children nodes (view_under view uid (written x)) (uid + 1) (omega (arith, here.0))) in
    let size : (meaning (roll-Term x)).size ≡ 1 + sizes (map meaning x.children) = size_out (roll-Term x) ∙ ap (λ (z : Term-F Term). 1 + sizes (map meaning z.children)) (out-roll-Term x) in
    omega (arith, children here.2, size))

-- terms are not more than their nodes
as_many_nodes : (ts : List Term) → length ts ≤ sizes (map meaning ts)
as_many_nodes [] = omega arith
as_many_nodes (c ∷ cs) = omega (arith, as_many_nodes cs, size_out c, sum_by-cons (λ (d : Meaning). d.size) (meaning c) (map meaning cs))

module _ (t : Term) (view : View) (uid : ℕ) (nodes : List Node) (s : Scene) (fits : Fits t view uid nodes s) where
  -- the size of a node is that of its term
  pub size_is : (node_at nodes uid).size ≡ 1 + sizes (map meaning (out-Term t).children)
  size_is = (opened t nodes view uid fits.stands).1.size

  pub size_of_term : (node_at nodes uid).size ≡ (meaning t).size
  size_of_term = size_is ∙ sym (size_out t)

  pub child_uids_are : (node_at nodes uid).child_uids ≡ uids_of (out-Term t).children (uid + 1)
  child_uids_are = (opened t nodes view uid fits.stands).3

  pub children_few : length (out-Term t).children < (node_at nodes uid).size
  children_few = omega (arith, size_is, as_many_nodes (out-Term t).children)

  pub node_there : uid < length nodes
  node_there = (opened t nodes view uid fits.stands).0

  pub all_there : uid + (node_at nodes uid).size ≤ length nodes
  all_there = omega (arith, stands_within t nodes view uid fits.stands, size_of_term)

  pub kept_there : uid < length s.kept
  kept_there = omega (arith, node_there, as_many_marks nodes s.kept s.drivers fits.marks)

  -- a child fits the arena where its parent does
  module _ (place : ℕ) (c : Term) (child : ℕ) (k : IsChild (out-Term t).children (uid + 1) place c child) where
    pub child_fits : Fits c (view_under view uid (written (out-Term t))) child nodes s
    child_fits = record {
      stands = child_stands nodes (view_under view uid (written (out-Term t))) k (opened t nodes view uid fits.stands).2;
      few = fits.few;
      marks = fits.marks;
      leaves = fits.leaves;
      slots = fits.slots;
      facts = fits.facts;
    }

    pub child_lies : (uid + 1 ≤ child) × (child + (meaning c).size ≤ uid + (node_at nodes uid).size)
    child_lies = ((child_within k).0, omega (arith, (child_within k).1, size_is))

-- ---- What stays

-- what must hold of a node must hold of those below it
pub running_below : (nodes : List Node) (kept : List Kept) (uid child : ℕ) → uid ≤ child → child + (node_at nodes child).size ≤ uid + (node_at nodes uid).size → RunningAreHeld nodes kept uid → RunningAreHeld nodes kept child
running_below nodes kept uid child low high held = λ p leaf from to is running. held p leaf (omega (arith, low, from)) (omega (arith, high, to)) is running

-- RUNNING leaves are held where they are in one part, and no other node has changed
pub running_above : (nodes : List Node) (before after : List Kept) (uid child : ℕ) → Beside child (node_at nodes child).size before after → RunningAreHeld nodes after child → RunningAreHeld nodes before uid → RunningAreHeld nodes after uid
running_above nodes before after uid child beside below held = λ p leaf from to is running.
    let same : kept_at after p ≡ kept_at before p → (kept_at after p).held ≡ true = λ e. ap (λ (k : Kept). k.held) e ∙ held p leaf from to is (ap (λ (k : Kept). k.status) (sym e) ∙ running) in
    elim (cases_lt p child) [
      | inl left ↦ same (beside.below p left)
      | inr right ↦ elim (cases_lt p (child + (node_at nodes child).size)) [
        | inl within ↦ below p leaf right within is running
        | inr following ↦ same (beside.above p following)
      ]
    ]

-- RUNNING leaves are held where one node has come to rest, and no other has changed
pub running_rested : (nodes : List Node) (before after : List Kept) (uid top : ℕ) → Beside uid 1 before after → (kept_at after uid).status ≡ Idle → RunningAreHeld nodes before top → RunningAreHeld nodes after top
running_rested nodes before after uid top beside idle held = λ p leaf from to is running.
    let same : kept_at after p ≡ kept_at before p → (kept_at after p).held ≡ true = λ e. ap (λ (k : Kept). k.held) e ∙ held p leaf from to is (ap (λ (k : Kept). k.status) (sym e) ∙ running) in
    elim (cases_lt p uid) [
      | inl left ↦ same (beside.below p left)
      | inr right ↦ elim (cases_eq p uid) [
        | inl here ↦ let never : Idle ≡ Running = sym idle ∙ ap (λ (q : ℕ). (kept_at after q).status) (sym here) ∙ running in cc
        | inr other ↦ same (beside.above p (omega (arith, right, other)))
      ]
    ]

pub rested_if_ok : {A E : Type 0} (nodes : List Node) (before after : List Kept) (uid top : ℕ) (r : Result A E) → Beside uid 1 before after → OnOk r ((kept_at after uid).status ≡ Idle) → RunningAreHeld nodes before top → OnOk r (RunningAreHeld nodes after top)
rested_if_ok nodes before after uid top (Ok a) beside idle held = running_rested nodes before after uid top beside idle held
rested_if_ok nodes before after uid top (Err e) beside idle held = tt
