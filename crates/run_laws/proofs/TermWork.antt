-- A visit of a term of nodes that fit makes no more calls of start and running than its work, and a reset makes none.
use Rattle.std.proofs.Common.{◌≡◌, ℕ, zero, suc, ◌+◌, ◌*◌, List, [], ◌∷◌, ◌++◌, map, sum, Some, None, slice_get, flat_map, refl, sym, ap, subst, ◌∙◌, arith}
use Rattle.std.specs.List.{AllByRecursion}
use Rattle.std.proofs.lemmas.List.Concat.{flat_map-cons}
use Rattle.std.proofs.lemmas.List.Sums.{sum_by-cons}
use Rattle.std.proofs.lemmas.Option.{same_Some}
use Rattle.spec_run.specs.declared.memory.Memory.{Memory, out-Memory}
use Rattle.spec_tree.specs.declared.term.Term.{Term, Term-F, fold-roll-Term}
use Rattle.spec_tree.specs.declared.term.Term.TheFolds.{map-Term}
use Rattle.spec_run.specs.declared.status.Answer.{Answer}
use Rattle.spec_tree.specs.declared.term.Tree.{Tree}
use Rattle.spec_run.specs.Done.{Done, State}
use Rattle.spec_run.specs.Run.{root_told, ticked}
use Rattle.spec_run.specs.Sites.{Meaning, View}
use Rattle.base_tables.specs.Sound.{Sound, States, begun_calls, states_of_node}
use Rattle.spec_tree.specs.Terms.{once_more, times_of, work_of}
use Rattle.base_tables.specs.Runnable.{IsRunnable, NodeRuns}
use Rattle.spec_tree.specs.Trees.{Node, nodes_of, nodes_step}
use Rattle.spec_run.specs.Visit.{meaning}
use Rattle.run_laws.proofs.Children.{Family}
use Rattle.run_laws.proofs.Induction.{above, every_term, map_twice, node_means}
use Rattle.run_laws.proofs.Keeping.{family, term_keeps}
use Rattle.run_laws.proofs.Shares.{whole}
use Rattle.run_laws.proofs.Spending.{Labour, Spends, follow_with}
use Rattle.run_laws.proofs.VisitWork.{reset_free, visit_spends}

-- the nodes of a term have the ports of their kinds
abbrev pub AllFit : Term → Type 0
AllFit t = AllByRecursion NodeRuns (nodes_of t)

-- ---- What fits

front_fits : {X : Type 0} (P : X → Type 0) (xs ys : List X) → AllByRecursion P (xs ++ ys) → AllByRecursion P xs
front_fits P [] ys all = tt
front_fits P (x ∷ xs) ys all = (all.0, front_fits P xs ys all.1)

back_fits : {X : Type 0} (P : X → Type 0) (xs ys : List X) → AllByRecursion P (xs ++ ys) → AllByRecursion P ys
back_fits P [] ys all = all
back_fits P (x ∷ xs) ys all = back_fits P xs ys all.1

module _ {X : Type 0} (term : X → Term) where
  abbrev nodes_below : List X → List Node
  nodes_below cs = flat_map (λ (nodes : List Node). nodes) (map nodes_of (map term cs))

  child_fits : (cs : List X) (place : ℕ) (c : X) → slice_get cs place ≡ Some c → AllByRecursion NodeRuns (nodes_below cs) → AllFit (term c)
  child_fits [] place c is all = cc
  child_fits (d ∷ cs) zero c is all =
      subst (λ (x : X). AllFit (term x)) (same_Some d c is)
      (front_fits NodeRuns (nodes_of (term d)) (nodes_below cs) (subst (λ ns. AllByRecursion NodeRuns ns) (flat_map-cons (λ (nodes : List Node). nodes) (nodes_of (term d)) (map nodes_of (map term cs))) all))
  child_fits (d ∷ cs) (suc place) c is all =
      child_fits cs place c is
      (back_fits NodeRuns (nodes_of (term d)) (nodes_below cs) (subst (λ ns. AllByRecursion NodeRuns ns) (flat_map-cons (λ (nodes : List Node). nodes) (nodes_of (term d)) (map nodes_of (map term cs))) all))

  -- the node and its children fit where the whole term does
  node_fits : (node : Term-F X) → AllFit (above term node) → AllByRecursion NodeRuns (nodes_step (map-Term Term (List Node) nodes_of (map-Term X Term term node)))
  node_fits node all = subst (λ ns. AllByRecursion NodeRuns ns) (fold-roll-Term (List Node) nodes_step (map-Term X Term term node)) all

  -- ---- The work of a node

  work_of_all : (cs : List X) → whole (λ c. work_of (term c)) cs ≡ sum (map work_of (map term cs))
  work_of_all [] = refl
  work_of_all (c ∷ cs) =
      let one : whole (λ d. work_of (term d)) (c ∷ cs) ≡ work_of (term c) + whole (λ d. work_of (term d)) cs = sum_by-cons (λ d. work_of (term d)) c cs in
      let other : sum (map work_of (map term (c ∷ cs))) ≡ work_of (term c) + sum (map work_of (map term cs)) = sum_by-cons (λ (k : ℕ). k) (work_of (term c)) (map work_of (map term cs)) in
      omega (arith, one, other, work_of_all cs)

  work_of_node : (node : Term-F X) → work_of (above term node) ≡ 1 + (times_of node.kind node.ports * whole (λ c. work_of (term c)) node.children + once_more node.kind (map (λ c. work_of (term c)) node.children))
  work_of_node node =
      let more : List ℕ → ℕ = once_more node.kind in
      fold-roll-Term ℕ (λ n. 1 + (times_of n.kind n.ports * sum n.children + once_more n.kind n.children)) (map-Term X Term term node)
      ∙ ap (λ (n : ℕ). 1 + (times_of node.kind node.ports * n + more (map work_of (map term node.children)))) (sym (work_of_all node.children))
      ∙ ap (λ (works : List ℕ). 1 + (times_of node.kind node.ports * whole (λ c. work_of (term c)) node.children + more works)) (sym (map_twice term work_of node.children))

-- ---- Every term

pub record IsBounded (t : Term) (c : Meaning) (rules : States) : Type 0 where
  pub reset : (view : View) (uid : ℕ) (m : Memory) (s : State) → Spends 0 (c.reset view uid m s)
  pub visit : AllFit t → (view : View) (uid : ℕ) (m : Memory) (s : State) → rules view.rows None uid m s → Spends (work_of t) (c.visit view uid m s)

module _ {X : Type 0} (term : X → Term) (bounded : (c : X) → IsBounded (term c) (meaning (term c)) (Sound (term c))) (node : Term-F X) where
  abbrev F : Family
  F = family term (λ c. term_keeps (term c))

  -- the bounds of the children
  abbrev labour : AllByRecursion NodeRuns (nodes_below term node.children) → Labour F node.children
  labour fit = record {
    work = λ c. work_of (term c);
    visit = λ place c is. (bounded c).visit (child_fits term node.children place c is fit);
    reset = λ c. (bounded c).reset;
  }

  node_bounded : IsBounded (above term node) (node_means term node) (states_of_node X term (λ c. Sound (term c)) node)
  node_bounded = record {
    reset = λ view uid m s. reset_free F node (λ c. (bounded c).reset) view uid (out-Memory m).status m s;
    visit = λ all view uid m s sound.
        let fit : AllByRecursion NodeRuns (nodes_step (map-Term Term (List Node) nodes_of (map-Term X Term term node))) = node_fits term node all in
        subst (λ (n : ℕ). Spends n ((node_means term node).visit view uid m s)) (sym (work_of_node term node)) (visit_spends F node (labour fit.1) view uid fit.0.ports m s sound);
  }

pub term_bounded : (t : Term) → IsBounded t (meaning t) (Sound t)
term_bounded = every_term IsBounded (λ X term bounded node. node_bounded term bounded node)

-- ---- A tick

-- a tick makes no more calls than the work of its tree
pub tick_bounded : (tree : Tree) → IsRunnable tree → (view : View) (runner : ℕ) (m : Memory) (s : State) → Sound tree.term view.rows None 1 m s → Spends (work_of tree.term) (ticked tree view runner m s)
tick_bounded tree runnable view runner m s sound =
    let d : Done Answer Memory = (meaning tree.term).visit view 1 m s in
    follow_with (work_of tree.term) 0 (work_of tree.term) d (λ m1. m1) (λ a m1 s1. root_told runner a m1 s1) (omega arith) ((term_bounded tree.term).visit runnable.fit view 1 m s sound) (λ a. omega arith)

pub resets_make_none : (t : Term) (view : View) (uid : ℕ) (m : Memory) (s : State) → begun_calls ((meaning t).reset view uid m s).calls ≡ 0
resets_make_none t view uid m s = omega (arith, (term_bounded t).reset view uid m s)
