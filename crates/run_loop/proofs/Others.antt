-- Calls for the leaves of one runner, and what they do not change of the others.
use Rattle.std.proofs.Common.{◌≡◌, inl, inr, ℕ, ℤ, List, [], ◌∷◌, ◌++◌, Option, Some, None, map, length, slice_get, refl, sym, ap, ◌∙◌, arith}
use Rattle.std.proofs.lemmas.Bool.{cases_eq}
use Rattle.std.proofs.lemmas.List.{get_or_default, length-map, same_lists}
use Rattle.std.proofs.Math.ListN.{get_or-map}
use Rattle.spec_script.specs.declared.value.Value.{Value}
use Rattle.spec_tree.specs.declared.term.Term.{Term}
use Rattle.spec_run.specs.Done.{Call}
use Rattle.spec_run.specs.Drivers.{DriverState, is_held, roster_called}
use Rattle.spec_run.specs.Run.{RunnerCall, runner_calls}
use Rattle.spec_run.specs.Sites.{View}
use Rattle.run_arena.specs.declared.nodes.Kept.{Kept}
use Rattle.run_arena.specs.declared.nodes.Node.{Node}
use Rattle.run_arena.specs.declared.nodes.ReadyLeaf.{ReadyLeaf}
use Rattle.run_arena.specs.Nodes.{leaf_at, nobody}
use Rattle.run_arena.specs.Rosters.{AreServed, instances_of, leaf_called, leaf_instance, roster_after}
use Rattle.run_arena.specs.Scenes.{Fits, scene}
use Rattle.run_arena.proofs.Called.{instance_other, served_after}
use Rattle.run_loop.specs.Runs.{HeldAreTheirs, IsTheirs, nodes_of_runner, roster_over}

-- ---- Leaves are served as before

served_called : (nodes : List Node) (found : Option ReadyLeaf) (call : Call) (drivers : List DriverState) → AreServed drivers nodes → AreServed (leaf_called found call drivers) nodes
served_called nodes None call drivers are = are
served_called nodes (Some leaf) call drivers are = served_after nodes drivers leaf.driver call.phase leaf.instance call.left are

pub served_all : (nodes other : List Node) (calls : List Call) (drivers : List DriverState) → AreServed drivers nodes → AreServed (roster_after other calls drivers) nodes
served_all nodes other [] drivers are = are
served_all nodes other (c ∷ calls) drivers are = served_all nodes other calls (leaf_called (leaf_at other c.uid) c drivers) (served_called nodes (leaf_at other c.uid) c drivers are)

-- ---- Another runner

-- the leaves of two runners have no instance in common
abbrev pub Apart : List Node → List Node → Type 0
Apart a b = (uid p : ℕ) (x y : ReadyLeaf) → leaf_at a uid ≡ Some x → leaf_at b p ≡ Some y → x.driver ≡ y.driver → x.instance ≡ y.instance → ⊥

module _ (a b : List Node) (apart : Apart a b) where
  module _ (call : Call) (x : ReadyLeaf) (is : leaf_at a call.uid ≡ Some x) (drivers : List DriverState) (are : AreServed drivers a) where
    abbrev after : List DriverState
    after = roster_called drivers x.driver call.phase x.instance call.left

    leaf_same : (p : ℕ) (found : Option ReadyLeaf) → leaf_at b p ≡ found → leaf_instance after found ≡ leaf_instance drivers found
    leaf_same p None at = refl
    leaf_same p (Some y) at =
        instance_other drivers x.driver call.phase x.instance call.left (are.served call.uid x is).there y.driver y.instance
        (λ driver instance. apart call.uid p x y is at (sym driver) (sym instance))

    all_same : instances_of b after ≡ instances_of b drivers
    all_same =
        let f = λ (node : Node). leaf_instance after node.leaf in
        let g = λ (node : Node). leaf_instance drivers node.leaf in
        same_lists (map f b) (map g b) (length-map b f ∙ sym (length-map b g))
        (λ k d low.
        get_or_default (map f b) k d (f nobody) low
        ∙ get_or-map f b k nobody
        ∙ leaf_same k (leaf_at b k) refl
        ∙ sym (get_or-map g b k nobody)
        ∙ sym (get_or_default (map g b) k d (g nobody) (omega (arith, low, length-map b f, length-map b g))))

  one_other : (call : Call) (found : Option ReadyLeaf) → leaf_at a call.uid ≡ found → (drivers : List DriverState) → AreServed drivers a → instances_of b (leaf_called found call drivers) ≡ instances_of b drivers
  one_other call None is drivers are = refl
  one_other call (Some x) is drivers are = all_same call x is drivers are

  -- the other runner has the same instances
  pub other_instances : (calls : List Call) (drivers : List DriverState) → AreServed drivers a → instances_of b (roster_after a calls drivers) ≡ instances_of b drivers
  other_instances [] drivers are = refl
  other_instances (c ∷ calls) drivers are =
      other_instances calls (leaf_called (leaf_at a c.uid) c drivers) (served_called a (leaf_at a c.uid) c drivers are)
      ∙ one_other c (leaf_at a c.uid) refl drivers are

  -- the other runner fits as before
  pub other_fits : (t : Term) (v : View) (kept : List Kept) (board : List (Option Value)) (facts facts1 : List ℤ) (calls : List Call) (drivers : List DriverState) → AreServed drivers a →
      length facts1 ≡ length v.facts → Fits t v 1 b (scene kept board facts drivers) → Fits t v 1 b (scene kept board facts1 (roster_after a calls drivers))
  other_fits t v kept board facts facts1 calls drivers are many fits = record {
    stands = fits.stands;
    few = fits.few;
    marks = fits.marks ∙ ap (map is_held) (sym (other_instances calls drivers are));
    leaves = served_all b a calls drivers fits.leaves;
    slots = fits.slots;
    facts = many;
  }

-- ---- What is held

module _ (arenas : List (List Node)) (k : ℕ) (a : List Node) (is_arena : slice_get arenas k ≡ Some a) where
  held_call : (call : Call) (found : Option ReadyLeaf) → leaf_at a call.uid ≡ found → (drivers : List DriverState) → AreServed drivers a → HeldAreTheirs arenas drivers → HeldAreTheirs arenas (leaf_called found call drivers)
  held_call call None is drivers are theirs place instance held = theirs place instance held
  held_call call (Some x) is drivers are theirs place instance held =
      let other : ((place ≡ x.driver) → (instance ≡ x.instance) → ⊥) → IsTheirs arenas place instance =
      λ apart. theirs place instance (ap is_held (sym (instance_other drivers x.driver call.phase x.instance call.left (are.served call.uid x is).there place instance apart)) ∙ held)
      in
      elim (cases_eq place x.driver) [
        | inl same ↦ elim (cases_eq instance x.instance) [
          | inl too ↦ record { runner = k; nodes = a; uid = call.uid; leaf = x; is_runner = is_arena; is_leaf = is; is_driver = sym same; is_instance = sym too }
          | inr apart ↦ other (λ p q. apart q)
        ]
        | inr apart ↦ other (λ p q. apart p)
      ]

  -- only instances of the runners' leaves are held after calls for one of them
  pub held_after : (calls : List Call) (drivers : List DriverState) → AreServed drivers a → HeldAreTheirs arenas drivers → HeldAreTheirs arenas (roster_after a calls drivers)
  held_after [] drivers are theirs = theirs
  held_after (c ∷ calls) drivers are theirs =
      held_after calls (leaf_called (leaf_at a c.uid) c drivers) (served_called a (leaf_at a c.uid) c drivers are) (held_call c (leaf_at a c.uid) refl drivers are theirs)

-- ---- Calls of runners

-- the calls of one runner
pub over_runner : (arenas : List (List Node)) (runner : ℕ) (calls : List Call) (drivers : List DriverState) → roster_over arenas (runner_calls runner calls) drivers ≡ roster_after (nodes_of_runner arenas runner) calls drivers
over_runner arenas runner [] drivers = refl
over_runner arenas runner (c ∷ calls) drivers = over_runner arenas runner calls (leaf_called (leaf_at (nodes_of_runner arenas runner) c.uid) c drivers)

-- calls, followed by others
pub over_both : (arenas : List (List Node)) (cs ds : List RunnerCall) (drivers : List DriverState) → roster_over arenas (cs ++ ds) drivers ≡ roster_over arenas ds (roster_over arenas cs drivers)
over_both arenas [] ds drivers = refl
over_both arenas (c ∷ cs) ds drivers = over_both arenas cs ds (leaf_called (leaf_at (nodes_of_runner arenas c.runner) c.call.uid) c.call drivers)
