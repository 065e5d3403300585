-- Runs that were made are runs, and their state is the opening one.
use Rattle.std.proofs.Common.{◌≡◌, ℕ, ℤ, zero, suc, ◌+◌, ◌<◌, ◌≤◌, List, [], ◌∷◌, false, Option, Some, None, map, length, slice_get, replicate, refl, sym, ap, subst, ◌∙◌, arith}
use Rattle.std.proofs.lemmas.List.{get_or-replicate, length-map, length-replicate, length-set}
use Rattle.spec_script.specs.declared.value.Value.{Value}
use Rattle.spec_tree.specs.declared.cell.Cell.{Cell}
use Rattle.spec_tree.specs.declared.term.Tree.{Tree}
use Rattle.spec_world.specs.declared.world.Fact.{Fact}
use Rattle.spec_world.specs.declared.world.World.{World}
use Rattle.spec_tree.specs.Boards.{literals, opening_board, slot_in, slots, with_literals}
use Rattle.spec_run.specs.Drivers.{DriverState, is_held, roster_prepared}
use Rattle.base_tables.specs.DriverCalls.{instance_at}
use Rattle.spec_run.specs.Leaf.{fresh}
use Rattle.spec_run.specs.Run.{RunnerCall, fresh_runner, opening}
use Rattle.base_tables.specs.Sound.{RunSteady}
use Rattle.spec_tree.specs.Terms.{node_count}
use Rattle.base_tables.specs.Runnable.{IsRunnable}
use Rattle.spec_run.specs.Visit.{idle}
use Rattle.spec_world.specs.Runnable.{IsRunnableWorld}
use Rattle.run_laws.proofs.Runs.{opening_steady}
use Rattle.run_arena.specs.declared.nodes.Kept.{Kept}
use Rattle.run_arena.specs.declared.nodes.Node.{Node}
use Rattle.run_arena.specs.declared.nodes.ReadyLeaf.{ReadyLeaf}
use Rattle.run_arena.specs.Nodes.{at_rest, kept_at}
use Rattle.run_arena.specs.Rosters.{AreServed, instances_of, leaf_instance}
use Rattle.run_arena.specs.Scenes.{marks_of}
use Rattle.run_arena.specs.Stands.{memory_of}
use Rattle.run_arena.proofs.Framed.{rested}
use Rattle.run_arena.proofs.Prepared.{numbered_are_served}
use Rattle.run_arena.proofs.Static.{size_is}
use Rattle.run_loop.specs.declared.runs.ReadyRunner.{ReadyRunner}
use Rattle.run_loop.specs.declared.runs.Runs.{Runs}
use Rattle.run_loop.specs.Begun.{AreBegun}
use Rattle.run_loop.specs.Opening.{AreOpeningRuns, IsOpening}
use Rattle.run_loop.specs.Runs.{AreRuns, HeldAreTheirs, RunnerFits, arenas_in, arenas_of, roster_over, runner_in, runners_in, state_of_runs}
use Rattle.spec_run.specs.Served.{instances_wanted}
use Rattle.spec_run.specs.Served.{calls_made, serving_places}
use Rattle.run_loop.proofs.Counting.{wanted_length, wanted_of_arena}
use Rattle.run_loop.proofs.Lists.{within}
use Rattle.run_loop.proofs.Preparing.{prepared_fresh}
use Rattle.run_loop.proofs.Serving.{are_apart, calls_are, nobody_first}

-- ---- Lists of equal entries

map_to : {A B : Type 0} (f : A → B) (b : B) (xs : List A) → ((k : ℕ) (x : A) → slice_get xs k ≡ Some x → f x ≡ b) → map f xs ≡ replicate (length xs) b
map_to f b [] each = refl
map_to f b (x ∷ xs) each = λ i. each 0 x refl i ∷ map_to f b xs (λ k y e. each (suc k) y e) i

map_equal : {A B : Type 0} (f : A → B) (a : A) (count : ℕ) → map f (replicate count a) ≡ replicate count (f a)
map_equal f a zero = refl
map_equal f a (suc count) = ap (λ bs. f a ∷ bs) (map_equal f a count)

-- ---- Boards

literals_length : (cells : List Cell) (ls : List (Cell × Value)) (entries : List (Option Value)) → length (with_literals cells ls entries) ≡ length entries
literals_length cells [] entries = refl
literals_length cells (l ∷ ls) entries = literals_length cells ls _ ∙ length-set entries (slot_in cells l.0) (Some l.1)

board_length : (tree : Tree) → length (opening_board tree) ≡ length (slots tree)
board_length tree = literals_length (slots tree) (literals tree) (replicate (length (slots tree)) None) ∙ length-replicate {A = Option Value} (length (slots tree)) None

module _ (tree : Tree) (world : World) (drivers : List DriverState) where
  abbrev counts : List ℕ
  counts = instances_wanted tree world drivers

  abbrev now : List DriverState
  now = roster_prepared drivers counts

  never_held : (place instance : ℕ) → instance_at now place instance ≡ fresh
  never_held place instance = prepared_fresh drivers counts (wanted_length tree world drivers) place instance

  leaf_fresh : (leaf : Option ReadyLeaf) → leaf_instance now leaf ≡ fresh
  leaf_fresh None = refl
  leaf_fresh (Some leaf) = never_held leaf.driver leaf.instance

  all_fresh : (nodes : List Node) → instances_of nodes now ≡ replicate (length nodes) fresh
  all_fresh nodes = map_to (λ (node : Node). leaf_instance now node.leaf) fresh nodes (λ k node at. leaf_fresh node.leaf)

  -- ---- One runner

  module _ (number : ℕ) (r : ReadyRunner) (is : IsOpening tree world drivers number r) where
    abbrev nodes : List Node
    nodes = r.arena.nodes.items

    abbrev many : ℕ
    many = 1 + node_count tree.term

    instances_are : instances_of nodes now ≡ replicate many fresh
    instances_are = all_fresh nodes ∙ ap (λ n. replicate n fresh) is.arena.size

    at_rest_at : (uid : ℕ) → uid < many → kept_at r.arena.kept.items uid ≡ at_rest
    at_rest_at uid low = ap (λ (kept : List Kept). kept_at kept uid) is.arena.kept ∙ get_or-replicate {A = Kept} many uid at_rest at_rest low

    memory_is : memory_of tree.term 1 r.arena.kept.items ≡ idle tree.term
    memory_is = rested tree.term 1 r.arena.kept.items (λ uid low high. at_rest_at uid (omega (arith, high, size_is tree.term)))

    -- the runner is a fresh one
    runner_is : runner_in tree.term now r ≡ fresh_runner tree
    runner_is = λ i. record { memory = memory_is i; board = is.board i; instances = instances_are i }

    marks_are : marks_of r.arena.kept.items ≡ map is_held (instances_of nodes now)
    marks_are =
        ap marks_of is.arena.kept
        ∙ map_equal (λ (k : Kept). k.held) at_rest many
        ∙ sym (map_equal is_held fresh many)
        ∙ ap (map is_held) (sym instances_are)

    are_served : 1 ≤ number → number ≤ world.runners → AreServed now nodes
    are_served first last =
        numbered_are_served drivers nodes counts number world.runners is.arena.numbered first last (wanted_length tree world drivers) (λ place low. wanted_of_arena tree world drivers number r.arena is.arena place low)

    -- the runner fits
    runner_fits : IsRunnable tree → 1 ≤ number → number ≤ world.runners → (facts : List ℤ) → length facts ≡ length world.facts → RunnerFits tree world facts now number r
    runner_fits runnable first last facts as_many = record {
      numbered = is.arena.runner;
      fits = record {
        stands = is.arena.stands;
        few = omega (arith, is.arena.size, runnable.limits.nodes);
        marks = marks_are;
        leaves = are_served first last;
        slots = ap (λ (b : List (Option Value)). length b) is.board ∙ board_length tree;
        facts = as_many;
      };
      nodes = is.arena.size;
      nobody = nobody_first tree world drivers number r.arena is.arena;
      deep = omega (arith, is.arena.room);
    }

  -- ---- The runs

  module _ (runs : Runs) (are : AreOpeningRuns tree world drivers runs) where
    abbrev runners : List ReadyRunner
    runners = runs.runners.items

    runners_are : runners_in tree.term now runners ≡ replicate world.runners (fresh_runner tree)
    runners_are = map_to (runner_in tree.term now) (fresh_runner tree) runners (λ k r at. runner_is (k + 1) r (are.runners k r at)) ∙ ap (λ n. replicate n (fresh_runner tree)) are.many

    -- their state is the opening one
    opening_state : state_of_runs tree.term now runs ≡ opening tree world
    opening_state = λ i. record { runners = runners_are i; facts = are.facts i; last = are.last i }

    theirs : HeldAreTheirs (arenas_in runners) now
    theirs place instance held = let free : is_held (instance_at now place instance) ≡ false = ap is_held (never_held place instance) in absurd (cc)

    as_many_facts : length runs.facts ≡ length world.facts
    as_many_facts = ap (λ (fs : List ℤ). length fs) are.facts ∙ length-map world.facts (λ (f : Fact). f.opening)

    -- they are runs
    opening_runs : IsRunnable tree → IsRunnableWorld world → AreRuns tree world now runs
    opening_runs runnable runnable_world = record {
      usable = are.usable;
      fit = record {
        many = are.many;
        each = λ k r at. runner_fits (k + 1) r (are.runners k r at) runnable (omega arith) (omega (arith, within runners k r at, are.many)) runs.facts as_many_facts;
        apart = are_apart tree world drivers runners are.runners;
        theirs = theirs;
        many_facts = as_many_facts;
        few_facts = omega (arith, runnable_world.facts.few, length-map world.facts (λ (f : Fact). f.name));
        few_slots = omega (arith, runnable.limits.slots);
      };
      told = are.told;
      steady = subst (RunSteady tree.term world.rows) (sym opening_state) (opening_steady tree world);
    }

    -- the calls of their runners are those that the tree and the world give
    opening_calls : IsRunnableWorld world → (calls : List RunnerCall) (ds : List DriverState) → roster_over (arenas_of runs) calls ds ≡ calls_made world.runners (serving_places tree world drivers) calls ds
    opening_calls runnable_world calls ds =
        calls_are tree world drivers runners are.runners (omega (arith, are.many, runnable_world.some_runner)) calls ds
        ∙ ap (λ n. calls_made n (serving_places tree world drivers) calls ds) are.many

    -- all of it
    pub are_begun : IsRunnable tree → IsRunnableWorld world → AreBegun tree world drivers now runs
    are_begun runnable runnable_world = record {
      runs = opening_runs runnable runnable_world;
      opening = opening_state;
      prepared = refl;
      calls = opening_calls runnable_world;
    }
