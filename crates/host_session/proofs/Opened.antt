-- How a session is opened: what is missing, and what holds of it before its first event.
use Rattle.std.proofs.Common.{◌≡◌, ◌⊎◌, inl, inr, ℕ, ℤ, ◌+◌, ◌<◌, ◌≤◌, List, [], length, get_or, Some, None, ap, ◌∙◌, arith}
use Rattle.std.specs.Prelude.{option_map, slice_get}
use Rattle.std.specs.List.{All}
use Rattle.std.proofs.lemmas.List.{length-map}
use Rattle.std.proofs.lemmas.List.Elements.{All-nil}
use Rattle.std.proofs.lemmas.Option.{get_or_from_slice_get, slice_get-map, slice_get_cases}
use Rattle.spec_run.specs.Drivers.{DriverState}
use Rattle.spec_tree.specs.declared.term.Tree.{Tree}
use Rattle.spec_tree.specs.Terms.{node_count}
use Rattle.spec_world.specs.declared.world.World.{World}
use Rattle.spec_world.specs.Runnable.{IsRunnableWorld}
use Rattle.spec_world.specs.Worlds.{IsValidEvent}
use Rattle.run_arena.specs.declared.nodes.Node.{Node}
use Rattle.run_loop.specs.declared.runs.ReadyRunner.{ReadyRunner}
use Rattle.run_loop.specs.declared.runs.Runs.{Runs}
use Rattle.run_loop.specs.Runs.{AreRuns, RunnerFits, arenas_of}

-- ---- The world without its own events

abbrev pub bare : World → World
bare world = record world { events = [] }

pub bare_runnable : (w : World) → IsRunnableWorld w → IsRunnableWorld (bare w)
bare_runnable w h = record {
  facts = h.facts;
  openings = h.openings;
  ids = h.ids;
  rows = h.rows;
  goals = h.goals;
  wanted = h.wanted;
  some_runner = h.some_runner;
  few_runners = h.few_runners;
  few_events = omega arith;
  events = All-nil (IsValidEvent w.facts w.runners);
  in_order = λ i j d le within. absurd (omega arith);
}

bare_fits : (tree : Tree) (w : World) (facts : List ℤ) (drivers : List DriverState) (n : ℕ) (r : ReadyRunner) →
    RunnerFits tree w facts drivers n r → RunnerFits tree (bare w) facts drivers n r
bare_fits tree w facts drivers n r h = record { numbered = h.numbered; fits = h.fits; nodes = h.nodes; nobody = h.nobody; deep = h.deep }

-- runs in a world are runs in it without its own events
pub bare_runs : (tree : Tree) (w : World) (drivers : List DriverState) (runs : Runs) → AreRuns tree w drivers runs → AreRuns tree (bare w) drivers runs
bare_runs tree w drivers runs h = record {
  usable = h.usable;
  fit = record {
    many = h.fit.many;
    each = λ k r at. bare_fits tree w runs.facts drivers (k + 1) r (h.fit.each k r at);
    apart = h.fit.apart;
    theirs = h.fit.theirs;
    many_facts = h.fit.many_facts;
    few_facts = h.fit.few_facts;
    few_slots = h.fit.few_slots;
  };
  told = h.told;
  steady = h.steady;
}

-- each runner has the nodes of the tree beside place 0
pub all_nodes : (tree : Tree) (w : World) (drivers : List DriverState) (runs : Runs) → AreRuns tree w drivers runs →
    All (λ (nodes : List Node). length nodes ≡ 1 + node_count tree.term) (arenas_of runs)
all_nodes tree w drivers runs are = λ k d within. by k d within (slice_get_cases runs.runners.items k).1
  where
    by : (k : ℕ) (d : List Node) → k < length (arenas_of runs) →
        ((r : ReadyRunner) × (k < length runs.runners.items) × (slice_get runs.runners.items k ≡ Some r) × (get_or runs.runners.items k r ≡ r))
        ⊎ ((length runs.runners.items ≤ k) × (slice_get runs.runners.items k ≡ None)) →
        length (get_or (arenas_of runs) k d) ≡ 1 + node_count tree.term
    by k d within (inl h) =
        let here : slice_get (arenas_of runs) k ≡ Some h.0.arena.nodes.items =
        slice_get-map (λ (r : ReadyRunner). r.arena.nodes.items) runs.runners.items k ∙ ap (option_map (λ (r : ReadyRunner). r.arena.nodes.items)) h.2 in
        ap length (get_or_from_slice_get (arenas_of runs) k h.0.arena.nodes.items d here) ∙ (are.fit.each k h.0 h.2).nodes
    by k d within (inr h) = absurd (omega (arith, within, h.0, length-map runs.runners.items (λ (r : ReadyRunner). r.arena.nodes.items)))
