-- A valid tree can be run, and so can a valid world.
use Rattle.std.proofs.Common.{◌≡◌, ℕ, ◌≤◌, List, [], ◌∷◌, true, false, if◌then◌else◌, Some, subst, lit≤, arith}
use Rattle.std.specs.List.{AllByRecursion}
use Rattle.std.specs.Str.{bytes_eq}
use Rattle.spec_tree.specs.declared.term.Kind.{Kind}
use Rattle.spec_tree.specs.declared.term.Kind.TheVariants.{Switch}
use Rattle.spec_tree.specs.declared.term.Tree.{Tree}
use Rattle.spec_tree.specs.BuiltIns.{kind_among, named_kinds}
use Rattle.base_tables.specs.Runnable.{FewCases, IsRunnable, NodeRuns}
use Rattle.spec_tree.specs.Trees.{IdFits, IsValid, Node, NodeFits, nodes_of}
use Rattle.spec_world.specs.declared.world.Fact.{Fact}
use Rattle.spec_world.specs.declared.world.Row.{Row}
use Rattle.spec_world.specs.declared.world.RowSort.{RowSort}
use Rattle.spec_world.specs.declared.world.RowSort.TheVariants.{Is, When, Timed, TimedBy, Replay, Gate, Sensed, Told}
use Rattle.spec_world.specs.declared.world.World.{World}
use Rattle.spec_world.specs.Runnable.{AreTexts, IsRunnableRow, IsRunnableSort, IsRunnableWorld, most_ports_of}
use Rattle.spec_world.specs.Worlds.{AreNames, IsValidRow, IsValidSort, IsValidWorld}

-- ---- Trees

-- each Switch of a table has few cases
abbrev HaveFewCases : List (List ℕ × Kind) → Type 0
HaveFewCases [] = Unit {0}
HaveFewCases (row ∷ rows) = FewCases row.1 × HaveFewCases rows

built_ins_have : HaveFewCases named_kinds
unfolding named_kinds
built_ins_have = (tt, (tt, (tt, (tt, (tt, (tt, ((lit≤ tt), ((lit≤ tt), ((lit≤ tt), ((lit≤ tt), ((lit≤ tt), (tt, (tt, (tt, (tt, (tt, (tt, (tt, (tt, (tt, (tt, (tt, (tt, (tt, (tt, (tt, (tt, (tt, (tt, (tt, tt))))))))))))))))))))))))))))))

found_has : (rows : List (List ℕ × Kind)) → HaveFewCases rows → (name : List ℕ) (cases : ℕ) → kind_among rows name ≡ Some (Switch cases) → cases ≤ 6
found_has [] have name cases is = cc
found_has (row ∷ rows) have name cases is =
    elim (bytes_eq name row.0) as (λ b. (if b then Some row.1 else kind_among rows name) ≡ Some (Switch cases) → cases ≤ 6) [
      | true ↦ λ e. let same : row.1 ≡ Switch cases = cc in subst FewCases same have.0
      | false ↦ λ e. found_has rows have.1 name cases e
    ] is

-- a node that has the name of its kind is no Switch of more cases than have a name
pub few_named : (kind : Kind) (id : List ℕ) → IdFits kind id → FewCases kind
few_named (Switch cases) id fits = found_has named_kinds built_ins_have id cases fits
few_named _ id fits = tt

node_runs : (node : Node) → NodeFits node → NodeRuns node
node_runs node fits = record {
  children = fits.children;
  cases = few_named node.kind node.id fits.id;
  ports = fits.ports;
  code = fits.code;
  guards = fits.guards;
}

all_run : (nodes : List Node) → AllByRecursion NodeFits nodes → AllByRecursion NodeRuns nodes
all_run [] fit = tt
all_run (node ∷ nodes) fit = (node_runs node fit.0, all_run nodes fit.1)

pub runnable : (tree : Tree) → IsValid tree → IsRunnable tree
runnable tree valid = record { limits = valid.limits; fit = all_run (nodes_of tree.term) valid.fit }

-- ---- Worlds

names_are_texts : (most more : ℕ) (names : List (List ℕ)) → most ≤ more → AreNames most names → AreTexts more names
names_are_texts most more names fewer are = record { few = omega (arith, are.few, fewer); distinct = are.distinct }

-- as many input ports as a valid row may have
ports_run : (sort : RowSort) → 8 ≤ most_ports_of sort
ports_run (Told outs) = lit≤ tt
ports_run (Is fact op value) = lit≤ tt
ports_run (When e) = lit≤ tt
ports_run (Timed ms fails) = lit≤ tt
ports_run (TimedBy length fails) = lit≤ tt
ports_run (Replay ms outcomes) = lit≤ tt
ports_run (Gate e) = lit≤ tt
ports_run Sensed = lit≤ tt

sort_runs : (facts : List Fact) (ports : List (List ℕ)) (sort : RowSort) → IsValidSort facts ports sort → IsRunnableSort facts ports sort
sort_runs facts ports (Told outs) valid = names_are_texts 8 64 outs (lit≤ tt) valid
sort_runs facts ports (Is fact op value) valid = valid
sort_runs facts ports (When e) valid = valid
sort_runs facts ports (Timed ms fails) valid = valid
sort_runs facts ports (TimedBy length fails) valid = valid
sort_runs facts ports (Replay ms outcomes) valid = valid
sort_runs facts ports (Gate e) valid = valid
sort_runs facts ports Sensed valid = valid

row_runs : (facts : List Fact) (rows : List Row) (row : Row) → IsValidRow facts rows row → IsRunnableRow facts rows row
row_runs facts rows row valid = record {
  ports = names_are_texts 8 _ row.ports (ports_run row.sort) valid.ports;
  sort = sort_runs facts row.ports row.sort valid.sort;
  needs = valid.needs;
  needed = valid.needed;
  sets = valid.sets;
  effects = valid.effects;
  outs = names_are_texts 8 8 _ (lit≤ tt) valid.outs;
  outputs = valid.outputs;
  bare = valid.bare;
}

pub runnable_world : (world : World) → IsValidWorld world → IsRunnableWorld world
runnable_world world valid = record {
  facts = valid.facts;
  openings = valid.openings;
  ids = names_are_texts 1024 4096 _ (lit≤ tt) valid.ids;
  rows = λ k row within. row_runs world.facts world.rows _ (valid.rows k row within);
  goals = valid.goals;
  wanted = valid.wanted;
  some_runner = valid.some_runner;
  few_runners = valid.few_runners;
  few_events = valid.few_events;
  events = valid.events;
  in_order = valid.in_order;
}
