-- The runner of a number, and what is read of it.
use Rattle.std.proofs.Common.{◌≡◌, ℕ, zero, suc, ◌+◌, ◌<◌, List, [], map, length, get_or, Option, Some, None, refl, sym, ap, subst, ◌∙◌, arith}
use Rattle.std.specs.Prelude.{option_and_then, option_map, slice_get}
use Rattle.std.specs.List.{All}
use Rattle.std.proofs.lemmas.List.{get_or_past, length-map}
use Rattle.std.proofs.lemmas.Option.{get_or_from_slice_get, slice_get-map, slice_get_within}
use Rattle.spec_run.specs.declared.leaf.Instance.{Instance}
use Rattle.spec_run.specs.Leaf.{fresh}
use Rattle.spec_run.specs.Drivers.{DriverState}
use Rattle.spec_run.specs.Run.{Runner}
use Rattle.spec_tree.specs.declared.term.Term.{Term}
use Rattle.spec_tree.specs.Terms.{node_count}
use Rattle.run_arena.specs.declared.nodes.Node.{Node}
use Rattle.run_arena.specs.Rosters.{instances_of, leaf_instance}
use Rattle.run_loop.specs.declared.runs.ReadyRunner.{ReadyRunner}
use Rattle.run_loop.specs.Runs.{arenas_in, runner_in, runners_in}
use Rattle.host_session.specs.Numbered.{numbered}
use Rattle.host_session.specs.Reads.{inputs_by, statuses}
use Rattle.host_session.specs.Statuses.{status_at}
use Rattle.host_session.proofs.Statuses.{nth_status}

numbered-map : {A B : Type 0} (f : A → B) (xs : List A) (n : ℕ) → numbered (map f xs) n ≡ option_map f (numbered xs n)
numbered-map f xs zero = refl
numbered-map f xs (suc before) = slice_get-map f xs before

-- what holds of all arenas holds of that of a runner that is there
pub all_there : (P : List Node → Type 0) (runners : List ReadyRunner) (n : ℕ) (r : ReadyRunner) → Some r ≡ numbered runners n → All P (arenas_in runners) → P r.arena.nodes.items
all_there P runners zero r is all = absurd (cc)
all_there P runners (suc k) r is all =
    let here : slice_get (arenas_in runners) k ≡ Some r.arena.nodes.items = slice_get-map (λ (q : ReadyRunner). q.arena.nodes.items) runners k ∙ ap (option_map (λ (q : ReadyRunner). q.arena.nodes.items)) (sym is) in
    let nodes = r.arena.nodes.items in
    subst P (get_or_from_slice_get (arenas_in runners) k nodes nodes here) (all k nodes (slice_get_within (arenas_in runners) k nodes here))

-- the status of a node of one that is there
pub status_there : (term : Term) (drivers : List DriverState) (runners : List ReadyRunner) (n : ℕ) (r : ReadyRunner) (uid : ℕ) → Some r ≡ numbered runners n →
    length r.arena.nodes.items ≡ 1 + node_count term →
    option_and_then (λ (q : Runner). numbered (statuses q.memory) uid) (numbered (runners_in term drivers runners) n) ≡ status_at r.arena.nodes.items r.arena.kept.items uid
status_there term drivers runners n r uid is many =
    ap (option_and_then (λ (q : Runner). numbered (statuses q.memory) uid)) (numbered-map (runner_in term drivers) runners n ∙ ap (option_map (runner_in term drivers)) (sym is))
    ∙ nth_status term r.arena.nodes.items r.arena.kept.items uid many

-- nothing is kept for one that is not there
pub inputs_nowhere : (term : Term) (drivers : List DriverState) (runners : List ReadyRunner) (n uid : ℕ) → None ≡ numbered runners n →
    inputs_by (numbered (runners_in term drivers runners) n) uid ≡ []
inputs_nowhere term drivers runners n uid is =
    ap (λ (r : Option Runner). inputs_by r uid) (numbered-map (runner_in term drivers) runners n ∙ ap (option_map (runner_in term drivers)) (sym is))

-- nothing is kept of a node after the last one
pub inputs_past : (nodes : List Node) (drivers : List DriverState) (count uid : ℕ) → length nodes ≡ 1 + count → count < uid →
    (get_or (instances_of nodes drivers) uid fresh).inputs ≡ []
inputs_past nodes drivers count uid many past =
    ap (λ (i : Instance). i.inputs)
    (get_or_past (instances_of nodes drivers) uid fresh (omega (arith, length-map nodes (λ (node : Node). leaf_instance drivers node.leaf))))
