-- The quench of all runners, one after the other.
use Rattle.std.proofs.Common.{◌≡◌, inl, inr, ℕ, ℤ, zero, suc, ◌+◌, ◌<◌, ◌≤◌, Bool, true, false, List, [], ◌∷◌, ◌++◌, Option, Some, None, map, length, drop, get_or, slice_get, set, option_map, cond, is_some, refl, sym, ap, subst, ◌∙◌, append_assoc, append-nil, add-one, arith}
use Rattle.std.proofs.lemmas.List.{drop_more, length-map}
use Rattle.std.proofs.lemmas.List.Sums.{sum_by-cons}
use Rattle.std.specs.Prelude.{if◌then◌else◌}
use Rattle.std.specs.Vec.{vec_capacity}
use Rattle.std.proofs.lemmas.Option.{get_or_from_slice_get, slice_get-map}
use Rattle.std.proofs.Math.Seq.{map-set_same}
use Rattle.spec_run.specs.declared.leaf.Instance.{Instance}
use Rattle.spec_run.specs.declared.leaf.Phase.TheVariants as phase
use Rattle.spec_run.specs.declared.note.Note.{Note}
use Rattle.spec_tree.specs.declared.term.Term.{Term}
use Rattle.spec_tree.specs.declared.term.Tree.{Tree}
use Rattle.spec_world.specs.declared.world.World.{World}
use Rattle.spec_run.specs.Done.{Call}
use Rattle.spec_run.specs.Drivers.{DriverState, NothingHeld, is_held}
use Rattle.base_tables.specs.DriverCalls.{instance_at}
use Rattle.spec_run.specs.Leaf.{fresh, let_go, released}
use Rattle.spec_run.specs.Run.{Runner, releases, quench_calls, quench_notes, quenched_notes, quenched_runner, root_view, runner_calls}
use Rattle.spec_run.specs.Visit.{idle}
use Rattle.run_arena.specs.declared.nodes.Node.{Node}
use Rattle.run_arena.specs.declared.nodes.ReadyLeaf.{ReadyLeaf}
use Rattle.run_arena.specs.Ends.{StaysFit}
use Rattle.run_arena.specs.Rosters.{has_driver, instances_of, leaf_instance, leaves_in, roster_after}
use Rattle.run_arena.specs.Stands.{memory_of}
use Rattle.run_arena.proofs.Called.{instance_at_uid}
use Rattle.run_loop.specs.declared.runs.ReadyRunner.{ReadyRunner}
use Rattle.run_loop.specs.Parts.{scene_of}
use Rattle.run_loop.specs.Runs.{IsTheirs, RunnersFit, arenas_in, leaves_of, roster_over, runner_in, runners_in}
use Rattle.run_loop.proofs.Lists.{entry, map_alike, set_is, within}
use Rattle.run_loop.proofs.Others.{over_both, over_runner}
use Rattle.run_loop.proofs.Putting.{arenas_same, fit_put, nodes_are, runners_put}

let_go_twice : (is : List Instance) → map let_go (map let_go is) ≡ map let_go is
let_go_twice [] = refl
let_go_twice (i ∷ is) = ap (λ xs. let_go i ∷ xs) (let_go_twice is)

-- a second quench of a runner changes nothing
pub twice : (tree : Tree) (r : Runner) → quenched_runner tree (quenched_runner tree r) ≡ quenched_runner tree r
twice tree r = ap (λ (is : List Instance). let one : Runner = record { memory = idle tree.term; board = r.board; instances = is } in one) (let_go_twice r.instances)

drop_set : {A : Type 0} (xs : List A) (i : ℕ) (y : A) → drop (suc i) (set xs i y) ≡ drop (suc i) xs
drop_set [] i y = refl
drop_set (x ∷ xs) zero y = refl
drop_set (x ∷ xs) (suc i) y = drop_set xs i y

drop_all : {A : Type 0} (xs : List A) (n : ℕ) → length xs ≤ n → drop n xs ≡ []
drop_all [] zero most = refl
drop_all [] (suc n) most = refl
drop_all (x ∷ xs) zero most = absurd (omega (arith, most))
drop_all (x ∷ xs) (suc n) most = drop_all xs n (omega (arith, most))

map_none : {A : Type 0} (xs : List A) → map (λ (x : A). x) xs ≡ xs
map_none [] = refl
map_none (x ∷ xs) = ap (λ ys. x ∷ ys) (map_none xs)

-- a runner whose arena has these nodes
abbrev pub runner_by : Term → List Node → ReadyRunner → List DriverState → Runner
runner_by term nodes r drivers = record { memory = memory_of term 1 r.arena.kept.items; board = r.board; instances = instances_of nodes drivers }

-- the runners before a place are quenched, and the others are still to come
pub record Quenching (tree : Tree) (world : World) (facts : List ℤ) (place : ℕ) (before now : List DriverState) (old new : List ReadyRunner) (told noted : List Note) : Type 0 where
  pub fit : RunnersFit tree world facts now new
  pub notes : noted ++ quench_notes (place + 1) (drop place (runners_in tree.term now new)) ≡ told ++ quench_notes 1 (runners_in tree.term before old)
  pub drivers : roster_over (arenas_in new) (quench_calls (place + 1) (drop place (runners_in tree.term now new))) now ≡ roster_over (arenas_in old) (quench_calls 1 (runners_in tree.term before old)) before
  pub state : map (quenched_runner tree) (runners_in tree.term now new) ≡ map (quenched_runner tree) (runners_in tree.term before old)
  pub made : (k : ℕ) (r : Runner) → k < place → slice_get (runners_in tree.term now new) k ≡ Some r → quenched_runner tree r ≡ r

-- no runner is quenched yet
pub quenching_none : (tree : Tree) (world : World) (facts : List ℤ) (before : List DriverState) (old : List ReadyRunner) (told : List Note) → RunnersFit tree world facts before old → Quenching tree world facts 0 before before old old told told
quenching_none tree world facts before old told fit = record { fit = fit; notes = refl; drivers = refl; state = refl; made = λ k r low e. absurd (omega (arith, low)) }

module _ (tree : Tree) (world : World) (facts : List ℤ) (i : ℕ) (before now : List DriverState) (old rs : List ReadyRunner) (told noted : List Note) (so_far : Quenching tree world facts i before now old rs told noted)
    (r : ReadyRunner) (is : slice_get rs i ≡ Some r) (new : ReadyRunner) (now1 : List DriverState) (noted1 : List Note)
    (nodes : new.arena.nodes.items ≡ r.arena.nodes.items) (number : new.arena.runner ≡ r.arena.runner) (frames : new.arena.frames ≡ r.arena.frames)
    (stays : StaysFit r.arena.nodes.items (scene_of r facts now) (scene_of new facts now1))
    (gone : runner_by tree.term r.arena.nodes.items new now1 ≡ quenched_runner tree (runner_in tree.term now r))
    (called : now1 ≡ roster_after r.arena.nodes.items (releases 0 (instances_of r.arena.nodes.items now)) now)
    (notes1 : noted1 ≡ noted ++ quenched_notes r.arena.runner (releases 0 (instances_of r.arena.nodes.items now))) where
  abbrev t : Term
  t = tree.term

  abbrev q : Runner → Runner
  q = quenched_runner tree

  abbrev all : List Runner
  all = runners_in t now rs

  abbrev here : Runner
  here = runner_in t now r

  abbrev calls : List Call
  calls = releases 0 (instances_of r.arena.nodes.items now)

  here_is : slice_get all i ≡ Some here
  here_is = slice_get-map (runner_in t now) rs i ∙ ap (option_map (runner_in t now)) is

  there : i < length all
  there = within all i here here_is

  put : runners_in t now1 (set rs i new) ≡ set all i (q here)
  put = runners_put tree world rs facts now so_far.fit i r is new facts now1 nodes calls called ∙ ap (set all i) (ap (λ (ns : List Node). runner_by t ns new now1) nodes ∙ gone)

  rest_same : drop (i + 1) (runners_in t now1 (set rs i new)) ≡ drop (i + 1) all
  rest_same = ap (λ xs. drop (i + 1) xs) put ∙ ap (λ n. drop n (set all i (q here))) (add-one i) ∙ drop_set all i (q here) ∙ ap (λ n. drop n all) (sym (add-one i))

  rest_is : drop i all ≡ here ∷ drop (i + 1) all
  rest_is = drop_more all i here there ∙ ap (λ x. x ∷ drop (i + 1) all) (get_or_from_slice_get all i here here here_is)

  arenas_stay : arenas_in (set rs i new) ≡ arenas_in rs
  arenas_stay = arenas_same tree world rs facts now so_far.fit i r is new facts now1 nodes calls called

  number_is : r.arena.runner ≡ i + 1
  number_is = (so_far.fit.each i r is).numbered

  -- and one more is
  pub quenching_more : Quenching tree world facts (i + 1) before now1 old (set rs i new) told noted1
  quenching_more = record {
    fit = fit_put tree world rs facts now so_far.fit i r is new facts now1 nodes calls called number (let same : vec_capacity new.arena.frames ≡ vec_capacity r.arena.frames = ap vec_capacity frames in omega (arith, same)) (stays t (root_view tree world) 1 (so_far.fit.each i r is).fits);
    notes =
        (λ j. notes1 j ++ quench_notes (i + 1 + 1) (rest_same j))
        ∙ ap (λ n. (noted ++ quenched_notes n calls) ++ quench_notes (i + 1 + 1) (drop (i + 1) all)) number_is
        ∙ append_assoc noted (quenched_notes (i + 1) calls) (quench_notes (i + 1 + 1) (drop (i + 1) all))
        ∙ ap (λ xs. noted ++ quench_notes (i + 1) xs) (sym rest_is)
        ∙ so_far.notes;
    drivers =
        (λ j. roster_over (arenas_stay j) (quench_calls (i + 1 + 1) (rest_same j)) now1)
        ∙ ap (roster_over (arenas_in rs) (quench_calls (i + 1 + 1) (drop (i + 1) all)))
        (called ∙ ap (λ (ns : List Node). roster_after ns calls now) (sym (nodes_are tree world rs facts now so_far.fit i r is (i + 1) (omega arith))) ∙ sym (over_runner (arenas_in rs) (i + 1) calls now))
        ∙ sym (over_both (arenas_in rs) (runner_calls (i + 1) calls) (quench_calls (i + 1 + 1) (drop (i + 1) all)) now)
        ∙ ap (λ xs. roster_over (arenas_in rs) (quench_calls (i + 1) xs) now) (sym rest_is)
        ∙ so_far.drivers;
    state =
        ap (map q) put
        ∙ map-set_same q all i (q here) here (twice tree here ∙ ap q (sym (get_or_from_slice_get all i here here here_is)))
        ∙ so_far.state;
    made = λ k x low e. elim (set_is all i (q here) k x (subst (λ xs. slice_get xs k ≡ Some x) put e)) [
      | inl at ↦ subst (λ y. q y ≡ y) at.1 (twice tree here)
      | inr at ↦ so_far.made k x (omega (arith, low, at.0)) at.1
    ];
  }

-- ---- At the end

module _ (tree : Tree) (world : World) (facts : List ℤ) (place : ℕ) (before now : List DriverState) (old rs : List ReadyRunner) (told noted : List Note) (so_far : Quenching tree world facts place before now old rs told noted) (all_places : length rs ≤ place) where
  nothing_left : drop place (runners_in tree.term now rs) ≡ []
  nothing_left = drop_all (runners_in tree.term now rs) place (omega (arith, all_places, length-map rs (runner_in tree.term now)))

  all_made : (k : ℕ) (x : Runner) → slice_get (runners_in tree.term now rs) k ≡ Some x → quenched_runner tree x ≡ x
  all_made k x e = so_far.made k x (omega (arith, all_places, within (runners_in tree.term now rs) k x e, length-map rs (runner_in tree.term now))) e

  pub quenched_notes_end : noted ≡ told ++ quench_notes 1 (runners_in tree.term before old)
  quenched_notes_end = sym (append-nil noted) ∙ ap (λ xs. noted ++ quench_notes (place + 1) xs) (sym nothing_left) ∙ so_far.notes

  pub quenched_drivers_end : now ≡ roster_over (arenas_in old) (quench_calls 1 (runners_in tree.term before old)) before
  quenched_drivers_end = ap (λ xs. roster_over (arenas_in rs) (quench_calls (place + 1) xs) now) (sym nothing_left) ∙ so_far.drivers

  stays_same : map (quenched_runner tree) (runners_in tree.term now rs) ≡ runners_in tree.term now rs
  stays_same = map_alike (quenched_runner tree) (λ (x : Runner). x) (runners_in tree.term now rs) all_made ∙ map_none (runners_in tree.term now rs)

  pub quenched_state_end : runners_in tree.term now rs ≡ map (quenched_runner tree) (runners_in tree.term before old)
  quenched_state_end = sym stays_same ∙ so_far.state

  free_at : (is : List Instance) (uid : ℕ) → is_held (get_or (map let_go is) uid fresh) ≡ false
  free_at [] uid = refl
  free_at (i ∷ is) zero = refl
  free_at (i ∷ is) (suc uid) = free_at is uid

  free_of : (k : ℕ) (x : ReadyRunner) → slice_get rs k ≡ Some x → (uid : ℕ) → is_held (get_or (instances_of x.arena.nodes.items now) uid fresh) ≡ false
  free_of k x at uid =
      let same : quenched_runner tree (runner_in tree.term now x) ≡ runner_in tree.term now x = all_made k (runner_in tree.term now x) (slice_get-map (runner_in tree.term now) rs k ∙ ap (option_map (runner_in tree.term now)) at) in
      ap (λ (y : Runner). is_held (get_or y.instances uid fresh)) (sym same) ∙ free_at (instances_of x.arena.nodes.items now) uid

  free_leaf : (place instance : ℕ) → IsTheirs (arenas_in rs) place instance → is_held (instance_at now place instance) ≡ false
  free_leaf place instance theirs =
      let x : (x : ReadyRunner) × (slice_get rs theirs.runner ≡ Some x) = entry rs theirs.runner (omega (arith, within (arenas_in rs) theirs.runner theirs.nodes theirs.is_runner, length-map rs (λ (y : ReadyRunner). y.arena.nodes.items))) in
      let nodes_is : Some x.0.arena.nodes.items ≡ Some theirs.nodes =
      sym (slice_get-map (λ (y : ReadyRunner). y.arena.nodes.items) rs theirs.runner ∙ ap (option_map (λ (y : ReadyRunner). y.arena.nodes.items)) x.1) ∙ theirs.is_runner in
      let nodes_are : x.0.arena.nodes.items ≡ theirs.nodes = cc in
      (λ j. is_held (instance_at now (sym theirs.is_driver j) (sym theirs.is_instance j)))
      ∙ ap (λ o. is_held (leaf_instance now o)) (sym theirs.is_leaf)
      ∙ ap is_held (sym (instance_at_uid theirs.nodes now theirs.uid))
      ∙ ap (λ (ns : List Node). is_held (get_or (instances_of ns now) theirs.uid fresh)) (sym nodes_are)
      ∙ free_of theirs.runner x.0 x.1 theirs.uid

  free_by : (held : Bool) (place instance : ℕ) → is_held (instance_at now place instance) ≡ held → held ≡ false
  free_by false place instance e = refl
  free_by true place instance e = sym e ∙ free_leaf place instance (so_far.fit.theirs place instance e)

  pub nothing_held : NothingHeld now
  nothing_held place instance = free_by (is_held (instance_at now place instance)) place instance refl

-- ---- Room

one_held : (held : Bool) (call : Call) (rest : List Call) → length (if held then call ∷ rest else rest) ≤ 1 + length rest
one_held true call rest = omega arith
one_held false call rest = omega arith

one_note : (drivers : List DriverState) (uid : ℕ) (found : Option ReadyLeaf) (rest : List Call) →
    length (if is_some (leaf_instance drivers found).since then record { uid = uid; phase = phase.Halted; left = released (leaf_instance drivers found) } ∷ rest else rest) ≤ cond (has_driver found) 1 0 + length rest
one_note drivers uid None rest = omega arith
one_note drivers uid (Some leaf) rest = one_held (is_some (instance_at drivers leaf.driver leaf.instance).since) (record { uid = uid; phase = phase.Halted; left = released (instance_at drivers leaf.driver leaf.instance) }) rest

-- a quench makes no more notes than the runner has leaves
pub few_notes : (drivers : List DriverState) (uid : ℕ) (nodes : List Node) → length (releases uid (instances_of nodes drivers)) ≤ leaves_in nodes
few_notes drivers uid [] = omega arith
few_notes drivers uid (n ∷ ns) =
    let counted : leaves_in (n ∷ ns) ≡ cond (has_driver n.leaf) 1 0 + leaves_in ns = sum_by-cons (λ (x : Node). cond (has_driver x.leaf) 1 0) n ns in
    omega (arith, counted, few_notes drivers (uid + 1) ns, one_note drivers uid n.leaf (releases (uid + 1) (instances_of ns drivers)))

pub room_more : (arenas : List (List Node)) (i : ℕ) (nodes : List Node) → slice_get arenas i ≡ Some nodes → leaves_of (drop i arenas) ≡ leaves_in nodes + leaves_of (drop (i + 1) arenas)
room_more arenas i nodes is =
    ap leaves_of (drop_more arenas i nodes (within arenas i nodes is))
    ∙ sum_by-cons (λ (k : ℕ). k) (leaves_in (get_or arenas i nodes)) (map leaves_in (drop (i + 1) arenas))
    ∙ ap (λ (ns : List Node). leaves_in ns + leaves_of (drop (i + 1) arenas)) (get_or_from_slice_get arenas i nodes nodes is)

-- the room that is needed for the runner at a place, and for those after it
pub room_at : (rs old : List ReadyRunner) (i : ℕ) (r : ReadyRunner) → slice_get rs i ≡ Some r → arenas_in rs ≡ arenas_in old →
    leaves_of (drop i (arenas_in old)) ≡ leaves_in r.arena.nodes.items + leaves_of (drop (i + 1) (arenas_in old))
room_at rs old i r is same =
    room_more (arenas_in old) i r.arena.nodes.items
    (ap (λ ns. slice_get ns i) (sym same) ∙ slice_get-map (λ (x : ReadyRunner). x.arena.nodes.items) rs i ∙ ap (option_map (λ (x : ReadyRunner). x.arena.nodes.items)) is)
