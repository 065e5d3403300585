-- The children of a node that stands in an arena: where they stand, what they keep, and their rules.
use Rattle.std.proofs.Common.{◌≡◌, ℕ, zero, suc, ◌+◌, ◌<◌, ◌≤◌, List, [], ◌∷◌, map, length, take, get_or, sym, ap, subst, ◌∙◌, arith}
use Rattle.spec_tree.specs.declared.term.Term.{Term, Term-F, out-Term, roll-Term, roll-out-Term}
use Rattle.spec_tree.specs.declared.term.Term.TheFolds.{rec-roll-Term}
use Rattle.spec_world.specs.declared.world.Row.{Row}
use Rattle.spec_run.specs.Sites.{View, child_of, children_from}
use Rattle.base_tables.specs.Sound.{Sound, States, states_of_node}
use Rattle.spec_run.specs.Steps.{child_at}
use Rattle.spec_run.specs.Visit.{meaning}
use Rattle.run_arena.specs.declared.nodes.Kept.{Kept}
use Rattle.run_arena.specs.declared.nodes.Node.{Node}
use Rattle.run_arena.specs.Nodes.{node_at}
use Rattle.run_arena.specs.Stands.{Beside, StandAll, Stands, uid_of, uids_of}
use Rattle.run_arena.proofs.Framed.{all_sizes, sizes_cons}
use Rattle.run_arena.proofs.Opened.{opened, size_out}
use Rattle.run_nodes.proofs.AboutHalting.Memories.{uids_at, uids_many}
use Rattle.run_laws.proofs.Children.{Family, Keeps}
use Rattle.run_laws.proofs.Induction.{rules_of_terms}
use Rattle.run_laws.proofs.Keeping.{family}
use Rattle.run_laws.proofs.Seats.{Seat, first_seat, later_seat}

-- ---- Places

-- the uid of a later child, counted from the second child on
uid_following : (c : Term) (cs : List Term) (place uid : ℕ) → uid_of cs (uid + (meaning c).size) place ≡ uid_of (c ∷ cs) uid (suc place)
uid_following c cs place uid = omega (arith, sizes_cons c (take place cs))

-- the nodes of a child are among those of all children
pub child_inside : (ts : List Term) (place uid : ℕ) (t : Term) → place < length ts →
    (uid ≤ uid_of ts uid place) × (uid_of ts uid place + (meaning (get_or ts place t)).size ≤ uid + all_sizes ts)
child_inside [] place uid t within = absurd (omega (arith, within))
child_inside (c ∷ cs) zero uid t within = (omega arith, omega (arith, sizes_cons c cs))
child_inside (c ∷ cs) (suc place) uid t within =
    let more = child_inside cs place (uid + (meaning c).size) t (omega (arith, within)) in
    let same = uid_following c cs place uid in
    (omega (arith, more.0, same), omega (arith, more.1, same, sizes_cons c cs))

-- the child that a node sees at a place
pub child_seen : (view : View) (ts : List Term) (place uid first : ℕ) (t : Term) → place < length ts →
    child_at (children_from view (map meaning ts) uid first) place ≡ child_of view (meaning (get_or ts place t)) (uid_of ts uid place) (first + place)
child_seen view [] place uid first t within = absurd (omega (arith, within))
child_seen view (c ∷ cs) zero uid first t within =
    let at : uid ≡ uid + 0 = omega arith in
    let index : first ≡ first + 0 = omega arith in
    λ i. child_of view (meaning c) (at i) (index i)
child_seen view (c ∷ cs) (suc place) uid first t within =
    let index : first + 1 + place ≡ first + suc place = omega arith in
    child_seen view cs place (uid + (meaning c).size) (first + 1) t (omega (arith, within))
    ∙ (λ i. child_of view (meaning (get_or cs place t)) (uid_following c cs place uid i) (index i))

-- a node that stands has the uid of each child
pub child_found : (t : Term) (nodes : List Node) (view : View) (uid place : ℕ) (here : Node) → Stands t nodes view uid → here ≡ node_at nodes uid → place < length (out-Term t).children →
    (place < length here.child_uids) × (get_or here.child_uids place 0 ≡ uid_of (out-Term t).children (uid + 1) place)
child_found t nodes view uid place here stands is within =
    let uids : here.child_uids ≡ uids_of (out-Term t).children (uid + 1) = ap (λ (n : Node). n.child_uids) is ∙ (opened t nodes view uid stands).3 in
    (omega (arith, within, ap length uids, uids_many (out-Term t).children (uid + 1)), ap (λ (us : List ℕ). get_or us place 0) uids ∙ uids_at (out-Term t).children place (uid + 1) within)

-- a child stands in the arena
pub child_stands : (nodes : List Node) (view : View) (ts : List Term) (place uid : ℕ) (t : Term) → place < length ts → StandAll ts nodes view uid → Stands (get_or ts place t) nodes view (uid_of ts uid place)
child_stands nodes view [] place uid t within stand = absurd (omega (arith, within))
child_stands nodes view (c ∷ cs) zero uid t within stand = subst (λ (u : ℕ). Stands c nodes view u) (let e : uid ≡ uid + 0 = omega arith in e) stand.0
child_stands nodes view (c ∷ cs) (suc place) uid t within stand =
    subst (λ (u : ℕ). Stands (get_or cs place t) nodes view u) (uid_following c cs place uid) (child_stands nodes view cs place (uid + (meaning c).size) t (omega (arith, within)) stand.1)

-- ---- Sizes in an arena

pub size_stands : (t : Term) (nodes : List Node) (view : View) (uid : ℕ) → Stands t nodes view uid → (node_at nodes uid).size ≡ (meaning t).size
size_stands t nodes view uid stands = (opened t nodes view uid stands).1.size ∙ sym (size_out t)

-- the nodes of a child are nodes of the arena
pub child_there : (ts : List Term) (nodes : List Node) (view : View) (first place at : ℕ) → StandAll ts nodes view first → place < length ts → at ≡ uid_of ts first place → at < length nodes
child_there [] nodes view first place at stand within is = absurd (omega (arith, within))
child_there (c ∷ cs) nodes view first place at stand within is =
    let t = get_or (c ∷ cs) place c in
    (opened t nodes view at (subst (λ (u : ℕ). Stands t nodes view u) (sym is) (child_stands nodes view (c ∷ cs) place first c within stand))).0

-- ---- What changes among other nodes

-- the nodes of a term are as many as its size in the arena says
pub beside_sized : (term : Term) (uid size : ℕ) (a b : List Kept) → size ≡ (meaning term).size → Beside uid size a b → Beside uid (meaning term).size a b
beside_sized term uid size a b is k = subst (λ (n : ℕ). Beside uid n a b) is k

-- ---- Rules

pub sound_roll : (x : Term-F Term) → Sound (roll-Term x) ≡ states_of_node Term (λ t. t) Sound x
sound_roll x = rec-roll-Term States states_of_node (λ Y v k x. rules_of_terms v k x) x

-- the rules of a term are that of its node and those of its children
pub sound_out : (t : Term) → Sound t ≡ states_of_node Term (λ t. t) Sound (out-Term t)
sound_out t = ap Sound (sym (roll-out-Term t)) ∙ sound_roll (out-Term t)

module _ (keeps : (t : Term) → Keeps (meaning t) (Sound t)) where
  -- the children of a node as terms
  abbrev pub terms : Family
  terms = family (λ (t : Term). t) keeps

  pub seat_at : (rows : List Row) (ts : List Term) (place uid : ℕ) (t : Term) → place < length ts → Seat terms rows ts uid place (get_or ts place t) (uid_of ts uid place)
  seat_at rows [] place uid t within = absurd (omega (arith, within))
  seat_at rows (c ∷ cs) zero uid t within = subst (λ (u : ℕ). Seat terms rows (c ∷ cs) uid zero c u) (let e : uid ≡ uid + 0 = omega arith in e) (first_seat terms rows c cs uid)
  seat_at rows (c ∷ cs) (suc place) uid t within =
      subst (λ (u : ℕ). Seat terms rows (c ∷ cs) uid (suc place) (get_or cs place t) u) (uid_following c cs place uid)
      (later_seat terms rows c cs uid (get_or cs place t) place (uid_of cs (uid + (meaning c).size) place) (seat_at rows cs place (uid + (meaning c).size) t (omega (arith, within))))
