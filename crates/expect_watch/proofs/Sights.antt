-- What is taken block by block is what happens in the events that the blocks tell.
use Rattle.std.proofs.Common.{◌≡◌, ℕ, ℤ, zero, suc, List, [], ◌∷◌, ◌++◌, map, refl, sym, ap, subst, ◌∙◌}
use Rattle.std.specs.Prelude.{option_and_then, slice_get, slice_index_or}
use Rattle.std.specs.List.{flat_map}
use Rattle.std.proofs.lemmas.List.{map-append}
use Rattle.std.proofs.lemmas.List.Folds.{flat_map-map}
use Rattle.spec_run.specs.declared.block.Block.{Block}
use Rattle.spec_run.specs.declared.note.Note.{Note}
use Rattle.spec_run.specs.declared.note.Note.TheVariants.{Started, Ran}
use Rattle.spec_run.specs.declared.status.Answer.TheVariants.{Success}
use Rattle.spec_run.specs.Joins.{row_of_node}
use Rattle.spec_run.specs.Leaf.{effects_of}
use Rattle.spec_run.specs.Served.{Setup}
use Rattle.spec_tree.specs.declared.term.Term.{Term, Term-F, fold-roll-Term, fold_out-Term, ind-Term, out-Term}
use Rattle.spec_tree.specs.Trees.{Node, nodes_of, nodes_step}
use Rattle.spec_world.specs.declared.world.Row.{Row}
use Rattle.spec_world.specs.declared.world.Set.{Set}
use Rattle.spec_expect.specs.Met.{Held, held_after, held_from}
use Rattle.spec_expect.specs.Stories.{Happening, Sight, after_block, after_note, after_notes, effects_at, event_moment, event_runner, happenings_of, left_by, runner_of, sets_of, sight_of, sights_of}
use Rattle.expect_watch.specs.declared.watching.Watched.{Watched}
use Rattle.expect_watch.specs.Begun.{row_at_node, sets_in, sets_step}
use Rattle.expect_watch.specs.States.{State, all_taken, effects_had, event_ended, event_taken, note_taken, noted, notes_taken, taken}
use Rattle.expect_watch.proofs.Watches.{last_of, notes_watched, sight_watched, sights_watched}

map_same : {X : Type 0} (xs : List X) → map (λ (x : X). x) xs ≡ xs
map_same [] = refl
map_same (x ∷ xs) = ap (λ ys. x ∷ ys) (map_same xs)

map_both : {X Y Z : Type 0} (f : Y → Z) (g : X → Y) (xs : List X) → map f (map g xs) ≡ map (λ x. f (g x)) xs
map_both f g [] = refl
map_both f g (x ∷ xs) = ap (λ ys. f (g x) ∷ ys) (map_both f g xs)

-- ---- The effects of leaves

abbrev node_sets : List Row → Node → List Set
node_sets rows node = sets_of (row_of_node rows node)

abbrev HasSets : List Row → Term → Type 0
HasSets rows t = sets_in rows t ≡ map (node_sets rows) (nodes_of t)

abbrev AllHaveSets : List Row → List Term → Type 0
AllHaveSets rows ts = flat_map (λ (sets : List (List Set)). sets) (map (sets_in rows) ts) ≡ map (node_sets rows) (flat_map (λ (ns : List Node). ns) (map nodes_of ts))

all_sets : (rows : List Row) (ts : List ((t : Term) × HasSets rows t)) → AllHaveSets rows (map (λ e. e.0) ts)
all_sets rows [] = refl
all_sets rows (e ∷ ts) =
    let others = map {B = Term} (λ x. x.0) ts in
    (λ i. e.1 i ++ all_sets rows ts i) ∙ sym (map-append (node_sets rows) (nodes_of e.0) (flat_map (λ (ns : List Node). ns) (map nodes_of others)))

sets_in_nodes : (rows : List Row) (t : Term) → HasSets rows t
sets_in_nodes rows = ind-Term (HasSets rows) (λ x y is.
    let children = subst (λ (z : Term-F Term). AllHaveSets rows z.children) is (all_sets rows y.children) in
    fold-roll-Term (List (List Set)) (sets_step rows) x
    ∙ ap (λ (sets : List (List Set)). node_sets rows (record { kind = x.kind; id = x.id; name = x.name; ports = x.ports; code = x.code; guards = x.guards; autoremap = x.autoremap; children = 0 }) ∷ sets) children
    ∙ sym (ap (map (node_sets rows)) (fold-roll-Term (List Node) nodes_step x)))

sets_at : (rows : List Row) (nodes : List Node) (place : ℕ) → slice_index_or (map (node_sets rows) nodes) place [] ≡ sets_of (option_and_then (row_of_node rows) (slice_get nodes place))
sets_at rows [] place = refl
sets_at rows (n ∷ nodes) zero = refl
sets_at rows (n ∷ nodes) (suc place) = sets_at rows nodes place

-- those of a term are those of its node, and then those of its children
pub sets_out : (rows : List Row) (term : Term) → sets_in rows term ≡ sets_of (row_at_node rows term) ∷ flat_map (sets_in rows) (out-Term term).children
sets_out rows term =
    fold_out-Term (List (List Set)) (sets_step rows) term
    ∙ ap (λ (sets : List (List Set)). sets_of (row_at_node rows term) ∷ sets) (flat_map-map (λ (sets : List (List Set)). sets) (sets_in rows) (out-Term term).children)

-- what is kept of the effects of each leaf
abbrev pub HasEffects : Setup → List (List Set) → Type 0
HasEffects of effects = effects ≡ [] ∷ sets_in of.world.rows of.tree.term

effects_are : (of : Setup) (effects : List (List Set)) → HasEffects of effects → (uid : ℕ) → slice_index_or effects uid [] ≡ effects_at of uid
effects_are of effects has uid =
    ap (λ (x : List (List Set)). slice_index_or x uid []) (has ∙ ap (λ (sets : List (List Set)). [] ∷ sets) (sets_in_nodes of.world.rows of.tree.term)) ∙ by_place uid where
      by_place : (k : ℕ) → slice_index_or ([] ∷ map (node_sets of.world.rows) (nodes_of of.tree.term)) k [] ≡ effects_at of k
      by_place zero = refl
      by_place (suc k) = sets_at of.world.rows (nodes_of of.tree.term) k

-- the facts after a note
had_is : (of : Setup) (effects : List (List Set)) (note : Note) (facts : List ℤ) → HasEffects of effects → effects_had effects note facts ≡ after_note of note facts
had_is of effects (Started uid Success) facts has = ap (λ (sets : List Set). left_by (effects_of sets facts) facts) (effects_are of effects has uid)
had_is of effects (Ran uid Success) facts has = ap (λ (sets : List Set). left_by (effects_of sets facts) facts) (effects_are of effects has uid)
had_is of effects note facts has = refl

-- ---- Notes

-- what is kept after the notes of an event of a runner at a moment
abbrev after_all : Setup → ℕ → ℕ → List Note → List ℤ → State → State
after_all of at runner notes facts s = record {
  watched = map (notes_watched at (happenings_of of runner notes facts) s.held) s.watched;
  facts = after_notes of notes facts;
  effects = s.effects;
  held = held_from s.held (happenings_of of runner notes facts);
  last = s.last;
}

notes_are : (of : Setup) (at runner : ℕ) (notes : List Note) (s : State) → HasEffects of s.effects → notes_taken at runner notes s ≡ after_all of at runner notes s.facts s
notes_are of at runner [] s has = ap (λ (ws : List Watched). (let x : State = record { watched = ws; facts = s.facts; effects = s.effects; held = s.held; last = s.last } in x)) (sym (map_same s.watched))
notes_are of at runner (n ∷ notes) s has =
    let next : State = note_taken at runner s n in
    let now : List Held = held_after (runner_of runner n) n s.held in
    let facts : List ℤ = after_note of n s.facts in
    notes_are of at runner notes next has
    ∙ ap (λ (f : List ℤ). after_all of at runner notes f next) (had_is of s.effects n s.facts has)
    ∙ ap (λ (ws : List Watched). (let x : State = record {
      watched = ws;
      facts = after_notes of notes facts;
      effects = s.effects;
      held = held_from now (happenings_of of runner notes facts);
      last = s.last;
    } in x)) (map_both (notes_watched at (happenings_of of runner notes facts) now) (noted at n s.facts now) s.watched)

-- ---- Blocks

-- what is kept after an event
abbrev after_sight : Setup → Block → State → State
after_sight of block s = record {
  watched = map (sight_watched (sight_of of block s.facts) s.held) s.watched;
  facts = after_block of block s.facts;
  effects = s.effects;
  held = held_from s.held (sight_of of block s.facts).happenings;
  last = event_moment block.header;
}

block_is : (of : Setup) (block : Block) (s : State) → HasEffects of s.effects → taken block s ≡ after_sight of block s
block_is of block s has =
    let at : ℕ = event_moment block.header in
    let hs : List Happening = happenings_of of (event_runner block.header) block.notes s.facts in
    ap (event_taken at block.facts) (notes_are of at (event_runner block.header) block.notes s has)
    ∙ ap (λ (ws : List Watched). (let x : State = record {
      watched = ws;
      facts = after_block of block s.facts;
      effects = s.effects;
      held = held_from s.held hs;
      last = at;
    } in x)) (map_both (event_ended at (after_block of block s.facts)) (notes_watched at hs s.held) s.watched)

-- what is kept of each expectation after some blocks, and the last moment
pub blocks_watched : (of : Setup) (blocks : List Block) (s : State) → HasEffects of s.effects →
    (all_taken blocks s).watched ≡ map (sights_watched (sights_of of blocks s.facts) s.held) s.watched
blocks_watched of [] s has = sym (map_same s.watched)
blocks_watched of (block ∷ blocks) s has =
    let sight : Sight = sight_of of block s.facts in
    let rest : List Sight = sights_of of blocks (after_block of block s.facts) in
    ap (λ (x : State). (all_taken blocks x).watched) (block_is of block s has)
    ∙ blocks_watched of blocks (after_sight of block s) has
    ∙ map_both (sights_watched rest (held_from s.held sight.happenings)) (sight_watched sight s.held) s.watched

pub blocks_last : (of : Setup) (blocks : List Block) (s : State) → HasEffects of s.effects → (all_taken blocks s).last ≡ last_of s.last (sights_of of blocks s.facts)
blocks_last of [] s has = refl
blocks_last of (block ∷ blocks) s has =
    ap (λ (x : State). (all_taken blocks x).last) (block_is of block s has) ∙ blocks_last of blocks (after_sight of block s) has
