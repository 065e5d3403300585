-- What a call of a leaf's driver leaves is what the definition says.
use Rattle.std.proofs.Common.{◌≡◌, ℕ, ℤ, true, List, [], ◌∷◌, map, Option, Some, None, refl, sym, ap, subst, ◌∙◌}
use Rattle.std.specs.Prelude.{MatchOption}
use Rattle.spec_script.specs.declared.cells.Seen.{Seen}
use Rattle.spec_script.specs.declared.value.Value.{Value}
use Rattle.spec_run.specs.declared.leaf.Phase.{Phase}
use Rattle.spec_run.specs.declared.leaf.Phase.TheVariants as phase
use Rattle.spec_run.specs.declared.leaf.Reply.{Reply}
use Rattle.spec_run.specs.declared.leaf.Reply.TheVariants as reply
use Rattle.spec_run.specs.declared.status.Answer.{Answer}
use Rattle.spec_run.specs.declared.status.Status.{Status}
use Rattle.spec_tree.specs.declared.term.PortValue.{PortValue}
use Rattle.spec_tree.specs.declared.term.PortValue.TheVariants.{Key, Lit as Literal}
use Rattle.spec_tree.specs.declared.term.Term.{Term-F}
use Rattle.spec_world.specs.declared.world.Out.{Out}
use Rattle.spec_world.specs.declared.world.Row.{Row}
use Rattle.spec_world.specs.declared.world.RowSort.{RowSort}
use Rattle.spec_world.specs.declared.world.RowSort.TheVariants as sort
use Rattle.spec_world.specs.declared.world.ToldOut.{ToldOut}
use Rattle.spec_world.specs.Worlds.{is_told, outs_told, ports_written}
use Rattle.spec_run.specs.Done.{State}
use Rattle.spec_run.specs.Drivers.{DriverState}
use Rattle.spec_run.specs.Leaf.{Answered, Rule, asked, is_told_way, leaf_rule, padded, rule_answer, rule_of, way_of}
use Rattle.spec_run.specs.Leaves.{called, inputs_of, instance_asked, instance_at, leaf_answered, phase_of, reply_board, row_of, sight, told_for, with_output, with_outputs, with_told, with_value}
use Rattle.spec_run.specs.Ports.{given_at, value_at}
use Rattle.spec_run.specs.Sites.{Meaning, Site, View}
use Rattle.spec_run.specs.Visit.{site_of}
use Rattle.base_tables.specs.Outputs.{Outputs, outputs_given}
use Rattle.run_driver.proofs.Padding.{padding_is_nothing}
use Rattle.run_arena.specs.declared.nodes.Node.{Node}
use Rattle.run_arena.specs.declared.nodes.ReadyLeaf.{ReadyLeaf}
use Rattle.run_arena.specs.Nodes.{IsLeafOf, LeafStands, leaf_at}
use Rattle.run_arena.specs.Noted.{calls_named}
use Rattle.run_arena.specs.Rosters.{leaf_instance}
use Rattle.run_arena.specs.Rows.{names_by}
use Rattle.run_arena.specs.Scenes.{Scene}
use Rattle.run_arena.specs.declared.source.Source.{Source}
use Rattle.run_arena.specs.Sources.{source_at, source_of}
use Rattle.run_arena.specs.Stands.{written}
use Rattle.run_nodes.specs.Calls.{board_left, leaf_answer, leaf_written, number_written, outputs_written, seen_inputs, told_written, value_written, values_held}
use Rattle.run_nodes.specs.Here.{FitsHere}
use Rattle.run_nodes.proofs.PortValues.{given_means}

-- the leaves of a row are told what they answer where its sort says so
pub told_way : (places : List ℕ → ℕ) (s : RowSort) → is_told_way (way_of places s) ≡ is_told s
told_way places sort.Sensed = refl
told_way places (sort.Told outs) = refl
told_way places (sort.Is fact op value) = refl
told_way places (sort.When test) = refl
told_way places (sort.Timed ms fails) = refl
told_way places (sort.TimedBy length fails) = refl
told_way places (sort.Replay ms outcomes) = refl
told_way places (sort.Gate test) = refl

-- an output is written where the definition writes it
output_means : (site : Site) (given : Option PortValue) (n : ℤ) (board : List (Option Value)) → number_written (source_of site.view given) n board ≡ with_output site given n board
output_means site (Some (Literal value)) n board = refl
output_means site (Some (Key key)) n board = refl
output_means site None n board = refl

-- and so is a value that is told
value_means : (site : Site) (given : Option PortValue) (value : Option Value) (board : List (Option Value)) → value_written (source_of site.view given) value board ≡ with_value site given value board
value_means site (Some (Key key)) (Some value) board = refl
value_means site (Some (Key key)) None board = refl
value_means site (Some (Literal literal)) value board = refl
value_means site None value board = refl

-- a call with an answer has a note
pub named_once : (p : Phase) (uid : ℕ) (answer : Answer) → 1 ≡ calls_named (called p uid answer ∷ [])
named_once phase.Start uid answer = refl
named_once phase.Running uid answer = refl
named_once phase.Halted uid answer = refl
named_once phase.Told uid answer = refl

-- a leaf that stands has the row of its ID
pub record HasRow (term : Term-F Meaning) (view : View) (leaf : ReadyLeaf) : Type 0 where
  pub row : Row
  pub found : row_of view.rows term.id ≡ Some row
  pub follows : IsLeafOf view term.ports leaf row

row_found : (term : Term-F Meaning) (view : View) (leaf : ReadyLeaf) (found : Option Row) → row_of view.rows term.id ≡ found → MatchOption found ⊥ (IsLeafOf view term.ports leaf) → HasRow term view leaf
row_found term view leaf (Some row) is k = record { row = row; found = is; follows = k }
row_found term view leaf None is k = absurd k

pub has_row : (term : Term-F Meaning) (view : View) (uid : ℕ) (nodes : List Node) (s : Scene) (leaf : ReadyLeaf) → FitsHere term view uid nodes s → leaf_at nodes uid ≡ Some leaf → HasRow term view leaf
has_row term view uid nodes s leaf fits is =
    let P : Option ReadyLeaf → Type 0 = λ o. LeafStands view (written term) o in
    row_found term view leaf (row_of view.rows term.id) refl (subst P is fits.node.leaf).1

module _ (term : Term-F Meaning) (view : View) (uid : ℕ) (s : State) where
  -- the inputs of a leaf are those of its row
  inputs_mean : (names : List (List ℕ)) →
      seen_inputs s.board (map (λ name. source_at view term.ports name) names) ≡ map (λ name. sight (value_at (site_of term view uid) s name)) names
  inputs_mean [] = refl
  inputs_mean (name ∷ names) = λ i. sight (given_means (site_of term view uid) s (given_at (site_of term view uid) name) i) ∷ inputs_mean names i

  values_mean : (names : List (List ℕ)) →
      values_held s.board (map (λ name. source_at view term.ports name) names) ≡ map (λ name. value_at (site_of term view uid) s name) names
  values_mean [] = refl
  values_mean (name ∷ names) = λ i. given_means (site_of term view uid) s (given_at (site_of term view uid) name) i ∷ values_mean names i

  -- what the ports of these names are given
  abbrev sources_of : List (List ℕ) → List Source
  sources_of names = map (λ name. source_at view term.ports name) names

  -- and its outputs are written as the row says: the numbers
  outputs_mean : (outs : List Out) (ns : List ℤ) (board : List (Option Value)) →
      outputs_written (sources_of (ports_written outs)) ns board ≡ with_outputs (site_of term view uid) outs ns board
  outputs_mean [] ns board = refl
  outputs_mean (out ∷ outs) [] board = refl
  outputs_mean (out ∷ outs) (n ∷ ns) board =
      ap (λ b. outputs_written (sources_of (ports_written outs)) ns b) (output_means (site_of term view uid) (given_at (site_of term view uid) out.port) n board)
      ∙ outputs_mean outs ns (with_output (site_of term view uid) (given_at (site_of term view uid) out.port) n board)

  -- and the values that are told
  told_means : (names : List (List ℕ)) (told : List ToldOut) (board : List (Option Value)) →
      told_written names (sources_of names) told board ≡ with_told (site_of term view uid) names told board
  told_means [] told board = refl
  told_means (name ∷ names) told board =
      ap (told_written names (sources_of names) told) (value_means (site_of term view uid) (given_at (site_of term view uid) name) (told_for told name) board)
      ∙ told_means names told (with_value (site_of term view uid) (given_at (site_of term view uid) name) (told_for told name) board)

  -- the values of an action that is told, which has no other outputs
  told_alone : (names : List (List ℕ)) (outs : List Out) (given : Outputs) (board : List (Option Value)) → outs ≡ [] →
      leaf_written names (sources_of names) given board ≡ with_told (site_of term view uid) names given.told (with_outputs (site_of term view uid) outs given.numbers board)
  told_alone [] outs given board none = ap (λ (os : List Out). with_outputs (site_of term view uid) os given.numbers board) (sym none)
  told_alone (name ∷ names) outs given board none =
      told_means (name ∷ names) given.told board
      ∙ ap (λ (os : List Out). with_told (site_of term view uid) (name ∷ names) given.told (with_outputs (site_of term view uid) os given.numbers board)) (sym none)

  -- the outputs of a row by its sort
  written_means : (sort : RowSort) (outs : List Out) (given : Outputs) (board : List (Option Value)) → (is_told sort ≡ true → outs ≡ []) →
      leaf_written (outs_told sort) (sources_of (names_by sort outs)) given board
      ≡ with_told (site_of term view uid) (outs_told sort) given.told (with_outputs (site_of term view uid) outs given.numbers board)
  written_means (sort.Told names) outs given board bare = told_alone names outs given board (bare refl)
  written_means _ outs given board bare = outputs_mean outs given.numbers board

  module _ (leaf : ReadyLeaf) (row : Row) (k : IsLeafOf view term.ports leaf row) where
    pub board_means : (a : Answered) (r : Reply) → board_left r leaf (outputs_given a) s.board ≡ reply_board (site_of term view uid) row a s.board r
    board_means a reply.Success = (λ i. leaf_written (k.told i) (k.outputs i) (outputs_given a) s.board) ∙ written_means row.sort row.outs (outputs_given a) s.board k.once.bare
    board_means a reply.Running = refl
    board_means a reply.Failure = refl
    board_means a (reply.Broken cause) = refl

    -- what the driver answers is what the leaf rule says
    pub answer_means : (drivers : List DriverState) (status : Status) → instance_at s uid ≡ leaf_instance drivers (Some leaf) →
        leaf_answer leaf status s.board s.facts drivers s.moment ≡ leaf_answered (site_of term view uid) row status s
    answer_means drivers status instance =
        let p = phase_of status in
        let way = (rule_of view.facts row).way in
        let before = leaf_instance drivers (Some leaf) in
        let seen = padded (seen_inputs s.board leaf.inputs) in
        ap (λ (r : Rule). rule_answer r p (asked r.way p (values_held s.board leaf.inputs) before) seen s.facts s.moment) k.rule
        ∙ (λ i. leaf_rule view.facts row p (asked way p (values_held s.board (k.inputs i)) (sym instance i)) (padded (seen_inputs s.board (k.inputs i))) s.facts s.moment)
        ∙ (λ i. leaf_rule view.facts row p (asked way p (values_mean row.ports i) (instance_at s uid)) (padded (inputs_mean row.ports i)) s.facts s.moment)
        ∙ padding_is_nothing view.facts row p (instance_asked (site_of term view uid) row p s) (inputs_of (site_of term view uid) s row) s.facts s.moment
