-- What is kept of a run before its first event.
use Rattle.std.specs.Prelude.{ℤ, ◌≡◌, List, [], ◌∷◌, Option, Some, None, if◌then◌else◌}
use Rattle.std.specs.List.{flat_map}
use Rattle.spec_tree.specs.declared.term.Term.{Term, Term-F, fold-Term, out-Term}
use Rattle.spec_tree.specs.declared.term.Tree.{Tree}
use Rattle.spec_run.specs.Joins.{is_leaf}
use Rattle.spec_run.specs.Leaves.{row_of}
use Rattle.spec_run.specs.Served.{Setup}
use Rattle.spec_world.specs.declared.world.Fact.{Fact}
use Rattle.spec_world.specs.declared.world.Row.{Row}
use Rattle.spec_world.specs.declared.world.Set.{Set}
use Rattle.spec_world.specs.declared.world.World.{World}
use Rattle.spec_expect.specs.declared.expectation.Expected.{Expected}
use Rattle.spec_expect.specs.Stories.{opening_facts, sets_of}
use Rattle.expect_watch.specs.declared.watching.Watched.{Watched}
use Rattle.expect_watch.specs.Memos.{IsMemoOf, is_lost_now}
use Rattle.expect_watch.specs.Over.{AreOver}
use Rattle.expect_watch.specs.States.{State}
use Rattle.expect_watch.specs.Valid.{IsFit}

abbrev pub setup : Tree → World → Setup
setup tree world = record { tree = tree; world = world }

-- the row of a node, where it is a leaf that has one
abbrev pub row_at_step : {X : Type 0} → List Row → Term-F X → Option Row
row_at_step rows node = if is_leaf node.kind then row_of rows node.id else None

abbrev pub row_at_node : List Row → Term → Option Row
row_at_node rows term = row_at_step rows (out-Term term)

-- the effects of the nodes of a term in pre-order
abbrev pub sets_step : List Row → Term-F (List (List Set)) → List (List Set)
sets_step rows node = sets_of (row_at_step rows node) ∷ flat_map (λ sets. sets) node.children

abbrev pub sets_in : List Row → Term → List (List Set)
sets_in rows = fold-Term (List (List Set)) (sets_step rows)

-- an expectation that is watched from now on, where the facts have these values
pub record IsBegun (names : List Fact) (facts : List ℤ) (expected : Expected) (watched : Watched) : Type 0 where
  pub line : watched.line ≡ expected.line
  pub memo : IsMemoOf names facts expected.expectation watched.memo
  pub lost : watched.lost ≡ (if is_lost_now facts watched.memo then Some 0 else None)

-- .. all of these
abbrev pub AreBegun : List Fact → List ℤ → List Expected → List Watched → Type 0
AreBegun names facts [] [] = Unit {0}
AreBegun names facts (e ∷ expected) (w ∷ watched) = IsBegun names facts e w × AreBegun names facts expected watched
AreBegun names facts _ _ = ⊥

-- a tree in a world, and what is expected of its run
pub record Wanted : Type 0 where
  pub of : Setup
  pub expected : List Expected

-- what is kept of the run of a tree in a world before its first event
pub record BegunOn (of : Setup) (expected : List Expected) (s : State) : Type 0 where
  pub over : AreOver of.world.facts expected
  pub watched : AreBegun of.world.facts (opening_facts of.world) expected s.watched
  pub facts : s.facts ≡ opening_facts of.world
  pub effects : s.effects ≡ [] ∷ sets_in of.world.rows of.tree.term
  pub held : s.held ≡ []
  pub last : s.last ≡ 0
  pub fit : IsFit s
