-- The visits that wait stand one below the other, so there are fewer than the tree has levels.
use Rattle.std.proofs.Common.{◌≡◌, ℕ, zero, suc, ◌+◌, ◌<◌, ◌≤◌, List, [], ◌∷◌, map, length, get_or, ap, arith}
use Rattle.std.proofs.lemmas.List.{length-append}
use Rattle.spec_script.specs.Numbers.{greatest}
use Rattle.spec_run.specs.declared.note.Note.{Note}
use Rattle.spec_run.specs.declared.memory.Memory.{Memory}
use Rattle.spec_run.specs.declared.status.Answer.{Answer}
use Rattle.spec_tree.specs.declared.term.Term.{Term, out-Term, fold_out-Term}
use Rattle.spec_run.specs.Done.{Done}
use Rattle.spec_run.specs.Sites.{View}
use Rattle.spec_tree.specs.Terms.{depth_of}
use Rattle.run_arena.specs.declared.frame.Frame.{Frame}
use Rattle.run_arena.specs.declared.nodes.Node.{Node}
use Rattle.run_arena.specs.Scenes.{Scene}
use Rattle.run_tick.specs.Machine.{Turn}
use Rattle.run_tick.specs.Turns.{Going, StackIs, Waiting, child_of_waiting}

depth_out : (term : Term) → depth_of term ≡ 1 + greatest (map depth_of (out-Term term).children)
depth_out term = fold_out-Term ℕ (λ node. 1 + greatest node.children) term

one_of_all : (ts : List Term) (place : ℕ) (t : Term) → place < length ts → depth_of (get_or ts place t) ≤ greatest (map depth_of ts)
one_of_all [] place t within = absurd (omega (arith, within))
one_of_all (c ∷ cs) zero t within = omega arith
one_of_all (c ∷ cs) (suc place) t within = omega (arith, one_of_all cs place t (omega (arith, within)))

module _ (nodes : List Node) (moment : ℕ) (s : Scene) (root : Term) (first : ℕ) where
  levels : (stack : List Frame) (ws : List Waiting) (term : Term) (view : View) (uid : ℕ) →
      StackIs nodes moment s root first stack ws term view uid → length stack + depth_of term ≤ depth_of root
  levels stack [] term view uid k = omega (arith, ap length k.0, ap depth_of k.1)
  levels stack (w ∷ ws) term view uid (below, is, waits, more) =
      let child : depth_of (child_of_waiting w) ≡ depth_of term = ap depth_of waits.child_is in
      omega (
        arith,
        levels below ws w.term w.view w.frame.uid more,
        one_of_all (out-Term w.term).children w.frame.place w.term waits.there,
        depth_out w.term,
        child,
        ap length is,
        length-append below (w.frame ∷ []),
      )

-- there is one more level for the visit that is under way
pub level_left : (nodes : List Node) (moment : ℕ) (root : Term) (first : ℕ) (turn : Turn) (stack : List Frame) (before after : Scene) (old new : List Note) (whole : Done Answer Memory) →
    Going nodes moment root first turn stack before after old new whole → length stack + 1 ≤ depth_of root
level_left nodes moment root first turn stack before after old new whole k =
    omega (arith, levels nodes moment after root first stack k.waiting k.term k.view k.uid k.stands, depth_out k.term)
