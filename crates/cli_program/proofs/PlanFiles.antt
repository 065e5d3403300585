-- What is written of a plan is a tree file: it reads as its tree, is not too long, and the tree joins its world.
use Rattle.std.proofs.Common.{◌≡◌, ℕ, zero, suc, List, [], ◌∷◌, ◌++◌, map, Option, Some, None, Ok, inl, refl, sym, ap, subst, ◌∙◌, append_assoc, append-nil, codes, decimal}
use Rattle.std.specs.List.{AllByRecursion, concat}
use Rattle.std.specs.Option.{option_or}
use Rattle.spec_run.specs.declared.join_fault.JoinFault.{JoinFault}
use Rattle.spec_run.specs.Drivers.{DriverState}
use Rattle.spec_run.specs.Joins.{event_lacks, first_untold, lack_of}
use Rattle.spec_tree.specs.declared.term.Tree.{Tree}
use Rattle.spec_tree.specs.PrintedTree.{tree_lines}
use Rattle.spec_tree.specs.Terms.{scope_count}
use Rattle.spec_tree.specs.Trees.{IsValid, Node, nodes_of}
use Rattle.spec_tree_file.specs.declared.element.Element.{Element}
use Rattle.spec_tree_file.specs.Elements.{Spells}
use Rattle.spec_tree_file.specs.Models.{manifest_in}
use Rattle.spec_tree_file.specs.Reads.{reads}
use Rattle.spec_world.specs.declared.world.Event.{Event}
use Rattle.spec_world.specs.declared.world.Row.{Row}
use Rattle.spec_world.specs.declared.world.World.{World}
use Rattle.spec_world.specs.Worlds.{IsValidWorld}
use Rattle.spec_output.specs.NoNames.{no_names}
use Rattle.spec_plan.specs.declared.ending.End.TheVariants.{Reached}
use Rattle.spec_plan.specs.declared.ending.Limits.{Limits}
use Rattle.spec_plan.specs.declared.ending.PlanEnd.{PlanEnd}
use Rattle.spec_plan.specs.declared.ending.Step.{Step}
use Rattle.spec_plan.specs.Modelled.{tick_after, ticks}
use Rattle.spec_plan.specs.PlanLines.{comment, end_line, step_line}
use Rattle.spec_plan.specs.PlanRuns.{PlanRun, Trial}
use Rattle.spec_program.specs.Headline.{plan_file, ticking}
use Rattle.spec_program.specs.TreeFiles.{TreeReads, built, with_models}
use Rattle.plan_search.specs.Joining.{IsNamedPlainly, JoinsWorld}
use Rattle.plan_search.specs.Reached.{AreInRange, IsReached}
use Rattle.plan_search.specs.Served.{AreServed}
use Rattle.plan_search.specs.Written.{IsShort}
use Rattle.tree_round_trip.specs.Remarks.{CanRemark, remark_line}
use Rattle.tree_round_trip.proofs.PlainTexts.{Plain, decimal_plain, name_plain, plain_both, plain_remark}

-- a plan that ends at the goals reaches them; its tree joins the world; its steps are named plainly, and it is not too long;
-- and a valid tree without SubTree nodes is printed so that it reads as itself, with comments before it
pub record PlanLaws : Type 0 where
  pub reach : (world : World) (limits : Limits) (planned : PlanEnd) (trials : List Trial) (last : Trial) → PlanRun world limits planned trials last → IsReached world limits planned.end
  pub join : (world : World) (limits : Limits) (planned : PlanEnd) (trials : List Trial) (last : Trial) (drivers : List DriverState) → IsValidWorld world → AreServed world drivers → PlanRun world limits planned trials last → JoinsWorld world drivers planned.end
  pub named : (world : World) (limits : Limits) (planned : PlanEnd) (trials : List Trial) (last : Trial) → IsValidWorld world → PlanRun world limits planned trials last → AllByRecursion IsNamedPlainly planned.steps
  pub short : (world : World) (limits : Limits) (planned : PlanEnd) (trials : List Trial) (last : Trial) → IsValidWorld world → AreInRange limits → PlanRun world limits planned trials last → IsShort planned.steps planned.end
  pub read : (bodies : List (List ℕ)) (tree : Tree) → AllByRecursion CanRemark bodies → IsValid tree → scope_count tree.term ≡ 0
      → (f : Element) × Spells (concat (map remark_line bodies) ++ concat (tree_lines tree)) f × (manifest_in f ≡ Ok []) × (reads [] None f ≡ Ok tree)

-- ---- Comments

abbrev body : List ℕ → List ℕ
body words = codes " " ++ words ++ codes " "

comment_is : (words : List ℕ) → comment words ≡ remark_line (body words)
comment_is words = simp append_assoc

body_remarks : (words : List ℕ) → Plain words → CanRemark (body words)
body_remarks words plain = plain_remark (body words) (plain_both (codes " " ++ words) (codes " ") (plain_both (codes " ") words refl plain) refl)

abbrev step_words : Step → List ℕ
step_words s = codes "expand " ++ decimal s.uid ++ codes " " ++ s.condition ++ codes " " ++ s.action ++ codes " raises " ++ decimal s.raises

step_plain : (s : Step) → IsNamedPlainly s → Plain (step_words s)
step_plain s named =
    plain_both (codes "expand " ++ decimal s.uid ++ codes " " ++ s.condition ++ codes " " ++ s.action ++ codes " raises ") (decimal s.raises)
    (plain_both (codes "expand " ++ decimal s.uid ++ codes " " ++ s.condition ++ codes " " ++ s.action) (codes " raises ")
    (plain_both (codes "expand " ++ decimal s.uid ++ codes " " ++ s.condition ++ codes " ") s.action
    (plain_both (codes "expand " ++ decimal s.uid ++ codes " " ++ s.condition) (codes " ")
    (plain_both (codes "expand " ++ decimal s.uid ++ codes " ") s.condition
    (plain_both (codes "expand " ++ decimal s.uid) (codes " ") (plain_both (codes "expand ") (decimal s.uid) refl (decimal_plain s.uid)) refl)
    (name_plain s.condition named.condition)) refl) (name_plain s.action named.action)) refl) (decimal_plain s.raises)

abbrev end_words_of : ℕ → List ℕ
end_words_of tick = codes "reached tick " ++ decimal tick

abbrev bodies : List Step → ℕ → List (List ℕ)
bodies steps tick = map (λ (s : Step). body (step_words s)) steps ++ body (end_words_of tick) ∷ []

bodies_remark : (steps : List Step) (tick : ℕ) → AllByRecursion IsNamedPlainly steps → AllByRecursion CanRemark (bodies steps tick)
bodies_remark [] tick named = (body_remarks (end_words_of tick) (plain_both (codes "reached tick ") (decimal tick) refl (decimal_plain tick)), tt)
bodies_remark (s ∷ steps) tick named = (body_remarks (step_words s) (step_plain s named.0), bodies_remark steps tick named.1)

-- ---- The file

comments_are : (steps : List Step) (tree : Tree) (tick : ℕ) → concat (map step_line steps) ++ end_line no_names (Reached tree tick) ≡ concat (map remark_line (bodies steps tick))
comments_are [] tree tick = comment_is (end_words_of tick) ∙ sym (append-nil (remark_line (body (end_words_of tick))))
comments_are (s ∷ steps) tree tick =
    append_assoc (step_line s) (concat (map step_line steps)) (end_line no_names (Reached tree tick))
    ∙ ap (λ (z : List ℕ). step_line s ++ z) (comments_are steps tree tick)
    ∙ ap (λ (z : List ℕ). z ++ concat (map remark_line (bodies steps tick))) (comment_is (step_words s))

file_is : (steps : List Step) (tree : Tree) (tick : ℕ) → plan_file steps tree tick ≡ concat (map remark_line (bodies steps tick)) ++ concat (tree_lines tree)
file_is steps tree tick =
    sym (append_assoc (concat (map step_line steps)) (end_line no_names (Reached tree tick)) (concat (tree_lines tree)))
    ∙ ap (λ (z : List ℕ). z ++ concat (tree_lines tree)) (comments_are steps tree tick)

-- all that was written reads as the tree
pub file_reads : PlanLaws → (steps : List Step) (tree : Tree) (tick : ℕ) → AllByRecursion IsNamedPlainly steps → IsValid tree → scope_count tree.term ≡ 0 → TreeReads None (plan_file steps tree tick) (Ok tree)
file_reads laws steps tree tick named valid alone =
    let r = laws.read (bodies steps tick) tree (bodies_remark steps tick named) valid alone in
    subst (λ (z : List ℕ). TreeReads None z (Ok tree)) (sym (file_is steps tree tick))
    (inl (r.0, r.1, sym (ap (with_models None r.0) r.2 ∙ ap built r.3)))

-- ---- The world

untold_both : (rows : List Row) (nodes : List Node) (xs ys : List Event) → first_untold rows nodes xs ≡ None → first_untold rows nodes ys ≡ None → first_untold rows nodes (xs ++ ys) ≡ None
untold_both rows nodes [] ys one other = other
untold_both rows nodes (x ∷ xs) ys one other =
    elim (event_lacks rows nodes x.what) as (λ (o : Option JoinFault). option_or o (first_untold rows nodes xs) ≡ None → option_or o (first_untold rows nodes (xs ++ ys)) ≡ None) [
      | None ↦ λ e. untold_both rows nodes xs ys e other
      | Some fault ↦ λ e. absurd (cc e)
    ] one

ticks_tell_none : (rows : List Row) (nodes : List Node) (period n : ℕ) → first_untold rows nodes (ticks period n) ≡ None
ticks_tell_none rows nodes period zero = refl
ticks_tell_none rows nodes period (suc n) = untold_both rows nodes (ticks period n) (tick_after period n ∷ []) (ticks_tell_none rows nodes period n) refl

-- a tree that joins the world does so where the script is a tick each period
pub tree_joins : (world : World) (drivers : List DriverState) (tree : Tree) (tick period n : ℕ) → JoinsWorld world drivers (Reached tree tick) → lack_of tree (ticking world period n) drivers ≡ None
tree_joins world drivers tree tick period n joins =
    ap (λ (o : Option JoinFault). option_or o (first_untold world.rows (nodes_of tree.term) (ticks period n))) joins ∙ ticks_tell_none world.rows (nodes_of tree.term) period n
