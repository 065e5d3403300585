-- A stage later on has the same nodes, at the same time; and what one part of an event after another keeps of it.
use Rattle.std.proofs.Common.{◌≡◌, ℕ, ◌+◌, ◌≤◌, List, Option, Result, length, refl, sym, subst, ◌∙◌, arith}
use Rattle.base_texts.specs.declared.stop.Stop.{Stop}
use Rattle.spec_script.specs.declared.value.Value.{Value}
use Rattle.spec_run.specs.declared.fault.NodeFault.{NodeFault}
use Rattle.spec_tree.specs.declared.term.Term.{Term}
use Rattle.spec_run.specs.Done.{Done}
use Rattle.spec_run.specs.Drivers.{DriverState}
use Rattle.spec_run.specs.Sites.{View}
use Rattle.run_arena.specs.declared.nodes.Kept.{Kept}
use Rattle.run_arena.specs.declared.nodes.Node.{Node}
use Rattle.run_arena.specs.declared.stage.Stage.{Stage}
use Rattle.run_arena.specs.Ends.{Meets, StaysFit}
use Rattle.run_arena.specs.Scenes.{Fits, Scene}
use Rattle.run_arena.specs.Stages.{FitsOn, IsSame, Keeps, MeetsOn, scene_on}
use Rattle.run_arena.specs.Stands.{Beside}

-- ---- What nodes beside others keep

pub beside_none : (uid size : ℕ) (a : List Kept) → Beside uid size a a
beside_none uid size a = record { below = λ p e. refl; above = λ p e. refl; as_many = refl }

-- what changed in two parts of a whole changed within the whole
pub beside_both : {uid size uid1 size1 uid2 size2 : ℕ} {a b c : List Kept} → Beside uid1 size1 a b → Beside uid2 size2 b c →
    uid ≤ uid1 → uid1 + size1 ≤ uid + size → uid ≤ uid2 → uid2 + size2 ≤ uid + size → Beside uid size a c
beside_both k l low1 high1 low2 high2 = record {
  below = λ p e. l.below p (omega (arith, e, low2)) ∙ k.below p (omega (arith, e, low1));
  above = λ p e. l.above p (omega (arith, e, high2)) ∙ k.above p (omega (arith, e, high1));
  as_many = l.as_many ∙ k.as_many;
}

pub beside_more : {uid size uid1 size1 : ℕ} {a b : List Kept} → Beside uid1 size1 a b → uid ≤ uid1 → uid1 + size1 ≤ uid + size → Beside uid size a b
beside_more {uid} {size} {b = b} k low high = beside_both k (beside_none uid size b) low high (omega arith) (omega arith)

-- ---- The same stage

pub same_here : {D P : Type 0} (a : Stage D P) → IsSame a a
same_here a = record { moment = refl; nodes = refl; kept = refl; board = refl; facts = refl; drivers = refl; notes = refl; reserve = omega arith; full = refl }

pub same_both : {D P : Type 0} {a b c : Stage D P} → IsSame a b → IsSame b c → IsSame a c
same_both k l = record {
  moment = l.moment ∙ k.moment;
  nodes = l.nodes ∙ k.nodes;
  kept = l.kept ∙ k.kept;
  board = l.board ∙ k.board;
  facts = l.facts ∙ k.facts;
  drivers = l.drivers ∙ k.drivers;
  notes = l.notes ∙ k.notes;
  reserve = omega (arith, k.reserve, l.reserve);
  full = l.full ∙ k.full;
}

-- ---- What is said of a later stage

module _ {D P : Type 0} {old new : Stage D P} (same : IsSame old new) where
  nodes_same : new.nodes.now ≡ old.nodes.now
  nodes_same = λ i. (same.nodes i).now

  -- what holds with the nodes and at the time of the later stage holds with those of the earlier one
  pub earlier : (P : List Node → ℕ → Type 0) → P new.nodes.now new.moment → P old.nodes.now old.moment
  earlier P k = subst (λ (ns : List Node). P ns old.moment) nodes_same (subst (λ (m : ℕ). P new.nodes.now m) same.moment k)

  -- and the other way
  pub later : (P : List Node → ℕ → Type 0) → P old.nodes.now old.moment → P new.nodes.now new.moment
  later P k = subst (λ (ns : List Node). P ns new.moment) (sym nodes_same) (subst (λ (m : ℕ). P old.nodes.now m) (sym same.moment) k)

module _ {D P : Type 0} (states : D → List DriverState) where
  -- what fits among the nodes of the stage before
  pub fits_later : (a b : Stage D P) → IsSame a b → (term : Term) (view : View) (uid : ℕ) → Fits term view uid a.nodes.now (scene_on states b) → FitsOn states b uid term view
  fits_later a b same term view uid fits = later same (λ nodes moment. Fits term view uid nodes (scene_on states b)) fits

  -- how a part ends that began there
  pub meets_earlier : {A M : Type 0} (a b c : Stage D P) → IsSame a b → (memory : List Kept → M) (r : Result A (Stop NodeFault)) (d : List Node → ℕ → Done A M) →
      MeetsOn states memory r b c (d b.nodes.now b.moment) →
      Meets a.nodes.now a.moment memory r (scene_on states b) (scene_on states c) b.notes.now.list c.notes.now.list (d a.nodes.now a.moment)
  meets_earlier a b c same memory r d met =
      earlier same (λ nodes moment. Meets nodes moment memory r (scene_on states b) (scene_on states c) b.notes.now.list c.notes.now.list (d nodes moment)) met

  -- ---- What parts keep

  pub keeps_none : (uid size : ℕ) (a : Stage D P) → Keeps states uid size a a
  keeps_none uid size a = record { same = same_here a; beside = beside_none uid size a.kept.now; stays = λ term view at fits. fits }

  -- what a part keeps of a whole that was kept before
  pub keeps_then : (uid size child below : ℕ) (a b c : Stage D P) → uid ≤ child → child + below ≤ uid + size → Keeps states uid size a b → Keeps states child below b c → Keeps states uid size a c
  keeps_then uid size child below a b c low high one two = record {
    same = same_both one.same two.same;
    beside = beside_both one.beside two.beside (omega arith) (omega arith) low high;
    stays = λ term view at fits. earlier one.same (λ nodes moment. StaysFit nodes (scene_on states b) (scene_on states c)) two.stays term view at (one.stays term view at fits);
  }

  -- a part in which nothing has changed but notes
  pub keeps_still : (uid size : ℕ) (a b : Stage D P) → IsSame a b → scene_on states b ≡ scene_on states a → Keeps states uid size a b
  keeps_still uid size a b same e = record {
    same = same;
    beside = subst (λ (k : List Kept). Beside uid size a.kept.now k) (λ i. (sym e i).kept) (beside_none uid size a.kept.now);
    stays = λ term view at fits. subst (λ (s : Scene). Fits term view at a.nodes.now s) (sym e) fits;
  }

  -- only the blackboard has changed
  pub keeps_board : (uid size : ℕ) (a : Stage D P) (board : List (Option Value)) → length board ≡ length a.board.now → Keeps states uid size a (record a { board = record a.board { now = board } })
  keeps_board uid size a board slots = record {
    same = record { moment = refl; nodes = refl; kept = refl; board = refl; facts = refl; drivers = refl; notes = refl; reserve = omega arith; full = refl };
    beside = beside_none uid size a.kept.now;
    stays = λ term view at fits. record {
      stands = fits.stands;
      few = fits.few;
      marks = fits.marks;
      leaves = fits.leaves;
      slots = slots ∙ fits.slots;
      facts = fits.facts;
    };
  }
