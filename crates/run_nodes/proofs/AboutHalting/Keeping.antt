-- A node on a stage that has become IDLE.
use Rattle.std.proofs.Common.{◌≡◌, ℕ, ◌<◌, List, length, refl, sym, ap, subst, ◌∙◌}
use Rattle.std.proofs.lemmas.List.{get_or-set_same}
use Rattle.spec_run.specs.declared.memory.Memo.{Memo}
use Rattle.spec_run.specs.declared.status.Status.TheVariants.{Idle}
use Rattle.spec_run.specs.Drivers.{DriverState}
use Rattle.run_arena.specs.declared.nodes.Kept.{Kept}
use Rattle.run_arena.specs.declared.stage.Stage.{Stage}
use Rattle.run_arena.specs.Nodes.{at_rest, kept_at}
use Rattle.run_arena.specs.Scenes.{Fits, Scene}
use Rattle.run_arena.specs.Stages.{IsSame, Keeps, scene_on}
use Rattle.run_arena.proofs.Called.{marks_same}
use Rattle.run_nodes.proofs.Standing.{beside_one}
use Rattle.run_nodes.specs.Halting.Halts.{idle_with}

module _ {D P : Type 0} (states : D → List DriverState) where
  -- a node has become IDLE
  pub keeps_idle : (uid : ℕ) (memo : Memo) (a b : Stage D P) → IsSame a b → scene_on states b ≡ idle_with (scene_on states a) uid memo → Keeps states uid 1 a b
  keeps_idle uid memo a b same e = record {
    same = same;
    beside = beside_one a.kept.now b.kept.now uid _ (λ i. (e i).kept);
    stays = λ term view at fits. subst (λ (s : Scene). Fits term view at a.nodes.now s) (sym e) (record {
      stands = fits.stands;
      few = fits.few;
      marks = marks_same a.kept.now uid (record { status = Idle; memo = memo; held = (kept_at a.kept.now uid).held }) refl ∙ fits.marks;
      leaves = fits.leaves;
      slots = fits.slots;
      facts = fits.facts;
    });
  }

  pub idle_here : (uid : ℕ) (memo : Memo) (a b : Stage D P) → uid < length a.kept.now → scene_on states b ≡ idle_with (scene_on states a) uid memo → (kept_at b.kept.now uid).status ≡ Idle
  idle_here uid memo a b within e =
      (λ i. (kept_at (e i).kept uid).status)
      ∙ ap (λ (k : Kept). k.status) (get_or-set_same a.kept.now uid (record { status = Idle; memo = memo; held = (kept_at a.kept.now uid).held }) at_rest within)
