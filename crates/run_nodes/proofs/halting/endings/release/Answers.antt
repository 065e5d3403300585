use Rattle.std.proofs.Common.{◌≡◌, ◌∷◌, ◌++◌, [], Some, refl, sym, ap, ◌∙◌, arith}
use Rattle.spec_run.specs.declared.note.Note.TheVariants.{Halted}
use Rattle.run_arena.specs.declared.nodes.Node.{Node}
use Rattle.run_arena.specs.Nodes.{leaf_at}
use Rattle.run_arena.specs.Noted.{Noted}
use Rattle.run_nodes.proofs.Standing.{beside_one}
use Rattle.run_nodes.proofs.AboutHalting.Ending.{fits_still}
use Rattle.run_nodes.proofs.AboutHalting.Releasing.{released_marks, released_met, released_serves, marked_is_held}
use Rattle.run_nodes.proofs.AboutHalting.Within.{kept_there, node_there}
use Rattle.run_nodes.proofs.halting.endings.release.Goals as goal

pub node-requires : goal.node-requires
node-requires g c = let f = c.requires.fits in omega (arith, node_there f.0 f.1 c.args.uid c.args.stage.now.nodes.now _ f.2)

pub halted-requires-clause-held : goal.halted-requires-clause-held
halted-requires-clause-held g c =
    let f = c.requires.fits in
    let is : leaf_at c.args.stage.now.nodes.now c.args.uid ≡ Some c.in-Some.leaf = ap (λ (n : Node). n.leaf) (sym c.node.ensures) ∙ c.in-Some.is in
    marked_is_held c.args.stage.now.nodes.now c.args.stage.now.kept.now _ c.args.uid c.in-Some.leaf is f.2.marks (c.requires.held c.in-Some.leaf is)

pub set_held-requires : goal.set_held-requires
set_held-requires g c = let f = c.requires.fits in kept_there f.0 f.1 c.args.uid c.args.stage.now.nodes.now _ f.2

pub returns-in_ok-room-in-Some-clause-ok : goal.returns-in_ok-room-in-Some-clause-ok
returns-in_ok-room-in-Some-clause-ok g c =
    let noted = ap (λ (n : Noted). n.list) c.push_reserved.ensures ∙ ap (λ (n : Noted). n.list ++ Halted c.args.uid ∷ []) c.in_ok-room-in-Some.ensures.ok in
    let f = c.requires.fits in
    let before = c.args.stage.now in
    released_met _ before.kept.now _ _ _ (ap (λ (n : Node). n.leaf) (sym c.node.ensures) ∙ c.in-Some.is) f.2.leaves _ c.halted.ensures before.moment _ before.board.now before.facts.now _ _ noted

pub returns-in_ok-room-in-Some-clause-keeps : goal.returns-in_ok-room-in-Some-clause-keeps
returns-in_ok-room-in-Some-clause-keeps g c =
    let f = c.requires.fits in
    let before = c.args.stage.now in
    let is = ap (λ (n : Node). n.leaf) (sym c.node.ensures) ∙ c.in-Some.is in
    record {
      same = record {
        moment = refl;
        nodes = refl;
        kept = refl;
        board = refl;
        facts = refl;
        drivers = refl;
        notes = refl;
        reserve = omega (arith, ap (λ (n : Noted). n.reserve) c.push_reserved.ensures, ap (λ (n : Noted). n.reserve) c.in_ok-room-in-Some.ensures.ok);
        full = ap (λ (n : Noted). n.full) c.push_reserved.ensures ∙ ap (λ (n : Noted). n.full) c.in_ok-room-in-Some.ensures.ok;
      };
      beside = beside_one before.kept.now c.set_held.new.kept c.args.uid _ c.set_held.ensures;
      stays =
          let marks = released_marks before.nodes.now before.kept.now _ _ _ is f.2.leaves _ c.halted.ensures _ c.set_held.ensures f.2.marks in
          let served = released_serves before.nodes.now before.kept.now _ _ _ is f.2.leaves _ c.halted.ensures in
          fits_still before.nodes.now _ _ marks served refl refl;
    }
