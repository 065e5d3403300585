use Rattle.std.proofs.Common.{ℕ, List, [], Ok, Err, refl, sym, ap, subst, ◌∙◌, ◌≡◌}
use Rattle.std.specs.Prelude.{option_map}
use Rattle.spec_world_file.specs.WorldFile.{ToldLine, with_action}
use Rattle.spec_world.specs.declared.world.RowSort.TheVariants.{Told}
use Rattle.world_draft.specs.Drafts.{DraftSays, row_of}
use Rattle.world_lines.specs.Heads.{seen_head}
use Rattle.world_reader.proofs.Saying.{adds, nothing_more, refuses}
use Rattle.world_reader.proofs.rows.read_told.Goals as goal

pub returns-in-Ok : goal.returns-in-Ok
returns-in-Ok c =
    let now = c.close.new.self in
    let left = c.open_action.new.self in
    let head = seen_head c.in-Some.head in
    let none : c.of-outs.result ≡ [] = c.of-outs.ensures ∙ c.new.ensures.items in
    nothing_more c.open_action.result left c.args.reading.now now ToldLine head c.args.row.now c.args.text.now with_action (Told []) (λ said k. k) c.in_ok-close.ensures
    (ap (option_map seen_head) (sym c.in-Some.is) ∙ c.in_ok-head.ensures) (sym c.is_empty.ensures ∙ c.if-not-is_empty.false)
    (adds c.open_action.result left now head (Told []) with_action c.in-Ok.draft (row_of c.in-Ok.draft)
    (subst (λ (outs : List (List ℕ)). DraftSays (Ok c.in-Ok.draft) head (Told outs) now) none c.in-Ok.ensures) refl c.open_action.ensures)

pub returns-in-Err : goal.returns-in-Err
returns-in-Err c =
    let now = c.close.new.self in
    let head = seen_head c.in-Some.head in
    let none : c.of-outs.result ≡ [] = c.of-outs.ensures ∙ c.new.ensures.items in
    nothing_more {A = Unit {0}} (Err c.in-Err.stop) now c.args.reading.now now ToldLine head c.args.row.now c.args.text.now with_action (Told []) (λ said k. k) c.in_ok-close.ensures
    (ap (option_map seen_head) (sym c.in-Some.is) ∙ c.in_ok-head.ensures) (sym c.is_empty.ensures ∙ c.if-not-is_empty.false)
    (refuses c.in-Err.stop now now head (Told []) with_action
    (subst (λ (outs : List (List ℕ)). DraftSays (Err c.in-Err.stop) head (Told outs) now) none c.in-Err.ensures))
