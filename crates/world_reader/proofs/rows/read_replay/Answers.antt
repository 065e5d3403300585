use Rattle.std.proofs.Common.{Bool, List, Ok, Err, map, ◌==◌, refl, sym, ap, subst, ◌∙◌, ◌≡◌}
use Rattle.std.specs.Prelude.{option_map}
use Rattle.std.specs.Str.Parse.{signed_digits_value}
use Rattle.spec_world_file.specs.WorldFile.{ReplayLine, after_word, front_word, replay_line, with_action}
use Rattle.spec_world.specs.declared.world.RowSort.TheVariants.{Replay}
use Rattle.world_draft.specs.Drafts.{DraftSays, row_of}
use Rattle.world_lines.specs.Heads.{seen_head}
use Rattle.world_reader.proofs.Saying.{adds, lasts, of_head, refuses, replay_is}
use Rattle.world_reader.proofs.rows.read_replay.Goals as goal

pub returns-in-Ok : goal.returns-in-Ok
returns-in-Ok c =
    let text = c.args.text.now in
    let r = c.args.reading.now in
    let now = c.close.new.self in
    let head = seen_head c.in-Some.head in
    let w = c.cut.result.0.now in
    let letters = c.cut-2.result.0.now in
    let list : List Bool = map (λ b. b == 83) letters in
    let same : c.of-outcomes.result ≡ list = c.of-outcomes.ensures ∙ c.in_ok-outcomes.ensures in
    let line = replay_is text w letters c.cut-2.result.1.now head c.cut.ensures.prefix (c.cut-2.ensures.prefix ∙ ap front_word c.cut.ensures.rest) (c.cut-2.ensures.rest ∙ ap after_word c.cut.ensures.rest)
    (sym c.is_empty.ensures ∙ c.if-not-is_empty.false) (sym c.is_canonical.ensures ∙ c.if-not-is_canonical.false) (sym c.are_outcomes.ensures ∙ c.if-not-are_outcomes.false) in
    let left = c.open_action.new.self in
    of_head r left (replay_line text) head c.args.row.now c.open_action.result (ap (option_map seen_head) (sym c.in-Some.is) ∙ c.in_ok-head.ensures)
    (lasts c.open_action.result left r now (replay_line text head) (signed_digits_value 10 w) c.in-Some-ms.ms head (λ n. Replay n list) (λ x. ReplayLine head x list) (λ x said k. k)
    c.in_ok-close.ensures line c.in-Some-ms.ensures
    (adds c.open_action.result left now head (Replay c.in-Some-ms.ms list) with_action c.in-Ok.draft (row_of c.in-Ok.draft)
    (subst (λ (l : List Bool). DraftSays (Ok c.in-Ok.draft) head (Replay c.in-Some-ms.ms l) now) same c.in-Ok.ensures) refl c.open_action.ensures))

pub returns-in-Err : goal.returns-in-Err
returns-in-Err c =
    let text = c.args.text.now in
    let r = c.args.reading.now in
    let now = c.close.new.self in
    let head = seen_head c.in-Some.head in
    let w = c.cut.result.0.now in
    let letters = c.cut-2.result.0.now in
    let list : List Bool = map (λ b. b == 83) letters in
    let same : c.of-outcomes.result ≡ list = c.of-outcomes.ensures ∙ c.in_ok-outcomes.ensures in
    let line = replay_is text w letters c.cut-2.result.1.now head c.cut.ensures.prefix (c.cut-2.ensures.prefix ∙ ap front_word c.cut.ensures.rest) (c.cut-2.ensures.rest ∙ ap after_word c.cut.ensures.rest)
    (sym c.is_empty.ensures ∙ c.if-not-is_empty.false) (sym c.is_canonical.ensures ∙ c.if-not-is_canonical.false) (sym c.are_outcomes.ensures ∙ c.if-not-are_outcomes.false) in
    of_head {A = Unit {0}} r now (replay_line text) head c.args.row.now (Err c.in-Err.stop) (ap (option_map seen_head) (sym c.in-Some.is) ∙ c.in_ok-head.ensures)
    (lasts {A = Unit {0}} (Err c.in-Err.stop) now r now (replay_line text head) (signed_digits_value 10 w) c.in-Some-ms.ms head (λ n. Replay n list) (λ x. ReplayLine head x list) (λ x said k. k)
    c.in_ok-close.ensures line c.in-Some-ms.ensures
    (refuses c.in-Err.stop now now head (Replay c.in-Some-ms.ms list) with_action
    (subst (λ (l : List Bool). DraftSays (Err c.in-Err.stop) head (Replay c.in-Some-ms.ms l) now) same c.in-Err.ensures)))
