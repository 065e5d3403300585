use Rattle.std.proofs.Common.{◌≡◌, ◌≤◌, ◌*◌, ℕ, List, ◌++◌, ◌∙◌, ap, length, subst, sym}
use Rattle.std.specs.Prelude.{codes}
use Rattle.spec_output.specs.LoadTexts.{row_line, texts, tick_lines, world_text}
use Rattle.text_trace.proofs.AboutLoad.Sizes.{world_text_is_short}
use Rattle.text_trace.proofs.load.world.load_world.Goals as goal

pub returns-clause-short : goal.returns-clause-short
returns-clause-short c =
    let front = c.in_ok-put_bytes.ensures ∙ ap (λ (w : List ℕ). w ++ codes "bt-world 1\n") c.new-out.ensures.items in
    let rows = c.in_ok-put_rows.ensures ∙ ap (λ (w : List ℕ). w ++ texts row_line 1 c.args.n) front in
    let text : c.put_ticks.new.out.items ≡ world_text c.args.n = c.in_ok-put_ticks.ensures ∙ ap (λ (w : List ℕ). w ++ texts tick_lines 0 (10 * c.args.n)) rows in
    subst (λ (xs : List ℕ). length xs ≤ 1048576) (sym text) (world_text_is_short c.args.n c.requires)
