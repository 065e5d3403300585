use Rattle.std.proofs.Common.{◌≡◌, ◌≤◌, ℕ, List, ◌++◌, ◌∙◌, ap, length, subst, sym}
use Rattle.std.specs.Prelude.{codes}
use Rattle.spec_output.specs.LoadTexts.{retry_text, texts, tree_text}
use Rattle.text_trace.proofs.AboutLoad.Sizes.{tree_text_is_short}
use Rattle.text_trace.proofs.load.tree.load_tree.Goals as goal

pub returns-clause-short : goal.returns-clause-short
returns-clause-short c =
    let front = c.in_ok-put_bytes.ensures ∙ ap (λ (w : List ℕ). w ++ codes "<root BTCPP_format=\"4\"><BehaviorTree ID=\"Load\"><Sequence>") c.new-out.ensures.items in
    let nodes = c.in_ok-put_retries.ensures ∙ ap (λ (w : List ℕ). w ++ texts retry_text 1 c.args.n) front in
    let text : c.put_bytes-2.new.out.items ≡ tree_text c.args.n = c.in_ok-put_bytes-2.ensures ∙ ap (λ (w : List ℕ). w ++ codes "</Sequence></BehaviorTree></root>") nodes in
    subst (λ (xs : List ℕ). length xs ≤ 1048576) (sym text) (tree_text_is_short c.args.n c.requires)
