use Rattle.std.proofs.Common.{◌≡◌, string_bytes, ap, sym, ◌∙◌}
use Rattle.serde_json.specs.View.{members_view, view}
use Rattle.spec_tree_file.specs.RuleFiles.{configuration_in, each}
use Rattle.tree_mock.proofs.Eaches.{before, before-more}
use Rattle.tree_mock.proofs.reading.configurations_of.Goals as goal

pub loop-name-preserved : goal.loop-name-preserved
loop-name-preserved c =
    let so_far = c.loop-name.configurations.items in
    let name = string_bytes c.in-Some.name.now in
    let d = view c.in-Some.value.now in
    let left = c.next.new.self in
    let x = c.in_ok-configuration_in.field-0 in
    let here = sym (ap (λ es. before so_far (each configuration_in (members_view es))) c.in-Some.ensures.steps) ∙ c.loop-name.invariant in
    let said : configuration_in name d ≡ _ = sym (ap (λ n. configuration_in n d) c.as_str.ensures.value) ∙ c.in_ok-configuration_in.ensures in
    ap (λ xs. before xs (each configuration_in (members_view left))) c.in_ok-push.ensures.items ∙ sym (before-more configuration_in so_far name d (members_view left) x said) ∙ here
