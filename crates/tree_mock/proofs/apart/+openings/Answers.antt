use Rattle.std.proofs.Common.{◌≡◌, ◌++◌, List, map, ap, sym, subst, ◌∙◌, append_assoc}
use Rattle.std.specs.Prelude.{OnOk}
use Rattle.std.specs.List.{flat_map}
use Rattle.spec_program.specs.ToldApart.{Opening, opening_at, openings}
use Rattle.spec_tree.specs.declared.term.Term.{out-Term}
use Rattle.spec_tree_file.specs.Substitutions.{inside}
use Rattle.tree_mock.specs.Seen.{opening_seen}
use Rattle.tree_mock.proofs.Parting.{openings_of}
use Rattle.tree_mock.proofs.apart.+openings.Goals as goal

pub add_openings-returns : goal.add_openings-returns
add_openings-returns t c =
    let term = c.args.term.now in
    let above = c.args.above.now in
    let before = map opening_seen c.args.found.now.items in
    let own = opening_at (out-Term term).kind (out-Term term).id (above ++ (out-Term term).name) in
    let below = inside (out-Term term).kind (out-Term term).name above in
    let added = rw (c.list.ensures, c.in_ok-add_opening.ensures, c.in_ok-below.ensures) at c.add_all.ensures in
    let all = append_assoc before own (flat_map (λ child. openings child below) (out-Term term).children) ∙ ap (λ (found : List Opening). before ++ found) (sym (openings_of term above)) in
    subst (λ (found : List Opening). OnOk c.add_all.result (map opening_seen c.add_all.new.found.items ≡ found)) all added
