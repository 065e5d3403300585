use Rattle.std.proofs.Common.{◌<◌, ℕ, Option, Some, None, Bor, List, [], map, length, ◌∷◌, ◌++◌, sym, ap, ◌∙◌, subst, arith}
use Rattle.std.specs.Prelude.{IfSome, option_map}
use Rattle.std.specs.List.{prefix_len}
use Rattle.std.proofs.lemmas.List.{append-nil, length-drop, map-append}
use Rattle.spec_world.specs.declared.world.ToldOut.{ToldOut}
use Rattle.spec_world_file.specs.WorldFile.{BeginsWith, ReadsOuts, ReadsTold, is_gap}
use Rattle.world_lines.specs.declared.values.WrittenOut.{WrittenOut}
use Rattle.world_lines.specs.Written.{FindsOut, seen_out}
use Rattle.world_lines.proofs.Telling.{none_told, nothing_left, told_after, told_first, told_more}
use Rattle.world_lines.proofs.told.outs_in.Goals as goal

pub outs-init : goal.outs-init
outs-init c = λ o h.
    subst (λ (outs : List WrittenOut). ReadsTold c.args.text.now (option_map (λ more. map seen_out outs ++ more) o)) (sym c.new-outs.ensures.items) (told_first c.args.text.now o h)

pub outs-smaller : goal.outs-smaller
outs-smaller c =
    let rest = c.outs.rest.now in
    let after = c.in-Some.after.now in
    let within : length after < length rest =
    subst (λ (found : Option (WrittenOut × Bor (List ℕ))). IfSome found (λ x. length x.1.now < length rest)) c.in-Some.is c.in_ok-out.ensures.within in
    omega (arith, length-drop (prefix_len is_gap after) after, ap (λ (bs : List ℕ). length bs) c.after_gap-rest.ensures)

pub outs-preserved : goal.outs-preserved
outs-preserved c = λ o h.
    let text = c.args.text.now in
    let rest = c.outs.rest.now in
    let after = c.in-Some.after.now in
    let out = seen_out c.in-Some.out in
    let seen = map seen_out c.outs.outs.items in
    let begins : BeginsWith rest out after =
    subst (λ (found : Option (WrittenOut × Bor (List ℕ))). FindsOut rest (option_map (λ x. (seen_out x.0, x.1.now)) found)) c.in-Some.is c.in_ok-out.ensures.found in
    let more = told_more rest after out o begins (subst (λ (bs : List ℕ). ReadsTold bs o) c.after_gap-rest.ensures h) in
    let items = ap (map seen_out) c.in_ok-push-in-Some.ensures.items ∙ map-append seen_out c.outs.outs.items (c.in-Some.out ∷ []) in
    subst (ReadsTold text) (told_after seen out o ∙ ap (λ (outs : List ToldOut). option_map (λ more. outs ++ more) o) (sym items))
    (c.outs.invariant (option_map (λ more. out ∷ more) o) more)

pub returns-in-None : goal.returns-in-None
returns-in-None c =
    let rest = c.outs.rest.now in
    c.outs.invariant None (none_told rest (sym c.is_empty.ensures ∙ c.outs-test.true)
    (subst (λ (found : Option (WrittenOut × Bor (List ℕ))). FindsOut rest (option_map (λ x. (seen_out x.0, x.1.now)) found)) c.in-None.is c.in_ok-out.ensures.found))

pub returns : goal.returns
returns c =
    let rest = c.outs.rest.now in
    subst (λ (outs : List ToldOut). ReadsOuts outs c.args.text.now) (append-nil (map seen_out c.outs.outs.items))
    (c.outs.invariant (Some []) (nothing_left rest (sym c.is_empty.ensures ∙ c.outs-test.false)))
