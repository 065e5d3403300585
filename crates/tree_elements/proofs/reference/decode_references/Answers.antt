use Rattle.std.proofs.Common.{◌≡◌, ℕ, List, Some, None, [], ◌∷◌, ◌++◌, drop, subst, ap, sym, ◌∙◌}
use Rattle.std.proofs.lemmas.Str.{IsUtf8-append}
use Rattle.std.specs.Char.{encode_utf8}
use Rattle.std.specs.Prelude.{IfOk}
use Rattle.std.specs.Str.{IsUtf8}
use Rattle.spec_tree_file.specs.References.{decoded, reference_of}
use Rattle.tree_elements.proofs.Cuts.{cut_following}
use Rattle.tree_elements.proofs.References.{plain_cut, ampersand, ampersand_ascii, ampersand_utf8, last_part, reference_said, ampersand_said, after_reference}
use Rattle.tree_elements.proofs.reference.decode_references.Goals as goal

pub of-requires : goal.of-requires
of-requires c =
    let cut = plain_cut c.parts.rest.now c.split_at.result.0.now c.split_at.result.1.now c.plain_len.result c.split_at.ensures.front c.split_at.ensures.back c.plain_len.ensures.value in
    subst IsUtf8 (sym c.in_ok-extend_from_slice.ensures.items) (IsUtf8-append c.parts.said.items c.split_at.result.0.now c.parts.invariant.said (cut.front_utf8 c.parts.invariant.rest))

pub returns-in_default : goal.returns-in_default
returns-in_default c =
    let cut = plain_cut c.parts.rest.now c.split_at.result.0.now c.split_at.result.1.now c.plain_len.result c.split_at.ensures.front c.split_at.ensures.back c.plain_len.ensures.value in
    subst (λ (text : List ℕ). IfOk c.of.result (λ name. name ≡ text))
    (c.in_ok-extend_from_slice.ensures.items
    ∙ last_part c.parts.said.items c.parts.rest.now c.split_at.result.0.now c.split_at.result.1.now (decoded c.args.value.now) cut c.in_default.ensures.cases c.parts.invariant.value)
    c.of.ensures

pub split_at-requires-in-Some-reference_at : goal.split_at-requires-in-Some-reference_at
split_at-requires-in-Some-reference_at c =
    (after_reference c.in-Some.following.now (c.in-Some-reference_at.c, c.in-Some-reference_at.len) (sym c.in-Some-reference_at.ensures)).0

pub parts-preserved-in-Some-reference_at : goal.parts-preserved-in-Some-reference_at
parts-preserved-in-Some-reference_at c =
    let said = c.parts.said.items in
    let plain = c.split_at.result.0.now in
    let marked = c.split_at.result.1.now in
    let following = c.in-Some.following.now in
    let r : ℕ × ℕ = (c.in-Some-reference_at.c, c.in-Some-reference_at.len) in
    let cut = plain_cut c.parts.rest.now plain marked c.plain_len.result c.split_at.ensures.front c.split_at.ensures.back c.plain_len.ensures.value in
    let is : reference_of following ≡ Some r = sym c.in-Some-reference_at.ensures in
    let fits = after_reference following r is in
    let grown : c.push.new.said.items ≡ (said ++ plain) ++ encode_utf8 r.0 = c.in_ok-push-in-Some-reference_at.ensures ∙ ap (λ (z : List ℕ). z ++ encode_utf8 r.0) c.in_ok-extend_from_slice.ensures.items in
    let rest : c.split_at-in-Some-reference_at.result.1.now ≡ drop r.1 following = c.split_at-in-Some-reference_at.ensures.back in
    let after_utf8 : IsUtf8 following =
    cut_following c.in-Some.field-0-0.now marked following c.in-Some.ensures.cases.0 (ampersand_ascii c.in-Some.field-0-0.now following marked cut.edge c.in-Some.ensures.cases.0) (cut.rest_utf8 c.parts.invariant.rest) in
    record {
      value = ap (λ (z : List ℕ). z ++ decoded c.split_at-in-Some-reference_at.result.1.now) grown ∙ ap (λ (z : List ℕ). ((said ++ plain) ++ encode_utf8 r.0) ++ decoded z) rest
          ∙ reference_said said c.parts.rest.now plain marked (decoded c.args.value.now) c.in-Some.field-0-0.now following r cut c.in-Some.ensures.cases.0 is c.parts.invariant.value;
      said = subst IsUtf8 (sym grown) (IsUtf8-append (said ++ plain) (encode_utf8 r.0) (IsUtf8-append said plain c.parts.invariant.said (cut.front_utf8 c.parts.invariant.rest)) fits.2);
      rest = subst IsUtf8 (sym rest) (fits.1 after_utf8);
    }

pub parts-preserved : goal.parts-preserved
parts-preserved c =
    let said = c.parts.said.items in
    let plain = c.split_at.result.0.now in
    let marked = c.split_at.result.1.now in
    let following = c.in-Some.following.now in
    let first = c.in-Some.field-0-0.now in
    let cut = plain_cut c.parts.rest.now plain marked c.plain_len.result c.split_at.ensures.front c.split_at.ensures.back c.plain_len.ensures.value in
    let is : reference_of following ≡ None = sym c.in-None.ensures in
    let mark : first ≡ 38 = ampersand first following marked cut.edge c.in-Some.ensures.cases.0 in
    let grown : c.push-in-None.new.self.items ≡ (said ++ plain) ++ 38 ∷ [] = c.in_ok-push-in-None.ensures.items ∙ ap (λ (z : List ℕ). z ++ 38 ∷ []) c.in_ok-extend_from_slice.ensures.items in
    record {
      value = ap (λ (z : List ℕ). z ++ decoded following) (grown ∙ ap (λ (n : ℕ). (said ++ plain) ++ n ∷ []) (sym mark))
          ∙ ampersand_said said c.parts.rest.now plain marked (decoded c.args.value.now) first following cut c.in-Some.ensures.cases.0 is c.parts.invariant.value;
      said = subst IsUtf8 (sym grown) (IsUtf8-append (said ++ plain) (38 ∷ []) (IsUtf8-append said plain c.parts.invariant.said (cut.front_utf8 c.parts.invariant.rest)) ampersand_utf8);
      rest = cut_following first marked following c.in-Some.ensures.cases.0 (ampersand_ascii first following marked cut.edge c.in-Some.ensures.cases.0) (cut.rest_utf8 c.parts.invariant.rest);
    }
