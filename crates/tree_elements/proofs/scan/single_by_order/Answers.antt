use Rattle.std.proofs.Common.{◌≡◌, ℕ, List, Bool, Bor, true, false, not, ◌&&◌, cond, length, take, refl, ap, sym, ◌∙◌, arith}
use Rattle.std.proofs.Math.Seq.{take-length}
use Rattle.std.specs.List.{list_any}
use Rattle.std.specs.Str.{bytes_eq}
use Rattle.std.specs.Cmp.Lexicographic.{slice_cmp}
use Rattle.std.specs.Ordering.{is_eq, nat_cmp}
use Rattle.std.proofs.lemmas.Map.Text.{is_eq-slice_cmp}
use Rattle.spec_tree_file.specs.Marks.{no_name_twice}
use Rattle.tree_elements.proofs.Names.{has_name, names_single, names_more, found_twice, was_true, was_false}
use Rattle.tree_elements.proofs.scan.single_by_order.Goals as goal

pub loop-name-init : goal.loop-name-init
loop-name-init c = record {
  single = refl;
  held = λ q. ap (list_any (λ (k : Bor (List ℕ)). is_eq (slice_cmp nat_cmp q k.now))) c.new-ordered.ensures.empty;
}

pub returns-then-not-branch : goal.returns-then-not-branch
returns-then-not-branch c =
    let a = c.loop-name-item.result in
    let i = c.loop-name.name-index in
    let key = c.list.result.now in
    let old = list_any (λ k. is_eq (slice_cmp nat_cmp key k.now)) c.loop-name.ordered.keys in
    let new : not old ≡ false = sym c.in_ok-insert.ensures.added ∙ c.if-not-branch.true in
    let met : old ≡ true = was_true old new in
    let named : has_name a.0 (take i c.args.attributes.now) ≡ true =
    sym (ap (λ (q : List ℕ). has_name q (take i c.args.attributes.now)) c.list.ensures.bytes) ∙ sym (c.loop-name.invariant.held key) ∙ met in
    found_twice c.args.attributes.now i a c.loop-name-test.true c.loop-name-item.is named

pub loop-name-preserved : goal.loop-name-preserved
loop-name-preserved c =
    let a = c.loop-name-item.result in
    let i = c.loop-name.name-index in
    let list = c.args.attributes.now in
    let key = c.list.result.now in
    let names = c.loop-name.ordered.keys in
    let old = list_any (λ k. is_eq (slice_cmp nat_cmp key k.now)) names in
    let new : not old ≡ true = sym c.in_ok-insert.ensures.added ∙ c.if-not-branch.false in
    let fresh : has_name a.0 (take i list) ≡ false =
    sym (ap (λ (q : List ℕ). has_name q (take i list)) c.list.ensures.bytes) ∙ sym (c.loop-name.invariant.held key) ∙ was_false old new in
    record {
      single = names_single list i a c.loop-name-test.true c.loop-name-item.is
          ∙ ap (λ (b : Bool). b && not (has_name a.0 (take i list))) c.loop-name.invariant.single ∙ ap not fresh;
      held = λ q.
          let query : Bor (List ℕ) = record { ref_ptr = (0, 0); now = q } in
          let step = c.in_ok-insert.ensures.updates.0 query in
          let was = list_any (λ k. is_eq (slice_cmp nat_cmp q k.now)) names in
          names_more list i a q was (list_any (λ k. is_eq (slice_cmp nat_cmp q k.now)) c.insert.new.self.keys)
          c.loop-name-test.true c.loop-name-item.is (c.loop-name.invariant.held q)
          (step ∙ ap (λ (b : Bool). cond b true was) (is_eq-slice_cmp key q) ∙ ap (λ (z : List ℕ). cond (bytes_eq z q) true was) c.list.ensures.bytes);
    }

pub returns : goal.returns
returns c =
    let end : length c.args.attributes.now ≡ c.loop-name.name-index = omega arith in
    sym (ap no_name_twice (sym (ap (λ (n : ℕ). take n c.args.attributes.now) (sym end) ∙ take-length c.args.attributes.now)) ∙ c.loop-name.invariant.single)
