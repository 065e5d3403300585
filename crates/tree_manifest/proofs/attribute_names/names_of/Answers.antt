use Rattle.std.proofs.Common.{◌≡◌, ℕ, List, Bor, true, cond, length, take, ap, sym, subst, ◌∙◌, arith}
use Rattle.std.proofs.Math.Seq.{take-length}
use Rattle.std.specs.List.{list_any}
use Rattle.std.specs.Str.{bytes_eq}
use Rattle.tree_manifest.specs.Named.{HaveNames}
use Rattle.tree_manifest.proofs.TableOfNames.{name_more}
use Rattle.tree_manifest.proofs.attribute_names.names_of.Goals as goal

pub loop-name-init : goal.loop-name-init
loop-name-init c = λ q. ap (list_any (λ (k : Bor (List ℕ)). bytes_eq q k.now)) c.in_ok-names.ensures.empty

pub loop-name-preserved : goal.loop-name-preserved
loop-name-preserved c =
    let a = c.loop-name-item.result in
    let names = c.loop-name.names.keys in
    λ q.
    let query : Bor (List ℕ) = record { ref_ptr = (0, 0); now = q } in
    let step = c.in_ok-insert.ensures.updates.0 query in
    name_more c.args.attributes.now c.loop-name.name-index a q (list_any (λ k. bytes_eq q k.now) names) (list_any (λ k. bytes_eq q k.now) c.insert.new.self.keys)
    c.loop-name-test.true c.loop-name-item.is (c.loop-name.invariant q)
    (step ∙ ap (λ (z : List ℕ). cond (bytes_eq z q) true (list_any (λ k. bytes_eq q k.now) names)) c.list.ensures.bytes)

pub returns : goal.returns
returns c =
    let end : length c.args.attributes.now ≡ c.loop-name.name-index = omega arith in
    subst (HaveNames c.loop-name.names.keys) (ap (λ (n : ℕ). take n c.args.attributes.now) (sym end) ∙ take-length c.args.attributes.now) c.loop-name.invariant
