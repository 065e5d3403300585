use Rattle.std.proofs.Common.{◌≡◌, ℕ, List, Bool, true, cond, length, take, ap, sym, subst, ◌∙◌, arith}
use Rattle.std.proofs.Math.Seq.{take-length}
use Rattle.std.proofs.lemmas.Map.Text.{is_eq-slice_cmp}
use Rattle.std.specs.Str.{bytes_eq}
use Rattle.tree_manifest.specs.Known.{AreNames, is_kept}
use Rattle.tree_manifest.proofs.PortNames.{port_more}
use Rattle.tree_manifest.proofs.known.names_of.Goals as goal

pub loop-port-init : goal.loop-port-init
loop-port-init c = λ q. ap (is_kept q) c.new-names.ensures.empty

pub loop-port-preserved : goal.loop-port-preserved
loop-port-preserved c = λ q.
    let old = is_kept q c.loop-port.names.keys in
    port_more c.args.ports.now c.loop-port.port-index c.port-item.result q old (is_kept q c.insert.new.self.keys)
    c.loop-port-test.true c.port-item.is (c.loop-port.invariant q)
    (c.in_ok-insert.ensures.updates.0 q ∙ ap (λ (b : Bool). cond b true old) (is_eq-slice_cmp c.in_ok-copy.field-0 q) ∙ ap (λ (z : List ℕ). cond (bytes_eq z q) true old) c.in_ok-copy.ensures)

pub returns : goal.returns
returns c =
    let end : length c.args.ports.now ≡ c.loop-port.port-index = omega arith in
    subst (AreNames c.loop-port.names.keys) (ap (λ (n : ℕ). take n c.args.ports.now) (sym end) ∙ take-length c.args.ports.now) c.loop-port.invariant
