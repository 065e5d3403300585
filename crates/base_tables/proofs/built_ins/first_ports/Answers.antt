use Rattle.std.proofs.Common.{◌≡◌, ℕ, map, take, length, min, ap, sym, ◌∙◌, arith}
use Rattle.std.proofs.lemmas.List.{take-map, take_min}
use Rattle.base_tables.specs.BuiltInRows.{rule_seen}
use Rattle.base_tables.proofs.built_ins.first_ports.Goals as goal

pub returns : goal.returns
returns c =
    let ports = c.args.ports.now in
    let e : c.min.result ≡ min c.args.most (length ports) = omega (arith, c.min.ensures) in
    ap (λ (n : ℕ). map rule_seen (take n ports)) e
    ∙ ap (map rule_seen) (take_min c.args.most ports)
    ∙ sym (take-map rule_seen c.args.most ports)
