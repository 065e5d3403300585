use Rattle.std.proofs.Common.{◌≡◌, ℕ, ◌-◌, ◌==◌, Bool, true, List, Option, cond, None, map, length, take, drop, codes, subst, sym, ap, ◌∙◌}
use Rattle.std.specs.Prelude.{IfOk, option_map, nat_eq}
use Rattle.std.specs.Str.{bytes_eq}
use Rattle.std.proofs.lemmas.Slice.Eq.{bytes_eq-Decides}
use Rattle.std.specs.List.{slice_split, ends_with}
use Rattle.spec_world_file.specs.WorldFile.{head_before, head_with}
use Rattle.spec_world_file.specs.WorldFile as file
use Rattle.world_lines.specs.Heads.{seen_head}
use Rattle.world_lines.proofs.head.before_ports.Goals as goal

before : (id rest list : List ℕ) (ports : List (List ℕ)) → ends_with nat_eq rest (codes ")") ≡ true → list ≡ take (length rest - 1) rest → ports ≡ slice_split (λ b. b == 44) list → head_with id ports ≡ head_before id rest
before id rest list ports closed is split =
    ap (head_with id) (split ∙ ap (slice_split (λ b. b == 44)) is)
    ∙ sym (ap (λ (t : Bool). cond t (head_with id (slice_split (λ b. b == 44) (take (length rest - 1) rest))) None) closed)

closed_by : (rest : List ℕ) → bytes_eq (drop (length rest - 1) rest) (codes ")") ≡ true → ends_with nat_eq rest (codes ")") ≡ true
closed_by rest h = (bytes_eq-Decides (codes ")") (drop (length rest - 1) rest)).1 (sym ((bytes_eq-Decides (drop (length rest - 1) rest) (codes ")")).0 h))

pub returns-in_ok-ports-in-Some : goal.returns-in_ok-ports-in-Some
returns-in_ok-ports-in-Some c =
    let e = before c.args.id.now c.args.rest.now c.in-Some.list.now (map (λ part. part.now) c.in_ok-ports-in-Some.ports.items)
    (closed_by c.args.rest.now (rw c.as_slice.ensures at c.in-Some.ensures.cases.0)) (rw c.as_slice.ensures at c.in-Some.ensures.cases.1) c.in_ok-ports-in-Some.ensures in
    subst (λ (h : Option file.Head). IfOk c.with_ports.result (λ head. option_map seen_head head ≡ h))
    (ap (λ (ps : List _). head_with c.args.id.now (map (λ part. part.now) ps)) c.as_slice-in-Some.ensures.value ∙ e)
    c.with_ports.ensures
