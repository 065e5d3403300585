use Rattle.std.proofs.Common.{◌≡◌, ℕ, List, sym, subst, ◌∙◌}
use Rattle.std.proofs.lemmas.Slice.Eq.{bytes_eq-Decides}
use Rattle.spec_script.specs.Reading.{ReadsScript}
use Rattle.run_arena.proofs.book.Entry.is_of.Goals as goal

pub returns : goal.returns
returns g c is =
    let script = c.args.script.now in
    let alike = (bytes_eq-Decides c.list.result.now c.list-2.result.now).0 (sym c.eq.ensures ∙ is) in
    let same : script.text ≡ c.args.self.now.text = sym c.list-2.ensures.bytes ∙ sym alike ∙ c.list.ensures.bytes in
    c.args.self.now.means script (subst (λ (text : List ℕ). ReadsScript text script) same c.requires)
