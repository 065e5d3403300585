use Rattle.std.proofs.Common.{◌≡◌, ◌∙◌, ◌-◌, Some, slice_get, ap, arith}
use Rattle.std.proofs.lemmas.Grind.{common_steps}
use Rattle.std.proofs.lemmas.Option.{slice_get-get_or}
use Rattle.spec_script.specs.declared.cells.Seen.TheVariants as seen
use Rattle.spec_run.specs.Leaf.{fact_at, sights}
use Rattle.run_driver.proofs.Sights.{fact_seen, input_seen, length-sights}
use Rattle.run_driver.proofs.looks.SightsLooks.look.Goals as goal

pub get-requires : goal.get-requires
get-requires c = omega (arith, length-sights c.args.self.now.inputs.now c.args.self.now.facts.now c.args.self.now.eight)

pub returns-then-slot-lt8 : goal.returns-then-slot-lt8
returns-then-slot-lt8 c =
    slice_get-get_or (sights c.args.self.now.inputs.now c.args.self.now.facts.now) c.args.slot seen.Absent c.requires
    ∙ ap Some (input_seen c.args.self.now.inputs.now c.args.self.now.facts.now c.args.slot seen.Absent c.args.self.now.eight c.if-slot-lt8.true)

pub returns-else-slot-lt8 : goal.returns-else-slot-lt8
returns-else-slot-lt8 c =
    let within = length-sights c.args.self.now.inputs.now c.args.self.now.facts.now c.args.self.now.eight in
    let seen_there : slice_get (sights c.args.self.now.inputs.now c.args.self.now.facts.now) c.args.slot ≡ Some (seen.Int (fact_at c.args.self.now.facts.now (c.args.slot - 8))) =
    slice_get-get_or (sights c.args.self.now.inputs.now c.args.self.now.facts.now) c.args.slot seen.Absent c.requires
    ∙ ap Some (fact_seen c.args.self.now.inputs.now c.args.self.now.facts.now c.args.slot seen.Absent c.args.self.now.eight c.if-slot-lt8.false (omega (arith, within))) in
    grind (arith, common_steps)
