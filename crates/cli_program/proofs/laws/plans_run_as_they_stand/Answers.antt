use Rattle.std.proofs.Common.{refl}
use Rattle.spec_program.specs.Courses.{given}
use Rattle.spec_program.specs.declared.course.Course.TheVariants as course
use Rattle.spec_program.specs.Headline.{IsGroundOf, IsScriptOf}
use Rattle.cli_program.proofs.TickedPlans.{run_modelled, runs_as_it_stands}
use Rattle.cli_program.proofs.laws.plans_run_as_they_stand.Goals as goal

pub returns-clause-script : goal.returns-clause-script
returns-clause-script c = λ file period old new p n script moments o reads short gives.
    runs_as_it_stands (record { element = c.one_element.ensures; fault = c.element_or_fault.ensures.once; not_both = c.element_or_fault.ensures.not_both; world = c.worlds_read_one_way.ensures; expect = c.expectations_read_one_way.ensures; plan = c.plans_run_one_way.ensures })
    file IsScriptOf period old new p n script (given course.Script moments old.drivers) o refl reads short gives

pub returns-clause-ground : goal.returns-clause-ground
returns-clause-ground c = λ file period old new p n script moments o reads short gives.
    runs_as_it_stands (record { element = c.one_element.ensures; fault = c.element_or_fault.ensures.once; not_both = c.element_or_fault.ensures.not_both; world = c.worlds_read_one_way.ensures; expect = c.expectations_read_one_way.ensures; plan = c.plans_run_one_way.ensures })
    file IsGroundOf period old new p n script (given course.Script moments old.drivers) o refl reads short gives

pub returns-clause-modelled : goal.returns-clause-modelled
returns-clause-modelled c = run_modelled
