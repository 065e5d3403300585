-- An end without a template.
use Rattle.std.specs.Prelude.{◌≢◌, []}
use Rattle.spec_plan.specs.declared.ending.End.{End}
use Rattle.spec_plan.specs.declared.ending.End.TheVariants.{NoTemplate}

-- where no template is left, at least one condition is named
abbrev pub NamesSome : End → Type 0
NamesSome (NoTemplate names) = names ≢ []
NamesSome end = Unit {0}
