-- The lines of a plan: one for each step, and one for its end.
use Rattle.std.specs.Prelude.{ℕ, List, ◌++◌, codes, decimal}
use Rattle.std.specs.List.{flat_map}
use Rattle.spec_output.specs.Lines.{LineNames, cause_words}
use Rattle.spec_plan.specs.declared.ending.End.{End}
use Rattle.spec_plan.specs.declared.ending.End.TheVariants.{Reached, NoTemplate, NoOrder, Expansions, StillRunning, Faulted}
use Rattle.spec_plan.specs.declared.ending.Step.{Step}

-- a comment line
abbrev pub comment : List ℕ → List ℕ
comment words = codes "<!-- " ++ words ++ codes " -->\n"

abbrev pub step_line : Step → List ℕ
step_line s = comment (codes "expand " ++ decimal s.uid ++ codes " " ++ s.condition ++ codes " " ++ s.action ++ codes " raises " ++ decimal s.raises)

-- names, each with a blank before it
abbrev pub listed : List (List ℕ) → List ℕ
listed names = flat_map (λ (name : List ℕ). codes " " ++ name) names

-- The words of an end. The cause of a fault is told by these names, if it has one.
abbrev pub end_words : LineNames → End → List ℕ
end_words names (Reached tree tick) = codes "reached tick " ++ decimal tick
end_words names (NoTemplate failed) = codes "no plan NoTemplate" ++ listed failed
end_words names (NoOrder action condition) = codes "no plan NoOrder " ++ action ++ codes " " ++ condition
end_words names (Expansions n) = codes "no plan Expansions " ++ decimal n
end_words names (StillRunning ticks) = codes "no plan StillRunning " ++ decimal ticks
end_words names (Faulted uid cause) = codes "no plan Faulted " ++ decimal uid ++ codes " " ++ cause_words names uid cause

abbrev pub end_line : LineNames → End → List ℕ
end_line names end = comment (end_words names end)
