-- Valid expectations: what every one is that a file of expectations says.
use Rattle.std.specs.Prelude.{List, [], ◌≤◌}
use Rattle.std.specs.List.{All}
use Rattle.spec_tree.specs.Limits.{last_moment}
use Rattle.spec_world.specs.declared.world.Fact.{Fact}
use Rattle.spec_world.specs.Worlds.{IsExprOver, names_of_facts}
use Rattle.spec_expect.specs.declared.expectation.Expectation.{Expectation}
use Rattle.spec_expect.specs.declared.expectation.Expectation.TheVariants.{Always, At, StartsOnly, Starts}
use Rattle.spec_expect.specs.declared.expectation.Expected.{Expected}

-- the expression of an expectation is one over these facts, and a count is in its range
abbrev pub IsOver : List Fact → Expectation → Type 0
IsOver facts (Always e) = IsExprOver [] (names_of_facts facts) e
IsOver facts (At ms e) = IsExprOver [] (names_of_facts facts) e
IsOver facts (StartsOnly leaves e) = IsExprOver [] (names_of_facts facts) e
IsOver facts (Starts leaves op count) = count ≤ last_moment
IsOver facts _ = Unit {0}

abbrev pub AreOver : List Fact → List Expected → Type 0
AreOver facts expected = All (λ (e : Expected). IsOver facts e.expectation) expected
