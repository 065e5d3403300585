-- How the patterns of rules begin and end.
use Rattle.std.specs.Prelude.{◌≡◌, ℕ, List, [], ◌∷◌, nat_eq}
use Rattle.std.specs.List.{common_prefix_len}
use Rattle.spec_tree_file.specs.declared.mock_rules.Rule.{Rule}
use Rattle.tree_mock.specs.Ends.{IsEnd}
use Rattle.tree_mock.specs.Grams.{IsGram}
use Rattle.tree_mock.specs.Patterns.{before_star, front}
use Rattle.tree_mock.specs.declared.lookup.Front.{Front}

-- what is kept of a rule, where what comes before it has this front
pub record IsFront (before : List ℕ) (rule : Rule) (kept : Front) : Type 0 where
  pub same : kept.rule.now ≡ rule
  pub plain : kept.plain ≡ before_star rule.pattern
  pub shared : kept.shared ≡ common_prefix_len nat_eq before (front rule.pattern)
  pub end : IsEnd rule.pattern kept.end
  pub gram : IsGram rule.pattern kept.gram

-- of each of some rules
abbrev pub AreFronts : List ℕ → List Rule → List Front → Type 0
AreFronts before [] [] = Unit {0}
AreFronts before [] (kept ∷ fronts) = ⊥
AreFronts before (rule ∷ rules) [] = ⊥
AreFronts before (rule ∷ rules) (kept ∷ fronts) = IsFront before rule kept × AreFronts (front rule.pattern) rules fronts
