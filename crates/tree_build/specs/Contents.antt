-- What the attributes of elements say that are kept.
use Rattle.std.specs.Prelude.{◌≡◌, ℕ, IfSome, Option, Ok}
use Rattle.spec_tree_file.specs.declared.head.Head.{Head}
use Rattle.spec_tree_file.specs.Content.{content_in}
use Rattle.spec_tree_file.specs.Models.{Models}
use Rattle.tree_build.specs.declared.contents.Known.{Known}

-- two heads that are the same
abbrev pub AreAlike : Head → Head → Type 0
AreAlike head other = (head.kind ≡ other.kind) × ((head.form ≡ other.form) × (head.id ≡ other.id))

-- what is kept is what the attributes say by these models, without a fault
abbrev pub IsSaid : Models → Known → Type 0
IsSaid models known = content_in 0 models known.head.kind known.head.id known.head.form known.attributes.now ≡ Ok known.content

-- each content that is kept is said
abbrev pub AreSaid : Models → (ℕ → Option Known) → Type 0
AreSaid models kept = (place : ℕ) → IfSome (kept place) (IsSaid models)
