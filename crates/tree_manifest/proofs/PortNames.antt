-- A table that takes in the names of ports, one after the other.
use Rattle.std.proofs.Common.{◌≡◌, ℕ, ◌+◌, ◌<◌, Bool, true, false, cond, ◌||◌, List, [], ◌∷◌, ◌++◌, length, get_or, take, refl, ap, sym, ◌∙◌}
use Rattle.std.proofs.lemmas.List.Folds.{list_any-append, list_any_more}
use Rattle.std.proofs.lemmas.Map.Text.{is_eq-slice_cmp}
use Rattle.std.proofs.lemmas.Bool.Decides.{same_from_decides}
use Rattle.std.proofs.lemmas.Slice.Eq.{bytes_eq-Decides}
use Rattle.std.specs.Cmp.Lexicographic.{slice_cmp}
use Rattle.std.specs.List.{list_any}
use Rattle.std.specs.Ordering.{is_eq, nat_cmp}
use Rattle.std.specs.Str.{bytes_eq}
use Rattle.spec_tree.specs.Names.{is_among}
use Rattle.spec_tree_file.specs.declared.models.ModelPort.{ModelPort}
use Rattle.tree_manifest.specs.Known.{AreKept, is_kept}

same_either_way : (a b : List ℕ) → bytes_eq a b ≡ bytes_eq b a
same_either_way a b =
    same_from_decides (bytes_eq a b) (bytes_eq b a) (bytes_eq-Decides a b) (λ h. sym ((bytes_eq-Decides b a).0 h), λ e. (bytes_eq-Decides b a).1 (sym e))

-- whether a port has the name
abbrev pub has_name : List ℕ → List ModelPort → Bool
has_name q ports = list_any (λ port. bytes_eq q port.name) ports

either_cond : (x y : Bool) → cond x true y ≡ (y || x)
either_cond true true = refl
either_cond true false = refl
either_cond false true = refl
either_cond false false = refl

or_false : (a : Bool) → a ≡ a || false
or_false true = refl
or_false false = refl

-- one more name that is kept
pub kept_more : (names kept now : List (List ℕ)) (name : List ℕ) → AreKept kept names → ((q : List ℕ) → is_kept q now ≡ cond (is_eq (slice_cmp nat_cmp name q)) true (is_kept q kept))
    → AreKept now (names ++ name ∷ [])
kept_more names kept now name held step q =
    step q ∙ ap (λ (b : Bool). cond b true (is_kept q kept)) (is_eq-slice_cmp name q) ∙ either_cond (bytes_eq name q) (is_kept q kept)
    ∙ ap (λ (b : Bool). b || bytes_eq name q) (held q) ∙ ap (λ (b : Bool). is_among q names || b) (same_either_way name q ∙ or_false (bytes_eq q name))
    ∙ sym (list_any-append (λ n. bytes_eq q n) names (name ∷ []))

-- one more port
pub port_more : (ports : List ModelPort) (i : ℕ) (port : ModelPort) (q : List ℕ) (old new : Bool) → i < length ports → port ≡ get_or ports i port →
    old ≡ has_name q (take i ports) → new ≡ cond (bytes_eq port.name q) true old → new ≡ has_name q (take (i + 1) ports)
port_more ports i port q old new h is was now =
    now ∙ either_cond (bytes_eq port.name q) old ∙ ap (λ (z : Bool). z || bytes_eq port.name q) was
    ∙ ap (λ (z : Bool). has_name q (take i ports) || z) (same_either_way port.name q)
    ∙ ap (λ (p : ModelPort). has_name q (take i ports) || bytes_eq q p.name) is
    ∙ sym (list_any_more (λ p. bytes_eq q p.name) ports i port h)
