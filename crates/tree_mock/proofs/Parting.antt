-- A term whose openings are told apart, by what its children become, and where it opens trees.
use Rattle.std.proofs.Common.{◌≡◌, ◌≢◌, ℕ, List, [], ◌∷◌, ◌++◌, map, refl, ap, ◌∙◌, arith}
use Rattle.std.specs.Prelude.{◌==◌, ◌&&◌, ◌||◌, true, false, length, is_some, not}
use Rattle.std.specs.List.{flat_map, list_any}
use Rattle.std.proofs.lemmas.Bool.Decides.{nat_tests}
use Rattle.std.specs.Str.{bytes_eq}
use Rattle.spec_program.specs.ToldApart.{Apart, Opening, apart, apart_at, apart_over, is_opened_elsewhere, opening_at, openings, renamed}
use Rattle.spec_tree.specs.declared.term.Term.{Term, Term-F, fold_out-Term, out-Term}
use Rattle.spec_tree_file.specs.declared.mock_rules.Rules.{Rules}
use Rattle.spec_tree_file.specs.Substitutions.{inside, rule_of}
use Rattle.tree_mock.specs.Seen.{opening_seen}
use Rattle.tree_mock.specs.declared.apart.Opening.{Opening as Found}

-- the node, over what its children become
abbrev over : Rules → List Opening → Term → Term-F (List ℕ → Apart)
over rules found term = record {
  kind = (out-Term term).kind;
  id = (out-Term term).id;
  name = (out-Term term).name;
  ports = (out-Term term).ports;
  code = (out-Term term).code;
  guards = (out-Term term).guards;
  autoremap = (out-Term term).autoremap;
  children = map (apart rules found) (out-Term term).children;
}

apart_of : (rules : Rules) (found : List Opening) (term : Term) (above : List ℕ)
    → apart rules found term above ≡ apart_at rules found (over rules found term) (map (apart rules found) (out-Term term).children) above
apart_of rules found term above = ap (λ f. f above) (fold_out-Term (List ℕ → Apart) (λ node above. apart_at rules found node node.children above) term)

-- a node without children stays
pub apart_lone : (rules : Rules) (found : List Opening) (term : Term) (above : List ℕ) → (out-Term term).children ≡ []
    → apart rules found term above ≡ record { changed = is_some (rule_of rules.rules (above ++ (out-Term term).name)); term = renamed (out-Term term) (out-Term term).id [] }
apart_lone rules found term above none =
    apart_of rules found term above ∙ ap (λ (cs : List Term). apart_at rules found (over rules found term) (map (apart rules found) cs) above) none

becoming : (rules : Rules) (found : List Opening) (terms : List Term) (above : List ℕ)
    → map (λ (child : List ℕ → Apart). child above) (map (apart rules found) terms) ≡ map (λ term. apart rules found term above) terms
becoming rules found [] above = refl
becoming rules found (term ∷ terms) above = ap (λ (parts : List Apart). apart rules found term above ∷ parts) (becoming rules found terms above)

inner : (rules : Rules) (found : List Opening) (node : Term-F (List ℕ → Apart)) (terms : List Term) (above : List ℕ) → terms ≢ []
    → apart_at rules found node (map (apart rules found) terms) above ≡ apart_over found node (map (λ term. apart rules found term (inside node.kind node.name above)) terms) above
inner rules found node [] above some = absurd (some refl)
inner rules found node (term ∷ terms) above some =
    ap (λ (parts : List Apart). apart_over found node parts above) (becoming rules found (term ∷ terms) (inside node.kind node.name above))

-- a node with children stands over what they become
pub apart_inner : (rules : Rules) (found : List Opening) (term : Term) (above : List ℕ) → (out-Term term).children ≢ []
    → apart rules found term above ≡ apart_over found (out-Term term) (map (λ child. apart rules found child (inside (out-Term term).kind (out-Term term).name above)) (out-Term term).children) above
apart_inner rules found term above some = apart_of rules found term above ∙ inner rules found (over rules found term) (out-Term term).children above some

-- ---- Where trees are opened

all_openings : (terms : List Term) (above : List ℕ)
    → flat_map (λ (child : List ℕ → List Opening). child above) (map openings terms) ≡ flat_map (λ child. openings child above) terms
all_openings [] above = refl
all_openings (term ∷ terms) above = ap (λ found. openings term above ++ found) (all_openings terms above)

-- the openings of a node, and then those of its children
pub openings_of : (term : Term) (above : List ℕ)
    → openings term above ≡ opening_at (out-Term term).kind (out-Term term).id (above ++ (out-Term term).name)
    ++ flat_map (λ child. openings child (inside (out-Term term).kind (out-Term term).name above)) (out-Term term).children
openings_of term above =
    ap (λ f. f above) (fold_out-Term (List ℕ → List Opening) (λ node above. opening_at node.kind node.id (above ++ node.name)
    ++ flat_map (λ (child : List ℕ → List Opening). child (inside node.kind node.name above)) node.children) term)
    ∙ ap (λ found. opening_at (out-Term term).kind (out-Term term).id (above ++ (out-Term term).name) ++ found)
    (all_openings (out-Term term).children (inside (out-Term term).kind (out-Term term).name above))

-- whether a tree is opened elsewhere, by what was found
pub elsewhere : (found : List Found) (id path : List ℕ)
    → is_opened_elsewhere (map opening_seen found) id path ≡ list_any (λ (o : Found). bytes_eq o.id.now id && not (bytes_eq o.path path)) found
elsewhere [] id path = refl
elsewhere (o ∷ found) id path = ap (λ any. (bytes_eq o.id.now id && not (bytes_eq o.path path)) || any) (elsewhere found id path)

-- ---- Lists

pub empty_of : {A : Type 0} (xs : List A) → (length xs == 0) ≡ true → xs ≡ []
empty_of [] e = refl
empty_of (x ∷ xs) e = let none : length (x ∷ xs) ≡ 0 = grind (arith, nat_tests) in absurd (omega (arith, none))

pub filled_of : {A : Type 0} (xs : List A) → (length xs == 0) ≡ false → xs ≢ []
filled_of [] e = cc
filled_of (x ∷ xs) e = λ none. cc
