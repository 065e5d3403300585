-- How many bytes a planned tree is printed as.
use Rattle.std.proofs.Common.{◌≡◌, inl, inr, ℕ, ◌+◌, ◌*◌, ◌≤◌, Bool, true, false, not, ◌&&◌, if◌then◌else◌, List, [], ◌∷◌, ◌++◌, length, map, Option, None, refl, sym, ap, subst, ◌∙◌, arith, append-nil, length-append}
use Rattle.std.specs.Prelude.{bytes_eq, codes, nat_le}
use Rattle.std.specs.List.{concat, flat_map}
use Rattle.std.specs.Option.{option_map_or}
use Rattle.std.proofs.lemmas.Bool.Decides.{nat_tests}
use Rattle.std.proofs.lemmas.List.Folds.{concat-append}
use Rattle.std.proofs.lemmas.Option.{slice_get_cases}
use Rattle.std.proofs.lemmas.Slice.Eq.{bytes_eq-Decides}
use Rattle.spec_script.proofs.Bools.{both}
use Rattle.spec_script.specs.Identifiers.{is_identifier}
use Rattle.spec_tree.specs.Limits.{most_name_bytes}
use Rattle.spec_tree.specs.Names.{is_reserved}
use Rattle.spec_tree.specs.PrintedTree.{Attribute, Lines, Printed, WrittenTree, attribute_if, deeper, element_lines, element_name, guard_attributes, indented, is_compact, node_attributes, opened_by, opening_text, port_attribute, printed, printed_node, root_attributes, script_attribute, tree_element, tree_lines, with_trees, written_below}
use Rattle.spec_tree.specs.declared.term.Kind.{Kind}
use Rattle.spec_tree.specs.declared.term.Kind.TheVariants.{Leaf, ReactiveFallback, ReactiveSequence}
use Rattle.spec_tree.specs.declared.term.Term.{Term, Term-F, fold-roll-Term, roll-Term}
use Rattle.spec_world.specs.declared.world.Row.{Row}
use Rattle.spec_world.specs.declared.world.World.{World}
use Rattle.spec_world.specs.Worlds.{IsValidWorld}
use Rattle.spec_plan.specs.declared.part.Part.{Part}
use Rattle.spec_plan.specs.declared.part.Part.TheVariants.{Goals, Sequence, Fallback, Condition, Action}
use Rattle.spec_plan.specs.Forests.{Forest, Empty, Tree}
use Rattle.spec_plan.specs.Planned.{id_of, kind_of, no_guards, part_id, plain_node, terms_of}
use Rattle.spec_plan.specs.PlanRuns.{tree_of}
use Rattle.plan_search.proofs.RowsThere.{named_at, valid_row}
use Rattle.plan_search.proofs.Spread.{own_bytes, spread}

-- a plain node, with what is printed of its children
abbrev node : Kind → List ℕ → List Printed → Term-F Printed
node kind id children = record {
  kind = kind;
  id = id;
  name = id;
  ports = [];
  code = None;
  guards = no_guards;
  autoremap = false;
  children = children;
}

plain_printed : (kind : Kind) (id : List ℕ) (children : List Term) → printed (roll-Term (plain_node kind id children)) ≡ printed_node (node kind id (map printed children))
plain_printed kind id children = fold-roll-Term Printed printed_node (plain_node kind id children)

-- ---- Names

abbrev attributes : Kind → List ℕ → List Attribute
attributes kind id = node_attributes (node kind id [])

abbrev opening : Kind → List ℕ → List ℕ
opening kind id = opening_text (element_name kind id) (attributes kind id)

-- a mark of at most 64 bytes
record IsFew (kind : Kind) (id : List ℕ) : Type 0 where
  name : length (element_name kind id) ≤ 64
  mark : length (opening kind id) ≤ 64

sequence_few : IsFew ReactiveSequence (codes "ReactiveSequence")
sequence_few = record { name = omega arith; mark = omega arith }

fallback_few : IsFew ReactiveFallback (codes "ReactiveFallback")
fallback_few = record { name = omega arith; mark = omega arith }

no_id_few : IsFew Leaf []
no_id_few = record { name = omega arith; mark = omega arith }

same_bytes : (id : List ℕ) → bytes_eq id id ≡ true
same_bytes id = (bytes_eq-Decides id id).1 refl

-- its attributes, by whether it is written by its own name and whether its name is its ID
abbrev attributes_by : List ℕ → Bool → Bool → List Attribute
attributes_by id compact same =
    attribute_if (not compact) (codes "ID") id ++ attribute_if (not same) (codes "name") id ++ attribute_if false (codes "_autoremap") (codes "true")
    ++ map port_attribute [] ++ script_attribute (codes "code") None ++ guard_attributes no_guards

compact_few : (id : List ℕ) → is_compact Leaf id ≡ true → length id ≤ 64 → IsFew Leaf id
compact_few id compact few =
    let name : element_name Leaf id ≡ id = ap (λ (b : Bool). if b then id else codes "Action") compact in
    let none : attributes Leaf id ≡ [] =
    ap (λ (b : Bool). attributes_by id b (bytes_eq id id)) compact ∙ ap (attributes_by id true) (same_bytes id) in
    let mark : opening Leaf id ≡ id = ap (λ (n : List ℕ). opening_text n (attributes Leaf id)) name ∙ ap (opening_text id) none ∙ append-nil id in
    record { name = omega (arith, few, ap length name); mark = omega (arith, few, ap length mark) }

module _ (world : World) (valid : IsValidWorld world) where
  id_few : (n : ℕ) → IsFew Leaf (id_of world.rows n)
  id_few n = elim (slice_get_cases world.rows n).1 [
    | inl (row, within, there, at) ↦
        let id : id_of world.rows n ≡ row.id = ap (λ (o : Option Row). option_map_or (λ (r : Row). r.id) o []) there in
        let named = both (is_identifier row.id) (nat_le (length row.id) most_name_bytes) (named_at world valid n row there) in
        let short : length row.id ≤ 64 = grind (arith, nat_tests, named.1) in
        let own : is_reserved row.id ≡ false = (valid_row world valid n row there).own in
        let compact : is_compact Leaf row.id ≡ true = ap (λ (b : Bool). b && not (is_reserved row.id)) named.0 ∙ ap not own in
        subst (IsFew Leaf) (sym id) (compact_few row.id compact short)
    | inr (past, none) ↦
        let e : id_of world.rows n ≡ [] = ap (λ (o : Option Row). option_map_or (λ (r : Row). r.id) o []) none in
        subst (IsFew Leaf) (sym e) no_id_few
  ]

  part_few : (part : Part) → IsFew (kind_of part) (part_id world.rows part)
  part_few Goals = sequence_few
  part_few (Sequence row) = sequence_few
  part_few Fallback = fallback_few
  part_few (Condition row) = id_few row
  part_few (Action row) = id_few row

  -- ---- Lines

  abbrev printed_all : Forest → List Printed
  printed_all f = map printed (terms_of world.rows f)

  abbrev lines_below : Forest → List Lines
  lines_below f = map (λ (c : Printed). c.lines) (printed_all f)

  abbrev text_below : Forest → List ℕ → List ℕ
  text_below f blanks = concat (flat_map (λ (ls : Lines). ls blanks) (lines_below f))

  length_line : (blanks text : List ℕ) → length (indented blanks text) ≡ length blanks + length text + 1
  length_line blanks text = length-append (blanks ++ text) (codes "\n") ∙ (let e = length-append blanks text in omega (arith, e))

  last_line : (lines : List (List ℕ)) (line : List ℕ) → concat (lines ++ line ∷ []) ≡ concat lines ++ line
  last_line lines line = concat-append lines (line ∷ []) ∙ ap (λ (z : List ℕ). concat lines ++ z) (append-nil line)

  -- an element without children is one line
  empty_len : (name : List ℕ) (attrs : List Attribute) (blanks : List ℕ) → length (opening_text name attrs) ≤ 64 → length (concat (element_lines name attrs [] blanks)) ≤ length blanks + 68
  empty_len name attrs blanks marked =
      let text = opening_text name attrs in
      let line = length_line blanks (codes "<" ++ text ++ codes "/>") in
      let mark = length-append (codes "<" ++ text) (codes "/>") in
      let first = length-append (codes "<") text in
      let whole = length-append (indented blanks (codes "<" ++ text ++ codes "/>")) [] in
      omega (arith, line, mark, first, whole, marked)

  -- .. and another one is two, round what stands in it
  filled_len : (name : List ℕ) (attrs : List Attribute) (c : Lines) (cs : List Lines) (blanks : List ℕ) → length name ≤ 64 → length (opening_text name attrs) ≤ 64 →
      length (concat (element_lines name attrs (c ∷ cs) blanks)) ≤ 2 * length blanks + 135 + length (concat (flat_map (λ (ls : Lines). ls (deeper blanks)) (c ∷ cs)))
  filled_len name attrs c cs blanks named marked =
      let text = opening_text name attrs in
      let start = indented blanks (codes "<" ++ text ++ codes ">") in
      let ending = indented blanks (codes "</" ++ name ++ codes ">") in
      let inner = flat_map (λ (ls : Lines). ls (deeper blanks)) (c ∷ cs) in
      let first_line = length_line blanks (codes "<" ++ text ++ codes ">") in
      let first_mark = length-append (codes "<" ++ text) (codes ">") in
      let first = length-append (codes "<") text in
      let final_line = length_line blanks (codes "</" ++ name ++ codes ">") in
      let final_mark = length-append (codes "</" ++ name) (codes ">") in
      let final = length-append (codes "</") name in
      let whole = length-append start (concat (inner ++ ending ∷ [])) in
      let rest : length (concat (inner ++ ending ∷ [])) ≡ length (concat inner ++ ending) = ap length (last_line inner ending) in
      let parts = length-append (concat inner) ending in
      omega (arith, first_line, first_mark, first, final_line, final_mark, final, whole, rest, parts, named, marked)

  written_all : (part : Part) (ls : List Lines) → written_below (kind_of part) ls ≡ ls
  written_all Goals ls = refl
  written_all (Sequence row) ls = refl
  written_all Fallback ls = refl
  written_all (Condition row) ls = refl
  written_all (Action row) ls = refl

  abbrev node_text : Part → Forest → List ℕ → List ℕ
  node_text part below blanks = concat ((printed (roll-Term (plain_node (kind_of part) (part_id world.rows part) (terms_of world.rows below)))).lines blanks)

  abbrev element_text : Part → Forest → List ℕ → List ℕ
  element_text part below blanks = concat (element_lines (element_name (kind_of part) (part_id world.rows part)) (attributes (kind_of part) (part_id world.rows part)) (lines_below below) blanks)

  node_is : (part : Part) (below : Forest) (blanks : List ℕ) → node_text part below blanks ≡ element_text part below blanks
  node_is part below blanks =
      ap (λ (p : Printed). concat (p.lines blanks)) (plain_printed (kind_of part) (part_id world.rows part) (terms_of world.rows below))
      ∙ ap (λ (ls : List Lines). concat (element_lines (element_name (kind_of part) (part_id world.rows part)) (attributes (kind_of part) (part_id world.rows part)) ls blanks)) (written_all part (lines_below below))

  element_len : (part : Part) (below : Forest) (level : ℕ) (blanks : List ℕ) → length blanks ≡ 4 + 2 * level → length (text_below below (deeper blanks)) ≤ spread (level + 1) below →
      length (element_text part below blanks) ≤ own_bytes level below + spread (level + 1) below
  element_len part Empty level blanks at inner =
      let few = part_few part in
      let line = empty_len (element_name (kind_of part) (part_id world.rows part)) (attributes (kind_of part) (part_id world.rows part)) blanks few.mark in
      omega (arith, line, at)
  element_len part (Tree key own below rest) level blanks at inner =
      let few = part_few part in
      let first : Lines = (printed (roll-Term (plain_node (kind_of own) (part_id world.rows own) (terms_of world.rows below)))).lines in
      let line = filled_len (element_name (kind_of part) (part_id world.rows part)) (attributes (kind_of part) (part_id world.rows part)) first (lines_below rest) blanks few.name few.mark in
      omega (arith, line, at, inner)

  node_len : (part : Part) (below : Forest) (level : ℕ) (blanks : List ℕ) → length blanks ≡ 4 + 2 * level → length (text_below below (deeper blanks)) ≤ spread (level + 1) below →
      length (node_text part below blanks) ≤ own_bytes level below + spread (level + 1) below
  node_len part below level blanks at inner =
      subst (λ (z : List ℕ). length z ≤ own_bytes level below + spread (level + 1) below) (sym (node_is part below blanks)) (element_len part below level blanks at inner)

  below_len : (f : Forest) (level : ℕ) (blanks : List ℕ) → length blanks ≡ 4 + 2 * level → length (text_below f blanks) ≤ spread level f
  below_len Empty level blanks at = omega arith
  below_len (Tree key part below rest) level blanks at =
      let own : List (List ℕ) = (printed (roll-Term (plain_node (kind_of part) (part_id world.rows part) (terms_of world.rows below)))).lines blanks in
      let others : List (List ℕ) = flat_map (λ (ls : Lines). ls blanks) (lines_below rest) in
      let both : length (concat (own ++ others)) ≡ length (concat own ++ concat others) = ap length (concat-append own others) in
      let sum = length-append (concat own) (concat others) in
      let wider = length-append blanks (codes "  ") in
      let inner = below_len below (level + 1) (deeper blanks) (omega (arith, at, wider)) in
      let first = node_len part below level blanks at inner in
      let later = below_len rest level blanks at in
      omega (arith, both, sum, first, later)

  -- ---- Trees

  opens_none : (part : Part) (id : List ℕ) (ls : List Lines) → opened_by (kind_of part) id ls ≡ []
  opens_none Goals id ls = refl
  opens_none (Sequence row) id ls = refl
  opens_none Fallback id ls = refl
  opens_none (Condition row) id ls = refl
  opens_none (Action row) id ls = refl

  abbrev opened_below : Forest → List WrittenTree
  opened_below f = flat_map (λ (c : Printed). c.opened) (printed_all f)

  node_opens : (part : Part) (below : Forest) → opened_below below ≡ [] → (printed (roll-Term (plain_node (kind_of part) (part_id world.rows part) (terms_of world.rows below)))).opened ≡ []
  node_opens part below none =
      ap (λ (p : Printed). p.opened) (plain_printed (kind_of part) (part_id world.rows part) (terms_of world.rows below))
      ∙ ap (λ (z : List WrittenTree). z ++ opened_below below) (opens_none part (part_id world.rows part) (lines_below below)) ∙ none

  none_opened : (f : Forest) → opened_below f ≡ []
  none_opened Empty = refl
  none_opened (Tree key part below rest) =
      ap (λ (z : List WrittenTree). z ++ opened_below rest) (node_opens part below (none_opened below)) ∙ none_opened rest

  one_tree_len : (ls : Lines) → length (concat (element_lines (codes "root") (root_attributes (record { main = codes "Plan"; term = roll-Term (plain_node ReactiveSequence [] []) })) (tree_element (codes "Plan", ls ∷ []) ∷ []) [])) ≤ 280 + length (concat (ls (codes "    ")))
  one_tree_len ls =
      let attrs : List Attribute = (codes "BTCPP_format", codes "4") ∷ (codes "main_tree_to_execute", codes "Plan") ∷ [] in
      let outer = filled_len (codes "root") attrs (tree_element (codes "Plan", ls ∷ [])) [] [] (omega arith) (omega arith) in
      let own : List (List ℕ) = tree_element (codes "Plan", ls ∷ []) (codes "  ") in
      let one : length (concat (own ++ [])) ≡ length (concat own) = ap (λ (z : List (List ℕ)). length (concat z)) (append-nil own) in
      let inner = filled_len (codes "BehaviorTree") ((codes "ID", codes "Plan") ∷ []) ls [] (codes "  ") (omega arith) (omega arith) in
      let lines : length (concat (ls (codes "    ") ++ [])) ≡ length (concat (ls (codes "    "))) = ap (λ (z : List (List ℕ)). length (concat z)) (append-nil (ls (codes "    "))) in
      omega (arith, outer, one, inner, lines)

  -- the bytes of a planned tree
  pub tree_len : (root : ℕ) (below : Forest) → length (concat (tree_lines (tree_of world.rows (Tree root Goals below Empty)))) ≤ 280 + spread 0 (Tree root Goals below Empty)
  tree_len root below =
      let tree = tree_of world.rows (Tree root Goals below Empty) in
      let ls : Lines = (printed tree.term).lines in
      let none : (printed tree.term).opened ≡ [] = node_opens Goals below (none_opened below) in
      let e : tree_lines tree ≡ element_lines (codes "root") (root_attributes tree) (tree_element (codes "Plan", ls ∷ []) ∷ []) [] =
      ap (λ (z : List WrittenTree). element_lines (codes "root") (root_attributes tree) (map tree_element (with_trees ((codes "Plan", ls ∷ []) ∷ []) z)) []) none in
      let same : length (concat (tree_lines tree)) ≡ length (concat (element_lines (codes "root") (root_attributes tree) (tree_element (codes "Plan", ls ∷ []) ∷ []) [])) = ap (λ (z : List (List ℕ)). length (concat z)) e in
      let most = one_tree_len ls in
      let inner = below_len below 1 (deeper (codes "    ")) (omega arith) in
      let own = node_len Goals below 0 (codes "    ") (omega arith) inner in
      omega (arith, same, most, own)
