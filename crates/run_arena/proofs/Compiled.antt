-- A script that is compiled over the slots of its names does what it does in the scope of its node.
use Rattle.std.proofs.Common.{◌≡◌, ℕ, ◌<◌, ◌≤◌, List, length, map, get_or, Option, Some, [], true, refl, sym, ap, subst, ◌∙◌}
use Rattle.std.specs.List.{All, Contains}
use Rattle.std.proofs.lemmas.List.{get_or-map}
use Rattle.std.proofs.lemmas.List.Elements.{All-map, All-nil, All-same, All-weaker}
use Rattle.spec_script.specs.declared.syntax.Script.{Script}
use Rattle.script_code.specs.declared.codes.Code.{Code}
use Rattle.script_code.specs.declared.codes.ScriptCode.{ScriptCode}
use Rattle.script_code.specs.Codes.{IsCodeFor, needed, program, program_over}
use Rattle.script_code.specs.Sources.{place_in}
use Rattle.script_code.specs.Statements.{slot_in, slots_below}
use Rattle.script_code.proofs.Numbered.{all_below, inserted, only_inserted, placed}
use Rattle.spec_tree.specs.declared.term.Port.{Port}
use Rattle.spec_tree.specs.declared.term.PortValue.{PortValue}
use Rattle.spec_tree.specs.declared.term.PortValue.TheVariants.{Key}
use Rattle.spec_tree.specs.declared.term.Tree.{Tree}
use Rattle.spec_world.specs.declared.world.World.{World}
use Rattle.base_tables.specs.SlotTables.{is_named}
use Rattle.spec_tree.specs.Boards.{port_of, slots, value_keys}
use Rattle.spec_run.specs.Ports.{given_by}
use Rattle.run_arena.specs.declared.source.Source.{Source}
use Rattle.run_arena.specs.declared.source.Source.TheVariants.{Slot}
use Rattle.run_arena.specs.Booked.{IsCodeIn, IsOver}
use Rattle.run_arena.specs.Nodes.{IsCodeOf}
use Rattle.run_arena.specs.Resolving.{AreNamed, named_slot, names_in_script, port_keys, view_in}
use Rattle.run_arena.specs.Sources.{slot_in_view, source_at, source_of}
use Rattle.run_arena.proofs.Agreeing.{same_program}
use Rattle.run_arena.proofs.Named.{named_slot_is, named_within, port_named}
use Rattle.std.proofs.lemmas.List.Elements.{All-head}

module _ (tree : Tree) (world : World) (number : ℕ) where
  -- a name that the tree has a slot for has the view's slot, which is one of the board's
  slot_below : (key : List ℕ) → is_named tree number key ≡ true → named_slot tree number key < length (slots tree)
  slot_below key named = subst (λ n. n < length (slots tree)) (sym (named_slot_is tree number key named)) (named_within tree number key named)

  -- the code of a script over the slots of its names
  pub compiled : (script : Script) (made : ScriptCode) (code : Code) (table : List ℕ) → IsCodeFor script made → table ≡ map (named_slot tree number) made.names → AreNamed tree number (names_in_script script)
      → program code ≡ program_over made table → needed code ≡ slots_below table → IsCodeOf (view_in tree world number) script code
  compiled script made code table of is named same need =
      let names = names_in_script script in
      let f = named_slot tree number in
      let view = view_in tree world number in
      let Named = λ (key : List ℕ). is_named tree number key ≡ true in
      let known : AreNamed tree number made.names = subst (AreNamed tree number) (sym of.names) (only_inserted Named [] names (All-nil Named) named) in
      let has : All (Contains made.names) names = subst (λ (ns : List (List ℕ)). All (Contains ns) names) (sym of.names) (inserted [] names) in
      record {
        meaning = same ∙ of.meaning table ∙ same_program (λ name. slot_in table (place_in made.names name)) (slot_in_view view) script.stmts
            (λ k d within.
            let name = get_or names k d in
            let p = placed made.names name (has k d within) in
            ap (λ (t : List ℕ). slot_in t (place_in made.names name)) is
            ∙ get_or-map f made.names (place_in made.names name) d 0 p.0
            ∙ ap f (p.1 d)
            ∙ named_slot_is tree number name (named k d within));
        reach = subst (λ n. n ≤ length (slots tree)) (sym need)
            (all_below table (length (slots tree))
            (All-same (λ (slot : ℕ). slot < length (slots tree)) table (map f made.names) is
            (All-map (λ (slot : ℕ). slot < length (slots tree)) f made.names
            (All-weaker Named (λ name. f name < length (slots tree)) slot_below made.names known))));
      }

  -- so does a code over the slots of its names in the scope
  pub compiled_in : (slot : ℕ → List ℕ → ℕ) (script : Script) (code : Code) → slot ≡ named_slot tree → IsCodeIn (slot number) script code → AreNamed tree number (names_in_script script)
      → IsCodeOf (view_in tree world number) script code
  compiled_in slot script code is found named =
      let over = subst (λ (slot : ℕ → List ℕ → ℕ). IsOver (slot number) found.made code) is found.over in
      compiled script found.made code (map (named_slot tree number) found.made.names) found.of refl named over.program over.needed

  -- the slot of a port that is given a key
  module _ (ports : List Port) (name : List ℕ) (port : Port) (key : List ℕ) (named : AreNamed tree number (port_keys ports)) (found : port_of ports name ≡ Some port) (is : port.value ≡ Key key) where
    key_named : is_named tree number key ≡ true
    key_named = All-head (λ key. is_named tree number key ≡ true) key [] (subst (λ (value : PortValue). AreNamed tree number (value_keys value)) is (port_named tree number ports name port named found))

    pub key_source : ◌≡◌ {A = Source} (Slot (named_slot tree number key)) (source_at (view_in tree world number) ports name)
    key_source =
        ap (λ n. Slot n) (named_slot_is tree number key key_named)
        ∙ sym (ap (λ (o : Option Port). source_of (view_in tree world number) (given_by o)) found ∙ ap (λ (value : PortValue). source_of (view_in tree world number) (Some value)) is)

    pub key_below : named_slot tree number key < length (slots tree)
    key_below = slot_below key key_named
