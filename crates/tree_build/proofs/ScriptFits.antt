-- The scripts that are read fit their node.
use Rattle.std.proofs.Common.{◌≡◌, ℕ, Bool, true, false, List, codes, Option, Some, None, Result, Ok, Err, refl, sym, subst}
use Rattle.std.specs.Prelude.{option_map, IfSome}
use Rattle.std.specs.Cmp.Derive.{both_true}
use Rattle.std.specs.List.{list_all}
use Rattle.spec_script.specs.declared.fault.ScriptFault.{ScriptFault}
use Rattle.spec_script.specs.declared.syntax.Script.{Script}
use Rattle.spec_script.specs.Reading.{ReadsScript}
use Rattle.spec_script.specs.Texts.{value_stands}
use Rattle.tree_elements.specs.Written.{can_stand}
use Rattle.spec_tree.specs.declared.term.Guards.{Guards}
use Rattle.spec_tree.specs.Trees.{CodeFits, GuardsFit, ScriptFits, guards_stand, script_stands}
use Rattle.spec_tree_file.specs.Attributes.{Attributes, value_of}
use Rattle.spec_tree_file.specs.ReadSteps.{go_on}
use Rattle.spec_tree_file.specs.declared.build_fault.BuildFault.{BuildFault}
use Rattle.tree_build.specs.ContentSteps.{code_text, guard_in, guards_in, or_bad, or_bad_script, script_of}
use Rattle.spec_tree_file.specs.Readings.{Reading}
use Rattle.spec_tree_file.specs.ScriptOf.{script_in}
use Rattle.tree_build.proofs.ElementTexts.{value_there}
use Rattle.spec_tree_file.specs.EveryText.{every_text}
use Rattle.tree_build.proofs.Sizes.{same_ok, went}

ok_script : (s t : Script) → ◌≡◌ {A = Result Script ScriptFault} (Ok s) (Ok t) → s ≡ t
ok_script s t h = cc

chosen : (text : List ℕ) (s : Script) (r : Reading text) → r.0 ≡ Ok s → ReadsScript text s
chosen text s (Ok t, is) h = subst (λ (x : Script). ReadsScript text x) (ok_script t s h) is
chosen text s (Err f, has) h = absurd (cc)

-- a script that is read is one that its text reads as
pub script_in-reads : (text : List ℕ) (s : Script) → script_in text ≡ Ok s → ReadsScript text s
unfolding script_in
script_in-reads text s h = chosen text s (every_text text) h

pub own_text : (text : List ℕ) (s : Script) → ReadsScript text s → ReadsScript s.text s
own_text text s h = subst (λ (t : List ℕ). ReadsScript t s) (sym h.0) h

read_by : (uid : ℕ) (text : List ℕ) (o : Option Script) (r : Result Script ScriptFault) → script_in text ≡ r → or_bad_script uid r ≡ Ok o → ScriptFits o
read_by uid text o (Ok s) e h = subst ScriptFits (same_ok (Some s) o h) (own_text text s (script_in-reads text s e))
read_by uid text o (Err f) e h = absurd (cc)

pub script_fits : (uid : ℕ) (text : Option (List ℕ)) (o : Option Script) → script_of uid text ≡ Ok o → ScriptFits o
script_fits uid None o h = let none : ScriptFits None = tt in subst ScriptFits (same_ok None o h) none
script_fits uid (Some text) o h = read_by uid text o (script_in text) refl h

is_there : (uid : ℕ) (text : List ℕ) (o : Option Script) (r : Result Script ScriptFault) → script_in text ≡ r → or_bad_script uid r ≡ Ok o → CodeFits true o
is_there uid text o (Ok s) e h = subst (CodeFits true) (same_ok (Some s) o h) (own_text text s (script_in-reads text s e))
is_there uid text o (Err f) e h = absurd (cc)

-- the code of a node is there exactly where it has one
abbrev pub TextFits : Bool → Option (List ℕ) → Type 0
TextFits true None = ⊥
TextFits true (Some text) = Unit {0}
TextFits false None = Unit {0}
TextFits false (Some text) = ⊥

text_by : (uid : ℕ) (o : Option (List ℕ)) (text : Option (List ℕ)) → or_bad uid (option_map Some o) ≡ Ok text → TextFits true text
text_by uid None text h = absurd (cc)
text_by uid (Some t) text h = let there : TextFits true (Some t) = tt in subst (TextFits true) (same_ok (Some t) text h) there

pub text_fits : (uid : ℕ) (with_code : Bool) (attributes : Attributes) (text : Option (List ℕ)) → code_text uid with_code attributes ≡ Ok text → TextFits with_code text
text_fits uid true attributes text h = text_by uid (value_of (codes "code") attributes) text h
text_fits uid false attributes text h = let none : TextFits false None = tt in subst (TextFits false) (same_ok None text h) none

pub code_fits : (uid : ℕ) (with_code : Bool) (text : Option (List ℕ)) (o : Option Script) → TextFits with_code text → script_of uid text ≡ Ok o → CodeFits with_code o
code_fits uid true None o t h = absurd t
code_fits uid true (Some text) o t h = is_there uid text o (script_in text) refl h
code_fits uid false None o t h = let none : CodeFits false None = tt in subst (CodeFits false) (same_ok None o h) none
code_fits uid false (Some text) o t h = absurd t

abbrev Read : Type 0
Read = Result Guards BuildFault

abbrev pub tail_8 : ℕ → Attributes → Option Script → Option Script → Option Script → Option Script → Option Script → Option Script → Option Script → Option Script → Read
tail_8 uid attributes failure_if success_if skip_if while_true on_success on_failure post on_halted = Ok (record { failure_if = failure_if; success_if = success_if; skip_if = skip_if; while_true = while_true; on_success = on_success; on_failure = on_failure; post = post; on_halted = on_halted })

abbrev pub tail_7 : ℕ → Attributes → Option Script → Option Script → Option Script → Option Script → Option Script → Option Script → Option Script → Read
tail_7 uid attributes failure_if success_if skip_if while_true on_success on_failure post = go_on (tail_8 uid attributes failure_if success_if skip_if while_true on_success on_failure post) (guard_in uid attributes (codes "_onHalted"))

abbrev pub tail_6 : ℕ → Attributes → Option Script → Option Script → Option Script → Option Script → Option Script → Option Script → Read
tail_6 uid attributes failure_if success_if skip_if while_true on_success on_failure = go_on (tail_7 uid attributes failure_if success_if skip_if while_true on_success on_failure) (guard_in uid attributes (codes "_post"))

abbrev pub tail_5 : ℕ → Attributes → Option Script → Option Script → Option Script → Option Script → Option Script → Read
tail_5 uid attributes failure_if success_if skip_if while_true on_success = go_on (tail_6 uid attributes failure_if success_if skip_if while_true on_success) (guard_in uid attributes (codes "_onFailure"))

abbrev pub tail_4 : ℕ → Attributes → Option Script → Option Script → Option Script → Option Script → Read
tail_4 uid attributes failure_if success_if skip_if while_true = go_on (tail_5 uid attributes failure_if success_if skip_if while_true) (guard_in uid attributes (codes "_onSuccess"))

abbrev pub tail_3 : ℕ → Attributes → Option Script → Option Script → Option Script → Read
tail_3 uid attributes failure_if success_if skip_if = go_on (tail_4 uid attributes failure_if success_if skip_if) (guard_in uid attributes (codes "_while"))

abbrev pub tail_2 : ℕ → Attributes → Option Script → Option Script → Read
tail_2 uid attributes failure_if success_if = go_on (tail_3 uid attributes failure_if success_if) (guard_in uid attributes (codes "_skipIf"))

abbrev pub tail_1 : ℕ → Attributes → Option Script → Read
tail_1 uid attributes failure_if = go_on (tail_2 uid attributes failure_if) (guard_in uid attributes (codes "_successIf"))

abbrev pub tail_0 : ℕ → Attributes → Read
tail_0 uid attributes = go_on (tail_1 uid attributes) (guard_in uid attributes (codes "_failureIf"))

-- each guard is read from its attribute
pub record GuardsRead (uid : ℕ) (attributes : Attributes) (guards : Guards) : Type 0 where
  pub failure_if : guard_in uid attributes (codes "_failureIf") ≡ Ok guards.failure_if
  pub success_if : guard_in uid attributes (codes "_successIf") ≡ Ok guards.success_if
  pub skip_if : guard_in uid attributes (codes "_skipIf") ≡ Ok guards.skip_if
  pub while_true : guard_in uid attributes (codes "_while") ≡ Ok guards.while_true
  pub on_success : guard_in uid attributes (codes "_onSuccess") ≡ Ok guards.on_success
  pub on_failure : guard_in uid attributes (codes "_onFailure") ≡ Ok guards.on_failure
  pub post : guard_in uid attributes (codes "_post") ≡ Ok guards.post
  pub on_halted : guard_in uid attributes (codes "_onHalted") ≡ Ok guards.on_halted

pub guards_read : (uid : ℕ) (attributes : Attributes) (guards : Guards) → guards_in uid attributes ≡ Ok guards → GuardsRead uid attributes guards
guards_read uid attributes guards h =
    let w0 = went (tail_1 uid attributes) (guard_in uid attributes (codes "_failureIf")) guards h in
    let w1 = went (tail_2 uid attributes w0.0) (guard_in uid attributes (codes "_successIf")) guards w0.2 in
    let w2 = went (tail_3 uid attributes w0.0 w1.0) (guard_in uid attributes (codes "_skipIf")) guards w1.2 in
    let w3 = went (tail_4 uid attributes w0.0 w1.0 w2.0) (guard_in uid attributes (codes "_while")) guards w2.2 in
    let w4 = went (tail_5 uid attributes w0.0 w1.0 w2.0 w3.0) (guard_in uid attributes (codes "_onSuccess")) guards w3.2 in
    let w5 = went (tail_6 uid attributes w0.0 w1.0 w2.0 w3.0 w4.0) (guard_in uid attributes (codes "_onFailure")) guards w4.2 in
    let w6 = went (tail_7 uid attributes w0.0 w1.0 w2.0 w3.0 w4.0 w5.0) (guard_in uid attributes (codes "_post")) guards w5.2 in
    let w7 = went (tail_8 uid attributes w0.0 w1.0 w2.0 w3.0 w4.0 w5.0 w6.0) (guard_in uid attributes (codes "_onHalted")) guards w6.2 in
    subst (λ (g : Guards). GuardsRead uid attributes g) (same_ok (record { failure_if = w0.0; success_if = w1.0; skip_if = w2.0; while_true = w3.0; on_success = w4.0; on_failure = w5.0; post = w6.0; on_halted = w7.0 }) guards w7.2)
    (record { failure_if = w0.1; success_if = w1.1; skip_if = w2.1; while_true = w3.1; on_success = w4.1; on_failure = w5.1; post = w6.1; on_halted = w7.1 })

-- the guards that are read
pub guards_fit : (uid : ℕ) (attributes : Attributes) (guards : Guards) → GuardsRead uid attributes guards → GuardsFit guards
guards_fit uid attributes guards r = record {
  failure_if = script_fits uid (value_of (codes "_failureIf") attributes) guards.failure_if r.failure_if;
  success_if = script_fits uid (value_of (codes "_successIf") attributes) guards.success_if r.success_if;
  skip_if = script_fits uid (value_of (codes "_skipIf") attributes) guards.skip_if r.skip_if;
  while_true = script_fits uid (value_of (codes "_while") attributes) guards.while_true r.while_true;
  on_success = script_fits uid (value_of (codes "_onSuccess") attributes) guards.on_success r.on_success;
  on_failure = script_fits uid (value_of (codes "_onFailure") attributes) guards.on_failure r.on_failure;
  post = script_fits uid (value_of (codes "_post") attributes) guards.post r.post;
  on_halted = script_fits uid (value_of (codes "_onHalted") attributes) guards.on_halted r.on_halted;
}

-- ---- The texts of scripts

text_read : (uid : ℕ) (text : List ℕ) (o : Option Script) (r : Result Script ScriptFault) → value_stands text ≡ true → script_in text ≡ r → or_bad_script uid r ≡ Ok o → script_stands o ≡ true
text_read uid text o (Ok s) v e h =
    let same : text ≡ s.text = sym (script_in-reads text s e).0 in
    subst (λ (x : Option Script). script_stands x ≡ true) (same_ok (Some s) o h) (subst (λ (t : List ℕ). value_stands t ≡ true) same v)
text_read uid text o (Err f) v e h = absurd (cc)

-- a script whose text can be written
pub script_of_stands : (uid : ℕ) (text : Option (List ℕ)) (o : Option Script) → IfSome text (λ t. value_stands t ≡ true) → script_of uid text ≡ Ok o → script_stands o ≡ true
script_of_stands uid None o v h = let none : script_stands None ≡ true = refl in subst (λ (x : Option Script). script_stands x ≡ true) (same_ok None o h) none
script_of_stands uid (Some text) o v h = text_read uid text o (script_in text) v refl h

text_there : (name : List ℕ) (attributes : Attributes) (o : Option (List ℕ)) → list_all can_stand attributes ≡ true → value_of name attributes ≡ o → IfSome o (λ t. value_stands t ≡ true)
text_there name attributes None all e = tt
text_there name attributes (Some text) all e = value_there name attributes text all e

code_by : (uid : ℕ) (attributes : Attributes) (o text : Option (List ℕ)) → list_all can_stand attributes ≡ true → value_of (codes "code") attributes ≡ o → or_bad uid (option_map Some o) ≡ Ok text → IfSome text (λ t. value_stands t ≡ true)
code_by uid attributes None text all e h = absurd (cc)
code_by uid attributes (Some t) text all e h = subst (λ (x : Option (List ℕ)). IfSome x (λ t. value_stands t ≡ true)) (same_ok (Some t) text h) (value_there (codes "code") attributes t all e)

-- the text of a node's code can be written
pub code_text_stands : (uid : ℕ) (with_code : Bool) (attributes : Attributes) (text : Option (List ℕ)) → list_all can_stand attributes ≡ true → code_text uid with_code attributes ≡ Ok text → IfSome text (λ t. value_stands t ≡ true)
code_text_stands uid true attributes text all h = code_by uid attributes (value_of (codes "code") attributes) text all refl h
code_text_stands uid false attributes text all h =
    let none : IfSome None (λ (t : List ℕ). value_stands t ≡ true) = tt in subst (λ (x : Option (List ℕ)). IfSome x (λ t. value_stands t ≡ true)) (same_ok None text h) none

guard_stands : (uid : ℕ) (attributes : Attributes) (name : List ℕ) (o : Option Script) → list_all can_stand attributes ≡ true → guard_in uid attributes name ≡ Ok o → script_stands o ≡ true
guard_stands uid attributes name o all h = script_of_stands uid (value_of name attributes) o (text_there name attributes (value_of name attributes) all refl) h

-- the guards can be written
pub guards_in_stand : (uid : ℕ) (attributes : Attributes) (guards : Guards) → list_all can_stand attributes ≡ true → GuardsRead uid attributes guards → guards_stand guards ≡ true
guards_in_stand uid attributes g all r =
    both_true (guard_stands uid attributes (codes "_failureIf") g.failure_if all r.failure_if)
    (both_true (guard_stands uid attributes (codes "_successIf") g.success_if all r.success_if)
    (both_true (guard_stands uid attributes (codes "_skipIf") g.skip_if all r.skip_if)
    (both_true (guard_stands uid attributes (codes "_while") g.while_true all r.while_true)
    (both_true (guard_stands uid attributes (codes "_onSuccess") g.on_success all r.on_success)
    (both_true (guard_stands uid attributes (codes "_onFailure") g.on_failure all r.on_failure)
    (both_true (guard_stands uid attributes (codes "_post") g.post all r.post)
    (guard_stands uid attributes (codes "_onHalted") g.on_halted all r.on_halted)))))))
