-- The models of a file whose elements can be written can be written.
use Rattle.std.proofs.Common.{◌≡◌, ℕ, Bool, true, false, List, [], ◌∷◌, ◌++◌, codes, Option, Some, None, Result, Ok, Err, refl, ap, ◌∙◌, subst}
use Rattle.std.specs.Prelude.{bytes_eq, is_some, ◌||◌, if◌then◌else◌}
use Rattle.std.proofs.lemmas.List.{map-append}
use Rattle.std.specs.Cmp.Derive.{both_true}
use Rattle.std.specs.List.{list_all, AllByRecursion}
use Rattle.std.specs.Str.{is_utf8}
use Rattle.spec_script.proofs.Bools.{both}
use Rattle.spec_script.specs.Texts.{is_name, is_not_zero, value_stands}
use Rattle.spec_tree_file.specs.declared.element.Element.{Element}
use Rattle.tree_elements.specs.Written as element
use Rattle.spec_tree.specs.BuiltIns.{kind_named}
use Rattle.spec_tree.specs.Names.{is_among}
use Rattle.spec_tree.specs.Trees.{all_differ}
use Rattle.spec_tree.specs.Values.{is_port_name}
use Rattle.spec_tree_file.specs.declared.manifest_fault.ManifestFault.{ManifestFault}
use Rattle.spec_tree_file.specs.declared.manifest_fault.ManifestFault.TheVariants.{DoubleModel, BadModel}
use Rattle.spec_tree_file.specs.declared.models.ModelPort.{ModelPort}
use Rattle.spec_tree_file.specs.declared.models.NodeModel.{NodeModel}
use Rattle.spec_tree_file.specs.Attributes.{value_of}
use Rattle.spec_tree_file.specs.Models.{Models, Ports, attributes_of, can_be_written, children_of, has_model, holds_models, is_model, is_port, manifest_in, models_in, name_of, no_ports, no_second, place_of, with_child, with_children, with_model, with_model_of, with_models, with_port, with_port_named, with_ports}
use Rattle.spec_tree_file.specs.ReadSteps.{go_on}
use Rattle.tree_build.proofs.ElementTexts.{element_stands, value_there}
use Rattle.tree_build.proofs.PortFits.{all_pushed}
use Rattle.tree_build.proofs.PortTexts.{differ_pushed, among_pushed, fallback_stands, model_names, model_port_stands, model_stands, neither}
use Rattle.tree_build.proofs.Sizes.{went}

same : {X : Type 0} (x y : X) → ◌≡◌ {A = Result X ManifestFault} (Ok x) (Ok y) → x ≡ y
same x y h = cc

abbrev pub stands : List Element → Bool
stands es = list_all element.can_be_written es

-- ---- The ports of a model

-- the ports can be written, and their names are among all names
record Standing (p : Ports) : Type 0 where
  stand : list_all model_port_stands p.ports ≡ true
  apart : all_differ (model_names p.ports) ≡ true
  named : (name : List ℕ) → is_among name p.names ≡ false → is_among name (model_names p.ports) ≡ false

or_gone : (other : List ℕ) (names : List (List ℕ)) (name : List ℕ) → is_among other (names ++ name ∷ []) ≡ false → (is_among other names ≡ false) × (bytes_eq other name ≡ false)
or_gone other [] name h = (refl, (neither (bytes_eq other name) false h).0)
or_gone other (n ∷ names) name h =
    let t = neither (bytes_eq other n) (is_among other (names ++ name ∷ [])) h in
    let u = or_gone other names name t.1 in
    (ap (λ (b : Bool). b || is_among other names) t.0 ∙ u.0, u.1)

written_stands : (p : Ports) (name : List ℕ) (fallback : Option (List ℕ)) (b : Bool) → can_be_written name ≡ b → Standing p → is_among name p.names ≡ false → value_stands name ≡ true → fallback_stands fallback ≡ true →
    Standing (record { ports = if b then p.ports ++ (record { name = name; fallback = fallback }) ∷ [] else p.ports; names = p.names ++ name ∷ [] })
written_stands p name fallback true e s new v f =
    let t = both (is_port_name name) (is_name name) e in
    let u = both (list_all is_not_zero name) (is_utf8 name) v in
    let port : ModelPort = record { name = name; fallback = fallback } in
    let names = map-append (λ (x : ModelPort). x.name) p.ports (port ∷ []) in
    record {
      stand = all_pushed model_port_stands p.ports port s.stand (both_true t.0 (both_true (both_true t.1 u.1) f));
      apart = ap all_differ names ∙ differ_pushed (model_names p.ports) name s.apart (s.named name new);
      named = λ other h. let g = or_gone other p.names name h in ap (is_among other) names ∙ among_pushed other (model_names p.ports) name (s.named other g.0) g.1;
    }
written_stands p name fallback false e s new v f = record { stand = s.stand; apart = s.apart; named = λ other h. s.named other (or_gone other p.names name h).0 }

fallback_there : (e : Element) (o : Option (List ℕ)) → list_all element.can_stand (attributes_of e) ≡ true → value_of (codes "default") (attributes_of e) ≡ o → fallback_stands o ≡ true
fallback_there e None all h = refl
fallback_there e (Some text) all h = value_there (codes "default") (attributes_of e) text all h

named_by : (p q : Ports) (e : Element) (name : List ℕ) (b : Bool) → is_among name p.names ≡ b → Standing p → list_all element.can_stand (attributes_of e) ≡ true → value_stands name ≡ true →
    (if b then Err (BadModel (place_of e)) else Ok (with_port p name (value_of (codes "default") (attributes_of e)))) ≡ Ok q → Standing q
named_by p q e name true n s all v h = absurd (cc)
named_by p q e name false n s all v h =
    let fallback = value_of (codes "default") (attributes_of e) in
    subst Standing (same (with_port p name fallback) q h) (written_stands p name fallback (can_be_written name) refl s n v (fallback_there e fallback all refl))

port_by : (p q : Ports) (e : Element) (o : Option (List ℕ)) → value_of (codes "name") (attributes_of e) ≡ o → Standing p → list_all element.can_stand (attributes_of e) ≡ true → with_port_named p e o ≡ Ok q → Standing q
port_by p q e None n s all h = absurd (cc)
port_by p q e (Some name) n s all h = named_by p q e name (is_among name p.names) refl s all (value_there (codes "name") (attributes_of e) name all n) h

child_by : (p q : Ports) (e : Element) (b : Bool) → Standing p → element.can_be_written e ≡ true → (if b then with_port_named p e (value_of (codes "name") (attributes_of e)) else Ok p) ≡ Ok q → Standing q
child_by p q e true s c h = port_by p q e (value_of (codes "name") (attributes_of e)) refl s (element_stands e c).attributes h
child_by p q e false s c h = subst Standing (same p q h) s

children_stand : (p q : Ports) (es : List Element) → Standing p → stands es ≡ true → with_children p es ≡ Ok q → Standing q
children_stand p q [] s all h = subst Standing (same p q h) s
children_stand p q (e ∷ es) s all h =
    let t = both (element.can_be_written e) (stands es) all in
    let w = went (λ (next : Ports). with_children next es) (with_child p e) q h in
    children_stand w.0 q es (child_by p w.0 e (is_port (name_of e)) s t.0 w.1) t.1 w.2

-- ---- The models

-- all models can be written
abbrev pub ModelsStand : Models → Type 0
ModelsStand models = AllByRecursion (λ m. model_stands m.1.ports ≡ true) models

one_more : (models : Models) (id : List ℕ) (model : NodeModel) → ModelsStand models → model_stands model.ports ≡ true → ModelsStand (models ++ (id, model) ∷ [])
one_more [] id model all h = (h, tt)
one_more (m ∷ models) id model all h = (all.0, one_more models id model all.1 h)

read_over : (models new : Models) → ModelsStand models → ◌≡◌ {A = Result Models ManifestFault} (Ok models) (Ok new) → ModelsStand new
read_over models new all h = subst ModelsStand (same models new h) all

new_by : (models new : Models) (e : Element) (id : List ℕ) (b : Bool) → ModelsStand models → stands (children_of e) ≡ true →
    (if b then Err (DoubleModel (place_of e)) else go_on (λ p. Ok (with_ports models id p)) (with_children no_ports (children_of e))) ≡ Ok new → ModelsStand new
new_by models new e id true all c h = absurd (cc)
new_by models new e id false all c h =
    let first : Standing no_ports = record { stand = refl; apart = refl; named = λ name k. refl } in
    let w = went (λ (p : Ports). Ok (with_ports models id p)) (with_children no_ports (children_of e)) new h in
    let s = children_stand no_ports w.0 (children_of e) first c w.1 in
    subst ModelsStand (same (with_ports models id w.0) new w.2) (one_more models id (record { id = id; ports = w.0.ports }) all (both_true s.stand s.apart))

id_by : (models new : Models) (e : Element) (id : List ℕ) (b : Bool) → ModelsStand models → stands (children_of e) ≡ true →
    (if b then Ok models else if has_model models id then Err (DoubleModel (place_of e)) else go_on (λ p. Ok (with_ports models id p)) (with_children no_ports (children_of e))) ≡ Ok new → ModelsStand new
id_by models new e id true all c h = read_over models new all h
id_by models new e id false all c h = new_by models new e id (has_model models id) all c h

model_of_by : (models new : Models) (e : Element) (o : Option (List ℕ)) → ModelsStand models → stands (children_of e) ≡ true → with_model_of models e o ≡ Ok new → ModelsStand new
model_of_by models new e None all c h = absurd (cc)
model_of_by models new e (Some id) all c h = id_by models new e id (is_some (kind_named id)) all c h

model_by : (models new : Models) (e : Element) (b : Bool) → ModelsStand models → element.can_be_written e ≡ true → (if b then with_model_of models e (value_of (codes "ID") (attributes_of e)) else Ok models) ≡ Ok new → ModelsStand new
model_by models new e true all c h = model_of_by models new e (value_of (codes "ID") (attributes_of e)) all (element_stands e c).children h
model_by models new e false all c h = read_over models new all h

models_stand : (models new : Models) (es : List Element) → ModelsStand models → stands es ≡ true → with_models models es ≡ Ok new → ModelsStand new
models_stand models new [] all c h = read_over models new all h
models_stand models new (e ∷ es) all c h =
    let t = both (element.can_be_written e) (stands es) c in
    let w = went (λ (next : Models). with_models next es) (with_model models e) new h in
    models_stand w.0 new es (model_by models w.0 e (is_model (name_of e)) all t.0 w.1) t.1 w.2

-- ---- The file

second_by : (models new : Models) (e : Element) (es : List Element) (b : Bool) → (no_second models es ≡ Ok new → models ≡ new) → (if b then Err (DoubleModel (place_of e)) else no_second models es) ≡ Ok new → models ≡ new
second_by models new e es true rest h = absurd (cc)
second_by models new e es false rest h = rest h

second_same : (models new : Models) (es : List Element) → no_second models es ≡ Ok new → models ≡ new
second_same models new [] h = same models new h
second_same models new (e ∷ es) h = second_by models new e es (holds_models (name_of e)) (second_same models new es) h

in_by : (new : Models) (e : Element) (es : List Element) (b : Bool) → element.can_be_written e ≡ true → (models_in es ≡ Ok new → ModelsStand new) →
    (if b then go_on (λ models. no_second models es) (with_models [] (children_of e)) else models_in es) ≡ Ok new → ModelsStand new
in_by new e es true c rest h =
    let w = went (λ (models : Models). no_second models es) (with_models [] (children_of e)) new h in
    subst ModelsStand (second_same w.0 new es w.2) (models_stand [] w.0 (children_of e) tt (element_stands e c).children w.1)
in_by new e es false c rest h = rest h

in_stands : (new : Models) (es : List Element) → stands es ≡ true → models_in es ≡ Ok new → ModelsStand new
in_stands new [] c h = let none : ModelsStand [] = tt in subst ModelsStand (same [] new h) none
in_stands new (e ∷ es) c h =
    let t = both (element.can_be_written e) (stands es) c in in_by new e es (holds_models (name_of e)) t.0 (in_stands new es t.1) h

-- the models of a file
pub manifest_stands : (root : Element) (models : Models) → element.can_be_written root ≡ true → manifest_in root ≡ Ok models → ModelsStand models
manifest_stands root models c h = in_stands models (children_of root) (element_stands root c).children h
