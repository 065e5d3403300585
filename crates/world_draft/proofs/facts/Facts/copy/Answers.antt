use Rattle.std.proofs.Common.{◌≡◌, ℕ, List, [], ◌∷◌, ◌++◌, Vec, ap, sym, ◌∙◌, append_assoc, append-nil}
use Rattle.std.specs.Prelude.{bytes_eq}
use Rattle.std.specs.Global.{Global}
use Rattle.std.specs.List.{list_any}
use Rattle.std.specs.Map.{values_of}
use Rattle.std.specs.Map.Iter.{deref_pair}
use Rattle.std.proofs.lemmas.Map.Iter.{rest_all, rest_more}
use Rattle.indexmap.specs.IndexMap.{values}
use Rattle.spec_world.specs.declared.world.Fact.{Fact}
use Rattle.spec_world.specs.Worlds.{names_of_facts}
use Rattle.world_draft.proofs.Copied.{next_has_room, next_is_new}
use Rattle.world_draft.proofs.facts.Facts.copy.Goals as goal

abbrev Entry : Type 0
Entry = Vec ℕ Global × Fact

pub add-requires-clause-free : goal.add-requires-clause-free
add-requires-clause-free c =
    let rest : c.loop-fact.fact-iterator ≡ (c.in-Some.field-0-0.now, c.in-Some.fact.now) ∷ c.next.new.self =
    rest_more deref_pair c.loop-fact.fact-iterator c.next.new.self c.next.result (c.in-Some.field-0-0, c.in-Some.fact) c.in-Some.is c.next.ensures.steps in
    let all : c.loop-fact.facts ++ c.in-Some.fact.now ∷ values_of c.next.new.self ≡ values c.self.inside.map =
    ap (λ (es : List Entry). c.loop-fact.facts ++ values_of es) (sym rest) ∙ c.loop-fact.invariant ∙ sym c.self.view_is in
    ap (λ (f : Fact). list_any (bytes_eq f.name) (names_of_facts c.loop-fact.facts)) c.in_ok-copied.ensures
    ∙ next_is_new c.self.inside.map c.self.invariant c.loop-fact.facts (values_of c.next.new.self) c.in-Some.fact.now all c.iter-fact-items.ensures.unique

pub add-requires-clause-room : goal.add-requires-clause-room
add-requires-clause-room c =
    let rest : c.loop-fact.fact-iterator ≡ (c.in-Some.field-0-0.now, c.in-Some.fact.now) ∷ c.next.new.self =
    rest_more deref_pair c.loop-fact.fact-iterator c.next.new.self c.next.result (c.in-Some.field-0-0, c.in-Some.fact) c.in-Some.is c.next.ensures.steps in
    let all : c.loop-fact.facts ++ c.in-Some.fact.now ∷ values_of c.next.new.self ≡ values c.self.inside.map =
    ap (λ (es : List Entry). c.loop-fact.facts ++ values_of es) (sym rest) ∙ c.loop-fact.invariant ∙ sym c.self.view_is in
    next_has_room c.self.inside.map c.self.invariant c.loop-fact.facts (values_of c.next.new.self) c.in-Some.fact.now all

pub loop-fact-init : goal.loop-fact-init
loop-fact-init c =
    ap (λ (fs : List Fact). fs ++ values_of c.into_iter-fact-iterator.result) c.new-facts.ensures
    ∙ ap (λ (es : List Entry). values_of es) (c.into_iter-fact-iterator.ensures.into_iter_gives ∙ c.iter-fact-items.ensures.rest) ∙ c.self.view_is

pub loop-fact-preserved : goal.loop-fact-preserved
loop-fact-preserved c =
    let rest : c.loop-fact.fact-iterator ≡ (c.in-Some.field-0-0.now, c.in-Some.fact.now) ∷ c.next.new.self =
    rest_more deref_pair c.loop-fact.fact-iterator c.next.new.self c.next.result (c.in-Some.field-0-0, c.in-Some.fact) c.in-Some.is c.next.ensures.steps in
    ap (λ (fs : List Fact). fs ++ values_of c.next.new.self) (c.in_ok-add.ensures ∙ ap (λ (f : Fact). c.loop-fact.facts ++ f ∷ []) c.in_ok-copied.ensures)
    ∙ append_assoc c.loop-fact.facts (c.in-Some.fact.now ∷ []) (values_of c.next.new.self)
    ∙ ap (λ (es : List Entry). c.loop-fact.facts ++ values_of es) (sym rest) ∙ c.loop-fact.invariant

pub returns : goal.returns
returns c =
    let none = rest_all deref_pair c.loop-fact.fact-iterator c.next.new.self c.next.result c.in-None.is c.next.ensures.steps in
    sym (append-nil c.loop-fact.facts) ∙ ap (λ (es : List Entry). c.loop-fact.facts ++ values_of es) (sym none) ∙ c.loop-fact.invariant
