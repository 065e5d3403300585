-- How `Items` holds its items, for types that hold themselves through it: in a list, as its `Vec` does.
use mathlib.Core.Path.{refl, sym}
use mathlib.Core.List.{List, []}
use mathlib.Core.Former.{Former, this, list, via, children}
use base.Stored.{code_map}
use denote.RattleType.{RattleType}
use denote.HoleLaws.{Alike}
use denote.HolePlaces.{Recodes, struct_places, laid}
use denote.Hole.Carrier.{listed, list-listed}
use denote.Hole.Fix.{over}
use denote.Param.Weighed.{Weighed, w_list}
use denote.Model.Placed.{view_places}
use mathlib.Core.Path.{◌≡◌}
use Rattle.std.specs.formers.vec.Vec as vec
use Rattle.std.specs.declared.alloc.Global.{Global}
use Rattle.std.specs.contracts.alloc.Global as global
use Rattle.std.specs.contracts.impls.GlobalAllocator.TheImpl.{ghosts}
use Rattle.base_texts.specs.declared.items.Items.TheInside.{Inside}
use Rattle.base_texts.specs.declared.items.Items.TheView.{view, invariant}
use Rattle.base_texts.specs.contracts.items.Items as outer
use Rattle.base_texts.specs.contracts.items.Items.TheInside as inner

abbrev pub the_former : Former {0} → Former {0}
the_former former = list former

abbrev pub the_weighed : {former : Former {0}} → Weighed former → Weighed (the_former former)
the_weighed weighed = w_list weighed

pub the_empty : List ⊥
the_empty = []

abbrev pub the_items : (X : Type 0) → List X → List X
the_items X held = held

pub the_items_listed : (X : Type 0) (held : List X) → listed _ (children (the_former this) X held) ≡ the_items X held
the_items_listed X held = list-listed X held

-- the one field, a `Vec`
abbrev the_field : Former {0}
the_field = via (vec.the_former this Global) Inside (λ X inside. inside.items) (λ X held. record { items = held }) (λ X inside. refl) (λ X held. refl)

module _ (R S : RattleType) (along : R.Denot → S.Denot) where
  pub the_places : Alike R S along → Alike (outer.the_row R) (outer.the_row S) ((the_former this).map R.Denot S.Denot along)
  the_places alike = view_places the_field (list this) view (λ X Y f inside. refl) (λ X inside. refl) R.Denot S.Denot along (outer.the_row R).coded (outer.the_row S).coded
      (invariant R.Denot) (invariant S.Denot) (λ u p q. refl) (λ u p q. refl) (λ u e. tt) (λ u e. tt)
      (over (inner.the_row R)) (over (inner.the_row S))
      (struct_places (inner.the_type R) (inner.the_type S) (vec.mapped along, tt) _ (λ d. refl) refl (laid _ _ _ (vec.the_places global.the_row ghosts R S along alike), tt))

  pub the_codes_placed : Recodes R S along → Recodes (outer.the_row R) (outer.the_row S) ((the_former this).map R.Denot S.Denot along)
  the_codes_placed recodes held = sym (code_map R.coded.code S.coded.code along (λ x. sym (recodes x)) held)
