-- The order of the members of a JSON value.
use Rattle.std.specs.Prelude.{◌≡◌, ℕ, List}
use Rattle.std.specs.Cmp.Lexicographic.{slice_cmp}
use Rattle.std.specs.Ordering.{nat_cmp}
use Rattle.std.specs.declared.cmp.Ordering.TheVariants.{Less}
use Rattle.serde_json.specs.Data.{Data, null, boolean, number, string, array, object, Items, no_items, item, Members, no_members, member}

-- a name comes before that of the first of some members, by its bytes
abbrev pub IsBefore : List ℕ → Members → Type 0
IsBefore name no_members = Unit {0}
IsBefore name (member other d others) = slice_cmp nat_cmp name other ≡ Less

-- the members of each object in a value stand by the bytes of their names, and no name stands twice
abbrev mutual
  pub InOrder : Data → Type 0
  InOrder null = Unit {0}
  InOrder (boolean b) = Unit {0}
  InOrder (number n) = Unit {0}
  InOrder (string s) = Unit {0}
  InOrder (array items) = EachInOrder items
  InOrder (object members) = AllInOrder members

  pub EachInOrder : Items → Type 0
  EachInOrder no_items = Unit {0}
  EachInOrder (item d items) = InOrder d × EachInOrder items

  pub AllInOrder : Members → Type 0
  AllInOrder no_members = Unit {0}
  AllInOrder (member name d others) = IsBefore name others × InOrder d × AllInOrder others
