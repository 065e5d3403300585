-- What is read of a JSON text has the members of its objects in order.
use Rattle.std.proofs.Common.{◌≡◌, ℕ, List, Bool, true, false, Option, Some, None, option_map, option_and_then, Ordering, Less, Equal, Greater, nat_cmp, refl, ap, ◌∙◌, subst}
use Rattle.std.proofs.lemmas.Cmp.{nat_list_cmp_total}
use Rattle.std.specs.Cmp.Lexicographic.{slice_cmp}
use Rattle.std.specs.Ordering.{match_ordering, ordering_reverse}
use Rattle.std.specs.Prelude.{if◌then◌else◌}
use Rattle.std.specs.Str.{is_utf8}
use Rattle.json.specs.Json as json
use Rattle.json.specs.Lex.{tokens}
use Rattle.serde_json.specs.Data.{Num, Data, null, boolean, number, string, array, object, Items, no_items, item, Members, no_members, member, put}
use Rattle.serde_json.specs.Read.{max_depth, number_of, of_items, of_json, of_members, read}
use Rattle.tree_mock.specs.Orders.{AllInOrder, EachInOrder, InOrder, IsBefore}
use Rattle.spec_tree_file.specs.RuleFiles.{json_of}

-- ---- A member put among others

still_before : (o : Ordering) (name k l : List ℕ) (d e : Data) (among rest : Members) → slice_cmp nat_cmp name k ≡ Less → slice_cmp nat_cmp name l ≡ Less
    → IsBefore name (match_ordering o (member k d (member l e among)) (member l d among) (member l e rest))
still_before Less name k l d e among rest new old = new
still_before Equal name k l d e among rest new old = old
still_before Greater name k l d e among rest new old = old

before_put : (name k : List ℕ) (d : Data) (among : Members) → slice_cmp nat_cmp name k ≡ Less → IsBefore name among → IsBefore name (put k d among)
before_put name k d no_members new old = new
before_put name k d (member l e among) new old = still_before (slice_cmp nat_cmp k l) name k l d e among (put k d among) new old

put_by : (o : Ordering) (k l : List ℕ) (d e : Data) (among : Members) → slice_cmp nat_cmp k l ≡ o → InOrder d → AllInOrder (member l e among) → AllInOrder (put k d among)
    → AllInOrder (match_ordering o (member k d (member l e among)) (member l d among) (member l e (put k d among)))
put_by Less k l d e among is new old rest = (is, new, old)
put_by Equal k l d e among is new old rest = (old.0, new, old.2)
put_by Greater k l d e among is new old rest =
    (before_put l k d among (nat_list_cmp_total.antisymm l k ∙ ap ordering_reverse is) old.0, old.1, rest)

put_in_order : (k : List ℕ) (d : Data) (among : Members) → InOrder d → AllInOrder among → AllInOrder (put k d among)
put_in_order k d no_members new old = (tt, new, tt)
put_in_order k d (member l e among) new old = put_by (slice_cmp nat_cmp k l) k l d e among refl new old (put_in_order k d among new old.2)

-- ---- What is read

same : {A : Type 0} (x y : A) → Some x ≡ Some y → x ≡ y
same x y h = cc

number_by : (o : Option Num) (d : Data) → option_map number o ≡ Some d → InOrder d
number_by None d h = absurd (cc)
number_by (Some n) d h = subst InOrder (same (number n) d h) tt

array_by : (o : Option Items) (d : Data) → ((items : Items) → o ≡ Some items → EachInOrder items) → option_map array o ≡ Some d → InOrder d
array_by None d each h = absurd (cc)
array_by (Some items) d each h = subst InOrder (same (array items) d h) (each items refl)

object_by : (o : Option Members) (d : Data) → ((among : Members) → o ≡ Some among → AllInOrder among) → option_map object o ≡ Some d → InOrder d
object_by None d all h = absurd (cc)
object_by (Some among) d all h = subst InOrder (same (object among) d h) (all among refl)

item_by : (o : Option Data) (others : Option Items) (items : Items) → ((d : Data) → o ≡ Some d → InOrder d) → ((more : Items) → others ≡ Some more → EachInOrder more)
    → option_and_then (λ d. option_map (item d) others) o ≡ Some items → EachInOrder items
item_by None others items first more h = absurd (cc)
item_by (Some d) None items first more h = absurd (cc)
item_by (Some d) (Some others) items first more h = subst EachInOrder (same (item d others) items h) (first d refl, more others refl)

member_by : (next : Data → Option Members) (o : Option Data) (among : Members) → ((d : Data) → o ≡ Some d → InOrder d)
    → ((d : Data) → InOrder d → next d ≡ Some among → AllInOrder among) → option_and_then next o ≡ Some among → AllInOrder among
member_by next None among first more h = absurd (cc)
member_by next (Some d) among first more h = more d (first d refl) h

mutual
  data_in_order : (j : json.Json) (d : Data) → of_json j ≡ Some d → InOrder d
  data_in_order json.null d h = subst InOrder (same null d h) tt
  data_in_order (json.boolean b) d h = subst InOrder (same (boolean b) d h) tt
  data_in_order (json.number s) d h = number_by (number_of s) d h
  data_in_order (json.string s) d h = subst InOrder (same (string s) d h) tt
  data_in_order (json.array js) d h = array_by (of_items js) d (λ items e. items_in_order js items e) h
  data_in_order (json.object ms) d h = object_by (of_members ms no_members) d (λ among e. members_in_order ms no_members among tt e) h

  items_in_order : (js : json.Items) (items : Items) → of_items js ≡ Some items → EachInOrder items
  items_in_order json.no_items items h = subst EachInOrder (same no_items items h) tt
  items_in_order (json.item j js) items h = item_by (of_json j) (of_items js) items (λ d e. data_in_order j d e) (λ more e. items_in_order js more e) h

  members_in_order : (ms : json.Members) (found among : Members) → AllInOrder found → of_members ms found ≡ Some among → AllInOrder among
  members_in_order json.no_members found among all h = subst AllInOrder (same found among h) all
  members_in_order (json.member k j ms) found among all h =
      member_by (λ d. of_members ms (put k d found)) (of_json j) among (λ d e. data_in_order j d e)
      (λ d new e. members_in_order ms (put k d found) among (put_in_order k d found new all) e) h

read_by : (o : Option json.Json) (d : Data) → option_and_then of_json o ≡ Some d → InOrder d
read_by None d h = absurd (cc)
read_by (Some j) d h = data_in_order j d h

text_by : (b : Bool) (bytes : List ℕ) (d : Data) → (if b then read bytes else None) ≡ Some d → InOrder d
text_by true bytes d h = read_by (option_and_then (λ p. json.if_last p.0 p.1) (json.value max_depth (tokens bytes))) d h
text_by false bytes d h = absurd (cc)

pub json_in_order : (bytes : List ℕ) (d : Data) → json_of bytes ≡ Some d → InOrder d
json_in_order bytes d h = text_by (is_utf8 bytes) bytes d h
