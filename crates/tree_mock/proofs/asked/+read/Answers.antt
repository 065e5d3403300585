use Rattle.std.proofs.Common.{◌≡◌, ◌-◌, ◌<◌, [], ◌∷◌, length, Some, None, string_bytes, refl, sym, ap, ap₂, ◌∙◌, subst, arith, rules}
use Rattle.json.specs.Token.{Token}
use Rattle.json.specs.Json.{parse_map, after_end_array, read_key, items, members, value}
use Rattle.json.specs.Reads.{token_of}
use Rattle.json.proofs.Grammar.{value_is, value-begin_array, value-begin_object, read_key-shorter}
use Rattle.serde_json.specs.Data.{Data, Items, no_items, item, Members, no_members, null, boolean, number, string, array, object, put}
use Rattle.serde_json.specs.Read.{number_of, of_json, of_items, converted}
use Rattle.serde_json.specs.View.{view, number_view, members_view}
use Rattle.serde_json.specs.declared.value.Value.{String, Number, Bool, Null, the_lemmas}
use Rattle.serde_json.proofs.Views.{view-Object, members_view-insert_entry}
use Rattle.tree_mock.proofs.Conversions.{converted-array, converted-object, item_read, item_refused, items_over, member_read, member_refused, key_refused, members_over, numbered, unnumbered}
use Rattle.tree_mock.specs.Asked.{Agree, Shows}
use Rattle.tree_mock.proofs.Asking.{agree_none, agree_put, agree_skip, no_number, one_more, other_number, over_items, passed_on, shows_number, shows_string}
use Rattle.tree_mock.proofs.asked.+read.Goals as goal

pub pass_items-items-init : goal.pass_items-items-init
pass_items-items-init t c =
    (length c.args.reader.now, λ (ds : Items). ds, omega arith, over_items (converted of_items (items (value c.args.depth) (length c.args.reader.now) c.args.reader.now)), omega arith)

pub pass_items-returns-in_err-read-clause-fault : goal.pass_items-returns-in_err-read-clause-fault
pass_items-returns-in_err-read-clause-fault t c = λ refused.
    let p = value c.args.depth in
    let l = c.items in
    let n = l.invariant.0 in
    let going : (after_end_array l.reader ≡ None) × (c.take_end_array.new.self ≡ l.reader) = grind arith in
    l.invariant.3 ∙ ap (parse_map l.invariant.1) (item_refused p n l.reader going.0 (rw (← going.1) (c.in_err-read.ensures.fault (passed_on _ c.from_residual.result c.in_err-read.field-0.0 c.from_residual.ensures.1 (λ s same. same) refused))))

pub pass_items-items-preserved : goal.pass_items-items-preserved
pass_items-items-preserved t c =
    let p = value c.args.depth in
    let l = c.items in
    let n = l.invariant.0 in
    let before = l.invariant.1 in
    let going : (after_end_array l.reader ≡ None) × (c.take_end_array.new.self ≡ l.reader) = grind arith in
    let done = c.in_ok-read.ensures in
    let d = done.ok.0 in
    let r = c.read.new.reader in
    let less : length r < length l.reader = rw (← going.1) done.shorter in
    let turn = item_read p n l.reader r d (omega (arith, l.invariant.2)) going.0 (rw (← going.1) done.ok.1) in (
      n - 1,
      λ (ds : Items). before (item d ds),
      omega (arith, l.invariant.2),
      l.invariant.3 ∙ ap (parse_map before) turn ∙ one_more before d (converted of_items (items p (n - 1) r)),
      omega (arith, l.invariant.4),
    )

pub pass_items-returns-clause-ok : goal.pass_items-returns-clause-ok
pass_items-returns-clause-ok t c =
    let p = value c.args.depth in
    let l = c.items in
    let n = l.invariant.0 in
    let r = c.take_end_array.new.self in
    (l.invariant.1 no_items, l.invariant.3 ∙ ap (parse_map l.invariant.1) (items_over p n l.reader r l.invariant.2 (grind arith)))

pub read-returns-in_default-clause-fault : goal.read-returns-in_default-clause-fault
read-returns-in_default-clause-fault t c = λ refused.
    let empty : c.args.reader.now ≡ [] = grind arith in
    ap (converted of_json) (ap (value c.args.depth) empty ∙ value_is c.args.depth [])

pub read-returns-then-depth-eq0-clause-fault : goal.read-returns-then-depth-eq0-clause-fault
unfolding value
read-returns-then-depth-eq0-clause-fault t c = λ refused.
    let first : c.args.reader.now ≡ token_of c.in-Some.token ∷ c.next.new.self = grind arith in
    let none : c.args.depth ≡ 0 = omega arith in
    ap (converted of_json) (ap₂ value none (first ∙ ap (λ k. token_of k ∷ c.next.new.self) c.in-BeginArray.is))

pub read-returns-then-depth-eq0-2-clause-fault : goal.read-returns-then-depth-eq0-2-clause-fault
unfolding value
read-returns-then-depth-eq0-2-clause-fault t c = λ refused.
    let first : c.args.reader.now ≡ token_of c.in-Some.token ∷ c.next.new.self = grind arith in
    let none : c.args.depth ≡ 0 = omega arith in
    ap (converted of_json) (ap₂ value none (first ∙ ap (λ k. token_of k ∷ c.next.new.self) c.in-BeginObject.is))

pub read-returns-in_err-pass_items-in-BeginArray-clause-fault : goal.read-returns-in_err-pass_items-in-BeginArray-clause-fault
read-returns-in_err-pass_items-in-BeginArray-clause-fault t c = λ refused.
    let first : c.args.reader.now ≡ token_of c.in-Some.token ∷ c.next.new.self = grind arith in
    let opened = ap (converted of_json) (ap (value c.args.depth) (first ∙ ap (λ k. token_of k ∷ c.next.new.self) c.in-BeginArray.is) ∙ value-begin_array c.args.depth c.next.new.self (omega arith)) ∙ converted-array (items (value (c.args.depth - 1)) (length c.next.new.self) c.next.new.self) in
    opened ∙ ap (parse_map array) (c.in_err-pass_items-in-BeginArray.ensures.fault (passed_on _ c.from_residual-in_err-pass_items-in-BeginArray.result c.in_err-pass_items-in-BeginArray.field-0.0 c.from_residual-in_err-pass_items-in-BeginArray.ensures.1 (λ s same. same) refused))

pub read-returns-in_err-read_members-in-BeginObject-clause-fault : goal.read-returns-in_err-read_members-in-BeginObject-clause-fault
read-returns-in_err-read_members-in-BeginObject-clause-fault t c = λ refused.
    let first : c.args.reader.now ≡ token_of c.in-Some.token ∷ c.next.new.self = grind arith in
    let opened = ap (converted of_json) (ap (value c.args.depth) (first ∙ ap (λ k. token_of k ∷ c.next.new.self) c.in-BeginObject.is) ∙ value-begin_object c.args.depth c.next.new.self (omega arith)) ∙ converted-object (members (value (c.args.depth - 1)) (length c.next.new.self) c.next.new.self) in
    opened ∙ ap (parse_map object) (c.in_err-read_members-in-BeginObject.ensures.fault (passed_on _ c.from_residual-in_err-read_members-in-BeginObject.result c.in_err-read_members-in-BeginObject.field-0.0 c.from_residual-in_err-read_members-in-BeginObject.ensures.1 (λ s same. same) refused))

pub read-returns-in_ok-from_str-in-String-clause-ok : goal.read-returns-in_ok-from_str-in-String-clause-ok
read-returns-in_ok-from_str-in-String-clause-ok t c =
    let text = c.in-String.text.now in
    let first : c.args.reader.now ≡ token_of c.in-Some.token ∷ c.next.new.self = grind arith in
    let is : c.args.reader.now ≡ Token.string text ∷ c.next.new.self = grind (arith, first) in
    let seen : view (String c.in_ok-from_str-in-String.field-0) ≡ string text = search (rules, the_lemmas) in (
      string text,
      ap (converted of_json) (ap (value c.args.depth) is ∙ value_is c.args.depth _),
      subst (λ (v : Data). Shows c.args.levels v (string text)) (sym seen) (shows_string c.args.levels text),
    )

pub read-returns-in-Bool-clause-ok : goal.read-returns-in-Bool-clause-ok
read-returns-in-Bool-clause-ok t c =
    let first : c.args.reader.now ≡ token_of c.in-Some.token ∷ c.next.new.self = grind arith in
    let is : c.args.reader.now ≡ Token.boolean c.in-Bool.truth ∷ c.next.new.self = grind (arith, first) in
    let seen : view (Bool c.in-Bool.truth) ≡ boolean c.in-Bool.truth = search (rules, the_lemmas) in (
      boolean c.in-Bool.truth,
      ap (converted of_json) (ap (value c.args.depth) is ∙ value_is c.args.depth _),
      subst (λ (v : Data). Shows c.args.levels v (boolean c.in-Bool.truth)) (sym seen) ((refl, refl), tt),
    )

pub read-returns-in-Null-clause-ok : goal.read-returns-in-Null-clause-ok
read-returns-in-Null-clause-ok t c =
    let first : c.args.reader.now ≡ token_of c.in-Some.token ∷ c.next.new.self = grind arith in
    let is : c.args.reader.now ≡ Token.null ∷ c.next.new.self = grind (arith, first) in
    let seen : view Null ≡ null = search (rules, the_lemmas) in (
      null,
      ap (converted of_json) (ap (value c.args.depth) is ∙ value_is c.args.depth _),
      subst (λ (v : Data). Shows c.args.levels v null) (sym seen) ((refl, refl), tt),
    )

pub read-returns-in-Some-Some-clause-ok : goal.read-returns-in-Some-Some-clause-ok
read-returns-in-Some-Some-clause-ok t c =
    let text = c.in-Number.text.now in
    let first : c.args.reader.now ≡ token_of c.in-Some.token ∷ c.next.new.self = grind arith in
    let is : c.args.reader.now ≡ Token.number text ∷ c.next.new.self = grind (arith, first) in
    let seen : view (Number c.from.result) ≡ number (number_view c.from.result) = search (rules, the_lemmas) in
    let found = shows_number c.args.levels (number_of text) c.in-Some-Some.number (ap (λ o. Some o) (sym c.in-Some-Some.field-0-is) ∙ c.in-Some-Some.ensures) in (
      number found.0,
      ap (converted of_json) (ap (value c.args.depth) is ∙ value_is c.args.depth _) ∙ numbered text c.next.new.self found.0 found.1,
      subst (λ (v : Data). Shows c.args.levels v (number found.0)) (sym (seen ∙ ap number c.from.ensures)) found.2,
    )

pub read-returns-in-Some-None-clause-ok : goal.read-returns-in-Some-None-clause-ok
read-returns-in-Some-None-clause-ok t c =
    let text = c.in-Number.text.now in
    let first : c.args.reader.now ≡ token_of c.in-Some.token ∷ c.next.new.self = grind arith in
    let is : c.args.reader.now ≡ Token.number text ∷ c.next.new.self = grind (arith, first) in
    let seen : view Null ≡ null = search (rules, the_lemmas) in
    let found = other_number c.args.levels (number_of text) (ap (λ o. Some o) (sym c.in-Some-None.field-0-is) ∙ c.in-Some-None.ensures) in (
      number found.0,
      ap (converted of_json) (ap (value c.args.depth) is ∙ value_is c.args.depth _) ∙ numbered text c.next.new.self found.0 found.1,
      subst (λ (v : Data). Shows c.args.levels v (number found.0)) (sym seen) found.2,
    )

pub read-returns-in-None-clause-fault : goal.read-returns-in-None-clause-fault
read-returns-in-None-clause-fault t c = λ refused.
    let text = c.in-Number.text.now in
    let first : c.args.reader.now ≡ token_of c.in-Some.token ∷ c.next.new.self = grind arith in
    let is : c.args.reader.now ≡ Token.number text ∷ c.next.new.self = grind (arith, first) in
    ap (converted of_json) (ap (value c.args.depth) is ∙ value_is c.args.depth _) ∙ unnumbered text c.next.new.self (no_number (number_of text) c.in-None.ensures)

pub read-returns-in-EndObject-clause-fault : goal.read-returns-in-EndObject-clause-fault
read-returns-in-EndObject-clause-fault t c = λ refused.
    let first : c.args.reader.now ≡ token_of c.in-Some.token ∷ c.next.new.self = grind arith in
    let none : value c.args.depth c.args.reader.now ≡ None = rw (value_is c.args.depth c.args.reader.now, first) (grind arith) in
    ap (converted of_json) none

pub read-returns-in_ok-pass_items-in-BeginArray-clause-ok : goal.read-returns-in_ok-pass_items-in-BeginArray-clause-ok
read-returns-in_ok-pass_items-in-BeginArray-clause-ok t c =
    let first : c.args.reader.now ≡ token_of c.in-Some.token ∷ c.next.new.self = grind arith in
    let opened = ap (converted of_json) (ap (value c.args.depth) (first ∙ ap (λ k. token_of k ∷ c.next.new.self) c.in-BeginArray.is) ∙ value-begin_array c.args.depth c.next.new.self (omega arith)) ∙ converted-array (items (value (c.args.depth - 1)) (length c.next.new.self) c.next.new.self) in
    let passed = c.in_ok-pass_items-in-BeginArray.ensures.ok in
    let seen : view Null ≡ null = search (rules, the_lemmas) in (
      array passed.0,
      opened ∙ ap (parse_map array) passed.1,
      subst (λ (v : Data). Shows c.args.levels v (array passed.0)) (sym seen) ((refl, refl), tt),
    )

pub read-returns-in_ok-read_members-in-BeginObject-clause-ok : goal.read-returns-in_ok-read_members-in-BeginObject-clause-ok
read-returns-in_ok-read_members-in-BeginObject-clause-ok t c =
    let first : c.args.reader.now ≡ token_of c.in-Some.token ∷ c.next.new.self = grind arith in
    let opened = ap (converted of_json) (ap (value c.args.depth) (first ∙ ap (λ k. token_of k ∷ c.next.new.self) c.in-BeginObject.is) ∙ value-begin_object c.args.depth c.next.new.self (omega arith)) ∙ converted-object (members (value (c.args.depth - 1)) (length c.next.new.self) c.next.new.self) in
    let found = c.in_ok-read_members-in-BeginObject in (
      object found.ensures.ok.0,
      opened ∙ ap (parse_map object) found.ensures.ok.1,
      subst (λ (v : Data). Shows c.args.levels v (object found.ensures.ok.0)) (sym (view-Object found.field-0)) ((refl, refl), found.ensures.ok.2),
    )

pub read_members-members-init : goal.read_members-members-init
read_members-members-init t c =
    (length c.args.reader.now, no_members, omega arith, refl, omega arith, subst (λ es. Agree c.args.levels (members_view es) no_members) (sym c.new-found.ensures.empty) (agree_none c.args.levels))

pub read_members-returns-in_default-clause-fault : goal.read_members-returns-in_default-clause-fault
read_members-returns-in_default-clause-fault t c = λ refused.
    let l = c.members in
    l.invariant.3 ∙ key_refused (value c.args.depth) l.invariant.1 l.invariant.0 l.reader c.in_default.ensures.value

pub read_members-returns-in_default-key-clause-ok : goal.read_members-returns-in_default-key-clause-ok
read_members-returns-in_default-key-clause-ok t c =
    let l = c.members in
    (l.invariant.1, l.invariant.3 ∙ members_over (value c.args.depth) l.invariant.1 l.invariant.0 l.reader c.next_key.new.self l.invariant.2 (grind arith), l.invariant.5)

pub read_members-returns-in_err-member-clause-fault : goal.read_members-returns-in_err-member-clause-fault
read_members-returns-in_err-member-clause-fault t c = λ refused.
    let p = value c.args.depth in
    let l = c.members in
    let k = c.in-Some.name.now in
    let s = c.next_key.new.self in
    let named : read_key l.reader ≡ Some (Some k, s) = grind arith in
    l.invariant.3
    ∙ member_refused p l.invariant.1 l.invariant.0 k l.reader s named
    (c.in_err-member.ensures.fault (passed_on _ c.from_residual.result c.in_err-member.field-0.0 c.from_residual.ensures.1 (λ x same. same) refused))

pub read_members-members-preserved-then-is_asked : goal.read_members-members-preserved-then-is_asked
read_members-members-preserved-then-is_asked t c =
    let p = value c.args.depth in
    let l = c.members in
    let n = l.invariant.0 in
    let old = l.invariant.1 in
    let k = c.in-Some.name.now in
    let s = c.next_key.new.self in
    let named : read_key l.reader ≡ Some (Some k, s) = grind arith in
    let done = c.in_ok-member.ensures in
    let v = view c.in_ok-member.member in
    let d = done.ok.0 in
    let r = c.read.new.reader in
    let less = read_key-shorter l.reader (Some k) s named in
    let lesser = done.shorter in
    let copied : string_bytes c.in_ok-key.key ≡ k = search rules in
    let inserted : members_view c.insert.new.self.entries ≡ put k v (members_view l.found.entries) =
    ap members_view c.in_ok-insert.ensures.entries ∙ members_view-insert_entry l.found.entries c.in_ok-key.key c.in_ok-member.member ∙ ap (λ name. put name v (members_view l.found.entries)) copied in (
      n - 1,
      put k d old,
      omega (arith, l.invariant.2),
      l.invariant.3 ∙ member_read p old n k l.reader s r d (omega (arith, l.invariant.2)) named done.ok.1,
      omega (arith, l.invariant.4),
      subst (λ (vs : Members). Agree c.args.levels vs (put k d old)) (sym inserted)
          (agree_put c.args.levels c.saturating_sub.result k v d (members_view l.found.entries) old c.saturating_sub.ensures (sym c.is_asked.ensures ∙ c.if-is_asked.true) done.ok.2 l.invariant.5),
    )

pub read_members-members-preserved : goal.read_members-members-preserved
read_members-members-preserved t c =
    let p = value c.args.depth in
    let l = c.members in
    let n = l.invariant.0 in
    let old = l.invariant.1 in
    let k = c.in-Some.name.now in
    let s = c.next_key.new.self in
    let named : read_key l.reader ≡ Some (Some k, s) = grind arith in
    let done = c.in_ok-member.ensures in
    let d = done.ok.0 in
    let r = c.read.new.reader in
    let less = read_key-shorter l.reader (Some k) s named in
    let lesser = done.shorter in (
      n - 1,
      put k d old,
      omega (arith, l.invariant.2),
      l.invariant.3 ∙ member_read p old n k l.reader s r d (omega (arith, l.invariant.2)) named done.ok.1,
      omega (arith, l.invariant.4),
      agree_skip c.args.levels k d (members_view l.found.entries) old (sym c.is_asked.ensures ∙ c.if-is_asked.false) l.invariant.5,
    )
