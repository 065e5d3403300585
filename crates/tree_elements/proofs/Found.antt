-- What was read stood there as a mark that is written.
use Rattle.std.proofs.Common.{◌≡◌, ℕ, zero, suc, ◌<◌, ◌≤◌, Bool, true, false, not, ◌==◌, List, [], ◌∷◌, ◌++◌, length, take, drop, Option, Some, None, refl, ap, sym, ◌∙◌, subst, append_assoc, arith, if◌then◌else◌}
use Rattle.std.proofs.lemmas.List.{take-append-drop, length-append, length-drop}
use Rattle.std.proofs.lemmas.Bool.Decides.{nat_tests}
use Rattle.std.specs.List.{prefix_len, list_all, flat_map, AllByRecursion}
use Rattle.std.specs.Option.{option_map}
use Rattle.spec_script.specs.Identifiers.{is_white}
use Rattle.spec_script.proofs.Bools.{both}
use Rattle.tree_elements.specs.declared.mark.Front.{Front}
use Rattle.tree_elements.specs.declared.mark.Mark.{Mark}
use Rattle.tree_elements.specs.declared.mark.Mark.TheVariants as read
use Rattle.spec_tree_file.specs.References.{decoded}
use Rattle.spec_tree_file.specs.Marks as written
use Rattle.spec_tree_file.specs.Marks.{is_name, is_name_first, is_name_rest, is_quote, is_value_byte, Attribute, attribute_written, Opening, opening_written, Start, Empty, End, Instruction, Comment, instruction_end, comment_end, mark_written, pairs_of, IsAttribute, IsOpening, IsMark}
use Rattle.tree_elements.specs.Reading.{◌>>=◌, after_white, begins, following, name_of, value_after, value_of, attribute_of, attribute_begins, attributes_of, front_of, closing, opening_of, end_of, aside_of, following_first, comment_of, mark_of}
use Rattle.tree_elements.proofs.Prefixes.{some_inj, bind_some, map_some, if_some, eq_from_test, taken, take_one_more, name_taken}
use Rattle.tree_elements.proofs.Asides.{body_found}
use Rattle.tree_elements.proofs.Marks.{front_said, said, from_name, attribute_spread, opening_spread}

name_found : (bytes : List ℕ) (r : List ℕ × List ℕ) → name_of bytes ≡ Some r → (is_name r.0 ≡ true) × (bytes ≡ r.0 ++ r.1)
name_found bytes r h =
    let n = prefix_len is_name_rest bytes in
    let t = if_some (begins is_name_first bytes) (Some (take n bytes, drop n bytes)) r h in
    let e : (take n bytes, drop n bytes) ≡ r = some_inj (take n bytes, drop n bytes) r t.1 in
    (subst (λ (z : List ℕ × List ℕ). is_name z.0 ≡ true) e (name_taken bytes t.0), sym (take-append-drop n bytes) ∙ ap (λ (z : List ℕ × List ℕ). z.0 ++ z.1) e)

after_found : (c : ℕ) (bytes rest : List ℕ) → following c bytes ≡ Some rest → bytes ≡ c ∷ rest
after_found c [] rest h = absurd (cc)
after_found c (b ∷ bs) rest h =
    let t = if_some (b == c) (Some bs) rest h in
    let e : b ≡ c = eq_from_test b c t.0 in
    let e2 : bs ≡ rest = some_inj bs rest t.1 in
    cc

-- a value as it was written
record ValueFound (bytes : List ℕ) (r : List ℕ × List ℕ) : Type 0 where
  quote : ℕ
  value : List ℕ
  quoted : is_quote quote ≡ true
  in_form : list_all (is_value_byte quote) value ≡ true
  says : decoded value ≡ r.0
  is : bytes ≡ quote ∷ (value ++ (quote ∷ r.1))

value_found : (bytes : List ℕ) (r : List ℕ × List ℕ) → value_of bytes ≡ Some r → ValueFound bytes r
value_found [] r h = absurd (cc)
value_found (c ∷ cs) r h =
    let n = prefix_len (is_value_byte c) cs in
    let t = if_some (is_quote c) (value_after c cs) r h in
    let m = map_some (λ (rest : List ℕ). (decoded (take n cs), rest)) (following c (drop n cs)) r t.1 in
    let e : (decoded (take n cs), m.0) ≡ r = m.2 in
    record {
      quote = c;
      value = take n cs;
      quoted = t.0;
      in_form = taken (is_value_byte c) cs;
      says = ap (λ (z : List ℕ × List ℕ). z.0) e;
      is = ap (λ (z : List ℕ). c ∷ z)
          (sym (take-append-drop n cs) ∙ ap (λ (z : List ℕ). take n cs ++ z) (after_found c (drop n cs) m.0 m.1) ∙ ap (λ (z : List ℕ × List ℕ). take n cs ++ (c ∷ z.1)) e);
    }

-- attribute_of in steps
abbrev with_value : List ℕ × List ℕ → List ℕ × List ℕ → Option ((List ℕ × List ℕ) × List ℕ)
with_value name value = Some ((name.0, value.0), value.1)

abbrev with_equal : List ℕ × List ℕ → List ℕ → Option ((List ℕ × List ℕ) × List ℕ)
with_equal name equal = value_of (after_white equal) >>= with_value name

abbrev with_name : List ℕ × List ℕ → Option ((List ℕ × List ℕ) × List ℕ)
with_name name = following 61 (after_white name.1) >>= with_equal name

assemble : (gap bytes name n1 before w1 equal after w2 value rest : List ℕ) (quote : ℕ) →
    bytes ≡ name ++ n1 → n1 ≡ before ++ w1 → w1 ≡ 61 ∷ equal → equal ≡ after ++ w2 → w2 ≡ quote ∷ (value ++ (quote ∷ rest)) →
    gap ++ bytes ≡ gap ++ (name ++ (before ++ (61 ∷ (after ++ (quote ∷ (value ++ (quote ∷ rest)))))))
assemble gap bytes name n1 before w1 equal after w2 value rest quote e1 e2 e3 e4 e5 = cc

pub attribute_found : (gap bytes : List ℕ) (r : (List ℕ × List ℕ) × List ℕ) → list_all is_white gap ≡ true → not (length gap == 0) ≡ true → attribute_of bytes ≡ Some r →
    (a : Attribute) × IsAttribute a × ((a.name, decoded a.value) ≡ r.0) × (gap ++ bytes ≡ attribute_written a ++ r.1)
attribute_found gap bytes r w apart h =
    let name = bind_some (name_of bytes) with_name r h in
    let equal = bind_some (following 61 (after_white name.0.1)) (with_equal name.0) r name.2 in
    let value = bind_some (value_of (after_white equal.0)) (with_value name.0) r equal.2 in
    let is_r : ((name.0.0, value.0.0), value.0.1) ≡ r = some_inj ((name.0.0, value.0.0), value.0.1) r value.2 in
    let n = name_found bytes name.0 name.1 in
    let v = value_found (after_white equal.0) value.0 value.1 in
    let before = take (prefix_len is_white name.0.1) name.0.1 in
    let after = take (prefix_len is_white equal.0) equal.0 in
    let a : Attribute = record { gap = gap; name = name.0.0; before = before; after = after; quote = v.quote; value = v.value } in
    let is : IsAttribute a = record { gap = w; apart = apart; name = n.0; before = taken is_white name.0.1; after = taken is_white equal.0; quote = v.quoted; value = v.in_form } in (
      a,
      is,
      ap (λ (z : List ℕ). (name.0.0, z)) v.says ∙ ap (λ (z : (List ℕ × List ℕ) × List ℕ). z.0) is_r,
      assemble gap bytes name.0.0 name.0.1 before (after_white name.0.1) equal.0 after (after_white equal.0) v.value value.0.1 v.quote
          n.1 (sym (take-append-drop (prefix_len is_white name.0.1) name.0.1)) (after_found 61 (after_white name.0.1) equal.0 equal.1)
          (sym (take-append-drop (prefix_len is_white equal.0) equal.0)) v.is
          ∙ ap (λ (z : (List ℕ × List ℕ) × List ℕ). gap ++ from_name a z.1) is_r ∙ sym (attribute_spread a r.1),
    )

-- an attribute takes bytes
pub attribute_shrinks : (bytes : List ℕ) (r : (List ℕ × List ℕ) × List ℕ) → attribute_of bytes ≡ Some r → length r.1 < length bytes
attribute_shrinks bytes r h =
    let found = attribute_found (32 ∷ []) bytes r refl refl h in
    let a = found.0 in
    let e : 32 ∷ bytes ≡ a.gap ++ from_name a r.1 = found.3 ∙ attribute_spread a r.1 in
    let more = a.quote ∷ r.1 in
    let value = a.quote ∷ (a.value ++ more) in
    let after = 61 ∷ (a.after ++ value) in
    omega (arith, ap length e, length-append a.gap (from_name a r.1), length-append a.name (a.before ++ after), length-append a.before after, length-append a.after value, length-append a.value more)

pub white_len : (bytes : List ℕ) → length (after_white bytes) ≤ length bytes
white_len bytes = omega (arith, length-drop (prefix_len is_white bytes) bytes)

-- the steps of attributes_of
abbrev pub and_more : ℕ → (List ℕ × List ℕ) × List ℕ → Option (List (List ℕ × List ℕ) × List ℕ)
and_more k a = option_map (λ more. (a.0 ∷ more.0, more.1)) (attributes_of k a.1)

fuel_bind : (k j : ℕ) (bytes : List ℕ) → ((rest : List ℕ) → length rest ≤ k → length rest ≤ j → attributes_of k rest ≡ attributes_of j rest) → length bytes ≤ suc k → length bytes ≤ suc j →
    (o : Option ((List ℕ × List ℕ) × List ℕ)) → attribute_of (after_white bytes) ≡ o → (o >>= and_more k) ≡ (o >>= and_more j)
fuel_bind k j bytes ih hk hj None e = refl
fuel_bind k j bytes ih hk hj (Some a) e =
    let shorter : length a.1 < length (after_white bytes) = attribute_shrinks (after_white bytes) a e in
    ap (option_map (λ (more : List (List ℕ × List ℕ) × List ℕ). (a.0 ∷ more.0, more.1))) (ih a.1 (omega (arith, shorter, white_len bytes)) (omega (arith, shorter, white_len bytes)))

-- attributes_of needs no more steps than there are bytes
pub attributes_fuel : (k j : ℕ) (bytes : List ℕ) → length bytes ≤ k → length bytes ≤ j → attributes_of k bytes ≡ attributes_of j bytes
attributes_fuel zero zero bytes hk hj = refl
attributes_fuel zero (suc j) [] hk hj = refl
attributes_fuel zero (suc j) (b ∷ bs) hk hj = absurd (omega arith)
attributes_fuel (suc k) zero [] hk hj = refl
attributes_fuel (suc k) zero (b ∷ bs) hk hj = absurd (omega arith)
attributes_fuel (suc k) (suc j) bytes hk hj =
    ap (λ (z : Option (List (List ℕ × List ℕ) × List ℕ)). if attribute_begins bytes then z else Some ([], bytes))
    (fuel_bind k j bytes (attributes_fuel k j) hk hj (attribute_of (after_white bytes)) refl)

not_zero : (n : ℕ) → not (suc n == 0) ≡ true
not_zero n = grind (arith, nat_tests)

begins_taken : (p : ℕ → Bool) (bytes : List ℕ) → begins p bytes ≡ true → not (length (take (prefix_len p bytes) bytes) == 0) ≡ true
begins_taken p [] h = absurd (cc)
begins_taken p (b ∷ bs) h = rw (h, take_one_more) (not_zero (length (take (prefix_len p bs) bs)))

-- what attributes_of gives says which attributes stand there
abbrev AttributesFound : List ℕ → List (List ℕ × List ℕ) × List ℕ → Type 0
AttributesFound bytes r = (list : List Attribute) × AllByRecursion IsAttribute list × (pairs_of list ≡ r.0) × (bytes ≡ flat_map attribute_written list ++ r.1)

attributes_found_if : (k : ℕ) (bytes : List ℕ) (r : List (List ℕ × List ℕ) × List ℕ) →
    ((rest : List ℕ) (x : List (List ℕ × List ℕ) × List ℕ) → attributes_of k rest ≡ Some x → AttributesFound rest x) →
    (b : Bool) → attribute_begins bytes ≡ b → (if b then (attribute_of (after_white bytes) >>= and_more k) else Some ([], bytes)) ≡ Some r → AttributesFound bytes r
attributes_found_if k bytes r ih false e h =
    let is_r : ([], bytes) ≡ r = some_inj ([], bytes) r h in
    ([], tt, ap (λ (z : List (List ℕ × List ℕ) × List ℕ). z.0) is_r, ap (λ (z : List (List ℕ × List ℕ) × List ℕ). z.1) is_r)
attributes_found_if k bytes r ih true e h =
    let a = bind_some (attribute_of (after_white bytes)) (and_more k) r h in
    let more = map_some (λ (m : List (List ℕ × List ℕ) × List ℕ). (a.0.0 ∷ m.0, m.1)) (attributes_of k a.0.1) r a.2 in
    let rest = ih a.0.1 more.0 more.1 in
    let n = prefix_len is_white bytes in
    let w = both (begins is_white bytes) (begins is_name_first (after_white bytes)) e in
    let one = attribute_found (take n bytes) (after_white bytes) a.0 (taken is_white bytes) (begins_taken is_white bytes w.0) a.1 in
    let is_r : (a.0.0 ∷ more.0.0, more.0.1) ≡ r = more.2 in (
      one.0 ∷ rest.0,
      (one.1, rest.1),
      ap (λ (z : List ℕ × List ℕ). z ∷ pairs_of rest.0) one.2 ∙ ap (λ (z : List (List ℕ × List ℕ)). a.0.0 ∷ z) rest.2 ∙ ap (λ (z : List (List ℕ × List ℕ) × List ℕ). z.0) is_r,
      sym (take-append-drop n bytes) ∙ one.3 ∙ ap (λ (z : List ℕ). attribute_written one.0 ++ z) rest.3
          ∙ sym (append_assoc (attribute_written one.0) (flat_map attribute_written rest.0) more.0.1)
          ∙ ap (λ (z : List (List ℕ × List ℕ) × List ℕ). (attribute_written one.0 ++ flat_map attribute_written rest.0) ++ z.1) is_r,
    )

attributes_found : (k : ℕ) (bytes : List ℕ) (r : List (List ℕ × List ℕ) × List ℕ) → attributes_of k bytes ≡ Some r → AttributesFound bytes r
attributes_found zero bytes r h =
    let is_r : ([], bytes) ≡ r = some_inj ([], bytes) r h in
    ([], tt, ap (λ (z : List (List ℕ × List ℕ) × List ℕ). z.0) is_r, ap (λ (z : List (List ℕ × List ℕ) × List ℕ). z.1) is_r)
attributes_found (suc k) bytes r h = attributes_found_if k bytes r (attributes_found k) (attribute_begins bytes) refl h

-- front_of in steps
abbrev with_attributes : List ℕ × List ℕ → List (List ℕ × List ℕ) × List ℕ → Option (Front × List ℕ)
with_attributes name more = Some (record { name = name.0; attributes = more.0 }, after_white more.1)

abbrev then_attributes : List ℕ × List ℕ → Option (Front × List ℕ)
then_attributes name = attributes_of (length name.1) name.1 >>= with_attributes name

front_found : (bytes : List ℕ) (r : Front × List ℕ) → front_of bytes ≡ Some r →
    (o : Opening) × IsOpening o × (front_said o ≡ r.0) × (bytes ≡ opening_written o ++ r.1)
front_found bytes r h =
    let name = bind_some (name_of bytes) then_attributes r h in
    let more = bind_some (attributes_of (length name.0.1) name.0.1) (with_attributes name.0) r name.2 in
    let front : Front = record { name = name.0.0; attributes = more.0.0 } in
    let is_r : (front, after_white more.0.1) ≡ r = some_inj (front, after_white more.0.1) r more.2 in
    let n = name_found bytes name.0 name.1 in
    let all = attributes_found (length name.0.1) name.0.1 more.0 more.1 in
    let gap = take (prefix_len is_white more.0.1) more.0.1 in
    let o : Opening = record { name = name.0.0; attributes = all.0; gap = gap } in (
      o,
      record { name = n.0; attributes = all.1; gap = taken is_white more.0.1 },
      ap (λ (z : List (List ℕ × List ℕ)). let x : Front = record { name = name.0.0; attributes = z } in x) all.2 ∙ ap (λ (z : Front × List ℕ). z.0) is_r,
      n.1 ∙ ap (λ (z : List ℕ). name.0.0 ++ z) (all.3 ∙ ap (λ (z : List ℕ). flat_map attribute_written all.0 ++ z) (sym (take-append-drop (prefix_len is_white more.0.1) more.0.1)))
          ∙ sym (opening_spread o (after_white more.0.1)) ∙ ap (λ (z : Front × List ℕ). opening_written o ++ z.1) is_r,
    )

slash_found : (o : Front) (cs : List ℕ) (r : Mark × List ℕ) (c : ℕ) → (if c == 47 then option_map (λ rest. (read.Empty o, rest)) (following 62 cs) else None) ≡ Some r → (c ∷ cs ≡ 47 ∷ 62 ∷ r.1) × (read.Empty o ≡ r.0)
slash_found o cs r c h =
    let t = if_some (c == 47) (option_map (λ rest. (read.Empty o, rest)) (following 62 cs)) r h in
    let m = map_some (λ (rest : List ℕ). (read.Empty o, rest)) (following 62 cs) r t.1 in
    let is_r : (read.Empty o, m.0) ≡ r = m.2 in
    let e : c ≡ 47 = eq_from_test c 47 t.0 in
    let e2 : cs ≡ 62 ∷ m.0 = after_found 62 cs m.0 m.1 in
    let e3 : m.0 ≡ r.1 = ap (λ (z : Mark × List ℕ). z.1) is_r in
    (cc, ap (λ (z : Mark × List ℕ). z.0) is_r)

closing_if : {P : Type 0} (o : Front) (c : ℕ) (cs : List ℕ) (r : Mark × List ℕ) (b : Bool) → (c == 62) ≡ b →
    (if b then Some (read.Start o, cs) else if c == 47 then option_map (λ rest. (read.Empty o, rest)) (following 62 cs) else None) ≡ Some r →
    (c ∷ cs ≡ 62 ∷ r.1 → read.Start o ≡ r.0 → P) → (c ∷ cs ≡ 47 ∷ 62 ∷ r.1 → read.Empty o ≡ r.0 → P) → P
closing_if o c cs r true e h p q =
    let is_r : (read.Start o, cs) ≡ r = some_inj (read.Start o, cs) r h in
    let e1 : c ≡ 62 = eq_from_test c 62 e in
    let e2 : cs ≡ r.1 = ap (λ (z : Mark × List ℕ). z.1) is_r in
    p (cc) (ap (λ (z : Mark × List ℕ). z.0) is_r)
closing_if o c cs r false e h p q =
    let s = slash_found o cs r c h in
    q s.0 s.1

closing_found : {P : Type 0} (o : Front) (bytes : List ℕ) (r : Mark × List ℕ) → closing o bytes ≡ Some r → (bytes ≡ 62 ∷ r.1 → read.Start o ≡ r.0 → P) → (bytes ≡ 47 ∷ 62 ∷ r.1 → read.Empty o ≡ r.0 → P) → P
closing_found o [] r h p q = absurd (cc)
closing_found o (c ∷ cs) r h p q = closing_if o c cs r (c == 62) refl h p q

abbrev then_name : List ℕ × List ℕ → Option (Mark × List ℕ)
then_name name = option_map (λ rest. (read.End name.0, rest)) (following 62 (after_white name.1))

-- what mark_of gives says which mark stands there
abbrev pub MarkFound : List ℕ → Mark × List ℕ → Type 0
MarkFound bytes r = (m : written.Mark) × IsMark m × (said m ≡ r.0) × (60 ∷ bytes ≡ mark_written m ++ r.1)

end_spread : (name gap more : List ℕ) → 60 ∷ 47 ∷ (name ++ (gap ++ (62 ∷ more))) ≡ mark_written (End name gap) ++ more
end_spread name gap more = sym (ap (λ (z : List ℕ). 60 ∷ 47 ∷ z) (append_assoc name (gap ++ 62 ∷ []) more ∙ ap (λ (z : List ℕ). name ++ z) (append_assoc gap (62 ∷ []) more)))

end_found : (bytes : List ℕ) (r : Mark × List ℕ) → end_of bytes ≡ Some r → MarkFound (47 ∷ bytes) r
end_found bytes r h =
    let name = bind_some (name_of bytes) then_name r h in
    let m = map_some (λ (rest : List ℕ). (read.End name.0.0, rest)) (following 62 (after_white name.0.1)) r name.2 in
    let is_r : (read.End name.0.0, m.0) ≡ r = m.2 in
    let n = name_found bytes name.0 name.1 in
    let gap = take (prefix_len is_white name.0.1) name.0.1 in (
      End name.0.0 gap,
      (n.0, taken is_white name.0.1),
      ap (λ (z : Mark × List ℕ). z.0) is_r,
      ap (λ (z : List ℕ). 60 ∷ 47 ∷ z) (n.1 ∙ ap (λ (z : List ℕ). name.0.0 ++ z) (sym (take-append-drop (prefix_len is_white name.0.1) name.0.1) ∙ ap (λ (z : List ℕ). gap ++ z) (after_found 62 (after_white name.0.1) m.0 m.1)))
          ∙ end_spread name.0.0 gap m.0 ∙ ap (λ (z : Mark × List ℕ). mark_written (End name.0.0 gap) ++ z.1) is_r,
    )

opening_found : (bytes : List ℕ) (r : Mark × List ℕ) → opening_of bytes ≡ Some r → MarkFound bytes r
opening_found bytes r h =
    let front = bind_some (front_of bytes) (λ (o : Front × List ℕ). closing o.0 o.1) r h in
    let found = front_found bytes front.0 front.1 in
    let o = found.0 in
    closing_found front.0.0 front.0.1 r front.2
    (λ e is_start. (
      Start o,
      found.1,
      ap read.Start found.2 ∙ is_start,
      ap (λ (z : List ℕ). 60 ∷ z) (found.3 ∙ ap (λ (z : List ℕ). opening_written o ++ z) e ∙ sym (append_assoc (opening_written o) (62 ∷ []) r.1)),
    ))
    (λ e is_empty. (
      Empty o,
      found.1,
      ap read.Empty found.2 ∙ is_empty,
      ap (λ (z : List ℕ). 60 ∷ z) (found.3 ∙ ap (λ (z : List ℕ). opening_written o ++ z) e ∙ sym (append_assoc (opening_written o) (47 ∷ 62 ∷ []) r.1)),
    ))

abbrev aside : List ℕ → Mark × List ℕ
aside rest = (read.Aside, rest)

instruction_found : (bytes : List ℕ) (r : Mark × List ℕ) → aside_of instruction_end bytes ≡ Some r → MarkFound (63 ∷ bytes) r
instruction_found bytes r h =
    let m = map_some aside (following_first instruction_end bytes) r h in
    let is_r : aside m.0 ≡ r = m.2 in
    let found = body_found instruction_end bytes m.0 m.1 in (
      Instruction found.body,
      (found.not_zero, found.first),
      ap (λ (z : Mark × List ℕ). z.0) is_r,
      ap (λ (z : List ℕ). 60 ∷ 63 ∷ z) (found.is ∙ sym (append_assoc found.body instruction_end m.0)) ∙ ap (λ (z : Mark × List ℕ). mark_written (Instruction found.body) ++ z.1) is_r,
    )

comment_found : (bytes : List ℕ) (r : Mark × List ℕ) → comment_of bytes ≡ Some r → MarkFound (33 ∷ bytes) r
comment_found bytes r h =
    let one = bind_some (following 45 bytes) (λ (x : List ℕ). following 45 x >>= λ two. aside_of comment_end two) r h in
    let two = bind_some (following 45 one.0) (λ (x : List ℕ). aside_of comment_end x) r one.2 in
    let m = map_some aside (following_first comment_end two.0) r two.2 in
    let is_r : aside m.0 ≡ r = m.2 in
    let found = body_found comment_end two.0 m.0 m.1 in (
      Comment found.body,
      (found.not_zero, found.first),
      ap (λ (z : Mark × List ℕ). z.0) is_r,
      ap (λ (z : List ℕ). 60 ∷ 33 ∷ z)
          (after_found 45 bytes one.0 one.1 ∙ ap (λ (z : List ℕ). 45 ∷ z) (after_found 45 one.0 two.0 two.1)
          ∙ ap (λ (z : List ℕ). 45 ∷ 45 ∷ z) (found.is ∙ sym (append_assoc found.body comment_end m.0)))
          ∙ ap (λ (z : Mark × List ℕ). mark_written (Comment found.body) ++ z.1) is_r,
    )

-- mark_of by the first byte
mark_found_by : (c : ℕ) (cs : List ℕ) (r : Mark × List ℕ) (slash ask bang : Bool) → (c == 47) ≡ slash → (c == 63) ≡ ask → (c == 33) ≡ bang →
    (if slash then end_of cs else (if ask then aside_of instruction_end cs else (if bang then comment_of cs else opening_of (c ∷ cs)))) ≡ Some r → MarkFound (c ∷ cs) r
mark_found_by c cs r true ask bang e f g h = subst (λ (z : ℕ). MarkFound (z ∷ cs) r) (sym (eq_from_test c 47 e)) (end_found cs r h)
mark_found_by c cs r false true bang e f g h = subst (λ (z : ℕ). MarkFound (z ∷ cs) r) (sym (eq_from_test c 63 f)) (instruction_found cs r h)
mark_found_by c cs r false false true e f g h = subst (λ (z : ℕ). MarkFound (z ∷ cs) r) (sym (eq_from_test c 33 g)) (comment_found cs r h)
mark_found_by c cs r false false false e f g h = opening_found (c ∷ cs) r h

pub mark_found : (bytes : List ℕ) (r : Mark × List ℕ) → mark_of bytes ≡ Some r → MarkFound bytes r
mark_found [] r h = absurd (cc)
mark_found (c ∷ cs) r h = mark_found_by c cs r (c == 47) (c == 63) (c == 33) refl refl refl h

pub mark_length : (m : written.Mark) → 2 ≤ length (mark_written m)
mark_length (Start o) = omega (arith, length-append (opening_written o) (62 ∷ []))
mark_length (Empty o) = omega (arith, length-append (opening_written o) (47 ∷ 62 ∷ []))
mark_length (End name gap) = omega arith
mark_length (Instruction body) = omega arith
mark_length (Comment body) = omega arith

-- a mark takes its bytes
pub mark_shrinks : (bytes : List ℕ) (r : Mark × List ℕ) → mark_of bytes ≡ Some r → length r.1 < length bytes
mark_shrinks bytes r h =
    let found = mark_found bytes r h in
    omega (arith, ap length found.3, length-append (mark_written found.0) r.1, mark_length found.0)

abbrev pub prepended : List (List ℕ × List ℕ) → List (List ℕ × List ℕ) × List ℕ → List (List ℕ × List ℕ) × List ℕ
prepended items x = (items ++ x.0, x.1)

abbrev pub one_more : List ℕ × List ℕ → List (List ℕ × List ℕ) × List ℕ → List (List ℕ × List ℕ) × List ℕ
one_more a x = (a ∷ x.0, x.1)

taken_step : (k : ℕ) (bytes : List ℕ) (a : (List ℕ × List ℕ) × List ℕ) → attribute_begins bytes ≡ true → attribute_of (after_white bytes) ≡ Some a → attributes_of (suc k) bytes ≡ and_more k a
taken_step k bytes a b h =
    ap (λ (z : Bool). if z then (attribute_of (after_white bytes) >>= and_more k) else Some ([], bytes)) b
    ∙ ap (λ (z : Option ((List ℕ × List ℕ) × List ℕ)). z >>= and_more k) h

regroup : (items : List (List ℕ × List ℕ)) (a : List ℕ × List ℕ) (o : Option (List (List ℕ × List ℕ) × List ℕ)) →
    option_map (prepended (items ++ a ∷ [])) o
    ≡ option_map (prepended items) (option_map (one_more a) o)
regroup items a None = refl
regroup items a (Some x) = ap (λ (z : List (List ℕ × List ℕ)). Some (z, x.1)) (append_assoc items (a ∷ []) x.0)

-- the attributes read so far, and those to come
pub attributes_next : (items : List (List ℕ × List ℕ)) (rest : List ℕ) (a : List ℕ × List ℕ) (next : List ℕ) → attribute_begins rest ≡ true → attribute_of (after_white rest) ≡ Some (a, next) →
    option_map (prepended (items ++ a ∷ [])) (attributes_of (length next) next) ≡ option_map (prepended items) (attributes_of (length rest) rest)
attributes_next items [] a next b h = absurd (cc)
attributes_next items (c ∷ cs) a next b h =
    let shorter : length next < length (after_white (c ∷ cs)) = attribute_shrinks (after_white (c ∷ cs)) (a, next) h in
    let fuel : attributes_of (length next) next ≡ attributes_of (length cs) next =
    attributes_fuel (length next) (length cs) next (omega arith) (omega (arith, shorter, white_len (c ∷ cs))) in
    let step : attributes_of (suc (length cs)) (c ∷ cs) ≡ and_more (length cs) (a, next) = taken_step (length cs) (c ∷ cs) (a, next) b h in
    ap (option_map (prepended (items ++ a ∷ []))) fuel
    ∙ regroup items a (attributes_of (length cs) next)
    ∙ sym (ap (option_map (prepended items)) step)
