use Rattle.std.proofs.Common.{◌≡◌, ℕ, Bor, Ok, Err, true, false, ◌+◌, ◌-◌, ◌∷◌, length, take, drop, ap, sym, ◌∙◌, subst, List, arith, []}
use Rattle.std.proofs.lemmas.List.{length-drop}
use Rattle.std.proofs.lemmas.Result.{err_from_is_err_and}
use Rattle.std.specs.List.{prefix_len}
use Rattle.spec_script.specs.Identifiers.{is_white}
use Rattle.base_texts.specs.Stops.{Gives}
use Rattle.spec_tree_file.specs.declared.element.ElementFault.TheVariants.{StrayText}
use Rattle.tree_elements.specs.declared.mark.Mark.{Mark}
use Rattle.tree_elements.specs.Reading.{GivesAs, mark_at, step, may_stand, seen, text_len, finished}
use Rattle.tree_elements.proofs.Files.{read_stray, read_last, read_on, mark_stops, step_stops, cut_mark}
use Rattle.tree_elements.proofs.References.{empty_from}
use Rattle.tree_elements.proofs.read.document.Goals as goal

pub returns-then-not-allows : goal.returns-then-not-allows
returns-then-not-allows c =
    let bytes = c.args.bytes.now in
    let rest = c.marks.rest.now in
    let st = seen c.marks.nest in
    let text = c.text_at.ensures.text in
    let stands : may_stand st (take (text_len rest) rest) ≡ false = ap (may_stand st) (sym text) ∙ sym c.allows.ensures ∙ c.if-not-allows.true in
    sym c.marks.invariant.read ∙ read_stray (length bytes) st rest stands
    ∙ ap (λ (n : ℕ). Err (StrayText (length bytes - length rest + n))) (sym (c.white_len.ensures.value ∙ ap (prefix_len is_white) text))

pub returns-in_default : goal.returns-in_default
returns-in_default c =
    let bytes = c.args.bytes.now in
    let rest = c.marks.rest.now in
    let st = seen c.marks.nest in
    let none : drop (text_len rest) rest ≡ [] = sym c.text_at.ensures.rest ∙ empty_from c.text_at.result.1.now c.in_default.ensures.cases in
    let stands : may_stand st (take (text_len rest) rest) ≡ true = ap (may_stand st) (sym c.text_at.ensures.text) ∙ sym c.allows.ensures ∙ c.if-not-allows.false in
    let here : length bytes - length c.text_at.result.1.now ≡ length bytes = let e = c.in_default.ensures.cases in omega arith in
    subst (Gives c.finish.result) (ap (finished st) here ∙ sym (read_last (length bytes) st rest stands none) ∙ c.marks.invariant.read) c.finish.ensures

pub mark_after-requires : goal.mark_after-requires
mark_after-requires c =
    cut_mark c.marks.rest.now c.text_at.result.1.now c.in-Some.field-0-0.now c.in-Some.inner.now c.text_at.ensures.rest c.in-Some.ensures.cases.0 c.text_at.ensures.utf8

pub returns-in_err-mark : goal.returns-in_err-mark
returns-in_err-mark c =
    let bytes = c.args.bytes.now in
    let rest = c.marks.rest.now in
    let st = seen c.marks.nest in
    let first = c.in-Some.field-0-0.now in
    let inner = c.in-Some.inner.now in
    let cons = c.in-Some.ensures.cases.0 in
    let there : length bytes - length c.text_at.result.1.now ≡ length bytes - length (first ∷ inner) = ap (λ (z : List ℕ). length bytes - length z) cons in
    let stands : may_stand st (take (text_len rest) rest) ≡ true = ap (may_stand st) (sym c.text_at.ensures.text) ∙ sym c.allows.ensures ∙ c.if-not-allows.false in
    let is : drop (text_len rest) rest ≡ first ∷ inner = sym c.text_at.ensures.rest ∙ cons in
    let p = err_from_is_err_and c.from_residual.result c.from_residual.ensures.1 in
    let stop = c.in_err-mark.field-0.0 in
    let faulty = subst (λ (n : ℕ). GivesAs (λ (x : Mark × Bor (List ℕ)). (x.0, x.1.now)) (Err stop) (mark_at n inner)) there c.in_err-mark.ensures.read in
    rw (p.1, p.2) (subst (Gives (Err stop)) c.marks.invariant.read (mark_stops (λ (x : Mark × Bor (List ℕ)). (x.0, x.1.now)) stop (length bytes) st rest first inner stands is faulty))

pub returns-in_err-take : goal.returns-in_err-take
returns-in_err-take c =
    let bytes = c.args.bytes.now in
    let rest = c.marks.rest.now in
    let st = seen c.marks.nest in
    let first = c.in-Some.field-0-0.now in
    let inner = c.in-Some.inner.now in
    let cons = c.in-Some.ensures.cases.0 in
    let there : length bytes - length c.text_at.result.1.now ≡ length bytes - length (first ∷ inner) = ap (λ (z : List ℕ). length bytes - length z) cons in
    let stands : may_stand st (take (text_len rest) rest) ≡ true = ap (may_stand st) (sym c.text_at.ensures.text) ∙ sym c.allows.ensures ∙ c.if-not-allows.false in
    let is : drop (text_len rest) rest ≡ first ∷ inner = sym c.text_at.ensures.rest ∙ cons in
    let p = err_from_is_err_and c.from_residual-in_err-take.result c.from_residual-in_err-take.ensures.1 in
    let stop = c.in_err-take.field-0.0 in
    let mark = subst (λ (n : ℕ). mark_at n inner ≡ Ok (c.in_ok-mark.mark, c.in_ok-mark.next.now)) there c.in_ok-mark.ensures.read in
    let faulty = subst (λ (n : ℕ). GivesAs (λ (x : Unit {0}). seen c.take.new.self) (Err stop) (step st n c.in_ok-mark.mark)) there c.in_err-take.ensures in
    rw (p.1, p.2) (subst (Gives (Err stop)) c.marks.invariant.read
    (step_stops (λ (x : Unit {0}). seen c.take.new.self) stop (length bytes) st rest first inner c.in_ok-mark.mark c.in_ok-mark.next.now stands is mark faulty))

pub marks-preserved : goal.marks-preserved
marks-preserved c =
    let bytes = c.args.bytes.now in
    let rest = c.marks.rest.now in
    let st = seen c.marks.nest in
    let first = c.in-Some.field-0-0.now in
    let inner = c.in-Some.inner.now in
    let cons = c.in-Some.ensures.cases.0 in
    let there : length bytes - length c.text_at.result.1.now ≡ length bytes - length (first ∷ inner) = ap (λ (z : List ℕ). length bytes - length z) cons in
    let stands : may_stand st (take (text_len rest) rest) ≡ true = ap (may_stand st) (sym c.text_at.ensures.text) ∙ sym c.allows.ensures ∙ c.if-not-allows.false in
    let is : drop (text_len rest) rest ≡ first ∷ inner = sym c.text_at.ensures.rest ∙ cons in
    let mark = subst (λ (n : ℕ). mark_at n inner ≡ Ok (c.in_ok-mark.mark, c.in_ok-mark.next.now)) there c.in_ok-mark.ensures.read in
    let taken = subst (λ (n : ℕ). step st n c.in_ok-mark.mark ≡ Ok (seen c.take.new.self)) there c.in_ok-take.ensures in
    record {
      read = read_on (length bytes) st (seen c.take.new.self) rest first inner c.in_ok-mark.mark c.in_ok-mark.next.now stands is mark taken ∙ c.marks.invariant.read;
      within = omega (arith, ap length c.text_at.ensures.rest, length-drop (text_len rest) rest, ap length cons, c.in_ok-mark.ensures.within, c.marks.invariant.within);
      utf8 = c.in_ok-mark.ensures.utf8;
    }
