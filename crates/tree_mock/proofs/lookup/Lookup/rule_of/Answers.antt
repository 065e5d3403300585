use Rattle.std.proofs.Common.{◌≡◌, ◌+◌, ℕ, get_or, nat_eq, take, drop, ap, sym, subst, ◌∙◌, arith}
use Rattle.std.proofs.lemmas.List.{drop_all}
use Rattle.std.proofs.lemmas.List.Sums.{common_prefix_len-le}
use Rattle.spec_tree_file.specs.Patterns.{matches}
use Rattle.tree_mock.specs.Grams.{IsRead}
use Rattle.tree_mock.proofs.AboutPatterns.Grams.{lacking}
use Rattle.tree_mock.proofs.AboutPatterns.Marks.{unended}
use Rattle.tree_mock.proofs.Fronts.{Left, alike, at, begins_so, decides, differs, ends, ends_with, finds, fits, goes_on, shares, skips, stands, tries}
use Rattle.tree_mock.proofs.lookup.Lookup.rule_of.Goals as goal
use Rattle.tree_mock.proofs.lookup.Lookup.rule_of.Goals.{then-front-known+else-known-front, else-known-front-via-then-known-front+then-marks-from+then-may_have+else-follows_in, else-known-front-via-then-known-front+then-marks-from+else-may_have, else-known-front-via-then-known-front+else-marks-from, else-known-front-via-else-known-front, else-front-known}

pub alike_with-known-requires-clause-shared : goal.alike_with-known-requires-clause-shared
alike_with-known-requires-clause-shared c =
    let all = c.args.self.now.rules in
    let path = c.args.path.now in
    let items = c.as_slice-front-items.result.now in
    let i = c.loop-front.front-index in
    let f = c.front-item.result in
    let left = at all path c.loop-front.known items i f c.loop-front-test.true c.front-item.is c.loop-front.invariant.left in
    shares all path f (drop (i + 1) items) c.loop-front.known left c.if-front-known.true

pub alike_with-known-requires-clause-pattern : goal.alike_with-known-requires-clause-pattern
alike_with-known-requires-clause-pattern c =
    let all = c.args.self.now.rules in
    let path = c.args.path.now in
    let items = c.as_slice-front-items.result.now in
    let i = c.loop-front.front-index in
    let f = c.front-item.result in
    let left = at all path c.loop-front.known items i f c.loop-front-test.true c.front-item.is c.loop-front.invariant.left in
    fits all path f (drop (i + 1) items) c.loop-front.known left

pub alike_with-known-requires-clause-path : goal.alike_with-known-requires-clause-path
alike_with-known-requires-clause-path c =
    let all = c.args.self.now.rules in
    let path = c.args.path.now in
    let items = c.as_slice-front-items.result.now in
    let i = c.loop-front.front-index in
    let f = c.front-item.result in
    let left = at all path c.loop-front.known items i f c.loop-front-test.true c.front-item.is c.loop-front.invariant.left in
    (goes_on all path f (drop (i + 1) items) c.loop-front.known left c.if-front-known.true).1

pub bounds-marks-from : goal.bounds-marks-from
bounds-marks-from c =
    let all = c.args.self.now.rules in
    let path = c.args.path.now in
    let items = c.as_slice-front-items.result.now in
    let i = c.loop-front.front-index in
    let f = c.front-item.result in
    let left = at all path c.loop-front.known items i f c.loop-front-test.true c.front-item.is c.loop-front.invariant.left in
    let end = ends_with all path f (drop (i + 1) items) c.loop-front.known left in
    omega (arith, c.from.ensures, end.few)

pub follows_in-requires-clause-pattern : goal.follows_in-requires-clause-pattern
follows_in-requires-clause-pattern c =
    let all = c.args.self.now.rules in
    let path = c.args.path.now in
    let items = c.as_slice-front-items.result.now in
    let i = c.loop-front.front-index in
    let f = c.front-item.result in
    let left = at all path c.loop-front.known items i f c.loop-front-test.true c.front-item.is c.loop-front.invariant.left in
    fits all path f (drop (i + 1) items) c.loop-front.known left

pub follows_in-requires-clause-path : goal.follows_in-requires-clause-path
follows_in-requires-clause-path c =
    let all = c.args.self.now.rules in
    let path = c.args.path.now in
    let items = c.as_slice-front-items.result.now in
    let i = c.loop-front.front-index in
    let f = c.front-item.result in
    let left = at all path c.loop-front.known items i f c.loop-front-test.true c.front-item.is c.loop-front.invariant.left in
    let begun = take f.plain f.rule.now.pattern in
    let shared = goes_on all path f (drop (i + 1) items) c.loop-front.known left c.if-front-known.true in
    let known : c.alike_with-known.result ≡ alike begun path = c.alike_with-known.ensures ∙ sym shared.2 in
    omega (arith, known, c.if-known-front.true, (common_prefix_len-le nat_eq begun path).1)

pub follows_in-requires-clause-star : goal.follows_in-requires-clause-star
follows_in-requires-clause-star c =
    let all = c.args.self.now.rules in
    let path = c.args.path.now in
    let items = c.as_slice-front-items.result.now in
    let i = c.loop-front.front-index in
    let f = c.front-item.result in
    let left = at all path c.loop-front.known items i f c.loop-front-test.true c.front-item.is c.loop-front.invariant.left in
    begins_so all path f (drop (i + 1) items) c.loop-front.known left

pub returns-then-follows_in : goal.returns-then-follows_in
returns-then-follows_in c =
    let all = c.args.self.now.rules in
    let path = c.args.path.now in
    let items = c.as_slice-front-items.result.now in
    let i = c.loop-front.front-index in
    let f = c.front-item.result in
    let fronts = drop (i + 1) items in
    let old = c.loop-front.known in
    let left = at all path old items i f c.loop-front-test.true c.front-item.is c.loop-front.invariant.left in
    let known = c.alike_with-known.result in
    let so_far : known ≡ alike (take f.plain f.rule.now.pattern) path = c.alike_with-known.ensures ∙ sym (goes_on all path f fronts old left c.if-front-known.true).2 in
    let rest : matches (drop f.plain f.rule.now.pattern) (drop known path) ≡ c.follows_in.result =
    ap (λ (n : ℕ). matches (drop f.plain f.rule.now.pattern) (drop n path)) c.if-known-front.true ∙ sym c.follows_in.ensures in
    finds all path f fronts old left (sym (decides all path f fronts old known left so_far c.if-known-front.true) ∙ rest ∙ c.if-follows_in.true)

pub loop-front-preserved : goal.loop-front-preserved
loop-front-preserved c =
    let all = c.args.self.now.rules in
    let path = c.args.path.now in
    let items = c.as_slice-front-items.result.now in
    let i = c.loop-front.front-index in
    let f = c.front-item.result in
    let fronts = drop (i + 1) items in
    let old = c.loop-front.known in
    let left = at all path old items i f c.loop-front-test.true c.front-item.is c.loop-front.invariant.left in
    elim c.if-front-known.branch [
      | then-front-known+else-known-front w ↦
          let known = c.if-front-known.known in
          let so_far : known ≡ alike (take f.plain f.rule.now.pattern) path = w.known-is ∙ w.alike_with-known.ensures ∙ sym (goes_on all path f fronts old left w.if-front-known.true).2 in
          elim w.else-known-front.branch [
            | else-known-front-via-then-known-front+then-marks-from+then-may_have+else-follows_in v ↦
                let same : known ≡ f.plain = w.known-is ∙ v.if-known-front.true in
                let rest : matches (drop f.plain f.rule.now.pattern) (drop known path) ≡ v.follows_in.result =
                ap (λ (n : ℕ). matches (drop f.plain f.rule.now.pattern) (drop n path)) same ∙ sym v.follows_in.ensures in
                record { left = tries all path f fronts old known left (sym (decides all path f fronts old known left so_far same) ∙ rest ∙ v.if-follows_in.false) so_far; read = subst (IsRead path) (sym (w.grams-is ∙ v.grams-is)) v.may_have.ensures.read }
            | else-known-front-via-then-known-front+then-marks-from+else-may_have v ↦
                record { left = tries all path f fronts old known left (lacking f.rule.now.pattern path f.gram (stands all path f fronts old left) (v.may_have.ensures.lacks v.if-may_have.false)) so_far; read = subst (IsRead path) (sym (w.grams-is ∙ v.grams-is)) v.may_have.ensures.read }
            | else-known-front-via-then-known-front+else-marks-from v ↦
                record {
                  left =
                      tries all path f fronts old known left
                      (unended f.rule.now.pattern path c.marks_of-marks.result f.end (ends_with all path f fronts old left) c.marks_of-marks.ensures
                      (λ same. v.if-marks-from.false (ap (λ (n : ℕ). get_or c.marks_of-marks.result n 0) v.from.ensures ∙ same)))
                      so_far;
                  read = subst (IsRead path) (sym (w.grams-is ∙ v.grams-is)) c.loop-front.invariant.read;
                }
            | else-known-front-via-else-known-front v ↦ record { left = tries all path f fronts old known left (differs all path f fronts old known left so_far (λ same. v.if-known-front.false (sym w.known-is ∙ same))) so_far; read = subst (IsRead path) (sym (w.grams-is ∙ v.grams-is)) c.loop-front.invariant.read }
          ]
      | else-front-known w ↦ record { left = subst (λ (n : ℕ). Left all path n fronts) (sym w.known-is) (skips all path f fronts old left (omega (arith, w.if-front-known.false))); read = subst (IsRead path) (sym w.grams-is) c.loop-front.invariant.read }
    ]

pub returns : goal.returns
returns c =
    let items = c.as_slice-front-items.result.now in
    ends c.args.self.now.rules c.args.path.now c.loop-front.known
    (subst (Left c.args.self.now.rules c.args.path.now c.loop-front.known) (drop_all c.loop-front.front-index items c.loop-front-test.false) c.loop-front.invariant.left)
