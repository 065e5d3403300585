use Rattle.std.proofs.Common.{Bool, List, Err, Ok, Result}
use Rattle.std.proofs.lemmas.Result.{err_from_is_err_and}
use Rattle.std.specs.Prelude.{codes}
use Rattle.base_texts.specs.Results.{◌>>=◌}
use Rattle.spec_expect.specs.declared.expect_fault.ExpectFaultKind.{ExpectFaultKind}
use Rattle.spec_expect.specs.declared.expectation.Expectation.{Expectation}
use Rattle.spec_expect.specs.declared.expectation.Expectation.TheVariants.{Order}
use Rattle.spec_expect.specs.ExpectFile.{OrderLine, leaves_in, then_pick}
use Rattle.expect_reader.specs.Reading.{subject_seen}
use Rattle.expect_reader.proofs.Saying.{both_leaves, err_gives, given_so, of_form, of_none, then_gives, then_none, then_some}
use Rattle.expect_reader.proofs.forms.read_order.Goals as goal

pub returns-in_err-other : goal.returns-in_err-other
returns-in_err-other c =
    let p = err_from_is_err_and c.from_residual.result c.from_residual.ensures.1 in
    let pick = c.args.pick.now in
    let text = c.args.text.now in
    rw (p.1, p.2) (of_none (subject_seen c.args.subject.now) (then_pick (codes "before") OrderLine (pick, text)) c.in_err-other.field-0.0
    (then_none (codes "before") OrderLine pick text c.in_err-other.field-0.0 c.in_err-other.ensures.none))

pub returns-in_err-first : goal.returns-in_err-first
returns-in_err-first c =
    let p = err_from_is_err_and c.from_residual-in_err-first.result c.from_residual-in_err-first.ensures.1 in
    let places = c.args.subject.now.places.now in
    let pick = c.args.pick.now in
    let text = c.args.text.now in
    let other = c.in_ok-other.other in
    let rest : List Bool → Result Expectation ExpectFaultKind = λ a. leaves_in places other >>= λ b. Ok (Order a b) in
    rw (p.1, p.2) (of_form (subject_seen c.args.subject.now) (then_pick (codes "before") OrderLine (pick, text)) (OrderLine pick other) (Err c.in_err-first.field-0.0)
    (then_some (codes "before") OrderLine pick other text c.in_ok-other.ensures.last)
    (given_so (Err c.in_err-first.field-0.0) (leaves_in places pick >>= rest) (err_gives (leaves_in places pick) rest c.in_err-first.field-0.0 c.in_err-first.ensures)))

pub returns-in_err-second : goal.returns-in_err-second
returns-in_err-second c =
    let p = err_from_is_err_and c.from_residual-in_err-second.result c.from_residual-in_err-second.ensures.1 in
    let places = c.args.subject.now.places.now in
    let pick = c.args.pick.now in
    let text = c.args.text.now in
    let other = c.in_ok-other.other in
    let last : List Bool → List Bool → Result Expectation ExpectFaultKind = λ a b. Ok (Order a b) in
    let rest : List Bool → Result Expectation ExpectFaultKind = λ a. leaves_in places other >>= last a in
    rw (p.1, p.2) (of_form (subject_seen c.args.subject.now) (then_pick (codes "before") OrderLine (pick, text)) (OrderLine pick other) (Err c.in_err-second.field-0.0)
    (then_some (codes "before") OrderLine pick other text c.in_ok-other.ensures.last)
    (given_so (Err c.in_err-second.field-0.0) (leaves_in places pick >>= rest)
    (then_gives (leaves_in places pick) c.in_ok-first.first rest (Err c.in_err-second.field-0.0) c.in_ok-first.ensures
    (err_gives (leaves_in places other) (last c.in_ok-first.first) c.in_err-second.field-0.0 c.in_err-second.ensures))))

pub returns : goal.returns
returns c =
    let places = c.args.subject.now.places.now in
    let pick = c.args.pick.now in
    let text = c.args.text.now in
    let other = c.in_ok-other.other in
    let rest : List Bool → Result Expectation ExpectFaultKind = λ a. leaves_in places other >>= λ b. Ok (Order a b) in
    let made : Expectation = Order c.in_ok-first.first c.in_ok-second.second in
    of_form (subject_seen c.args.subject.now) (then_pick (codes "before") OrderLine (pick, text)) (OrderLine pick other) (Ok made)
    (then_some (codes "before") OrderLine pick other text c.in_ok-other.ensures.last)
    (given_so (Ok made) (leaves_in places pick >>= rest) (both_leaves places pick other c.in_ok-first.first c.in_ok-second.second Order c.in_ok-first.ensures c.in_ok-second.ensures))
