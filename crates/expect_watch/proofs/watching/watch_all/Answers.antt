use Rattle.std.proofs.Common.{◌≡◌, ◌∙◌, ℕ, List, [], ◌∷◌, ◌++◌, ap, arith, length, subst, sym, take}
use Rattle.std.proofs.lemmas.Iterator.Adapters.{YieldsList-from_vec}
use Rattle.std.proofs.lemmas.Iterator.Consumers.{YieldsList-turn}
use Rattle.std.proofs.lemmas.List.{length_push, take_more}
use Rattle.std.specs.Vec.Iter.{into_iter_len}
use Rattle.spec_expect.specs.declared.expectation.Expected.{Expected}
use Rattle.expect_watch.specs.Begun.{AreBegun}
use Rattle.expect_watch.specs.Valid.{AreFit}
use Rattle.expect_watch.proofs.Beginning.{begun_more, fit_more}
use Rattle.expect_watch.proofs.watching.watch_all.Goals as goal

pub loop-one-preserved : goal.loop-one-preserved
loop-one-preserved c =
    let names = c.args.names.now in
    let facts = c.args.facts.now in
    let all = c.args.expected in
    let vec = c.into_vec-one-items.result in
    let gives = c.into_iter-one-iterator.ensures.into_iter_gives in
    let len : into_iter_len c.into_iter-one-iterator.result ≡ length all = omega (arith, gives.1, vec.ok.0, ap length c.into_vec-one-items.ensures) in
    let t = YieldsList-turn (YieldsList-from_vec all (gives.0 ∙ c.into_vec-one-items.ensures) len) c.loop-one.yielded c.loop-one.one-iterator c.loop-one.yielded_by _ c.next.new.self c.in-Some.one c.in-Some.is c.next.ensures.steps in
    let n = length c.loop-one.yielded in
    let more : take (length (c.loop-one.yielded ++ c.in-Some.one ∷ [])) all ≡ take n all ++ c.in-Some.one ∷ [] =
    ap (λ (k : ℕ). take k all) (length_push c.loop-one.yielded c.in-Some.one) ∙ take_more all n c.in-Some.one t.0
    ∙ ap (λ (e : Expected). take n all ++ e ∷ []) (sym t.1) in
    record {
      begun =
          subst (AreBegun names facts (take (length (c.loop-one.yielded ++ c.in-Some.one ∷ [])) all)) (sym c.in_ok-push.ensures.items)
          (subst (λ (es : List Expected). AreBegun names facts es (c.loop-one.watched.items ++ c.in_ok-watched_of.field-0 ∷ [])) (sym more)
          (begun_more names facts (take n all) c.loop-one.watched.items c.in-Some.one c.in_ok-watched_of.field-0 c.loop-one.invariant.begun c.in_ok-watched_of.ensures.begun));
      fit =
          subst (AreFit (length facts)) (sym c.in_ok-push.ensures.items)
          (fit_more (length facts) c.loop-one.watched.items c.in_ok-watched_of.field-0 c.loop-one.invariant.fit c.in_ok-watched_of.ensures.fits);
    }
