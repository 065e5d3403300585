-- One expectation more that is watched.
use Rattle.std.proofs.Common.{ℕ, ℤ, List, [], ◌∷◌, ◌++◌}
use Rattle.std.proofs.lemmas.List.Elements.{All-append, All-cons, All-nil}
use Rattle.spec_world.specs.declared.world.Fact.{Fact}
use Rattle.spec_expect.specs.declared.expectation.Expected.{Expected}
use Rattle.expect_watch.specs.declared.watching.Watched.{Watched}
use Rattle.expect_watch.specs.Begun.{AreBegun, IsBegun}
use Rattle.expect_watch.specs.Memos.{Fits}
use Rattle.expect_watch.specs.Valid.{AreFit}

pub begun_more : (names : List Fact) (facts : List ℤ) (es : List Expected) (ws : List Watched) (e : Expected) (w : Watched) → AreBegun names facts es ws → IsBegun names facts e w → AreBegun names facts (es ++ e ∷ []) (ws ++ w ∷ [])
begun_more names facts [] [] e w begun one = (one, tt)
begun_more names facts [] (x ∷ ws) e w begun one = absurd begun
begun_more names facts (y ∷ es) [] e w begun one = absurd begun
begun_more names facts (y ∷ es) (x ∷ ws) e w begun one = (begun.0, begun_more names facts es ws e w begun.1 one)

pub fit_more : (facts : ℕ) (ws : List Watched) (w : Watched) → AreFit facts ws → Fits facts w.memo → AreFit facts (ws ++ w ∷ [])
fit_more facts ws w fit one =
    let Fit : Watched → Type 0 = λ x. Fits facts x.memo in
    All-append Fit ws (w ∷ []) fit (All-cons Fit w [] one (All-nil Fit))
