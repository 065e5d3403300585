use Rattle.std.proofs.Common.{◌≡◌, ◌≢◌, ◌≤◌, ◌-◌, [], All, length, take, sym, ap, subst, ◌∙◌, rules, arith, get_or, get_or-take, length-take, length-take-le, take-take, append-nil, eqb-true}
use Rattle.std.proofs.lemmas.List.Elements.{All-nil, All-more}
use Rattle.std.specs.Io.BufRead.{DropsConsumable, FillKeeps}
use Rattle.std.proofs.BufReadLemmas.{Consumes_shown, zero_unless_positive}
use Rattle.std.proofs.KnownBytes.{Consumes-kept, Consumes-nil}
use Rattle.std.proofs.Transfers.{StopsAt-of_All, StopsAt-take}
use Rattle.base_outside.proofs.in_lines.take_turn.Goals.{then-end-eq0, else-end-eq0}
use Rattle.base_outside.proofs.in_lines.take_turn.Goals as goal

pub returns-in-Err-clause-took : goal.returns-in-Err-clause-took
returns-in-Err-clause-took g c =
    record {
      part = [];
      added = sym (append-nil _);
      consumed = Consumes-kept _ _ _ [] (Consumes-nil _) c.fill_buf.follows.holds-at-none.0;
      stops = StopsAt-of_All [] 10 (All-nil (λ b. b ≢ 10));
      ends = λ met. search rules;
      at_end = λ met. search rules;
      free = λ _. All-nil (λ b. b ≢ 10);
    }

pub returns-clause-took : goal.returns-clause-took
returns-clause-took g c =
    let shown = c.in-Ok.available.now in
    let end = c.line_len-end.result in
    let front = take c.min-most.result shown in
    let most : length front ≤ c.min-most.result = omega (arith, length-take c.min-most.result shown) in
    let bound : end ≤ length shown = omega (arith, length-take c.min-most.result shown, c.line_len-end.ensures.bound) in
    let same : take end front ≡ take end shown = take-take end c.min-most.result shown (omega (arith, most, c.line_len-end.ensures.bound)) in
    let long : length (take end shown) ≡ end = length-take-le end shown bound in
    let before : All (λ b. b ≢ 10) (take (end - 1) shown) =
    subst (All (λ b. b ≢ 10)) (take-take (end - 1) c.min-most.result shown (omega (arith, most, c.line_len-end.ensures.bound))) c.line_len-end.ensures.before in
    let rested = c.fill_buf.follows.lender-at-none in
    let filled = subst (FillKeeps _ (g.B.Read.remaining rested) (g.B.BufRead.consumable_len rested)) c.in-Ok.is c.fill_buf.follows.holds-at-none in
    let reader : c.if-end-eq0.reader ≡ rested = search rules in
    let drops = subst (λ r. DropsConsumable (g.B.Read.remaining r) (g.B.Read.remaining c.consume.new.self) (g.B.BufRead.consumable_len r) end) reader c.consume.ensures.bytes in
    let moved = Consumes_shown _ _ _ _ shown end bound c.in-Ok.ensures.front c.in-Ok.ensures.end filled.0 filled.1 drops in
    record {
      part = take end shown;
      added = c.in_ok-extend_from_slice.ensures.items;
      consumed = moved.0;
      stops = StopsAt-take shown 10 end bound before;
      ends = λ met some.
          elim c.if-end-eq0.branch [
            | then-end-eq0 w ↦ absurd (omega (arith, w.if-end-eq0.true, long, some))
            | else-end-eq0 w ↦ ap (λ n. get_or (take end shown) (n - 1) 0) long
                ∙ get_or-take end shown (end - 1) 0 (omega (arith, w.if-end-eq0.false)) ∙ eqb-true _ _ (sym w.is_met-is ∙ met)
          ];
      at_end = λ met none.
          let zero : length front ≡ 0 = zero_unless_positive _ _ c.line_len-end.ensures.some (sym long ∙ none) in
          let empty : length shown ≡ 0 = omega (arith, length-take c.min-most.result shown, zero, c.min-most.ensures, c.requires.open) in
          moved.1 empty;
      free = λ unmet. elim c.if-end-eq0.branch [
        | then-end-eq0 w ↦ absurd (search rules)
        | else-end-eq0 w ↦ subst (λ k. All (λ b. b ≢ 10) (take k shown)) (omega (arith, w.if-end-eq0.false))
            (All-more (λ b. b ≢ 10) shown (end - 1) 0 (omega (arith, w.if-end-eq0.false, bound)) before (λ is. search rules))
      ];
    }
