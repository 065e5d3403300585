use Rattle.std.proofs.Common.{◌≡◌, ℕ, Bool, List, map, length, true, false, [], ◌||◌, sym, ap, ◌∙◌}
use Rattle.std.specs.Prelude.{nat_lt}
use Rattle.std.specs.List.{list_any}
use Rattle.std.proofs.lemmas.List.{length-map}
use Rattle.std.proofs.lemmas.List.Folds.{list_all-map}
use Rattle.std.proofs.lemmas.Simd.{map-map}
use Rattle.spec_world_file.specs.WorldFile.{is_long, is_small, repeats}
use Rattle.world_lines.specs.declared.values.WrittenOut.{WrittenOut}
use Rattle.world_lines.specs.Written.{seen_out}
use Rattle.world_draft.proofs.Named.{any-map}
use Rattle.world_draft.proofs.Saying.{counted_said, double_said, range_said}
use Rattle.world_draft.proofs.telling.told_outs.Goals as goal

-- how many outputs are written, and whether one is too long
many_seen : (outs : List WrittenOut) → (nat_lt 8 (length (map seen_out outs)) || list_any (λ out. is_long out.value) (map seen_out outs)) ≡ (nat_lt 8 (length outs) || list_any (λ out. is_long (seen_out out).value) outs)
many_seen outs =
    ap (λ (n : ℕ). nat_lt 8 n || list_any (λ out. is_long out.value) (map seen_out outs)) (length-map outs seen_out)
    ∙ ap (λ (b : Bool). nat_lt 8 (length outs) || b) (any-map (λ out. is_long out.value) seen_out outs)

pub returns-then-not-are_small : goal.returns-then-not-are_small
returns-then-not-are_small c =
    range_said (map seen_out c.args.outs.now) (list_all-map (λ out. is_small out.value) seen_out c.args.outs.now ∙ sym c.are_small.ensures ∙ c.if-not-are_small.true)

pub returns-then-branch : goal.returns-then-branch
returns-then-branch c =
    let outs = c.args.outs.now in
    double_said (map seen_out outs) (list_all-map (λ out. is_small out.value) seen_out outs ∙ sym c.are_small.ensures ∙ c.if-not-are_small.false)
    (ap (repeats []) (map-map (λ out. out.port) seen_out outs) ∙ sym c.in_ok-has_double.ensures ∙ c.if-branch.true)

pub returns-then-are_many : goal.returns-then-are_many
returns-then-are_many c =
    let outs = c.args.outs.now in
    counted_said (map seen_out outs) true (list_all-map (λ out. is_small out.value) seen_out outs ∙ sym c.are_small.ensures ∙ c.if-not-are_small.false)
    (ap (repeats []) (map-map (λ out. out.port) seen_out outs) ∙ sym c.in_ok-has_double.ensures ∙ c.if-branch.false)
    (many_seen outs ∙ sym c.are_many.ensures ∙ c.if-are_many.true)

pub returns : goal.returns
returns c =
    let outs = c.args.outs.now in (
      c.of.ensures ∙ c.in_ok-told.ensures,
      counted_said (map seen_out outs) false (list_all-map (λ out. is_small out.value) seen_out outs ∙ sym c.are_small.ensures ∙ c.if-not-are_small.false)
          (ap (repeats []) (map-map (λ out. out.port) seen_out outs) ∙ sym c.in_ok-has_double.ensures ∙ c.if-branch.false)
          (many_seen outs ∙ sym c.are_many.ensures ∙ c.if-are_many.false),
    )
