-- A run that was followed block by block is told as the definition says.
use Rattle.std.proofs.Common.{◌≡◌, ℕ, ◌-◌, ◌≤◌, List, [], ◌∷◌, ◌++◌, length, Option, Some, None, Bool, true, false, cond, refl, sym, ap, ◌∙◌, arith}
use Rattle.std.specs.Prelude.{find}
use Rattle.std.specs.Option.{option_or}
use Rattle.spec_run.specs.declared.block.Block.{Block}
use Rattle.spec_run.specs.declared.fault.RunFault.{RunFault}
use Rattle.spec_run.specs.declared.note.Note.{Note}
use Rattle.spec_run.specs.Run.{Trace}
use Rattle.spec_run.specs.Served.{Setup}
use Rattle.spec_output.specs.Counts.{notes_in}
use Rattle.spec_output.specs.Lines.{line_names}
use Rattle.spec_expect.specs.declared.expectation.Expected.{Expected}
use Rattle.spec_expect.specs.Told.{is_fault, last_line, told_of}
use Rattle.spec_expect.specs.Verdicts.{failed, passed, sum_line}
use Rattle.expect_watch.specs.Begun.{BegunOn}
use Rattle.expect_watch.specs.States.{State, all_taken, taken}
use Rattle.expect_watch.proofs.Told.{all_are, failed_are, lines_are}
use Rattle.text_trace.specs.Expected.{came_out, comes_out, end_line, failed_in, lines_by}
use Rattle.text_trace.specs.Following.{Following, all_followed, followed}
use Rattle.text_trace.specs.Traces.{ended}

find_both : {X : Type 0} (p : X → Bool) (xs ys : List X) → find p (xs ++ ys) ≡ option_or (find p xs) (find p ys)
find_both p [] ys = refl
find_both p (x ∷ xs) ys = by_test (find_both p xs ys) (p x) where
  by_test : find p (xs ++ ys) ≡ option_or (find p xs) (find p ys) → (b : Bool) → cond b (Some x) (find p (xs ++ ys)) ≡ option_or (cond b (Some x) (find p xs)) (find p ys)
  by_test rest true = refl
  by_test rest false = rest

or_none : {X : Type 0} (o : Option X) → option_or o None ≡ o
or_none None = refl
or_none (Some x) = refl

or_both : {X : Type 0} (a b c : Option X) → option_or (option_or a b) c ≡ option_or a (option_or b c)
or_both None b c = refl
or_both (Some x) b c = refl

pub one_at_most : (b : Bool) → cond b 1 0 ≤ 1
one_at_most true = omega arith
one_at_most false = omega arith

abbrev pub after_blocks : List Block → Following → Following
after_blocks blocks f = record { state = all_taken blocks f.state; fault = option_or f.fault (find is_fault (notes_in blocks)) }

pub following_is : (blocks : List Block) (f : Following) → all_followed blocks f ≡ after_blocks blocks f
following_is [] f = ap (λ (o : Option Note). (let x : Following = record { state = f.state; fault = o } in x)) (sym (or_none f.fault))
following_is (b ∷ blocks) f =
    following_is blocks (followed b f)
    ∙ ap (λ (o : Option Note). (let x : Following = record { state = all_taken blocks (taken b f.state); fault = o } in x))
    (or_both f.fault (find is_fault b.notes) (find is_fault (notes_in blocks)) ∙ ap (option_or f.fault) (sym (find_both is_fault b.notes (notes_in blocks))))

-- what is kept before the first block
abbrev pub opening_following : State → Following
opening_following s = record { state = s; fault = None }

module _ (of : Setup) (expected : List Expected) (s : State) (begun : BegunOn of expected s) (trace : Trace) where
  abbrev after : Following
  after = after_blocks trace.blocks (opening_following s)

  failed_is : failed_in after.state ≡ failed of trace.blocks expected
  failed_is = failed_are of expected s begun trace.blocks

  passed_is : length after.state.watched - failed_in after.state ≡ passed of trace.blocks expected
  passed_is = omega (arith, failed_is, all_are of expected s begun trace.blocks)

  last_is : (fault : Option RunFault) → end_line (ended fault) (line_names of.tree of.world) after ≡ last_line of expected trace.blocks fault
  last_is (Some fault) = refl
  last_is None = (λ i. sum_line (passed_is i) (failed_is i))

  pub lines_told : lines_by (ended trace.fault) (line_names of.tree of.world) after ≡ told_of of expected trace
  lines_told = (λ i. lines_are of expected s begun trace.blocks i ++ last_is trace.fault i)

  came_by : (fault : Option RunFault) (n : ℕ) → came_out (ended fault) n ≡ comes_out fault n
  came_by (Some fault) n = refl
  came_by None n = refl

  pub came_so : came_out (ended trace.fault) (failed_in after.state) ≡ comes_out trace.fault (failed of trace.blocks expected)
  came_so = came_by trace.fault (failed_in after.state) ∙ ap (comes_out trace.fault) failed_is
