-- A file reads as the same expectations of a tree in a world each time, or it has one first faulty line.
use Rattle.std.proofs.Common.{◌≡◌, ℕ, ◌+◌, Bool, true, false, List, [], ◌∷◌, Option, Some, None, Result, Ok, Err, refl, sym, ap, ◌∙◌, subst}
use Rattle.std.specs.Prelude.{MatchBool, bytes_eq, codes}
use Rattle.base_texts.specs.Results.{◌>>=◌}
use Rattle.script_reader.proofs.Exclusive.{one-expr}
use Rattle.spec_script.specs.declared.syntax.Expr.{Expr}
use Rattle.spec_tree.specs.declared.term.Tree.{Tree}
use Rattle.spec_world.specs.declared.world.World.{World}
use Rattle.spec_world_file.specs.WorldFile.{ReadsNumeric, content, is_ignored, lines_in, without_return}
use Rattle.spec_expect.specs.declared.expect_fault.ExpectFault.{ExpectFault}
use Rattle.spec_expect.specs.declared.expect_fault.ExpectFaultKind.{ExpectFaultKind}
use Rattle.spec_expect.specs.declared.expect_fault.ExpectFaultKind.TheVariants.{Header}
use Rattle.spec_expect.specs.declared.expectation.Expectation.{Expectation}
use Rattle.spec_expect.specs.declared.expectation.Expected.{Expected}
use Rattle.spec_expect.specs.ExpectFile.{AfterContent, AfterForm, AfterLines, AlwaysLine, AtLine, ByLine, EndsLine, FormSays, GoesOn, Line, LinesRead, NeverAnswersLine, NeverWithLine, OrderLine, ReadsExpected, Says, SaysOf, StartsLine, StartsOnlyLine, Subject, by_expr, line_in, subject_of, with_expected}

one_numeric : (text : List ℕ) (a b : Option Expr) → ReadsNumeric text a → ReadsNumeric text b → a ≡ b
one_numeric text None None h k = refl
one_numeric text None (Some e) h k = absurd (h e k.0 k.1)
one_numeric text (Some e) None h k = absurd (k e h.0 h.1)
one_numeric text (Some e) (Some f) h k = ap (λ (x : Expr). Some x) (one-expr text e f h.0 k.0)

one_saying : (text : List ℕ) (rule : Expr → Result Expectation ExpectFaultKind) (a b : Result Expectation ExpectFaultKind) → SaysOf text rule a → SaysOf text rule b → a ≡ b
one_saying text rule a b h k = h.is ∙ ap (λ (o : Option Expr). by_expr o rule) (one_numeric text h.expr k.expr h.reads k.reads) ∙ sym k.is

one_line : (s : Subject) (line : Line) (a b : Result Expectation ExpectFaultKind) → Says s line a → Says s line b → a ≡ b
one_line s (AlwaysLine expr) a b h k = one_saying expr _ a b h k
one_line s (AtLine ms expr) a b h k = one_saying expr _ a b h k
one_line s (ByLine ms runner answer) a b h k = h ∙ sym k
one_line s (NeverAnswersLine runner answer) a b h k = h ∙ sym k
one_line s (StartsOnlyLine leaf expr) a b h k = one_saying expr _ a b h k
one_line s (StartsLine leaf op count) a b h k = h ∙ sym k
one_line s (EndsLine leaf answer ms) a b h k = h ∙ sym k
one_line s (NeverWithLine first second) a b h k = h ∙ sym k
one_line s (OrderLine first second) a b h k = h ∙ sym k

one_form : (s : Subject) (o : Option Line) (a b : Result Expectation ExpectFaultKind) → FormSays s o a → FormSays s o b → a ≡ b
one_form s None a b h k = h ∙ sym k
one_form s (Some line) a b h k = one_line s line a b h k

one_content : (s : Subject) (before : List Expected) (line : ℕ) (text : List ℕ) (a b : Result (List Expected) ExpectFaultKind) → AfterContent s before line text a → AfterContent s before line text b → a ≡ b
one_content s before line text a b = by (is_ignored text) where
  by : (t : Bool) → MatchBool t (a ≡ Ok before) (AfterForm s before line text a) → MatchBool t (b ≡ Ok before) (AfterForm s before line text b) → a ≡ b
  by true h k = h ∙ sym k
  by false h k = h.is ∙ ap (λ (said : Result Expectation ExpectFaultKind). said >>= with_expected before line) (one_form s (line_in text) h.said k.said h.says k.says) ∙ sym k.is

one_after : (s : Subject) (n : ℕ) (texts : List (List ℕ)) (before : List Expected) (a b : Result (List Expected) ExpectFault) → AfterLines s n texts before a → AfterLines s n texts before b → a ≡ b
one_after s n [] before a b h k = h ∙ sym k
one_after s n (text ∷ texts) before a b h k =
    by (one_after s (n + 1) texts) k.0 (subst (GoesOn n (λ left. AfterLines s (n + 1) texts left a) a) (one_content s before n (content text) h.0 k.0 h.1 k.1) h.2) k.2
  where
    by : ((left : List Expected) (a b : Result (List Expected) ExpectFault) → AfterLines s (n + 1) texts left a → AfterLines s (n + 1) texts left b → a ≡ b) →
        (next : Result (List Expected) ExpectFaultKind) → GoesOn n (λ left. AfterLines s (n + 1) texts left a) a next → GoesOn n (λ left. AfterLines s (n + 1) texts left b) b next → a ≡ b
    by rest (Ok left) x y = rest left a b x y
    by rest (Err kind) x y = x ∙ sym y

abbrev none : Result (List Expected) ExpectFault
none = Err (record { line = 1; kind = Header })

one_file : (s : Subject) (texts : List (List ℕ)) (a b : Result (List Expected) ExpectFault) → LinesRead s texts a → LinesRead s texts b → a ≡ b
one_file s [] a b h k = h ∙ sym k
one_file s (first ∷ rest) a b h k = by (bytes_eq (without_return first) (codes "bt-expect 1")) h k where
  by : (t : Bool) → MatchBool t (AfterLines s 2 rest [] a) (a ≡ none) → MatchBool t (AfterLines s 2 rest [] b) (b ≡ none) → a ≡ b
  by true h k = one_after s 2 rest [] a b h k
  by false h k = h ∙ sym k

pub one_reading : (tree : Tree) (world : World) (bytes : List ℕ) (a b : Result (List Expected) ExpectFault) → ReadsExpected tree world bytes a → ReadsExpected tree world bytes b → a ≡ b
one_reading tree world bytes a b h k = one_file (subject_of tree world) (lines_in bytes) a b h k
