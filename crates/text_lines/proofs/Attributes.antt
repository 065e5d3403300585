-- Attributes that are added one after the other.
use Rattle.std.proofs.Common.{◌≡◌, ℕ, List, ◌++◌, append_assoc}
use Rattle.std.proofs.lemmas.Grind.{flat_map-append}
use Rattle.std.specs.List.{flat_map}
use Rattle.spec_tree.specs.PrintedTree.{Attribute}

-- the texts of eight lists of attributes are the text of all together
pub eight_texts :
    (f : Attribute → List ℕ) (out : List ℕ) (a b c d e g h i : List Attribute) →
    (((((((out ++ flat_map f a) ++ flat_map f b) ++ flat_map f c) ++ flat_map f d) ++ flat_map f e) ++ flat_map f g) ++ flat_map f h) ++ flat_map f i
    ≡ out ++ flat_map f (a ++ b ++ c ++ d ++ e ++ g ++ h ++ i)
eight_texts f out a b c d e g h i = simp (flat_map-append, append_assoc)

-- a name, and the texts of five lists of attributes, the first in two parts
pub named_texts :
    (f : Attribute → List ℕ) (out name : List ℕ) (a b c d e g : List Attribute) →
    (((((out ++ name) ++ flat_map f (a ++ b)) ++ flat_map f c) ++ flat_map f d) ++ flat_map f e) ++ flat_map f g
    ≡ out ++ (name ++ flat_map f (a ++ b ++ c ++ d ++ e ++ g))
named_texts f out name a b c d e g = simp (flat_map-append, append_assoc)

-- a line that is added part by part
pub line_text :
    (out blanks start text ending last : List ℕ) →
    ((((out ++ blanks) ++ start) ++ text) ++ ending) ++ last ≡ out ++ (blanks ++ (start ++ text ++ ending) ++ last)
line_text out blanks start text ending last = simp append_assoc
