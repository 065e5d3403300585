-- Identifiers are ASCII, and so UTF-8.
use Rattle.std.proofs.Common.{◌≡◌, ℕ, zero, suc, ◌<◌, Bool, true, List, [], ◌∷◌, get_or, arith, lit<}
use Rattle.std.proofs.lemmas.Bool.Decides.{nat_tests}
use Rattle.std.specs.List.{list_all}
use Rattle.std.specs.Str.{IsUtf8}
use Rattle.std.proofs.lemmas.Str.{IsUtf8-from_ascii}
use Rattle.spec_script.proofs.Bools.{both}
use Rattle.spec_script.specs.Identifiers.{is_identifier_start, is_identifier_continue, is_identifier}

all-ascii : (p : ℕ → Bool) → ((c : ℕ) → p c ≡ true → c < 128) → (bs : List ℕ) → list_all p bs ≡ true → (i : ℕ) → get_or bs i 0 < 128
all-ascii p small [] h i = lit< tt
all-ascii p small (c ∷ cs) h zero = small c (both (p c) (list_all p cs) h).0
all-ascii p small (c ∷ cs) h (suc i) = all-ascii p small cs (both (p c) (list_all p cs) h).1 i

-- where each byte that passes is ASCII, bytes that all pass are UTF-8
pub IsUtf8-from_all : (p : ℕ → Bool) → ((c : ℕ) → p c ≡ true → c < 128) → (bs : List ℕ) → list_all p bs ≡ true → IsUtf8 bs
IsUtf8-from_all p small bs h = IsUtf8-from_ascii bs (all-ascii p small bs h)

pub small_continue : (c : ℕ) → is_identifier_continue c ≡ true → c < 128
small_continue c h = grind (arith, nat_tests)

pub IsUtf8-from_continue : (bs : List ℕ) → list_all is_identifier_continue bs ≡ true → IsUtf8 bs
IsUtf8-from_continue = IsUtf8-from_all is_identifier_continue small_continue

pub IsUtf8-from_is_identifier : (bs : List ℕ) → is_identifier bs ≡ true → IsUtf8 bs
IsUtf8-from_is_identifier [] h = absurd (cc)
IsUtf8-from_is_identifier (c ∷ cs) h = IsUtf8-from_continue (c ∷ cs) (both (is_identifier_start c) (list_all is_identifier_continue (c ∷ cs)) h).1
