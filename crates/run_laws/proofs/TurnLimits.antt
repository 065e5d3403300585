-- The limit that a Retry, a Repeat or a RecoveryNode keeps is not above what its work counts.
use Rattle.std.proofs.Common.{◌≡◌, ℕ, ◌≤◌, List, [], ◌∷◌, Bool, true, false, ◌&&◌, cond, pos, negsuc, int_le, unsigned_abs, find, Some, refl, sym, subst, arith, ⊎_elim}
use Rattle.std.proofs.lemmas.Bool.{and_parts, cond_both, leb-true, or_cases}
use Rattle.std.specs.Prelude.{ℤ, codes, IsTrue}
use Rattle.std.specs.List.{list_all}
use Rattle.std.specs.Ordering.{int_eq}
use Rattle.std.specs.Str.{bytes_eq}
use Rattle.spec_script.specs.declared.value.Value.{Value}
use Rattle.spec_script.specs.declared.value.Value.TheVariants.{Int}
use Rattle.spec_tree.specs.declared.built_ins.Range.{Range}
use Rattle.spec_tree.specs.declared.built_ins.Range.TheVariants as range
use Rattle.spec_tree.specs.declared.term.Kind.TheVariants.{RecoveryNode, Retry, Repeat}
use Rattle.spec_tree.specs.declared.term.Port.{Port}
use Rattle.spec_tree.specs.declared.term.PortValue.{PortValue}
use Rattle.spec_tree.specs.declared.term.PortValue.TheVariants.{Lit, Key}
use Rattle.spec_tree.specs.BuiltIns.{PortRule, fits, required, with_default}
use Rattle.spec_run.specs.Ports.{given_by}
use Rattle.base_tables.specs.Shapes.{IsGiven, IsGivenAt}
use Rattle.spec_tree.specs.Terms.{turns_given, turns_of}
use Rattle.spec_tree.specs.Trees.{is_one_of, ports_fit}
use Rattle.spec_tree.specs.Values.{value_fits}

-- a limit lets a child be visited at most this often; no limit counts as one visit
abbrev pub Allows : ℤ → ℕ → Type 0
Allows (pos limit) most = limit ≤ most
Allows (negsuc n) most = 1 ≤ most

literal_allows : (k : ℤ) → Allows k (turns_given (Lit (Int k)))
literal_allows (pos limit) = omega arith
literal_allows (negsuc n) = cond_both (int_eq (negsuc n) (negsuc 0)) 1 (unsigned_abs (negsuc n)) (λ (most : ℕ). 1 ≤ most) (λ _. omega arith) (λ _. omega arith)

-- a number of a range allows at most as many visits as the work of a key counts
abbrev KeysAllow : Range → Type 0
KeysAllow r = (k : ℤ) → fits r (Int k) ≡ true → Allows k 1000

key_allows : KeysAllow range.Turns
key_allows (negsuc n) e = omega arith
key_allows (pos limit) e = ⊎_elim
    (λ same. absurd (not_same same))
    (λ between. leb-true limit 1000 (and_parts (int_le (pos 1) (pos limit)) (int_le (pos limit) (pos 1000)) between).1)
    (or_cases (int_eq (pos limit) (negsuc 0)) (int_le (pos 1) (pos limit) && int_le (pos limit) (pos 1000)) e)
  where
    not_same : int_eq (pos limit) (negsuc 0) ≡ true → ⊥
    not_same same = cc

recovery_key_allows : KeysAllow range.Recoveries
recovery_key_allows (negsuc n) e = omega arith
recovery_key_allows (pos limit) e = leb-true limit 1000 (and_parts (int_le (pos 0) (pos limit)) (int_le (pos limit) (pos 1000)) e).1

given_allows : (r : Range) → KeysAllow r → (given : PortValue) (k : ℤ) → IsGiven r (Some given) k → Allows k (turns_given given)
given_allows r keys (Key key) k is = keys k is
given_allows r keys (Lit value) k is = subst (λ (v : Value). Allows k (turns_given (Lit v))) (sym is) (literal_allows k)

-- a port that fits a kind with a single port has the name of that port
named_so : (rule : PortRule) (port : Port) → is_one_of (rule ∷ []) port ≡ true → bytes_eq port.name rule.name ≡ true
named_so rule port = by (bytes_eq port.name rule.name)
  where
    by : (b : Bool) → cond b (value_fits rule.range port.value) false ≡ true → b ≡ true
    by true e = refl
    by false e = cc

module _ (rule : PortRule) (keys : KeysAllow rule.range) where
  -- a port is found where the first of them has the name
  first_allows : (first : Port) (ports : List Port) (k : ℤ) → bytes_eq first.name rule.name ≡ true → IsGivenAt rule.range (first ∷ ports) rule.name k → Allows k (turns_of (first ∷ ports))
  first_allows first ports k named is =
      given_allows rule.range keys first.value k
      (subst (λ (b : Bool). IsGiven rule.range (given_by (cond b (Some first) (find (λ (port : Port). bytes_eq port.name rule.name) ports))) k) named is)

  -- the ports of a kind with this port alone
  ports_allow : (ports : List Port) (k : ℤ) → list_all (is_one_of (rule ∷ [])) ports ≡ true → IsGivenAt rule.range ports rule.name k → Allows k (turns_of ports)
  ports_allow [] k fit is = absurd is
  ports_allow (first ∷ ports) k fit is =
      first_allows first ports k (named_so rule first (and_parts (is_one_of (rule ∷ []) first) (list_all (is_one_of (rule ∷ [])) ports) fit).0) is

abbrev attempts : PortRule
attempts = required (codes "num_attempts") range.Turns

pub retry_allows : (ports : List Port) (k : ℤ) → IsTrue (ports_fit Retry ports) → IsGivenAt range.Turns ports (codes "num_attempts") k → Allows k (turns_of ports)
retry_allows ports k fit is = ports_allow attempts key_allows ports k (and_parts (list_all (is_one_of (attempts ∷ [])) ports) _ fit).0 is

abbrev cycles : PortRule
cycles = required (codes "num_cycles") range.Turns

pub repeat_allows : (ports : List Port) (k : ℤ) → IsTrue (ports_fit Repeat ports) → IsGivenAt range.Turns ports (codes "num_cycles") k → Allows k (turns_of ports)
repeat_allows ports k fit is = ports_allow cycles key_allows ports k (and_parts (list_all (is_one_of (cycles ∷ [])) ports) _ fit).0 is

abbrev recoveries : PortRule
recoveries = with_default (codes "number_of_retries") range.Recoveries (codes "1")

pub recoveries_allow : (ports : List Port) (k : ℤ) → IsTrue (ports_fit RecoveryNode ports) → IsGivenAt range.Recoveries ports (codes "number_of_retries") k → Allows k (turns_of ports)
recoveries_allow ports k fit is = ports_allow recoveries recovery_key_allows ports k (and_parts (list_all (is_one_of (recoveries ∷ [])) ports) _ fit).0 is
