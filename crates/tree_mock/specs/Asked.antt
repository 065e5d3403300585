-- What rules can say of a JSON value.
use Rattle.std.specs.Prelude.{◌≡◌, ℕ, zero, suc, List, Bool, true, false, ◌||◌, codes, Option, Some, None, Result, Ok, Err}
use Rattle.std.specs.Str.{bytes_eq}
use Rattle.base_texts.specs.Options.{◌>>=◌}
use Rattle.base_texts.specs.declared.stop.Stop.{Stop}
use Rattle.base_texts.specs.declared.stop.Stop.TheVariants as stop
use Rattle.serde_json.specs.Data.{Data, Members, no_members, member}
use Rattle.serde_json.specs.Find.{as_number, as_object, as_str, as_u64, get_member}
use Rattle.serde_json.specs.View.{view}
use Rattle.serde_json.specs.declared.value.Value.{Value}
use Rattle.spec_tree_file.specs.declared.mock_fault.MockFault.{MockFault}
use Rattle.spec_tree_file.specs.declared.mock_fault.MockFault.TheVariants.{Json}

-- a call stops at a fault
abbrev pub StopsAtFault : {F : Type 0} → Stop F → Type 0
StopsAtFault stop.NoMemory = ⊥
StopsAtFault (stop.Fault f) = Unit {0}

-- and so it ends
abbrev pub IsFault : {X F : Type 0} → Result X (Stop F) → Type 0
IsFault (Ok x) = ⊥
IsFault (Err s) = StopsAtFault s

-- a name of what a configuration can say
abbrev pub is_field : List ℕ → Bool
is_field name = bytes_eq name (codes "return_status") || bytes_eq name (codes "async_delay") || bytes_eq name (codes "post_script")

-- a name of what rules read of a document
abbrev pub is_section : List ℕ → Bool
is_section name = bytes_eq name (codes "TestNodeConfigs") || bytes_eq name (codes "SubstitutionRules")

-- whether members of a name are kept of an object, of which so many levels are asked
abbrev pub asked : ℕ → List ℕ → Bool
asked zero name = false
asked (suc zero) name = is_field name
asked (suc (suc zero)) name = true
asked (suc (suc (suc n))) name = is_section name

-- a value says, in place of another, the same text and the same number
abbrev pub IsPlain : Data → Data → Type 0
IsPlain v d = (as_str v ≡ as_str d) × ((as_number v >>= as_u64) ≡ (as_number d >>= as_u64))

-- both or none are there, and are so
abbrev pub Both : {A : Type 0} → (A → A → Type 0) → Option A → Option A → Type 0
Both R None None = Unit {0}
Both R None (Some b) = ⊥
Both R (Some a) None = ⊥
Both R (Some a) (Some b) = R a b

-- members of the same names, with values that are so
abbrev pub Pairs : (Data → Data → Type 0) → Members → Members → Type 0
Pairs R no_members no_members = Unit {0}
Pairs R no_members (member name d others) = ⊥
Pairs R (member name v others) no_members = ⊥
Pairs R (member name v vs) (member other d ds) = (name ≡ other) × R v d × Pairs R vs ds

-- members of the names that pass a test, with values that are so
abbrev pub Named : (List ℕ → Bool) → (Data → Data → Type 0) → Members → Members → Type 0
Named test R vs ds = (name : List ℕ) → test name ≡ true → Both R (get_member name vs) (get_member name ds)

-- a value says what another does, where objects of such members say the same
abbrev pub Says : (Members → Members → Type 0) → Data → Data → Type 0
Says R v d = IsPlain v d × Both R (as_object v) (as_object d)

-- members say what others do, as far as so many levels are asked: of a document three, of each of its two members two
abbrev pub Agree : ℕ → Members → Members → Type 0
Agree zero vs ds = Unit {0}
Agree (suc zero) vs ds = Named is_field IsPlain vs ds
Agree (suc (suc zero)) vs ds = Pairs (Says (Agree (suc zero))) vs ds
Agree (suc (suc (suc n))) vs ds = Named is_section (Says (Agree (suc (suc n)))) vs ds

-- a value says what another does
abbrev pub Shows : ℕ → Data → Data → Type 0
Shows n v d = Says (Agree n) v d

-- what rules can say is kept of the value of a text, or its fault is told; want of memory may come anywhere
abbrev pub Keeps : Result Value (Stop MockFault) → Option Data → Type 0
Keeps (Ok v) o = (d : Data) × (o ≡ Some d) × Shows 3 (view v) d
Keeps (Err stop.NoMemory) o = Unit {0}
Keeps (Err (stop.Fault f)) o = (o ≡ None) × (f ≡ Json)
