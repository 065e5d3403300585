-- What the words of a line say is well formed.
use Rattle.std.proofs.Common.{◌≡◌, ℕ, ◌≤◌, Bool, true, false, not, ◌&&◌, List, [], ◌∷◌, ◌-◌, map, length, take, codes, ℤ, Option, Some, None, refl, arith, if◌then◌else◌}
use Rattle.std.specs.Prelude.{nat_eq, option_map, option_and_then, bytes_eq, nat_lt, nat_le, ◌==◌, ◌||◌}
use Rattle.std.specs.List.{list_all, slice_split, ends_with, starts_with}
use Rattle.std.proofs.lemmas.List.{length-map}
use Rattle.std.proofs.lemmas.Bool.Decides.{nat_tests}
use Rattle.spec_script.proofs.Bools.{both}
use Rattle.spec_script.specs.declared.syntax.Cmp.{Cmp}
use Rattle.spec_world.specs.declared.world.How.{How}
use Rattle.spec_world.specs.Worlds.{is_name}
use Rattle.spec_world_file.specs.WorldFile.{Line, FactLine, IsLine, WhenLine, TimedLine, TimedByLine, ReplayLine, GateLine, SensedLine, ToldLine, FailsLine, NeedsLine, SetsLine, OutLine, NameLine, GoalLine, RunnersLine, AtLine, TickLine, HaltLine, SetLine, TellLine, EveryLine, Head, head_with, head_of, head_in, comparison_in, outcomes_in, name_line, number_line, named_number, how_in, sets_line, out_line, is_line, condition_line, timed_line, replay_line, told_line, action_line, success_in, tell_line, event_line, line_by, line_in, word, following, ends_after, is_line_byte, every_line, parts_in, words_in}
use Rattle.spec_tree.specs.Numbers.{number_in}

pub record NamedHead (head : Head) : Type 0 where
  pub id : is_name head.id ≡ true
  pub ports : list_all is_name head.ports ≡ true

-- the names of a line are names, and its outcomes are 1 to 64
abbrev pub WellFormed : Line → Type 0
WellFormed (FactLine name opening) = is_name name ≡ true
WellFormed (IsLine id fact op value) = is_name id ≡ true
WellFormed (WhenLine head expr) = NamedHead head
WellFormed (TimedLine head ms) = NamedHead head
WellFormed (TimedByLine head expr) = NamedHead head
WellFormed (ReplayLine head ms outcomes) = NamedHead head × (1 ≤ length outcomes) × (length outcomes ≤ 64)
WellFormed (GateLine head expr) = NamedHead head
WellFormed (SensedLine head) = NamedHead head
WellFormed (ToldLine head) = NamedHead head
WellFormed (OutLine port expr) = is_name port ≡ true
WellFormed (NameLine port) = is_name port ≡ true
WellFormed _ = Unit {0}

abbrev pub AreWell : {X : Type 0} → (X → Type 0) → Option X → Type 0
AreWell P None = Unit {0}
AreWell P (Some x) = P x

pick : {X : Type 0} (P : X → Type 0) (b : Bool) (x y : Option X) → (b ≡ true → AreWell P x) → AreWell P y → AreWell P (if b then x else y)
pick P true x y h k = h refl
pick P false x y h k = k

mapped : {X Y : Type 0} (P : Y → Type 0) (f : X → Y) (o : Option X) → ((x : X) → P (f x)) → AreWell P (option_map f o)
mapped P f None h = tt
mapped P f (Some x) h = h x

mapped_by : {X Y : Type 0} (Q : X → Type 0) (P : Y → Type 0) (f : X → Y) (o : Option X) → AreWell Q o → ((x : X) → Q x → P (f x)) → AreWell P (option_map f o)
mapped_by Q P f None q h = tt
mapped_by Q P f (Some x) q h = h x q

chained : {X Y : Type 0} (Q : X → Type 0) (P : Y → Type 0) (f : X → Option Y) (o : Option X) → AreWell Q o → ((x : X) → Q x → AreWell P (f x)) → AreWell P (option_and_then f o)
chained Q P f None q h = tt
chained Q P f (Some x) q h = h x q

anything : {X : Type 0} (o : Option X) → AreWell (λ (x : X). Unit {0}) o
anything None = tt
anything (Some x) = tt

with_well : (id : List ℕ) (ports : List (List ℕ)) → AreWell NamedHead (head_with id ports)
with_well id ports =
    pick NamedHead (is_name id && list_all is_name ports) (Some (record { id = id; ports = ports })) None
    (λ h. let k = both (is_name id) (list_all is_name ports) h in record { id = k.0; ports = k.1 }) tt

heads_well : (words : List (List ℕ)) → AreWell NamedHead (head_of words)
heads_well [] = tt
heads_well (id ∷ []) = with_well id []
heads_well (id ∷ rest ∷ []) =
    let ports : List (List ℕ) = slice_split (λ b. b == 44) (take (length rest - 1) rest) in
    pick NamedHead (ends_with nat_eq rest (codes ")")) (head_with id ports) None (λ h. with_well id ports) tt
heads_well (id ∷ rest ∷ more ∷ words) = tt

pub head_well : (word : List ℕ) → AreWell NamedHead (head_in word)
head_well word = heads_well (slice_split (λ b. b == 40) word)

abbrev HasOutcomes : List Bool → Type 0
HasOutcomes outcomes = (1 ≤ length outcomes) × (length outcomes ≤ 64)

outcomes_well : (word : List ℕ) → AreWell HasOutcomes (outcomes_in word)
outcomes_well word =
    pick HasOutcomes (nat_lt 0 (length word) && nat_le (length word) 64 && list_all (λ b. b == 83 || b == 70) word) (Some (map (λ b. b == 83) word)) None
    (λ h.
    let all = both (nat_lt 0 (length word) && nat_le (length word) 64) (list_all (λ b. b == 83 || b == 70) word) h in
    let counted = both (nat_lt 0 (length word)) (nat_le (length word) 64) all.0 in
    let e : length (map (λ b. b == 83) word) ≡ length word = length-map word (λ b. b == 83) in
    let low : nat_lt 0 (length word) ≡ true = counted.0 in
    let high : nat_le (length word) 64 ≡ true = counted.1 in
    (grind (arith, nat_tests), grind (arith, nat_tests))) tt

name_well : (line : List ℕ → Line) (text : List ℕ) → ((w : List ℕ) → is_name w ≡ true → WellFormed (line w)) → AreWell WellFormed (name_line line text)
name_well line text h = pick WellFormed (is_name (word 0 text) && ends_after 1 text) (Some (line (word 0 text))) None (λ k. h (word 0 text) (both (is_name (word 0 text)) (ends_after 1 text) k).0) tt

number_well : (line : ℤ → Line) (text : List ℕ) → ((z : ℤ) → WellFormed (line z)) → AreWell WellFormed (number_line line text)
number_well line text h = pick WellFormed (ends_after 1 text) (option_map line (number_in (word 0 text))) None (λ k. mapped WellFormed line (number_in (word 0 text)) h) tt

named_well : (line : List ℕ → ℤ → Line) (text : List ℕ) → ((w : List ℕ) (z : ℤ) → is_name w ≡ true → WellFormed (line w z)) → AreWell WellFormed (named_number line text)
named_well line text h =
    pick WellFormed (is_name (word 0 text) && ends_after 2 text) (option_map (line (word 0 text)) (number_in (word 1 text))) None
    (λ k. mapped WellFormed (line (word 0 text)) (number_in (word 1 text)) (λ z. h (word 0 text) z (both (is_name (word 0 text)) (ends_after 2 text) k).0)) tt

sets_well : (text : List ℕ) → AreWell WellFormed (sets_line text)
sets_well text =
    pick WellFormed (is_name (word 0 text) && ends_after 3 text)
    (option_and_then (λ how. option_map (SetsLine (word 0 text) how) (number_in (word 2 text))) (how_in (word 1 text))) None
    (λ k. chained (λ (how : How). Unit {0}) WellFormed (λ how. option_map (SetsLine (word 0 text) how) (number_in (word 2 text))) (how_in (word 1 text)) (anything (how_in (word 1 text)))
    (λ how u. mapped WellFormed (SetsLine (word 0 text) how) (number_in (word 2 text)) (λ z. tt))) tt

out_well : (text : List ℕ) → AreWell WellFormed (out_line text)
out_well text =
    pick WellFormed (is_name (word 0 text) && bytes_eq (word 1 text) (codes "=")) (Some (OutLine (word 0 text) (following 2 text))) (name_line NameLine text)
    (λ k. (both (is_name (word 0 text)) (bytes_eq (word 1 text) (codes "=")) k).0) (name_well NameLine text (λ w h. h))

is_well : (id text : List ℕ) → AreWell WellFormed (is_line id text)
is_well id text =
    pick WellFormed (is_name id && is_name (word 0 text) && ends_after 3 text)
    (option_and_then (λ op. option_map (IsLine id (word 0 text) op) (number_in (word 2 text))) (comparison_in (word 1 text))) None
    (λ k.
    let named = (both (is_name id) (is_name (word 0 text)) (both (is_name id && is_name (word 0 text)) (ends_after 3 text) k).0).0 in
    chained (λ (op : Cmp). Unit {0}) WellFormed (λ op. option_map (IsLine id (word 0 text) op) (number_in (word 2 text))) (comparison_in (word 1 text)) (anything (comparison_in (word 1 text)))
    (λ op u. mapped WellFormed (IsLine id (word 0 text) op) (number_in (word 2 text)) (λ z. named))) tt

told_well : (line : Head → Line) (row text : List ℕ) → ((head : Head) → NamedHead head → WellFormed (line head)) → AreWell WellFormed (told_line line row text)
told_well line row text h = pick WellFormed (length text == 0) (option_map line (head_in row)) None (λ k. mapped_by NamedHead WellFormed line (head_in row) (head_well row) h) tt

condition_well : (text : List ℕ) → AreWell WellFormed (condition_line text)
condition_well text =
    pick WellFormed (bytes_eq (word 1 text) (codes "is")) (is_line (word 0 text) (following 2 text)) _ (λ k. is_well (word 0 text) (following 2 text))
    (pick WellFormed (bytes_eq (word 1 text) (codes "when")) (option_map (λ head. WhenLine head (following 2 text)) (head_in (word 0 text))) _
    (λ k. mapped_by NamedHead WellFormed (λ head. WhenLine head (following 2 text)) (head_in (word 0 text)) (head_well (word 0 text)) (λ head h. h))
    (pick WellFormed (bytes_eq (word 1 text) (codes "told")) (told_line SensedLine (word 0 text) (following 2 text)) None
    (λ k. told_well SensedLine (word 0 text) (following 2 text) (λ head h. h)) tt))

replay_well : (text : List ℕ) (head : Head) → NamedHead head → AreWell WellFormed (replay_line text head)
replay_well text head h =
    pick WellFormed (ends_after 2 text) (option_and_then (λ ms. option_map (ReplayLine head ms) (outcomes_in (word 1 text))) (number_in (word 0 text))) None
    (λ k. chained (λ (z : ℤ). Unit {0}) WellFormed (λ ms. option_map (ReplayLine head ms) (outcomes_in (word 1 text))) (number_in (word 0 text)) (anything (number_in (word 0 text)))
    (λ z u. mapped_by HasOutcomes WellFormed (ReplayLine head z) (outcomes_in (word 1 text)) (outcomes_well (word 1 text)) (λ l o. (h, o.0, o.1)))) tt

timed_well : (text : List ℕ) (head : Head) → NamedHead head → AreWell WellFormed (timed_line text head)
timed_well text head h =
    pick WellFormed (starts_with nat_eq text (codes "(")) (Some (TimedByLine head text)) (number_line (TimedLine head) text) (λ k. h) (number_well (TimedLine head) text (λ z. h))

action_well : (text : List ℕ) → AreWell WellFormed (action_line text)
action_well text =
    pick WellFormed (bytes_eq (word 1 text) (codes "timed")) (option_and_then (timed_line (following 2 text)) (head_in (word 0 text))) _
    (λ k. chained NamedHead WellFormed (timed_line (following 2 text)) (head_in (word 0 text)) (head_well (word 0 text)) (λ head h. timed_well (following 2 text) head h))
    (pick WellFormed (bytes_eq (word 1 text) (codes "replay")) (option_and_then (replay_line (following 2 text)) (head_in (word 0 text))) _
    (λ k. chained NamedHead WellFormed (replay_line (following 2 text)) (head_in (word 0 text)) (head_well (word 0 text)) (λ head h. replay_well (following 2 text) head h))
    (pick WellFormed (bytes_eq (word 1 text) (codes "gate")) (option_map (λ head. GateLine head (following 2 text)) (head_in (word 0 text))) _
    (λ k. mapped_by NamedHead WellFormed (λ head. GateLine head (following 2 text)) (head_in (word 0 text)) (head_well (word 0 text)) (λ head h. h))
    (pick WellFormed (bytes_eq (word 1 text) (codes "told")) (told_line ToldLine (word 0 text) (following 2 text)) None
    (λ k. told_well ToldLine (word 0 text) (following 2 text) (λ head h. h)) tt)))

tell_well : (text : List ℕ) → AreWell WellFormed (tell_line text)
tell_well text =
    chained (λ (z : ℤ). Unit {0}) WellFormed _ (number_in (word 0 text)) (anything (number_in (word 0 text))) (λ runner u.
    chained (λ (z : ℤ). Unit {0}) WellFormed _ (number_in (word 1 text)) (anything (number_in (word 1 text))) (λ uid u.
    chained (λ (b : Bool). Unit {0}) WellFormed _ (success_in (word 2 text)) (anything (success_in (word 2 text))) (λ succeeds u.
    pick WellFormed (succeeds || ends_after 3 text) (Some (TellLine runner uid succeeds (following 3 text))) None (λ k. tt) tt)))

every_well : (text : List ℕ) → AreWell WellFormed (every_line text)
every_well text =
    pick WellFormed (bytes_eq (word 1 text) (codes "until") && not (ends_after 3 text)) _ None (λ k.
    chained (λ (z : ℤ). Unit {0}) WellFormed _ (number_in (word 0 text)) (anything (number_in (word 0 text))) (λ ms u.
    chained (λ (z : ℤ). Unit {0}) WellFormed _ (number_in (word 2 text)) (anything (number_in (word 2 text))) (λ last u.
    mapped WellFormed (EveryLine ms last) (parts_in (words_in (following 3 text))) (λ parts. tt)))) tt

event_well : (kind text : List ℕ) → AreWell WellFormed (event_line kind text)
event_well kind text =
    pick WellFormed (bytes_eq kind (codes "goal")) (name_line GoalLine text) _ (λ k. name_well GoalLine text (λ w h. tt))
    (pick WellFormed (bytes_eq kind (codes "runners")) (number_line RunnersLine text) _ (λ k. number_well RunnersLine text (λ z. tt))
    (pick WellFormed (bytes_eq kind (codes "at")) (number_line AtLine text) _ (λ k. number_well AtLine text (λ z. tt))
    (pick WellFormed (bytes_eq kind (codes "tick")) (number_line TickLine text) _ (λ k. number_well TickLine text (λ z. tt))
    (pick WellFormed (bytes_eq kind (codes "halt")) (number_line HaltLine text) _ (λ k. number_well HaltLine text (λ z. tt))
    (pick WellFormed (bytes_eq kind (codes "set")) (named_number SetLine text) _ (λ k. named_well SetLine text (λ w z h. tt))
    (pick WellFormed (bytes_eq kind (codes "tell")) (tell_line text) _ (λ k. tell_well text)
    (pick WellFormed (bytes_eq kind (codes "every")) (every_line text) None (λ k. every_well text) tt)))))))

by_well : (kind text : List ℕ) → AreWell WellFormed (line_by kind text)
by_well kind text =
    pick WellFormed (bytes_eq kind (codes "fact")) (named_number FactLine text) _ (λ k. named_well FactLine text (λ w z h. h))
    (pick WellFormed (bytes_eq kind (codes "condition")) (condition_line text) _ (λ k. condition_well text)
    (pick WellFormed (bytes_eq kind (codes "action")) (action_line text) _ (λ k. action_well text)
    (pick WellFormed (bytes_eq kind (codes "fails")) (Some (FailsLine text)) _ (λ k. tt)
    (pick WellFormed (bytes_eq kind (codes "needs")) (name_line NeedsLine text) _ (λ k. name_well NeedsLine text (λ w h. tt))
    (pick WellFormed (bytes_eq kind (codes "sets")) (sets_line text) _ (λ k. sets_well text)
    (pick WellFormed (bytes_eq kind (codes "out")) (out_line text) _ (λ k. out_well text) (event_well kind text)))))))

-- what a line says is well formed
pub line_well : (text : List ℕ) → AreWell WellFormed (line_in text)
line_well text = pick WellFormed (list_all is_line_byte text) (line_by (word 0 text) (following 1 text)) None (λ k. by_well (word 0 text) (following 1 text)) tt
