-- What can be concluded of a result.
use Rattle.std.proofs.Common.{Result, Ok, Err, OnOk, IfOk}

pub ok_gives : {A E : Type 0} {P Q : Type 0} (r : Result A E) → (P → Q) → OnOk r P → OnOk r Q
ok_gives (Ok a) f p = f p
ok_gives (Err e) f p = tt

-- two properties of an answer give a third
pub both_give : {A E : Type 0} {P Q R : A → Type 0} (r : Result A E) → ((a : A) → P a → Q a → R a) → IfOk r P → IfOk r Q → IfOk r R
both_give (Ok a) f p q = f a p q
both_give (Err e) f p q = tt
