-- What results that are bound or tested gave.
use Rattle.std.proofs.Common.{◌≡◌, Bool, true, false, Result, Ok, Err, refl, if◌then◌else◌}
use Rattle.tree_elements.specs.Reading.{◌>=>◌}

pub ok_inj : {A E : Type 0} (x y : A) → ◌≡◌ {A = Result A E} (Ok x) (Ok y) → x ≡ y
ok_inj x y h = cc

pub bind_ok : {A B E : Type 0} (o : Result A E) (f : A → Result B E) (y : B) → (o >=> f) ≡ Ok y → (x : A) × (o ≡ Ok x) × (f x ≡ Ok y)
bind_ok (Err e) f y h = absurd (cc)
bind_ok (Ok x) f y h = (x, refl, h)

pub if_ok : {A E : Type 0} (b : Bool) (o : Result A E) (e : E) (y : A) → (if b then o else Err e) ≡ Ok y → (b ≡ true) × (o ≡ Ok y)
if_ok true o e y h = (refl, h)
if_ok false o e y h = absurd (cc)
