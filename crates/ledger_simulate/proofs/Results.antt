-- Facts of an answer that is Ok.
use Rattle.std.proofs.Common.{◌≡◌, Result, Ok, Err, OnOk, subst}

-- a fact that holds whatever the answer is
pub on_any : {A E X : Type 0} (r : Result A E) → X → OnOk r X
on_any (Ok a) x = x
on_any (Err e) x = tt

-- what follows from a fact, and from two
pub on_map : {A E X Y : Type 0} (r : Result A E) → (X → Y) → OnOk r X → OnOk r Y
on_map (Ok a) f x = f x
on_map (Err e) f x = tt

pub on_both : {A E X Y Z : Type 0} (r : Result A E) → (X → Y → Z) → OnOk r X → OnOk r Y → OnOk r Z
on_both (Ok a) f x y = f x y
on_both (Err e) f x y = tt

-- what follows from another answer that was Ok
pub on_ok_of : {A B E F X Y : Type 0} (r : Result A E) (done : Result B F) (b : B) → (X → Y) → OnOk r (done ≡ Ok b) → OnOk done X → OnOk r Y
on_ok_of {A} {B} {E} {F} {X} {Y} (Ok a) done b f same fact = f (subst (λ (d : Result B F). OnOk d X) same fact)
on_ok_of (Err e) done b f same fact = tt
