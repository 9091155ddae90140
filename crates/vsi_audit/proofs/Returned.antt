-- Facts that hold if a function returns successfully.
use Rattle.std.proofs.Common.{Result, Ok, Err, OnOk}

-- A fact about a success implies its consequence there.
pub on_ok : {E : Type 0} (r : Result (Unit {0}) E) (P Q : Type 0) → (P → Q) → OnOk r P → OnOk r Q
on_ok (Ok u) P Q f h = f h
on_ok (Err e) P Q f h = tt

-- Two facts about a success imply their consequence there.
pub on_both : {E : Type 0} (r : Result (Unit {0}) E) (P Q R : Type 0) → (P → Q → R) → OnOk r P → OnOk r Q → OnOk r R
on_both (Ok u) P Q R f h k = f h k
on_both (Err e) P Q R f h k = tt

-- A fact that always holds also holds for a success.
pub on_any : {E : Type 0} (r : Result (Unit {0}) E) (P : Type 0) → P → OnOk r P
on_any (Ok u) P h = h
on_any (Err e) P h = tt
