-- What holds of a call that ends another one, where that fails, and where it succeeds.
use Rattle.std.proofs.Common.{◌≡◌}
use Rattle.std.specs.Prelude.{Result, Ok, Err, OnErr, OnOk}

pub on_err : {X E : Type 0} (r : Result X E) (P Q : Type 0) → (P → Q) → OnErr r P → OnErr r Q
on_err (Ok x) P Q go is = tt
on_err (Err e) P Q go is = go is

pub on_err_only : {X E : Type 0} (r : Result X E) (f : E) (P : Type 0) → r ≡ Err f → OnOk r P
on_err_only (Ok x) f P is = absurd (cc)
on_err_only (Err g) f P is = tt

pub on_err_is : {X E : Type 0} (r : Result X E) (f : E) (P : Type 0) → r ≡ Err f → OnErr r P → P
on_err_is (Ok x) f P is holds = absurd (cc)
on_err_is (Err g) f P is holds = holds

pub on_ok : {X E : Type 0} (r : Result X E) (x : X) (P : Type 0) → r ≡ Ok x → OnOk r P → P
on_ok (Ok y) x P is holds = holds
on_ok (Err f) x P is holds = absurd (cc)
