-- What a call says of what it answered, where `ok` and `?` took that out.
use Rattle.std.proofs.Common.{◌≡◌, Ok, Err, Some, Result, sym, subst}
use Rattle.std.specs.Prelude.{IfOk}
use Rattle.std.specs.Result.{result_ok}
use Rattle.std.proofs.lemmas.Option.{same_Some}

pub at_ok : {A E : Type 0} (P : A → Type 0) (r : Result A E) (a : A) → Some a ≡ result_ok r → IfOk r P → P a
at_ok P (Ok x) a is holds = subst P (same_Some x a (sym is)) holds
at_ok P (Err e) a is holds = cc
