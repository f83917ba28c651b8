-- A job that a join hands back is the one of the part that was out.
use Rattle.std.proofs.Common.{◌≡◌, Bool, true, false, Option, Some, None, is_some, refl, subst}
use Rattle.std.specs.Prelude.{IfSome}
use Rattle.tc_work.specs.JobsOut.{OutAs}

-- where one is handed back one was out
pub job_back : {J : Type 0} (jobs : Option J) → true ≡ is_some jobs → (job : J) × (jobs ≡ Some job)
job_back None some = absurd (cc)
job_back (Some job) some = (job, refl)

-- and the part has it
pub job_of_part : {J : Type 0} (out : Bool) (jobs : Option J) (job : J) (P : J → Type 0) → jobs ≡ Some job → OutAs out jobs P → (out ≡ true) × P job
job_of_part out jobs job P is has = at out (subst (λ o. OutAs out o P) is has)
  where
    at : (b : Bool) → OutAs b (Some job) P → (b ≡ true) × P job
    at false never = absurd never
    at true of = (refl, of)

pub job_ran : {J : Type 0} (jobs : Option J) (job : J) (P : J → Type 0) → jobs ≡ Some job → IfSome jobs P → P job
job_ran jobs job P is ran = subst (λ o. IfSome o P) is ran

-- where none is handed back none was out
pub none_back : {J : Type 0} (jobs : Option J) → false ≡ is_some jobs → jobs ≡ None
none_back None none = refl
none_back (Some job) none = absurd (cc)

-- where there is no merge, none of the part is out
pub none_merging : {M J : Type 0} (merging : Option M) (jobs : Option J) (P : J → Type 0) → jobs ≡ None → OutAs (is_some merging) jobs P → merging ≡ None
none_merging None jobs P none has = refl
none_merging (Some run) None P none has = absurd has
none_merging (Some run) (Some job) P none has = absurd (cc)
