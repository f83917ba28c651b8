-- What holds of what a job begins with, and where it does not begin.
use Rattle.std.specs.Prelude.{Result, Ok, Err, IfOk}
use Rattle.tc_store.specs.declared.damage.Damage.{Damage}
use Rattle.tc_jobs.specs.declared.fault.JobFault.{JobFault}
use Rattle.tc_jobs.specs.declared.fault.JobFault.TheVariants.{Disk, Damaged, Memory}
use Rattle.tc_jobs.specs.Faults.{IfDamaged as IfJobDamaged}

pub if_ok_all : {X E : Type 0} (r : Result X E) (A B C Q : X → Type 0) → IfOk r A → IfOk r B → IfOk r C → ((x : X) → A x → B x → C x → Q x) → IfOk r Q
if_ok_all (Ok x) A B C Q a b c go = go x a b c
if_ok_all (Err e) A B C Q a b c go = tt

pub damaged_then : {X : Type 0} (r : Result X JobFault) (P Q : Damage → Type 0) → IfJobDamaged r P → ((damage : Damage) → P damage → Q damage) → IfJobDamaged r Q
damaged_then (Ok x) P Q is go = tt
damaged_then (Err Disk) P Q is go = tt
damaged_then (Err (Damaged damage)) P Q is go = go damage is
damaged_then (Err Memory) P Q is go = tt
