-- What holds of a list holds once a component is listed behind it.
use Rattle.std.proofs.Common.{◌≡◌, ◌++◌, List, [], ◌∷◌, Option, Some, None, length-append, arith}
use Rattle.std.specs.Prelude.{IfSome}
use Rattle.std.proofs.lemmas.List.Elements.{All-append, All-cons, All-nil}
use Rattle.tc_store.specs.declared.file_name.FileName.{FileName}
use Rattle.tc_component.specs.Loading.{ComponentState}
use Rattle.tc_component.specs.Spelling.{name_of}
use Rattle.tc_list.specs.declared.run.Run.{Run}
use Rattle.tc_list.specs.Intervals.{last_of}
use Rattle.tc_jobs.proofs.ListEnds.{last_pushed}
use Rattle.tc_part.specs.Ready.{AreNamed, LiesIn}

pub last_listed : {F : Type 0} (cs : List (ComponentState F)) (m : ComponentState F) → last_of (cs ++ m ∷ []) ≡ m.index.head.to
last_listed cs m = last_pushed 0 cs m

pub named_behind : {F : Type 0} (file_name : F → FileName) (cs : List (ComponentState F)) (m : ComponentState F) → AreNamed file_name cs → file_name m.file ≡ name_of m.index.head → AreNamed file_name (cs ++ m ∷ [])
named_behind file_name cs m named name =
    All-append (λ c. file_name c.file ≡ name_of c.index.head) cs (m ∷ []) named (All-cons (λ c. file_name c.file ≡ name_of c.index.head) m [] name (All-nil (λ c. file_name c.file ≡ name_of c.index.head)))

pub run_before : {F : Type 0} (o : Option Run) (cs : List (ComponentState F)) (m : ComponentState F) → IfSome o (LiesIn cs) → IfSome o (LiesIn (cs ++ m ∷ []))
run_before None cs m lies = tt
run_before (Some run) cs m lies = (lies.0, omega (arith, length-append cs (m ∷ []), lies.1))
