-- What is said of a fault, byte by byte.
use Rattle.std.specs.Prelude.{ℕ, List, ◌++◌, codes}
use Rattle.std.specs.Fmt.{decimal}
use Rattle.tc_files.specs.Names.{name_text}
use Rattle.tc_store.specs.declared.damage.Damage.{Damage}
use Rattle.tc_store.specs.declared.damage.Damage.TheVariants.{Bytes, Files}
use Rattle.tc_keeper.specs.declared.fault.RunFault.{RunFault}
use Rattle.tc_keeper.specs.declared.fault.RunFault.TheVariants.{Usage, Read, Write, Spent, Disk, Damaged, Memory, Layout}

abbrev pub damage_text : ℕ → Damage → List ℕ
damage_text p (Bytes file place bytes) =
    codes "damaged file " ++ (name_text file ++ (codes " in partition " ++ (decimal p ++ (codes " at byte " ++ decimal place))))
damage_text p (Files names) = codes "files of partition " ++ (decimal p ++ codes " do not fit together")

abbrev pub text_of_fault : RunFault → List ℕ
text_of_fault Usage = codes "usage: tuple_store FOLDER run [OPTIONS], tuple_store FOLDER demo N or tuple_store FOLDER check [OPTIONS]"
text_of_fault Read = codes "read fault"
text_of_fault (Write n) = codes "write fault after " ++ (decimal n ++ codes " bytes")
text_of_fault Spent = codes "no number left"
text_of_fault (Disk p) = codes "disk fault in partition " ++ decimal p
text_of_fault (Damaged p damage) = damage_text p damage
text_of_fault Memory = codes "no memory"
text_of_fault (Layout p found found_of asked_of) =
    codes "partition " ++ (decimal p ++ (codes ": found " ++ (decimal found ++ (codes " of " ++ (decimal found_of ++ (codes ", asked " ++ (decimal p ++ (codes " of " ++ decimal asked_of))))))))
