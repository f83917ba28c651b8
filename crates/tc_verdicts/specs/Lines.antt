-- The line that says what an audit found in the files of a partition: compact JSON, whose members stand in ascending order, and a
-- line feed.
use Rattle.std.specs.Prelude.{ℕ, suc, List, [], ◌∷◌, ◌++◌, codes}
use Rattle.serde_json.specs.Data as json
use Rattle.serde_json.specs.Written.{compact_text}
use Rattle.tc_model.specs.Kinds.{Kind, scalar, arrays, objects}
use Rattle.tc_model.specs.Lines.{feed}
use Rattle.tc_request_model.specs.Reply.{count, one_member, two_members}
use Rattle.tc_schema_model.specs.Occurrences.{Path, Step, each_item, field}
use Rattle.tc_schema_model.specs.SchemaText.{kind_text}
use Rattle.tc_store.specs.declared.damage.Damage.TheVariants.{Bytes, Files}
use Rattle.tc_store.specs.declared.file_name.FileName.{FileName}
use Rattle.tc_files.specs.Names.{name_text}
use Rattle.tc_difference.specs.Differences.{Difference}
use Rattle.tc_difference.specs.Found.{found_meant}
use Rattle.tc_check.specs.declared.verdict.Over.{Over}
use Rattle.tc_check.specs.declared.verdict.Over.TheVariants.{Documents, Names, RecordBytes}
use Rattle.tc_check.specs.declared.verdict.Reason.{Reason}
use Rattle.tc_check.specs.declared.verdict.Reason.TheVariants.{Count, Damaged, Layout, TooMuch}
use Rattle.tc_check.specs.declared.verdict.Verdict.{Verdict}
use Rattle.tc_check.specs.declared.verdict.Verdict.TheVariants.{Right, Wrong}

-- ---- parts of a reason

abbrev pub kind_name : Kind → List ℕ
kind_name (scalar k) = kind_text k
kind_name arrays = codes "array"
kind_name objects = codes "object"

-- the name of a member, or null for each item
abbrev pub step_data : Step → json.Data
step_data (field name) = json.string name
step_data each_item = json.null

abbrev pub path_data : Path → json.Items
path_data [] = json.no_items
path_data (step ∷ path) = json.item (step_data step) (path_data path)

abbrev pub files_data : List FileName → json.Items
files_data [] = json.no_items
files_data (file ∷ files) = json.item (json.string (name_text file)) (files_data files)

abbrev pub over_name : Over → List ℕ
over_name Documents = codes "documents"
over_name Names = codes "names"
over_name RecordBytes = codes "record_bytes"

-- the place in a file where its schema shows another number
abbrev pub difference_data : FileName → Difference → json.Data
difference_data file x = json.object (json.member (codes "counted") (count x.counted) (json.member (codes "file") (json.string (name_text file)) (json.member (codes "kept") (count x.kept)
    (json.member (codes "kind") (json.string (kind_name x.kind)) (json.member (codes "path") (json.array (path_data x.path)) json.no_members)))))

-- ---- a reason, a verdict and its line

abbrev pub reason_data : Reason → json.Data
reason_data (Damaged (Bytes file place bytes)) = two_members (codes "file") (json.string (name_text file)) (codes "place") (count place)
reason_data (Damaged (Files names)) = one_member (codes "files") (json.array (files_data names))
reason_data (Layout found found_of) = two_members (codes "found") (count found) (codes "found_of") (count found_of)
reason_data (Count file first) = difference_data file (found_meant first)
reason_data (TooMuch what number) = two_members (codes "number") (count number) (codes "over") (json.string (over_name what))

abbrev pub verdict_data : ℕ → Verdict → json.Data
verdict_data p (Right documents) = json.object (json.member (codes "check") (json.string (codes "right")) (json.member (codes "documents") (count documents) (json.member (codes "partition") (count p) json.no_members)))
verdict_data p (Wrong reason) = json.object (json.member (codes "check") (json.string (codes "wrong")) (json.member (codes "partition") (count p) (json.member (codes "why") (reason_data reason) json.no_members)))

-- the line of a verdict on the partition of this number
abbrev pub verdict_line : ℕ → Verdict → List ℕ
verdict_line p verdict = compact_text (verdict_data p verdict) ++ feed ∷ []

-- the lines of verdicts on partitions in ascending number, the first of which has this one
abbrev pub lines_from : ℕ → List Verdict → List ℕ
lines_from p [] = []
lines_from p (verdict ∷ verdicts) = verdict_line p verdict ++ lines_from (suc p) verdicts
