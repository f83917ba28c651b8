-- Lines of verdicts, computed.
use Rattle.std.specs.Prelude.{◌≡◌, [], ◌∷◌, codes, refl}
use Rattle.std.specs.Fmt.{digits}
use Rattle.serde_json.proofs.OnLiterals.{serde_json_on_literals}
use Rattle.serde_json.specs.Written.{compact_text}
use Rattle.tc_model.specs.Document.{boolean_kind}
use Rattle.tc_model.specs.Kinds.{scalar, objects}
use Rattle.tc_schema_model.specs.Occurrences.{each_item, field}
use Rattle.tc_store.specs.declared.damage.Damage.TheVariants.{Bytes, Files}
use Rattle.tc_store.specs.declared.file_name.FileName.TheVariants.{Component, Log}
use Rattle.tc_check.specs.declared.verdict.Over.TheVariants.{Documents, Names, RecordBytes}
use Rattle.tc_check.specs.declared.verdict.Reason.TheVariants.{Damaged, Layout, TooMuch}
use Rattle.tc_check.specs.declared.verdict.Verdict.TheVariants.{Right, Wrong}
use Rattle.tc_verdicts.specs.Lines.{difference_data, lines_from, verdict_line}

pub a_right_partition : verdict_line 0 (Right 1) ≡ codes "{\"check\":\"right\",\"documents\":1,\"partition\":0}\n"
unfolding digits serde_json_on_literals
a_right_partition = refl

pub two_partitions : lines_from 0 (Right 0 ∷ Wrong (Damaged (Bytes (Component 1 1) 61 [])) ∷ []) ≡ codes "{\"check\":\"right\",\"documents\":0,\"partition\":0}\n{\"check\":\"wrong\",\"partition\":1,\"why\":{\"file\":\"c-1-1\",\"place\":61}}\n"
unfolding digits serde_json_on_literals
two_partitions = refl

pub files_that_do_not_go_together : verdict_line 10 (Wrong (Damaged (Files (Component 1 3 ∷ Log 5 ∷ [])))) ≡ codes "{\"check\":\"wrong\",\"partition\":10,\"why\":{\"files\":[\"c-1-3\",\"l-5\"]}}\n"
unfolding digits serde_json_on_literals
files_that_do_not_go_together = refl

pub another_partition : verdict_line 1 (Wrong (Layout 0 2)) ≡ codes "{\"check\":\"wrong\",\"partition\":1,\"why\":{\"found\":0,\"found_of\":2}}\n"
unfolding digits serde_json_on_literals
another_partition = refl

pub too_many_documents : verdict_line 0 (Wrong (TooMuch Documents 4294967296)) ≡ codes "{\"check\":\"wrong\",\"partition\":0,\"why\":{\"number\":4294967296,\"over\":\"documents\"}}\n"
unfolding digits serde_json_on_literals
too_many_documents = refl

pub too_many_names : verdict_line 0 (Wrong (TooMuch Names 4294967296)) ≡ codes "{\"check\":\"wrong\",\"partition\":0,\"why\":{\"number\":4294967296,\"over\":\"names\"}}\n"
unfolding digits serde_json_on_literals
too_many_names = refl

pub a_long_record : verdict_line 0 (Wrong (TooMuch RecordBytes 1073741824)) ≡ codes "{\"check\":\"wrong\",\"partition\":0,\"why\":{\"number\":1073741824,\"over\":\"record_bytes\"}}\n"
unfolding digits serde_json_on_literals
a_long_record = refl

pub objects_miscounted : compact_text (difference_data (Component 1 1) (record { path = []; kind = objects; kept = 2; counted = 1 })) ≡ codes "{\"counted\":1,\"file\":\"c-1-1\",\"kept\":2,\"kind\":\"object\",\"path\":[]}"
unfolding digits serde_json_on_literals
objects_miscounted = refl

pub booleans_miscounted : compact_text (difference_data (Component 1 1) (record { path = field (codes "a") ∷ []; kind = scalar boolean_kind; kept = 2; counted = 1 })) ≡ codes "{\"counted\":1,\"file\":\"c-1-1\",\"kept\":2,\"kind\":\"boolean\",\"path\":[\"a\"]}"
unfolding digits serde_json_on_literals
booleans_miscounted = refl

-- the items of an array, and a name that is escaped
pub items_miscounted : compact_text (difference_data (Component 2 7) (record { path = field (codes "a\"b") ∷ each_item ∷ []; kind = objects; kept = 0; counted = 3 })) ≡ codes "{\"counted\":3,\"file\":\"c-2-7\",\"kept\":0,\"kind\":\"object\",\"path\":[\"a\\\"b\",null]}"
unfolding digits serde_json_on_literals
items_miscounted = refl
