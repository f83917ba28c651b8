-- Small contents, of which the worked rows compute bytes, flushes and merges.
use Rattle.std.specs.Prelude.{List, [], ◌∷◌, codes, true}
use Rattle.tc_model.specs.Tree.{leaf, object, no_members, member}
use Rattle.tc_model.specs.Document.{Name, Document, boolean}
use Rattle.tc_schema_model.specs.Counted.{Counters, Counted, counted, nothing, no_counters, no_item, no_fields, a_field}
use Rattle.tc_plain_model.specs.Writes.{set, unset}
use Rattle.tc_lsm_model.specs.Contents.{Partition, Content}

abbrev pub one_of_one : Partition
one_of_one = record { number = 0; count = 1 }

-- `{"a":true}`, and `{}`
abbrev pub flag : Document
flag = object (member (codes "a") (leaf (boolean true)) no_members)

abbrev pub bare : Document
bare = object no_members

abbrev pub names_of_flag : List Name
names_of_flag = codes "a" ∷ []

abbrev pub one_object : Counters
one_object = record no_counters { objects = 1 }

-- what the schema of the one document `{"a":true}` counts
abbrev pub flag_schema : Counted
flag_schema = counted one_object no_item (a_field 0 (counted (record no_counters { booleans = 1 }) no_item no_fields) no_fields)

-- one table flushed: one with `{"a":true}` at key 1, and one with nothing
abbrev pub flag_content : Content
flag_content = record { part = one_of_one; from = 1; to = 1; entries = set 1 flag ∷ []; names = names_of_flag; schema = flag_schema }

abbrev pub empty_content : Content
empty_content = record { part = one_of_one; from = 1; to = 1; entries = []; names = []; schema = nothing }

-- documents 1 and 2 written and flushed one after the other, and then 1 deleted and flushed
abbrev pub three_contents : List Content
three_contents =
    record { part = one_of_one; from = 1; to = 1; entries = set 1 bare ∷ []; names = []; schema = counted one_object no_item no_fields }
    ∷ record { part = one_of_one; from = 2; to = 2; entries = set 2 flag ∷ []; names = names_of_flag; schema = counted (record no_counters { objects = 2 }) no_item (a_field 0 (counted (record no_counters { booleans = 1 }) no_item no_fields) no_fields) }
    ∷ record { part = one_of_one; from = 3; to = 3; entries = unset 1 ∷ []; names = names_of_flag; schema = flag_schema } ∷ []

-- the merge of the newer two, and of all
abbrev pub newer_merged : Content
newer_merged = record { part = one_of_one; from = 2; to = 3; entries = unset 1 ∷ set 2 flag ∷ []; names = names_of_flag; schema = flag_schema }

abbrev pub all_merged : Content
all_merged = record { part = one_of_one; from = 1; to = 3; entries = set 2 flag ∷ []; names = names_of_flag; schema = flag_schema }
