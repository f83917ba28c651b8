-- The definitions, computed on lines as a user sends them.
use Rattle.std.specs.Prelude.{◌≡◌, ℕ, List, [], ◌∷◌, ◌++◌, codes, refl}
use Rattle.std.specs.Str.{is_utf8, chars}
use Rattle.std.specs.Fmt.{digits}
use Rattle.serde_json.proofs.OnLiterals.{serde_json_on_literals}
use Rattle.tc_model.specs.Lines.{lines_of}
use Rattle.tc_plain_model.specs.Store.{empty}
use Rattle.tc_plain_model.specs.Room.{Limits}
use Rattle.tc_run_model.specs.World.{first_world}
use Rattle.tc_run_model.specs.Replies.{replies_to}
use Rattle.tc_run_model.specs.Windows.{closed_windows, windows}
use Rattle.tc_run_model.specs.Course.{each_line, requests_for}

-- what one partition, in which nothing is stored, writes for an input
abbrev output_of : Limits → List ℕ → List ℕ
output_of limits input = each_line (replies_to (requests_for (lines_of input)) (first_world limits (empty ∷ [])))

-- the limits where the words name none
abbrev ample : Limits
ample = record { names = 1000000; docs = 4000000000 }

-- a line with its line feed
abbrev fed : List ℕ → List ℕ
fed line = line ++ 10 ∷ []

-- that many arrays in one another
abbrev opened : List ℕ → List ℕ
opened [] = codes "[]"
opened (n ∷ ns) = codes "[" ++ (opened ns ++ codes "]")

abbrev ten : List ℕ
ten = 0 ∷ 1 ∷ 2 ∷ 3 ∷ 4 ∷ 5 ∷ 6 ∷ 7 ∷ 8 ∷ 9 ∷ []

-- an upsert whose member `a` is one array around arrays in one another
abbrev upsert_nested : List ℕ → List ℕ
upsert_nested depth = codes "{\"op\":\"upsert\",\"doc\":{\"id\":1,\"a\":" ++ (opened depth ++ codes "}}")

pub an_empty_input : output_of ample [] ≡ []
an_empty_input = refl

pub an_upsert_and_gets :
    output_of ample (fed (codes "{\"op\":\"upsert\",\"doc\":{\"id\":1,\"a\":true}}") ++ fed (codes "{\"op\":\"get\",\"id\":1}") ++ codes "{\"op\":\"get\",\"id\":2}") ≡ fed (codes "{\"id\":1,\"replaced\":false}") ++ fed (codes "{\"doc\":{\"a\":true,\"id\":1}}") ++ fed (codes "{\"doc\":null}")
unfolding serde_json_on_literals is_utf8 chars digits
an_upsert_and_gets = refl

pub deletes :
    output_of ample (fed (codes "{\"op\":\"delete\",\"id\":9}") ++ fed (codes "{\"op\":\"upsert\",\"doc\":{\"id\":9}}") ++ fed (codes "{\"id\":9,\"op\":\"delete\"}") ++ codes "{\"op\":\"get\",\"id\":9}") ≡ fed (codes "{\"found\":false,\"id\":9}") ++ fed (codes "{\"id\":9,\"replaced\":false}") ++ fed (codes "{\"found\":true,\"id\":9}") ++ fed (codes "{\"doc\":null}")
unfolding serde_json_on_literals is_utf8 chars digits
deletes = refl

pub keys_of_any_size :
    output_of ample (fed (codes "{\"op\":\"upsert\",\"doc\":{\"id\":9223372036854775807}}") ++ fed (codes "{\"op\":\"upsert\",\"doc\":{\"id\":-1}}") ++ codes "{\"op\":\"upsert\",\"doc\":{\"id\":9223372036854775808}}") ≡ fed (codes "{\"id\":9223372036854775807,\"replaced\":false}") ++ fed (codes "{\"refused\":\"key\"}") ++ fed (codes "{\"refused\":\"not_whole\"}")
unfolding serde_json_on_literals is_utf8 chars digits
keys_of_any_size = refl

pub numbers_that_are_not_whole :
    output_of ample (fed (codes "{\"op\":\"upsert\",\"doc\":{\"id\":1,\"a\":1.5}}") ++ codes "{\"op\":\"upsert\",\"doc\":{\"id\":1,\"a\":1e2}}") ≡ fed (codes "{\"refused\":\"not_whole\"}") ++ fed (codes "{\"refused\":\"not_whole\"}")
unfolding serde_json_on_literals is_utf8 chars digits
numbers_that_are_not_whole = refl

pub lines_that_are_no_json :
    output_of ample (fed (codes "{\"op\":\"get\"") ++ fed []) ≡ fed (codes "{\"refused\":\"malformed\"}") ++ fed (codes "{\"refused\":\"malformed\"}")
unfolding serde_json_on_literals is_utf8 chars digits
lines_that_are_no_json = refl

pub lines_that_are_no_command :
    output_of ample (fed (codes "{\"op\":\"get\",\"id\":1,\"x\":2}") ++ fed (codes "{\"op\":\"gte\",\"id\":1}") ++ fed (codes "[]") ++ codes "{\"op\":\"upsert\",\"doc\":7}") ≡ fed (codes "{\"refused\":\"unknown\"}") ++ fed (codes "{\"refused\":\"unknown\"}") ++ fed (codes "{\"refused\":\"unknown\"}") ++ fed (codes "{\"refused\":\"unknown\"}")
unfolding serde_json_on_literals is_utf8 chars digits
lines_that_are_no_command = refl

pub keys_that_are_none :
    output_of ample (fed (codes "{\"op\":\"delete\",\"id\":1.5}") ++ fed (codes "{\"op\":\"delete\",\"id\":\"1\"}") ++ codes "{\"op\":\"upsert\",\"doc\":{\"a\":1}}") ≡ fed (codes "{\"refused\":\"not_whole\"}") ++ fed (codes "{\"refused\":\"key\"}") ++ fed (codes "{\"refused\":\"key\"}")
unfolding serde_json_on_literals is_utf8 chars digits
keys_that_are_none = refl

-- 31 arrays in an object have the depth 32
pub depths :
    output_of ample (fed (upsert_nested (ten ++ ten ++ ten)) ++ upsert_nested (0 ∷ ten ++ ten ++ ten)) ≡ fed (codes "{\"id\":1,\"replaced\":false}") ++ fed (codes "{\"refused\":\"too_deep\"}")
unfolding serde_json_on_literals is_utf8 chars digits
depths = refl

-- a line without its line feed is in no closed window, and in the last window of the input
pub windows_of_one_line :
    closed_windows 1 (fed (codes "a") ++ codes "b") ≡ (codes "a" ∷ []) ∷ []
unfolding serde_json_on_literals is_utf8 chars digits
windows_of_one_line = refl

pub a_window_left_open :
    windows 64 (fed (codes "a") ++ codes "b") ≡ (codes "a" ∷ codes "b" ∷ []) ∷ []
unfolding serde_json_on_literals is_utf8 chars digits
a_window_left_open = refl

pub a_control_line_is_a_window :
    closed_windows 64 (fed (codes "a") ++ fed (codes "{\"op\":\"flush\"}") ++ fed (codes "b")) ≡ (codes "a" ∷ []) ∷ (codes "{\"op\":\"flush\"}" ∷ []) ∷ []
unfolding serde_json_on_literals is_utf8 chars digits
a_control_line_is_a_window = refl

pub a_schema_of_documents :
    output_of ample (fed (codes "{\"op\":\"schema\"}") ++ fed (codes "{\"op\":\"upsert\",\"doc\":{\"id\":1,\"a\":1}}") ++ fed (codes "{\"op\":\"upsert\",\"doc\":{\"id\":2,\"a\":\"x\"}}") ++ fed (codes "{\"op\":\"schema\"}") ++ fed (codes "{\"op\":\"delete\",\"id\":2}") ++ codes "{\"op\":\"schema\"}") ≡ fed (codes "{\"schemas\":[null]}") ++ fed (codes "{\"id\":1,\"replaced\":false}") ++ fed (codes "{\"id\":2,\"replaced\":false}") ++ fed (codes "{\"schemas\":[{\"count\":2,\"fields\":{\"a\":{\"count\":2,\"kind\":\"union\",\"kinds\":[{\"count\":1,\"kind\":\"integer\"},{\"count\":1,\"kind\":\"text\"}]}},\"kind\":\"object\"}]}") ++ fed (codes "{\"found\":true,\"id\":2}") ++ fed (codes "{\"schemas\":[{\"count\":1,\"fields\":{\"a\":{\"count\":1,\"kind\":\"integer\"}},\"kind\":\"object\"}]}")
unfolding serde_json_on_literals is_utf8 chars digits
a_schema_of_documents = refl

-- names of refused documents are not taken, and deleted documents keep theirs
pub names_that_are_full :
    output_of (record { names = 2; docs = 10 }) (fed (codes "{\"op\":\"upsert\",\"doc\":{\"id\":1,\"a\":1,\"b\":2}}") ++ fed (codes "{\"op\":\"upsert\",\"doc\":{\"id\":2,\"c\":1}}") ++ fed (codes "{\"op\":\"upsert\",\"doc\":{\"id\":2,\"b\":{\"a\":0}}}") ++ fed (codes "{\"op\":\"delete\",\"id\":1}") ++ codes "{\"op\":\"upsert\",\"doc\":{\"id\":3,\"c\":1}}") ≡ fed (codes "{\"id\":1,\"replaced\":false}") ++ fed (codes "{\"refused\":\"names_full\"}") ++ fed (codes "{\"id\":2,\"replaced\":false}") ++ fed (codes "{\"found\":true,\"id\":1}") ++ fed (codes "{\"refused\":\"names_full\"}")
unfolding serde_json_on_literals is_utf8 chars digits
names_that_are_full = refl

pub documents_that_are_full :
    output_of (record { names = 10; docs = 1 }) (fed (codes "{\"op\":\"upsert\",\"doc\":{\"id\":1}}") ++ fed (codes "{\"op\":\"upsert\",\"doc\":{\"id\":2}}") ++ fed (codes "{\"op\":\"upsert\",\"doc\":{\"id\":1,\"z\":1}}") ++ fed (codes "{\"op\":\"delete\",\"id\":1}") ++ codes "{\"op\":\"upsert\",\"doc\":{\"id\":2}}") ≡ fed (codes "{\"id\":1,\"replaced\":false}") ++ fed (codes "{\"refused\":\"full\"}") ++ fed (codes "{\"id\":1,\"replaced\":true}") ++ fed (codes "{\"found\":true,\"id\":1}") ++ fed (codes "{\"id\":2,\"replaced\":false}")
unfolding serde_json_on_literals is_utf8 chars digits
documents_that_are_full = refl

-- a query sees the writes in front of it; of the documents without their keys
pub queries_between_writes :
    output_of ample (fed (codes "{\"op\":\"upsert\",\"doc\":{\"id\":2,\"a\":[1,null,true]}}") ++ fed (codes "{\"op\":\"query\",\"path\":[\"a\",0]}") ++ fed (codes "{\"op\":\"upsert\",\"doc\":{\"id\":1,\"a\":[true,1]}}") ++ fed (codes "{\"op\":\"query\",\"path\":[\"a\",0]}") ++ fed (codes "{\"op\":\"query\",\"path\":[\"a\",null],\"eq\":1}") ++ fed (codes "{\"op\":\"query\",\"path\":[]}") ++ fed (codes "{\"op\":\"query\",\"path\":[\"id\"]}")) ≡ fed (codes "{\"id\":2,\"replaced\":false}") ++ fed (codes "{\"rows\":[{\"id\":2,\"values\":[1]}]}") ++ fed (codes "{\"id\":1,\"replaced\":false}") ++ fed (codes "{\"rows\":[{\"id\":1,\"values\":[true]},{\"id\":2,\"values\":[1]}]}") ++ fed (codes "{\"rows\":[{\"id\":1,\"values\":[true,1]},{\"id\":2,\"values\":[1,null,true]}]}") ++ fed (codes "{\"rows\":[{\"id\":1,\"values\":[{\"a\":[true,1]}]},{\"id\":2,\"values\":[{\"a\":[1,null,true]}]}]}") ++ fed (codes "{\"rows\":[]}")
unfolding serde_json_on_literals is_utf8 chars digits
queries_between_writes = refl
