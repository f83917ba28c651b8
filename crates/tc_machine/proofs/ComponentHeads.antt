-- A whole component is open, and has its header.
use Rattle.std.proofs.Common.{◌≡◌, ℕ, true, List, ◌++◌, length, refl, ap, ◌∙◌, subst, arith, length-append}
use Rattle.tc_names.specs.Section.{section}
use Rattle.tc_schema_model.specs.SchemaTree.{schema_tree}
use Rattle.tc_schema_model.specs.SchemaBytes.{schema_bytes}
use Rattle.tc_lsm_model.specs.Contents.{Partition, Content}
use Rattle.tc_store.specs.Gate.{is_open_file}
use Rattle.tc_component.specs.Reading.{version_of}
use Rattle.tc_component.specs.Rows.{rows_as, head_of, IsComponent}
use Rattle.tc_component.specs.Spelling.{records, slots_of, directory, head_bytes, sizes_of}
use Rattle.tc_component.proofs.Written.{directory_length, records_length}
use Rattle.tc_machine.specs.Components.{HasComponentHead}

pub component_is_open : (c : Content) (bytes : List ℕ) → IsComponent c bytes → is_open_file bytes ≡ true
component_is_open c bytes is = ap is_open_file is.spelled

pub component_has_head : (part : Partition) (c : Content) (bytes : List ℕ) → c.part ≡ part → IsComponent c bytes → HasComponentHead part c.from c.to bytes
component_has_head part c bytes here is = subst (λ q. HasComponentHead q c.from c.to bytes) here (record {
  is_head = record { number = is.content.number; count = is.content.count; first = is.content.first; order = is.content.order; last = is.content.last };
  sizes = sizes_of (slots_of (rows_as (version_of bytes) c.names c.entries)) c.names c.schema;
  rest = records (rows_as (version_of bytes) c.names c.entries) ++ (directory (slots_of (rows_as (version_of bytes) c.names c.entries)) ++ (section c.names ++ schema_bytes (schema_tree c.schema)));
  spelled = is.spelled;
  adds_up =
      let rs = records (rows_as (version_of bytes) c.names c.entries) in
      let ds = directory (slots_of (rows_as (version_of bytes) c.names c.entries)) in
      let ns = section c.names in
      let ss = schema_bytes (schema_tree c.schema) in
      let hs = head_bytes (version_of bytes) (head_of c) (sizes_of (slots_of (rows_as (version_of bytes) c.names c.entries)) c.names c.schema) in
      let sixty : length hs ≡ 60 = refl in
      ap length is.spelled
      ∙ omega (arith, sixty, records_length (rows_as (version_of bytes) c.names c.entries), directory_length (slots_of (rows_as (version_of bytes) c.names c.entries)), length-append hs (rs ++ (ds ++ (ns ++ ss))), length-append rs (ds ++ (ns ++ ss)), length-append ds (ns ++ ss), length-append ns ss);
  short = is.short;
})
