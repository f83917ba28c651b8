-- The texts of the schemas of engines.
use Rattle.std.specs.Prelude.{◌≡◌, ◌≤◌, ℕ, List, map, Option, None}
use Rattle.serde_json.specs.Data.{Data}
use Rattle.serde_json.specs.Written.{compact_text}
use Rattle.tc_log.specs.Layout.{empty_size}
use Rattle.tc_lsm_model.specs.Lists.{live}
use Rattle.tc_model.specs.Keyed.{values_in}
use Rattle.tc_part.specs.Openings.{newest_in}
use Rattle.tc_part_model.specs.Meaning.{IsPart}
use Rattle.tc_part_model.specs.Newest.{names_by, schema_by}
use Rattle.tc_part_model.specs.PartState.{PartState, Told}
use Rattle.tc_part_model.specs.PartView.{PartView, store_of}
use Rattle.tc_schema_model.specs.SchemaText.{schema_text, tree_text}
use Rattle.tc_schema_model.specs.SchemaTree.{schema_tree}
use Rattle.tc_work.specs.EngineState.{EngineState}
use Rattle.tc_work.specs.Settling.{TellsFiles}

-- It is of the documents in the components, which are all where no table is sealed and the log has no frame. Over every store it is that of the newest
-- component's counts.
pub record IsSchemaText {S D F W : Type 0} (tell : PartState S D F W → Told) (content : F → Option (List ℕ)) (size : D → ℕ) (e : EngineState S D F W) (text : List ℕ) : Type 0 where
  pub documents : (p : PartView) → IsPart (tell e.part) p → text ≡ compact_text (schema_text (values_in (live p.list)))
  pub stored : (p : PartView) → IsPart (tell e.part) p → TellsFiles (tell e.part) → e.part.sealed ≡ None → size e.part.log.device ≤ empty_size → text ≡ compact_text (schema_text (values_in (store_of p)))
  pub counts : text ≡ compact_text (tree_text (names_by (newest_in content e.part.list)) (schema_tree (schema_by (newest_in content e.part.list))))

-- each of these is the compact text of a JSON value
abbrev pub AreJsonTexts : List (List ℕ) → Type 0
AreJsonTexts texts = (values : List Data) × (texts ≡ map compact_text values)
