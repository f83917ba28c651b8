use Rattle.std.proofs.Common.{◌≡◌, ◌+◌, ◌<◌, ◌≤◌, ◌^◌, ◌∷◌, All, List, bytes_eq, length, sym, ap, ◌∙◌, arith}
use Rattle.std.specs.List.{IsDistinct}
use Rattle.std.proofs.lemmas.List.Elements.{recursion_from_All}
use Rattle.std.proofs.lemmas.Result.{on_ok_weaker}
use Rattle.tc_model.specs.Dictionary.{all_learned}
use Rattle.tc_model.specs.Document.{Name, Document, document_shape}
use Rattle.tc_model.specs.Kinds.{Kind}
use Rattle.tc_model.specs.Limits.{max_depth}
use Rattle.tc_model.specs.Tree.{depth}
use Rattle.tc_model.specs.ShapeNames.{names_within}
use Rattle.tc_model.proofs.LearnedNames.{distinct-all_learned}
use Rattle.tc_record.specs.Record.{IsRecordOf}
use Rattle.tc_schema_model.specs.Occurrences.{Path, occurrences}
use Rattle.tc_schema_model.specs.Counted.{shows, total_at, IsCanonical}
use Rattle.tc_schema_model.specs.Added.{added}
use Rattle.tc_schema_model.specs.SchemaBytes.{IsSchema}
use Rattle.tc_schema_model.specs.Stands.{StandsFor}
use Rattle.tc_schema_model.specs.Values.{values_at}
use Rattle.tc_schema_model.proofs.Grown.{grown_fits, added_canonical, added_shows, added_stands}
use Rattle.tc_schema_model.proofs.Readable.{schema-added}
use Rattle.tc_schema_model.proofs.ShallowSchemas.{depth-document_shape}
use Rattle.tc_infer.specs.Levels.{shape_told}
use Rattle.tc_infer.proofs.LevelLaws.{object_told}
use Rattle.tc_infer.proofs.RecordShape.{told_shape, of_told, plain, names_agree}
use Rattle.tc_infer.proofs.recording.add_record.Goals as goal

pub add_told-requires-clause-plain : goal.add_told-requires-clause-plain
add_told-requires-clause-plain c = plain c.args.of c.bytes-bytes.ensures.spells c.requires.named

pub add_told-requires-clause-agree : goal.add_told-requires-clause-agree
add_told-requires-clause-agree c = names_agree c.args.of c.bytes-bytes.ensures.spells c.requires.named

pub add_told-requires-clause-counters : goal.add_told-requires-clause-counters
add_told-requires-clause-counters c =
    of_told c.args.of c.bytes-bytes.ensures.spells c.requires.named (λ s. (path : Path) → total_at c.args.names.now c.args.schema.now path + values_at s path < 2 ^ 64) c.requires.counters

pub add_told-requires-clause-room : goal.add_told-requires-clause-room
add_told-requires-clause-room c = of_told c.args.of c.bytes-bytes.ensures.spells c.requires.named (λ s. length (all_learned c.args.names.now (names_within s)) < 2 ^ 32) c.requires.room

pub add_told-requires-clause-short : goal.add_told-requires-clause-short
add_told-requires-clause-short c =
    recursion_from_All (λ (name : Name). length name < 2 ^ 32) (names_within (shape_told c.args.of.tokens))
    (of_told c.args.of c.bytes-bytes.ensures.spells c.requires.named (λ s. All (λ name. length name < 2 ^ 32) (names_within s)) c.requires.short)

-- ---- where the document was counted

-- the dictionary and the schema afterwards, by the shape that the tokens tell
abbrev Done : goal.After-add_told → Type 0
Done c =
    let s = shape_told c.args.of.tokens in
    (c.add_told.new.names ≡ all_learned c.args.names.now (names_within s)) × (c.add_told.new.schema ≡ added c.add_told.new.names s c.args.schema.now)

module _ (c : goal.After-add_told) (done : Done c) where
  -- the shape that the tokens tell is that of each document of the record
  same : (doc : Document) → IsRecordOf doc c.args.of.bytes → shape_told c.args.of.tokens ≡ document_shape doc
  same doc is = told_shape c.args.of c.bytes-bytes.ensures.spells c.requires.named doc is

  -- what the schema counts
  new_is : c.add_told.new.schema ≡ added (all_learned c.args.names.now (names_within (shape_told c.args.of.tokens))) (shape_told c.args.of.tokens) c.args.schema.now
  new_is = done.1 ∙ ap (λ names. added names (shape_told c.args.of.tokens) c.args.schema.now) done.0

  added_is : (doc : Document) → IsRecordOf doc c.args.of.bytes → c.add_told.new.schema ≡ added c.add_told.new.names (document_shape doc) c.args.schema.now
  added_is doc is = done.1 ∙ ap (λ s. added c.add_told.new.names s c.args.schema.now) (same doc is)

  learned : (doc : Document) → IsRecordOf doc c.args.of.bytes → c.add_told.new.names ≡ all_learned c.args.names.now (names_within (document_shape doc))
  learned doc is = done.0 ∙ ap (λ s. all_learned c.args.names.now (names_within s)) (same doc is)

  shown : (doc : Document) → IsRecordOf doc c.args.of.bytes → (path : Path) (t : Kind) → shows c.add_told.new.names c.add_told.new.schema path t ≡ shows c.args.names.now c.args.schema.now path t + occurrences (document_shape doc) path t
  shown doc is path t =
      ap (λ names. shows names c.add_told.new.schema path t) done.0
      ∙ ap (λ e. shows (all_learned c.args.names.now (names_within (shape_told c.args.of.tokens))) e path t) new_is
      ∙ added_shows c.args.names.now (shape_told c.args.of.tokens) c.args.schema.now c.requires.canonical path t
      ∙ ap (λ s. shows c.args.names.now c.args.schema.now path t + occurrences s path t) (same doc is)

  canonical : IsCanonical (length c.add_told.new.names) c.add_told.new.schema
  canonical = rw (new_is, done.0) (added_canonical c.args.names.now (shape_told c.args.of.tokens) c.args.schema.now c.requires.canonical)

  readable : IsSchema (length c.args.names.now) c.args.schema.now → IsSchema (length c.add_told.new.names) c.add_told.new.schema
  readable schema =
      let known = c.args.names.now in
      let s = shape_told c.args.of.tokens in
      let d = c.args.schema.now in
      let grown = all_learned known (names_within s) in
      let distinct : IsDistinct bytes_eq grown = distinct-all_learned known (names_within s) c.len-known.ensures.dictionary.distinct in
      let deep : depth s ≤ max_depth = of_told c.args.of c.bytes-bytes.ensures.spells c.requires.named (λ t. depth t ≤ max_depth) (λ doc is. omega (arith, depth-document_shape doc, is.shallow)) in
      let room = of_told c.args.of c.bytes-bytes.ensures.spells c.requires.named (λ s. (path : Path) → total_at known d path + values_at s path < 2 ^ 64) c.requires.counters in
      rw (new_is, done.0)
      (schema-added grown distinct s d (object_told c.args.of.tokens) (added_canonical known s d c.requires.canonical) (grown_fits known s d c.requires.canonical room)
      deep schema.of_objects schema.shallow)

  stands : (docs : List Document) (doc : Document) → IsRecordOf doc c.args.of.bytes → StandsFor c.args.names.now c.args.schema.now docs → StandsFor c.add_told.new.names c.add_told.new.schema (doc ∷ docs)
  stands docs doc is before =
      rw (new_is, done.0) (added_stands c.args.names.now (shape_told c.args.of.tokens) c.args.schema.now docs doc (sym (same doc is)) before)

pub returns-clause-added : goal.returns-clause-added
returns-clause-added c = on_ok_weaker c.add_told.result (added_is c) c.add_told.ensures.done

pub returns-clause-counted : goal.returns-clause-counted
returns-clause-counted c = on_ok_weaker c.add_told.result (shown c) c.add_told.ensures.done

pub returns-clause-canonical : goal.returns-clause-canonical
returns-clause-canonical c = on_ok_weaker c.add_told.result (canonical c) c.add_told.ensures.done

pub returns-clause-readable : goal.returns-clause-readable
returns-clause-readable c = on_ok_weaker c.add_told.result (readable c) c.add_told.ensures.done

pub returns-clause-stands : goal.returns-clause-stands
returns-clause-stands c = on_ok_weaker c.add_told.result (stands c) c.add_told.ensures.done

pub returns-clause-names : goal.returns-clause-names
returns-clause-names c = on_ok_weaker c.add_told.result (learned c) c.add_told.ensures.done
