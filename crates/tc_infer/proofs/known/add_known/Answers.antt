use Rattle.std.proofs.Common.{◌∙◌, ◌+◌, ◌<◌, ◌^◌, List, length, sym, ap, subst}
use Rattle.std.proofs.lemmas.Result.{on_ok_weaker}
use Rattle.tc_model.specs.Document.{Name, document_shape}
use Rattle.tc_model.specs.ShapeNames.{names_within}
use Rattle.tc_model.proofs.LearnedNames.{all_learned-known}
use Rattle.tc_schema_model.specs.Added.{added, IsNamed}
use Rattle.tc_record.specs.Borrowed.{Record, Spells}
use Rattle.tc_schema_model.specs.Counted.{Counted, shows, total_at, IsCanonical}
use Rattle.tc_schema_model.specs.Occurrences.{Path, occurrences}
use Rattle.tc_schema_model.specs.Values.{values_at}
use Rattle.tc_schema_model.proofs.AddedLaws.{shows-added, canonical-added}
use Rattle.tc_schema_model.proofs.NamedShapes.{named-all_learned}
use Rattle.tc_infer.specs.Known.{IsCountable}
use Rattle.tc_infer.specs.Levels.{shape_under}
use Rattle.tc_infer.proofs.RecordShape.{meant_shape}
use Rattle.tc_infer.proofs.known.add_known.Goals as goal

-- the shape that the tokens mean has no other names
named_under : (names : List Name) (d : Counted) (r : Record) → Spells r → IsCountable names d r.bytes → IsNamed names (shape_under names r.tokens)
named_under names d r spells known =
    let s = document_shape known.document in
    subst (IsNamed names) (sym (meant_shape names r known.document spells known.is_record)) (subst (λ ns. IsNamed ns s) (all_learned-known names (names_within s) known.named) (named-all_learned names s))

pub add_meant-requires-clause-named : goal.add_meant-requires-clause-named
add_meant-requires-clause-named c = named_under c.args.names.now c.args.schema.now c.args.of c.bytes-bytes.ensures.spells c.requires.countable

pub add_meant-requires-clause-counters : goal.add_meant-requires-clause-counters
add_meant-requires-clause-counters c =
    let names = c.args.names.now in
    let known = c.requires.countable in
    subst (λ s. (path : Path) → total_at names c.args.schema.now path + values_at s path < 2 ^ 64) (sym (meant_shape names c.args.of known.document c.bytes-bytes.ensures.spells known.is_record)) known.room

pub returns-clause-added : goal.returns-clause-added
returns-clause-added c =
    let names = c.args.names.now in
    on_ok_weaker c.add_meant.result (λ is doc under. is ∙ ap (λ s. added names s c.args.schema.now) (meant_shape names c.args.of doc c.bytes-bytes.ensures.spells under)) c.add_meant.ensures.added

pub returns-clause-counted : goal.returns-clause-counted
returns-clause-counted c =
    let names = c.args.names.now in
    let schema = c.args.schema.now in
    let s = shape_under names c.args.of.tokens in
    let named = named_under names schema c.args.of c.bytes-bytes.ensures.spells c.requires.countable in
    on_ok_weaker c.add_meant.result
    (λ is doc under path t.
    ap (λ e. shows names e path t) is ∙ shows-added names s schema named path t
    ∙ ap (λ u. shows names schema path t + occurrences u path t) (meant_shape names c.args.of doc c.bytes-bytes.ensures.spells under))
    c.add_meant.ensures.added

pub returns-clause-canonical : goal.returns-clause-canonical
returns-clause-canonical c =
    let names = c.args.names.now in
    let s = shape_under names c.args.of.tokens in
    let named = named_under names c.args.schema.now c.args.of c.bytes-bytes.ensures.spells c.requires.countable in
    on_ok_weaker c.add_meant.result (λ is. subst (IsCanonical (length names)) (sym is) (canonical-added names s c.args.schema.now named c.requires.canonical)) c.add_meant.ensures.added
