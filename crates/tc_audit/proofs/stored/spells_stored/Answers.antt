use Rattle.std.proofs.Common.{◌∙◌, refl, sym}
use Rattle.std.proofs.lemmas.Bool.{false≢true}
use Rattle.tc_audit.proofs.StoredLaws.{lacks_by_first, passes_short, passes_spelling, short_tested, spelled_again, stored_by_tests, stored_lacks}
use Rattle.tc_audit.proofs.stored.spells_stored.Goals as goal

pub returns-then-not-is_short : goal.returns-then-not-is_short
returns-then-not-is_short c = (
  λ yes. absurd (false≢true yes),
  λ s. absurd (false≢true (sym c.if-not-is_short.true ∙ passes_short c.args.names.now c.args.of c.again.result c.is_short.result c.len-known.ensures.dictionary c.bytes-bytes.ensures.spells c.again.ensures c.is_short.ensures s)),
)

pub returns-then-not-spells_document : goal.returns-then-not-spells_document
returns-then-not-spells_document c = (
  λ yes. absurd (false≢true yes),
  λ s. absurd (false≢true (sym c.if-not-spells_document.true ∙ passes_spelling c.args.names.now c.args.of c.again-2.result c.spells_document.result c.len-known.ensures.dictionary c.again-2.ensures c.spells_document.ensures.none s)),
)

-- a document without a member `id`, which its first member tells
pub returns-then-begins_behind_id : goal.returns-then-begins_behind_id
returns-then-begins_behind_id c =
    let names = c.args.names.now in
    let r = c.args.of in
    let spells = c.bytes-bytes.ensures.spells in
    let found = spelled_again names r c.again-2.result c.again-2.ensures (c.spells_document.ensures.found c.if-not-spells_document.false) in
    let lacks = lacks_by_first names r found.0 c.requires.numbered spells found.1 (λ n is. c.begins_behind_id.ensures n is c.if-begins_behind_id.true) in (
      λ _. stored_by_tests names r found.0 c.requires.numbered spells found.1 (short_tested names r c.again.result c.is_short.result c.again.ensures c.is_short.ensures c.if-not-is_short.false) lacks,
      λ _. refl,
    )

-- or all of them
pub returns : goal.returns
returns c =
    let names = c.args.names.now in
    let r = c.args.of in
    let spells = c.bytes-bytes.ensures.spells in
    let found = spelled_again names r c.again-2.result c.again-2.ensures (c.spells_document.ensures.found c.if-not-spells_document.false) in (
      λ yes. stored_by_tests names r found.0 c.requires.numbered spells found.1 (short_tested names r c.again.result c.is_short.result c.again.ensures c.is_short.ensures c.if-not-is_short.false) (sym c.has_no_id.ensures ∙ yes),
      λ s. c.has_no_id.ensures ∙ stored_lacks names r c.len-known.ensures.dictionary spells s,
    )
