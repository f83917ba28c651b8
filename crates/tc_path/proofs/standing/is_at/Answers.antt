use Rattle.std.proofs.Common.{◌∙◌, ◌==◌, ℕ, FitsSigned, sym, ap, rules}
use Rattle.std.specs.Int.{w64}
use Rattle.std.proofs.lemmas.Bool.{ne_eqb}
use Rattle.std.proofs.lemmas.Int.{to_z-of_z}
use Rattle.tc_model.specs.Document.{integer, text, document_shape}
use Rattle.tc_model.specs.Tree.{leaf}
use Rattle.tc_model.specs.Kinds.{tag, kind_of}
use Rattle.tc_value.specs.Meaning.{tree_of}
use Rattle.tc_value.specs.declared.document.Doc.{Doc}
use Rattle.tc_request_model.specs.Equal.{same_document, same_scalar}
use Rattle.tc_compact.specs.Meant.{expanded}
use Rattle.tc_path.proofs.Spots.{other_at, null_at, boolean_at, integer_at, text_at}
use Rattle.tc_path.proofs.standing.is_at.Goals as goal

-- the tag of a document
abbrev tag_in : Doc → ℕ
tag_in d = tag (kind_of (document_shape (tree_of d)))

pub returns-in-Null : goal.returns-in-Null
returns-in-Null c = λ names t stands. ap (λ k. k == 1) stands.tagged ∙ null_at names t ∙ ap (λ d. same_document (expanded names t) (tree_of d)) (sym c.in-Null.is)

pub returns-then-spot-eq-BOOLEAN_TAG : goal.returns-then-spot-eq-BOOLEAN_TAG
returns-then-spot-eq-BOOLEAN_TAG c = λ names t stands.
    boolean_at names c.args.of.now.tokens c.args.spot c.has_bool.result t c.in-Bool.value stands c.if-spot-eq-BOOLEAN_TAG.true c.has_bool.ensures ∙ ap (λ d. same_document (expanded names t) (tree_of d)) (sym c.in-Bool.is)

pub returns-else-spot-eq-BOOLEAN_TAG : goal.returns-else-spot-eq-BOOLEAN_TAG
returns-else-spot-eq-BOOLEAN_TAG c = λ names t stands.
    ne_eqb c.args.spot.tag 2 c.if-spot-eq-BOOLEAN_TAG.false ∙ other_at names t (tree_of c.args.doc.now) c.args.spot.tag 2 stands.tagged (ap tag_in c.in-Bool.is) c.if-spot-eq-BOOLEAN_TAG.false

pub returns-then-spot-eq-INTEGER_TAG : goal.returns-then-spot-eq-INTEGER_TAG
returns-then-spot-eq-INTEGER_TAG c = λ names t stands.
    let fits : FitsSigned w64 c.in-Int.value = search rules in
    integer_at names c.args.of.now.tokens c.args.spot c.has_int.result t c.in-Int.value stands c.if-spot-eq-INTEGER_TAG.true
    (λ own more lawful at. c.has_int.ensures own more lawful at ∙ ap (λ z. same_scalar (integer own) (integer z)) (to_z-of_z w64 c.in-Int.value fits))
    ∙ ap (λ d. same_document (expanded names t) (tree_of d)) (sym c.in-Int.is)

pub returns-else-spot-eq-INTEGER_TAG : goal.returns-else-spot-eq-INTEGER_TAG
returns-else-spot-eq-INTEGER_TAG c = λ names t stands.
    ne_eqb c.args.spot.tag 3 c.if-spot-eq-INTEGER_TAG.false ∙ other_at names t (tree_of c.args.doc.now) c.args.spot.tag 3 stands.tagged (ap tag_in c.in-Int.is) c.if-spot-eq-INTEGER_TAG.false

pub returns-then-spot-eq-TEXT_TAG : goal.returns-then-spot-eq-TEXT_TAG
returns-then-spot-eq-TEXT_TAG c = λ names t stands.
    text_at names c.args.of.now.tokens c.args.spot c.has_text.result t c.as_str.result.now stands c.if-spot-eq-TEXT_TAG.true c.has_text.ensures
    ∙ ap (λ own. same_document (expanded names t) (leaf (text own))) c.as_str.ensures.bytes
    ∙ ap (λ d. same_document (expanded names t) (tree_of d)) (sym c.in-Text.is)

pub returns-else-spot-eq-TEXT_TAG : goal.returns-else-spot-eq-TEXT_TAG
returns-else-spot-eq-TEXT_TAG c = λ names t stands.
    ne_eqb c.args.spot.tag 4 c.if-spot-eq-TEXT_TAG.false ∙ other_at names t (tree_of c.args.doc.now) c.args.spot.tag 4 stands.tagged (ap tag_in c.in-Text.is) c.if-spot-eq-TEXT_TAG.false

pub returns-else-spot-eq-ARRAY_TAG : goal.returns-else-spot-eq-ARRAY_TAG
returns-else-spot-eq-ARRAY_TAG c = λ names t stands.
    other_at names t (tree_of c.args.doc.now) c.args.spot.tag 5 stands.tagged (ap tag_in c.in-Array.is) c.if-spot-eq-ARRAY_TAG.false

pub returns-else-spot-eq-OBJECT_TAG : goal.returns-else-spot-eq-OBJECT_TAG
returns-else-spot-eq-OBJECT_TAG c = λ names t stands.
    other_at names t (tree_of c.args.doc.now) c.args.spot.tag 6 stands.tagged (ap tag_in c.in-Object.is) c.if-spot-eq-OBJECT_TAG.false
