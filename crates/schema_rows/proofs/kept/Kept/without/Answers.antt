use Rattle.std.proofs.Common.{◌<◌, suc, length, map, take, drop, sym, ap, ◌∙◌, subst, arith}
use Rattle.tc_schema_model.specs.Stands.{StandsFor}
use Rattle.tc_value.specs.Meaning.{tree_of}
use Rattle.schema_rows.proofs.SplitLists.{split_at, removed_at}
use Rattle.schema_rows.proofs.kept.Kept.without.Goals as goal

pub subtract-requires : goal.subtract-requires
subtract-requires c =
    let old = c.self.inside in
    let docs = old.docs.items in
    let doc = c.index.result.now in
    let inside : c.args.at < length docs = omega (arith, c.if-at-len.false, c.len.ensures, old.docs.ok.0) in
    let whole = subst (StandsFor old.names old.schema) (split_at tree_of docs c.args.at doc inside c.index.ensures) c.self.invariant in
    record { fits = c.shapes_fit.ensures (map tree_of (take c.args.at docs)) (map tree_of (drop (suc c.args.at) docs)) (tree_of doc) (sym c.in_ok-shape.ensures) whole }

pub invariant_of-result : goal.invariant_of-result
invariant_of-result c =
    let old = c.self.inside in
    let docs = old.docs.items in
    let doc = c.index.result.now in
    let inside : c.args.at < length docs = omega (arith, c.if-at-len.false, c.len.ensures, old.docs.ok.0) in
    let whole = subst (StandsFor old.names old.schema) (split_at tree_of docs c.args.at doc inside c.index.ensures) c.self.invariant in
    let stands = c.subtract.ensures.stands (map tree_of (take c.args.at docs)) (map tree_of (drop (suc c.args.at) docs)) (tree_of doc) (sym c.in_ok-shape.ensures) whole in
    subst (StandsFor old.names c.subtract.new.schema) (sym (ap (map tree_of) c.remove.ensures.items ∙ removed_at tree_of docs c.args.at inside)) stands
