use Rattle.std.proofs.Common.{◌∙◌, List, ap, map, filter, sym, subst}
use Rattle.tc_store.specs.declared.file_name.FileName.{FileName}
use Rattle.tc_store.specs.Moments.{IfTold}
use Rattle.tc_part_model.specs.PartState.{IsTold}
use Rattle.tc_recover.specs.declared.taken.Taken.{Taken}
use Rattle.tc_recover.specs.Loads.{is_log}
use Rattle.tc_recover.specs.Removing.{needless_names, removes_all}
use Rattle.tc_open.specs.Resting.{AreOwn}
use Rattle.tc_open.proofs.FilesIn.{removes_some_in}
use Rattle.tc_open.proofs.LogsCovered.{go_or_stay}
use Rattle.tc_open.proofs.OpenStates.{opening_keeps, partly_some, removed_some, removes_tells}
use Rattle.tc_open.proofs.OwnFiles.{own_removed}
use Rattle.tc_open.proofs.ToldOpenings.{removes_untold}
use Rattle.tc_open.proofs.removing.remove_files.Goals as goal

pub returns-in-Ok-clause-opening : goal.returns-in-Ok-clause-opening
returns-in-Ok-clause-opening g c = λ part cs logs is needless.
    let names = needless_names (λ file. g.S.Frozen.Frozen.name file) c.args.last c.args.files.items in
    let old = g.S.Store.history c.args.kit.store in
    let new = g.S.Store.history c.remove_needless.new.store in
    c.needless_files_go.ensures.opening part cs logs names old new is needless (removed_some names old new c.in-Ok.ensures.removed)

pub returns-in-Ok-clause-keeps : goal.returns-in-Ok-clause-keeps
returns-in-Ok-clause-keeps g c = λ part cs logs is needless.
    let names = needless_names (λ file. g.S.Frozen.Frozen.name file) c.args.last c.args.files.items in
    let old = g.S.Store.history c.args.kit.store in
    let new = g.S.Store.history c.remove_needless.new.store in
    let some = removed_some names old new c.in-Ok.ensures.removed in
    opening_keeps part cs logs old new (c.needless_files_go.ensures.opening part cs logs names old new is needless some) (c.needless_files_go.ensures.moments part cs logs names old new is needless some)

pub returns-in-Ok-clause-tells : goal.returns-in-Ok-clause-tells
returns-in-Ok-clause-tells g c = λ tells.
    subst (λ disks. IsTold disks) (sym c.in-Ok.ensures.removed) (removes_tells (needless_names (λ file. g.S.Frozen.Frozen.name file) c.args.last c.args.files.items) (g.S.Store.history c.args.kit.store) tells)

pub returns-in-Ok-clause-own : goal.returns-in-Ok-clause-own
returns-in-Ok-clause-own g c = λ list own.
    let names : List (Taken g.row.S-Frozen.Denot g.row.S-Watch.Denot) → List FileName = λ ts. map (λ t. g.S.Frozen.Frozen.name t.file) ts in
    let kept = filter (is_log c.args.last) c.args.files.items in
    let gone = needless_names (λ file. g.S.Frozen.Frozen.name file) c.args.last c.args.files.items in
    subst (λ ts. IfTold (g.S.Store.history c.remove_needless.new.store) (AreOwn list (names ts))) (sym c.in-Ok.ensures.kept)
    (subst (λ disks. IfTold disks (AreOwn list (names kept))) (sym c.in-Ok.ensures.removed)
    (own_removed list (names c.args.files.items) gone (names kept) (go_or_stay (λ file. g.S.Frozen.Frozen.name file) c.args.last c.args.files.items) (g.S.Store.history c.args.kit.store) own))

pub returns-in-Err-clause-kept : goal.returns-in-Err-clause-kept
returns-in-Err-clause-kept g c = λ part cs logs is needless.
    let names = needless_names (λ file. g.S.Frozen.Frozen.name file) c.args.last c.args.files.items in
    let old = g.S.Store.history c.args.kit.store in
    let new = g.S.Store.history c.remove_needless.new.store in
    let some = partly_some names old new c.in-Err.ensures.partly in
    opening_keeps part cs logs old new (c.needless_files_go.ensures.opening part cs logs names old new is needless some) (c.needless_files_go.ensures.moments part cs logs names old new is needless some)

pub returns-in-Ok-clause-untold : goal.returns-in-Ok-clause-untold
returns-in-Ok-clause-untold g c = λ none.
    let names = needless_names (λ file. g.S.Frozen.Frozen.name file) c.args.last c.args.files.items in
    c.in-Ok.ensures.removed ∙ ap (removes_all names) none ∙ removes_untold names

pub returns-in-Err-clause-home : goal.returns-in-Err-clause-home
returns-in-Err-clause-home g c = λ are.
    let names = needless_names (λ file. g.S.Frozen.Frozen.name file) c.args.last c.args.files.items in
    let old = g.S.Store.history c.args.kit.store in
    let new = g.S.Store.history c.remove_needless.new.store in
    removes_some_in names old new (partly_some names old new c.in-Err.ensures.partly) are
