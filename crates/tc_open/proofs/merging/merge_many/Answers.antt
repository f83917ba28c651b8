use Rattle.std.proofs.Common.{◌∙◌, ◌<◌, ◌≤◌, List, [], ◌∷◌, ap, arith, inl, inr, length, map, subst, sym}
use Rattle.std.proofs.lemmas.List.{length-map}
use Rattle.std.proofs.lemmas.Result.{IfOk-at_ok}
use Rattle.tc_component.specs.Loading.{ComponentState}
use Rattle.tc_component.specs.Rows.{IsComponent}
use Rattle.tc_lsm_model.specs.Contents.{Content}
use Rattle.tc_lsm_model.specs.Lists.{live}
use Rattle.tc_lsm_model.specs.Merges.{IsMerge}
use Rattle.tc_jobs.specs.Lists.{file_names}
use Rattle.tc_recover.specs.Loading.{interval_of}
use Rattle.tc_recover.specs.Refusals.{asked}
use Rattle.tc_recover.specs.Removing.{removes_all}
use Rattle.tc_open.specs.Merges.{IsListMerged, IsMergeDamage, IsMergeListed, head_over}
use Rattle.tc_open.specs.BeingOpened.{IsKeptWriting}
use Rattle.tc_open.specs.Listed.{most_listed}
use Rattle.tc_open.specs.OpenCauses.{IfDamaged, of_job}
use Rattle.tc_store.proofs.MomentLemmas.{told_map}
use Rattle.tc_store.specs.StoreCalls.{RemovesSome}
use Rattle.tc_open.proofs.FilesIn.{fault_in, given_up_in, removes_some_in}
use Rattle.tc_open.proofs.FlushedAbove.{damage_weaker}
use Rattle.tc_open.proofs.FlushedOpenings.{job_damage, same_keeps}
use Rattle.tc_open.proofs.ListedIntervals.{few_stay}
use Rattle.tc_open.proofs.MergedOpenings.{few_rest, job_keeps, merge_free, merge_told, merged_intervals, merged_listed, merged_tells, names_are, replaced_keeps, replaced_needless, replaced_own, replaced_rests}
use Rattle.tc_open.proofs.OpenStates.{removed_some}
use Rattle.tc_open.proofs.ToldOpenings.{removes_untold}
use Rattle.tc_open.proofs.merging.merge_many.Goals as goal

pub returns-then-len-le-MOST_LISTED-clause-keeps : goal.returns-then-len-le-MOST_LISTED-clause-keeps
returns-then-len-le-MOST_LISTED-clause-keeps g c = λ cs stands.
    same_keeps (asked c.args.part) cs [] (g.S.Store.history c.args.rested.kit.store) stands.opening

pub returns-then-len-le-MOST_LISTED-clause-rests : goal.returns-then-len-le-MOST_LISTED-clause-rests
returns-then-len-le-MOST_LISTED-clause-rests g c = λ cs stands.
    let r = c.args.rested in
    few_rest g.S.Frozen.Frozen.content (asked c.args.part) r.list cs (g.S.Store.history r.kit.store) (subst (λ n. n ≤ most_listed) c.len.ensures c.if-len-le-MOST_LISTED.true) stands

pub merge_listed-watch-requires-clause-told : goal.merge_listed-watch-requires-clause-told
merge_listed-watch-requires-clause-told g c κs within =
    let r = c.args.rested in
    merge_told (λ file. g.S.Frozen.Frozen.content file) (λ file. g.S.Frozen.Frozen.name file) (asked c.args.part) r.list (omega (arith, c.len.ensures, c.if-len-le-MOST_LISTED.false)) c.requires.listed (g.S.Store.history r.kit.store) c.requires.told

pub merge_listed-watch-requires-clause-free : goal.merge_listed-watch-requires-clause-free
merge_listed-watch-requires-clause-free g c κs within =
    let r = c.args.rested in
    merge_free (λ file. g.S.Frozen.Frozen.content file) (λ file. g.S.Frozen.Frozen.name file) (asked c.args.part) r.list (omega (arith, c.len.ensures, c.if-len-le-MOST_LISTED.false)) c.requires.listed (g.S.Store.history r.kit.store) c.requires.own

pub returns-in-Ok-remove_replaced-clause-rests : goal.returns-in-Ok-remove_replaced-clause-rests
returns-in-Ok-remove_replaced-clause-rests g c = λ cs stands.
    let r = c.args.rested in
    let content = g.S.Frozen.Frozen.content in
    let name = g.S.Frozen.Frozen.name in
    let part = asked c.args.part in
    let old = g.S.Store.history r.kit.store in
    let later = g.S.Store.history c.merge_listed-watch.new.store in
    let new = c.merge_listed-watch.new.list in
    let many : most_listed < length r.list = omega (arith, c.len.ensures, c.if-len-le-MOST_LISTED.false) in
    let files = ap (λ (cs : List (ComponentState g.row.S-Frozen.Denot)). map (λ (d : ComponentState g.row.S-Frozen.Denot). name d.file) cs) (IfOk-at_ok _ c.in-Ok.is c.merge_listed-watch.ensures.replaced) ∙ names_are (λ file. name file) r.list c.requires.listed.named in
    let after = g.S.Store.history c.in-Ok-remove_replaced.kit.store in
    let gone = c.in-Ok-remove_replaced.ensures.removed ∙ ap (λ ns. removes_all ns later) files in
    let l : IsListMerged (λ file. content file) (head_over c.args.part.number c.args.part.count r.list) cs new later = IfOk-at_ok _ c.in-Ok.is (c.merge_listed-watch.ensures.merged cs stands.opening stands.loaded) in
    let kept : (x : Content) → IsMerge cs x → IsKeptWriting part (live cs) (IsComponent x) old later = λ x is. c.merge_listed-watch.ensures.keeps cs x stands.opening stands.loaded is in
    let needless = replaced_needless (λ file. content file) (λ file. name file) part r.list many c.requires.listed cs old stands new later l kept in
    let opening = c.needless_files_go.ensures.opening part (l.made ∷ []) [] (file_names r.list) later after l.opening needless (removed_some (file_names r.list) later after gone) in
    let since = c.needless_files_go.ensures.moments part (l.made ∷ []) [] (file_names r.list) later after l.opening needless (removed_some (file_names r.list) later after gone) in
    replaced_rests (λ file. content file) (λ file. name file) part r.list many c.requires.listed cs old stands new later l kept after opening since

pub returns-in-Ok-remove_replaced-clause-keeps : goal.returns-in-Ok-remove_replaced-clause-keeps
returns-in-Ok-remove_replaced-clause-keeps g c = λ cs stands.
    let r = c.args.rested in
    let content = g.S.Frozen.Frozen.content in
    let name = g.S.Frozen.Frozen.name in
    let part = asked c.args.part in
    let old = g.S.Store.history r.kit.store in
    let later = g.S.Store.history c.merge_listed-watch.new.store in
    let new = c.merge_listed-watch.new.list in
    let many : most_listed < length r.list = omega (arith, c.len.ensures, c.if-len-le-MOST_LISTED.false) in
    let files = ap (λ (cs : List (ComponentState g.row.S-Frozen.Denot)). map (λ (d : ComponentState g.row.S-Frozen.Denot). name d.file) cs) (IfOk-at_ok _ c.in-Ok.is c.merge_listed-watch.ensures.replaced) ∙ names_are (λ file. name file) r.list c.requires.listed.named in
    let after = g.S.Store.history c.in-Ok-remove_replaced.kit.store in
    let gone = c.in-Ok-remove_replaced.ensures.removed ∙ ap (λ ns. removes_all ns later) files in
    let l : IsListMerged (λ file. content file) (head_over c.args.part.number c.args.part.count r.list) cs new later = IfOk-at_ok _ c.in-Ok.is (c.merge_listed-watch.ensures.merged cs stands.opening stands.loaded) in
    let kept : (x : Content) → IsMerge cs x → IsKeptWriting part (live cs) (IsComponent x) old later = λ x is. c.merge_listed-watch.ensures.keeps cs x stands.opening stands.loaded is in
    let needless = replaced_needless (λ file. content file) (λ file. name file) part r.list many c.requires.listed cs old stands new later l kept in
    let opening = c.needless_files_go.ensures.opening part (l.made ∷ []) [] (file_names r.list) later after l.opening needless (removed_some (file_names r.list) later after gone) in
    let since = c.needless_files_go.ensures.moments part (l.made ∷ []) [] (file_names r.list) later after l.opening needless (removed_some (file_names r.list) later after gone) in
    replaced_keeps (λ file. content file) (λ file. name file) part r.list many c.requires.listed cs old stands new later l kept after opening since

pub returns-in-Err-remove_replaced-clause-kept : goal.returns-in-Err-remove_replaced-clause-kept
returns-in-Err-remove_replaced-clause-kept g c = λ cs stands.
    let r = c.args.rested in
    let content = g.S.Frozen.Frozen.content in
    let name = g.S.Frozen.Frozen.name in
    let part = asked c.args.part in
    let old = g.S.Store.history r.kit.store in
    let later = g.S.Store.history c.merge_listed-watch.new.store in
    let new = c.merge_listed-watch.new.list in
    let many : most_listed < length r.list = omega (arith, c.len.ensures, c.if-len-le-MOST_LISTED.false) in
    let files = ap (λ (cs : List (ComponentState g.row.S-Frozen.Denot)). map (λ (d : ComponentState g.row.S-Frozen.Denot). name d.file) cs) (IfOk-at_ok _ c.in-Ok.is c.merge_listed-watch.ensures.replaced) ∙ names_are (λ file. name file) r.list c.requires.listed.named in
    let after = g.S.Store.history c.in-Err-remove_replaced.fault.kit.store in
    let some = subst (λ ns. RemovesSome ns later after) files c.in-Err-remove_replaced.ensures.partly in
    let l : IsListMerged (λ file. content file) (head_over c.args.part.number c.args.part.count r.list) cs new later = IfOk-at_ok _ c.in-Ok.is (c.merge_listed-watch.ensures.merged cs stands.opening stands.loaded) in
    let kept : (x : Content) → IsMerge cs x → IsKeptWriting part (live cs) (IsComponent x) old later = λ x is. c.merge_listed-watch.ensures.keeps cs x stands.opening stands.loaded is in
    let needless = replaced_needless (λ file. content file) (λ file. name file) part r.list many c.requires.listed cs old stands new later l kept in
    let opening = c.needless_files_go.ensures.opening part (l.made ∷ []) [] (file_names r.list) later after l.opening needless some in
    let since = c.needless_files_go.ensures.moments part (l.made ∷ []) [] (file_names r.list) later after l.opening needless some in
    replaced_keeps (λ file. content file) (λ file. name file) part r.list many c.requires.listed cs old stands new later l kept after opening since

pub returns-in-Ok-remove_replaced-clause-own : goal.returns-in-Ok-remove_replaced-clause-own
returns-in-Ok-remove_replaced-clause-own g c =
    let r = c.args.rested in
    let content = g.S.Frozen.Frozen.content in
    let name = g.S.Frozen.Frozen.name in
    let part = asked c.args.part in
    let old = g.S.Store.history r.kit.store in
    let later = g.S.Store.history c.merge_listed-watch.new.store in
    let new = c.merge_listed-watch.new.list in
    let many : most_listed < length r.list = omega (arith, c.len.ensures, c.if-len-le-MOST_LISTED.false) in
    let m : IsMergeListed (λ file. content file) (λ file. name file) (head_over c.args.part.number c.args.part.count r.list) r.list new old later = IfOk-at_ok _ c.in-Ok.is c.merge_listed-watch.ensures.listed in
    let files = ap (λ (cs : List (ComponentState g.row.S-Frozen.Denot)). map (λ (d : ComponentState g.row.S-Frozen.Denot). name d.file) cs) (IfOk-at_ok _ c.in-Ok.is c.merge_listed-watch.ensures.replaced) ∙ names_are (λ file. name file) r.list c.requires.listed.named in
    let after = g.S.Store.history c.in-Ok-remove_replaced.kit.store in
    let gone = c.in-Ok-remove_replaced.ensures.removed ∙ ap (λ ns. removes_all ns later) files in
    replaced_own (λ file. content file) (λ file. name file) part r.list many c.requires.listed new old later m c.requires.own after gone

pub returns-in-Ok-remove_replaced-clause-components : goal.returns-in-Ok-remove_replaced-clause-components
returns-in-Ok-remove_replaced-clause-components g c =
    let r = c.args.rested in
    let content = g.S.Frozen.Frozen.content in
    let name = g.S.Frozen.Frozen.name in
    let part = asked c.args.part in
    let old = g.S.Store.history r.kit.store in
    let later = g.S.Store.history c.merge_listed-watch.new.store in
    let new = c.merge_listed-watch.new.list in
    let many : most_listed < length r.list = omega (arith, c.len.ensures, c.if-len-le-MOST_LISTED.false) in
    let m : IsMergeListed (λ file. content file) (λ file. name file) (head_over c.args.part.number c.args.part.count r.list) r.list new old later = IfOk-at_ok _ c.in-Ok.is c.merge_listed-watch.ensures.listed in
    let files = ap (λ (cs : List (ComponentState g.row.S-Frozen.Denot)). map (λ (d : ComponentState g.row.S-Frozen.Denot). name d.file) cs) (IfOk-at_ok _ c.in-Ok.is c.merge_listed-watch.ensures.replaced) ∙ names_are (λ file. name file) r.list c.requires.listed.named in
    let after = g.S.Store.history c.in-Ok-remove_replaced.kit.store in
    let gone = c.in-Ok-remove_replaced.ensures.removed ∙ ap (λ ns. removes_all ns later) files in
    merged_tells (λ file. content file) (λ file. name file) part r.list many c.requires.listed new old later m after (λ none. gone ∙ ap (removes_all (file_names r.list)) none ∙ removes_untold (file_names r.list))

pub returns-in-Err-clause-kept : goal.returns-in-Err-clause-kept
returns-in-Err-clause-kept g c = λ cs stands.
    let r = c.args.rested in
    let content = g.S.Frozen.Frozen.content in
    let name = g.S.Frozen.Frozen.name in
    let part = asked c.args.part in
    let old = g.S.Store.history r.kit.store in
    let later = g.S.Store.history c.merge_listed-watch.new.store in
    let new = c.merge_listed-watch.new.list in
    let many : most_listed < length r.list = omega (arith, c.len.ensures, c.if-len-le-MOST_LISTED.false) in
    job_keeps (λ file. content file) (λ file. name file) part r.list many c.requires.listed cs old stands later (λ x is. c.merge_listed-watch.ensures.keeps cs x stands.opening stands.loaded is)

pub returns-in-Err-clause-damaged : goal.returns-in-Err-clause-damaged
returns-in-Err-clause-damaged g c =
    let r = c.args.rested in
    let harm = IsMergeDamage (λ file. g.S.Frozen.Frozen.content file) (λ file. g.S.Frozen.Frozen.name file) (head_over c.args.part.number c.args.part.count r.list) r.list in
    let many : most_listed < length r.list = omega (arith, c.len.ensures, c.if-len-le-MOST_LISTED.false) in
    subst (λ e. IfDamaged e (λ damage. (most_listed < length r.list) × harm damage)) (sym c.from.ensures)
    (damage_weaker harm (λ damage. (most_listed < length r.list) × harm damage) (of_job c.in-Err.fault) (λ damage harmed. (many, harmed)) (job_damage harm c.merge_listed-watch.result.outcome c.in-Err.fault c.in-Err.is c.merge_listed-watch.ensures.damaged))

pub returns-then-len-le-MOST_LISTED-clause-merged : goal.returns-then-len-le-MOST_LISTED-clause-merged
returns-then-len-le-MOST_LISTED-clause-merged g c =
    let list = c.args.rested.list in
    few_stay (map interval_of list) (subst (λ n. n ≤ most_listed) (c.len.ensures ∙ sym (length-map list interval_of)) c.if-len-le-MOST_LISTED.true)

pub returns-in-Ok-remove_replaced-clause-merged : goal.returns-in-Ok-remove_replaced-clause-merged
returns-in-Ok-remove_replaced-clause-merged g c =
    let r = c.args.rested in
    let content = g.S.Frozen.Frozen.content in
    let name = g.S.Frozen.Frozen.name in
    let many : most_listed < length r.list = omega (arith, c.len.ensures, c.if-len-le-MOST_LISTED.false) in
    let m : IsMergeListed (λ file. content file) (λ file. name file) (head_over c.args.part.number c.args.part.count r.list) r.list c.merge_listed-watch.new.list
    (g.S.Store.history r.kit.store) (g.S.Store.history c.merge_listed-watch.new.store) = IfOk-at_ok _ c.in-Ok.is c.merge_listed-watch.ensures.listed in
    merged_intervals (λ file. content file) (λ file. name file) (asked c.args.part) r.list many c.requires.listed c.merge_listed-watch.new.list (g.S.Store.history r.kit.store) (g.S.Store.history c.merge_listed-watch.new.store) m

pub returns-in-Ok-remove_replaced-clause-listed : goal.returns-in-Ok-remove_replaced-clause-listed
returns-in-Ok-remove_replaced-clause-listed g c =
    let r = c.args.rested in
    let content = g.S.Frozen.Frozen.content in
    let name = g.S.Frozen.Frozen.name in
    let many : most_listed < length r.list = omega (arith, c.len.ensures, c.if-len-le-MOST_LISTED.false) in
    let m : IsMergeListed (λ file. content file) (λ file. name file) (head_over c.args.part.number c.args.part.count r.list) r.list c.merge_listed-watch.new.list
    (g.S.Store.history r.kit.store) (g.S.Store.history c.merge_listed-watch.new.store) = IfOk-at_ok _ c.in-Ok.is c.merge_listed-watch.ensures.listed in
    merged_listed (λ file. content file) (λ file. name file) (asked c.args.part) r.list many c.requires.listed c.merge_listed-watch.new.list (g.S.Store.history r.kit.store) (g.S.Store.history c.merge_listed-watch.new.store) m (IfOk-at_ok _ c.in-Ok.is c.merge_listed-watch.ensures.partition)

pub returns-in-Ok-remove_replaced-clause-few : goal.returns-in-Ok-remove_replaced-clause-few
returns-in-Ok-remove_replaced-clause-few g c =
    let r = c.args.rested in
    let content = g.S.Frozen.Frozen.content in
    let name = g.S.Frozen.Frozen.name in
    let many : most_listed < length r.list = omega (arith, c.len.ensures, c.if-len-le-MOST_LISTED.false) in
    let m : IsMergeListed (λ file. content file) (λ file. name file) (head_over c.args.part.number c.args.part.count r.list) r.list c.merge_listed-watch.new.list
    (g.S.Store.history r.kit.store) (g.S.Store.history c.merge_listed-watch.new.store) = IfOk-at_ok _ c.in-Ok.is c.merge_listed-watch.ensures.listed in
    subst (λ (cs : List (ComponentState g.row.S-Frozen.Denot)). length cs ≤ most_listed) (sym m.listed) (omega arith)

pub returns-in-Err-clause-home : goal.returns-in-Err-clause-home
returns-in-Err-clause-home g c =
    let r = c.args.rested in
    let old = g.S.Store.history r.kit.store in
    fault_in _ (head_over c.args.part.number c.args.part.count r.list) old (g.S.Store.history c.merge_listed-watch.new.store) c.merge_listed-watch.result.outcome c.in-Err.fault c.in-Err.is c.merge_listed-watch.ensures.left
    (told_map _ _ old (λ disk own. own.is_in) c.requires.own)

pub returns-in-Err-remove_replaced-clause-home : goal.returns-in-Err-remove_replaced-clause-home
returns-in-Err-remove_replaced-clause-home g c =
    let r = c.args.rested in
    let content = g.S.Frozen.Frozen.content in
    let name = g.S.Frozen.Frozen.name in
    let old = g.S.Store.history r.kit.store in
    let later = g.S.Store.history c.merge_listed-watch.new.store in
    let head = head_over c.args.part.number c.args.part.count r.list in
    let m : IsMergeListed (λ file. content file) (λ file. name file) head r.list c.merge_listed-watch.new.list old later = IfOk-at_ok _ c.in-Ok.is c.merge_listed-watch.ensures.listed in
    removes_some_in _ later (g.S.Store.history c.in-Err-remove_replaced.fault.kit.store) c.in-Err-remove_replaced.ensures.partly
    (given_up_in head old later (inr (m.device, m.tells, inl m.still)) (told_map _ _ old (λ disk own. own.is_in) c.requires.own))
