use Rattle.std.proofs.Common.{rules, ◌≡◌, ◌∙◌, ◌+◌, ◌<◌, ◌++◌, List, [], ◌∷◌, length, map, refl, sym, ap, subst}
use Rattle.std.proofs.lemmas.List.{nil_from_length}
use Rattle.tc_store.specs.Moments.{IfTold}
use Rattle.tc_store.proofs.MomentLemmas.{told_map}
use Rattle.tc_component.specs.declared.head.Head.{Head}
use Rattle.tc_log.specs.declared.write.Write.{Write}
use Rattle.tc_machine.specs.Pictures.{recovered}
use Rattle.tc_recover.specs.Opening.{found_in}
use Rattle.tc_recover.specs.Refusals.{asked}
use Rattle.tc_open.specs.FlushedLogs.{IsReplayDamage}
use Rattle.tc_open.proofs.ToldMoments.{tells_on}
use Rattle.tc_open.specs.Listed.{AreFlushed}
use Rattle.tc_open.specs.OpenCauses.{IfDamaged}
use Rattle.tc_open.specs.Openings.{LeavesStored}
use Rattle.tc_open.specs.Resting.{AreOwn}
use Rattle.tc_open.proofs.FlushedAbove.{covered, flushed_longer, harmed_logs, listed_longer, none_left, own_longer}
use Rattle.tc_open.proofs.FlushedOpenings.{call_sound, covered_keeps, flushed_rests, none_rest, same_keeps}
use Rattle.tc_open.proofs.ListedIntervals.{none_flushed}
use Rattle.tc_open.proofs.LogsCovered.{free_behind}
use Rattle.tc_open.proofs.OpenStates.{if_tells, keeps_on}
use Rattle.tc_open.proofs.ToldOpenings.{flushed_tells}
use Rattle.tc_open.proofs.flushing.flush_above.Goals as goal

pub returns-then-is_empty-clause-keeps : goal.returns-then-is_empty-clause-keeps
returns-then-is_empty-clause-keeps g c = λ cs logs stands. same_keeps (asked c.args.part) cs logs (g.S.Store.history c.args.tidied.kit.store) stands.opening

pub returns-then-is_empty-clause-rests : goal.returns-then-is_empty-clause-rests
returns-then-is_empty-clause-rests g c = λ cs logs stands.
    let t = c.args.tidied in
    let none : t.writes.items ≡ [] = nil_from_length t.writes.items (search rules) in
    none_rest g.S.Frozen.Frozen.content (asked c.args.part) cs logs t.list t.writes.items (g.S.Store.history t.kit.store) none stands

pub returns-then-is_empty-clause-flushed : goal.returns-then-is_empty-clause-flushed
returns-then-is_empty-clause-flushed g c =
    let t = c.args.tidied in
    let none : t.writes.items ≡ [] = nil_from_length t.writes.items (search rules) in
    subst (λ (ws : List (List Write)). AreFlushed (λ older. older ≡ t.list) (found_in t.list ws) t.list) (sym none) (none_flushed t.list)

pub flush_kit-requires-clause-free : goal.flush_kit-requires-clause-free
flush_kit-requires-clause-free g c κs within =
    let t = c.args.tidied in
    free_behind (λ file. g.S.Frozen.Frozen.name file) (asked c.args.part) t.list t.logs.items (t.last + 1) (t.last + c.len.result) _ (g.S.Store.history t.kit.store) c.requires.listed c.requires.above.named c.requires.above.up_to (ap (λ n. n + 1) c.requires.above.last_is)
    c.requires.own

pub returns-clause-kept : goal.returns-clause-kept
returns-clause-kept g c = λ cs logs stands. c.in-Err.ensures.kept cs logs stands.opening stands.loaded (c.deref.ensures.value ∙ stands.written)

pub returns-clause-damaged : goal.returns-clause-damaged
returns-clause-damaged g c =
    let t = c.args.tidied in
    let head : Head = record { number = c.args.part.number; count = c.args.part.count; from = t.last + 1; to = t.last + c.len.result } in
    let count : c.len.result ≡ length t.writes.items = c.len.ensures ∙ sym c.deref.ensures.len ∙ ap length c.deref.ensures.value in
    harmed_logs (λ file. g.S.Frozen.Frozen.content file) (λ file. g.S.Frozen.Frozen.name file) head t.list t.logs.items t.writes.items t.last c.len.result c.requires.above count refl refl c.in-Err.fault.cause
    (subst (λ (ws : List (List Write)). IfDamaged c.in-Err.fault.cause (IsReplayDamage (λ file. g.S.Frozen.Frozen.content file) (λ file. g.S.Frozen.Frozen.name file) head ws t.list)) c.deref.ensures.value c.in-Err.ensures.damaged)

pub returns-in-Ok-clause-kept : goal.returns-in-Ok-clause-kept
returns-in-Ok-clause-kept g c = λ cs logs stands.
    let t = c.args.tidied in
    let content = g.S.Frozen.Frozen.content in
    let head : Head = record { number = c.args.part.number; count = c.args.part.count; from = t.last + 1; to = t.last + c.len.result } in
    let count : c.len.result ≡ length t.writes.items = c.len.ensures ∙ sym c.deref.ensures.len ∙ ap length c.deref.ensures.value in
    let longer = c.in-Ok.field-0.list in
    let before = g.S.Store.history t.kit.store in
    let mid = g.S.Store.history c.in-Ok.field-0.kit.store in
    let after = g.S.Store.history c.in-Err-remove_files.fault.kit.store in
    let same = c.deref.ensures.value ∙ stands.written in
    let flushed = c.in-Ok.ensures.flushed cs logs stands.opening stands.loaded same in
    let first = c.in-Ok.ensures.keeps cs logs stands.opening stands.loaded same in
    let needless = covered content (λ file. g.S.Frozen.Frozen.name file) head t.list t.logs.items t.writes.items t.last c.len.result c.requires.above count refl refl cs logs longer before mid stands flushed in
    keeps_on (asked c.args.part) (recovered cs logs).pairs before mid after first
    (covered_keeps content head cs logs t.list longer t.writes.items before mid stands flushed after (c.in-Err-remove_files.ensures.kept (asked c.args.part) (cs ++ flushed.made ∷ []) [] flushed.opening needless))

pub returns-in-Ok-remove_files-clause-keeps : goal.returns-in-Ok-remove_files-clause-keeps
returns-in-Ok-remove_files-clause-keeps g c = λ cs logs stands.
    let t = c.args.tidied in
    let content = g.S.Frozen.Frozen.content in
    let head : Head = record { number = c.args.part.number; count = c.args.part.count; from = t.last + 1; to = t.last + c.len.result } in
    let count : c.len.result ≡ length t.writes.items = c.len.ensures ∙ sym c.deref.ensures.len ∙ ap length c.deref.ensures.value in
    let longer = c.in-Ok.field-0.list in
    let before = g.S.Store.history t.kit.store in
    let mid = g.S.Store.history c.in-Ok.field-0.kit.store in
    let after = g.S.Store.history c.in-Ok-remove_files.removed.kit.store in
    let same = c.deref.ensures.value ∙ stands.written in
    let flushed = c.in-Ok.ensures.flushed cs logs stands.opening stands.loaded same in
    let first = c.in-Ok.ensures.keeps cs logs stands.opening stands.loaded same in
    let needless = covered content (λ file. g.S.Frozen.Frozen.name file) head t.list t.logs.items t.writes.items t.last c.len.result c.requires.above count refl refl cs logs longer before mid stands flushed in
    keeps_on (asked c.args.part) (recovered cs logs).pairs before mid after first
    (covered_keeps content head cs logs t.list longer t.writes.items before mid stands flushed after (c.in-Ok-remove_files.ensures.keeps (asked c.args.part) (cs ++ flushed.made ∷ []) [] flushed.opening needless))

pub returns-in-Ok-remove_files-clause-rests : goal.returns-in-Ok-remove_files-clause-rests
returns-in-Ok-remove_files-clause-rests g c = λ cs logs stands.
    let t = c.args.tidied in
    let content = g.S.Frozen.Frozen.content in
    let head : Head = record { number = c.args.part.number; count = c.args.part.count; from = t.last + 1; to = t.last + c.len.result } in
    let count : c.len.result ≡ length t.writes.items = c.len.ensures ∙ sym c.deref.ensures.len ∙ ap length c.deref.ensures.value in
    let longer = c.in-Ok.field-0.list in
    let before = g.S.Store.history t.kit.store in
    let mid = g.S.Store.history c.in-Ok.field-0.kit.store in
    let after = g.S.Store.history c.in-Ok-remove_files.removed.kit.store in
    let same = c.deref.ensures.value ∙ stands.written in
    let flushed = c.in-Ok.ensures.flushed cs logs stands.opening stands.loaded same in
    let first = c.in-Ok.ensures.keeps cs logs stands.opening stands.loaded same in
    let told = tells_on (LeavesStored (asked c.args.part) (recovered cs logs).pairs) before mid stands.tells first.moments in
    let needless = covered content (λ file. g.S.Frozen.Frozen.name file) head t.list t.logs.items t.writes.items t.last c.len.result c.requires.above count refl refl cs logs longer before mid stands flushed in
    let some : 0 < length t.writes.items = search rules in
    flushed_rests content head cs logs t.list longer t.writes.items before mid stands flushed some after told (c.in-Ok-remove_files.ensures.tells told) (c.in-Ok-remove_files.ensures.opening (asked c.args.part) (cs ++ flushed.made ∷ []) [] flushed.opening needless)

pub returns-in-Ok-remove_files-clause-listed : goal.returns-in-Ok-remove_files-clause-listed
returns-in-Ok-remove_files-clause-listed g c =
    let t = c.args.tidied in
    let head : Head = record { number = c.args.part.number; count = c.args.part.count; from = t.last + 1; to = t.last + c.len.result } in
    let count : c.len.result ≡ length t.writes.items = c.len.ensures ∙ sym c.deref.ensures.len ∙ ap length c.deref.ensures.value in
    let some : 0 < length t.writes.items = search rules in
    listed_longer (λ file. g.S.Frozen.Frozen.content file) (λ file. g.S.Frozen.Frozen.name file) head t.list t.logs.items t.writes.items t.last c.len.result c.requires.above count refl refl c.in-Ok.field-0.list (g.S.Store.history t.kit.store) (g.S.Store.history c.in-Ok.field-0.kit.store)
    c.in-Ok.ensures.listed c.requires.listed (c.in-Ok.ensures.partition c.requires.listed.of) some

pub returns-in-Ok-remove_files-clause-flushed : goal.returns-in-Ok-remove_files-clause-flushed
returns-in-Ok-remove_files-clause-flushed g c =
    let t = c.args.tidied in
    let head : Head = record { number = c.args.part.number; count = c.args.part.count; from = t.last + 1; to = t.last + c.len.result } in
    let count : c.len.result ≡ length t.writes.items = c.len.ensures ∙ sym c.deref.ensures.len ∙ ap length c.deref.ensures.value in
    let some : 0 < length t.writes.items = search rules in
    flushed_longer (λ file. g.S.Frozen.Frozen.content file) (λ file. g.S.Frozen.Frozen.name file) head t.list t.logs.items t.writes.items t.last c.len.result
    c.requires.above count refl refl c.in-Ok.field-0.list (g.S.Store.history t.kit.store) (g.S.Store.history c.in-Ok.field-0.kit.store) c.in-Ok.ensures.listed
    some

pub returns-in-Ok-remove_files-clause-own : goal.returns-in-Ok-remove_files-clause-own
returns-in-Ok-remove_files-clause-own g c =
    let t = c.args.tidied in
    let name = g.S.Frozen.Frozen.name in
    let content = g.S.Frozen.Frozen.content in
    let head : Head = record { number = c.args.part.number; count = c.args.part.count; from = t.last + 1; to = t.last + c.len.result } in
    let count : c.len.result ≡ length t.writes.items = c.len.ensures ∙ sym c.deref.ensures.len ∙ ap length c.deref.ensures.value in
    let longer = c.in-Ok.field-0.list in
    let mid = own_longer content name head t.list t.logs.items t.writes.items t.last c.len.result c.requires.above count refl refl longer (g.S.Store.history t.kit.store) (g.S.Store.history c.in-Ok.field-0.kit.store) c.in-Ok.ensures.listed (map (λ u. name u.file) t.logs.items) c.requires.own in
    let none = c.in-Ok-remove_files.ensures.logs ∙ none_left content name head t.list t.logs.items t.writes.items t.last c.len.result c.requires.above count refl refl in
    subst (λ ts. IfTold (g.S.Store.history c.in-Ok-remove_files.removed.kit.store) (AreOwn longer (map (λ u. name u.file) ts))) none (c.in-Ok-remove_files.ensures.own longer mid)

pub returns-clause-undamaged : goal.returns-clause-undamaged
returns-clause-undamaged g c = λ cs logs stands. if_tells _ (g.S.Store.history c.args.tidied.kit.store) stands.tells (c.in-Err.ensures.undamaged cs logs stands.opening stands.loaded (c.deref.ensures.value ∙ stands.written))

pub returns-in-Ok-clause-undamaged : goal.returns-in-Ok-clause-undamaged
returns-in-Ok-clause-undamaged g c = λ cs logs stands. call_sound c.in-Err-remove_files.fault.cause c.in-Err-remove_files.ensures.causes

pub returns-in-Ok-remove_files-clause-components : goal.returns-in-Ok-remove_files-clause-components
returns-in-Ok-remove_files-clause-components g c = λ told.
    let t = c.args.tidied in
    let head : Head = record { number = c.args.part.number; count = c.args.part.count; from = t.last + 1; to = t.last + c.len.result } in
    flushed_tells (λ file. g.S.Frozen.Frozen.content file) (λ file. g.S.Frozen.Frozen.name file) head t.list c.in-Ok.field-0.list (g.S.Store.history t.kit.store) (g.S.Store.history c.in-Ok.field-0.kit.store) (g.S.Store.history c.in-Ok-remove_files.removed.kit.store)
    c.in-Ok.ensures.listed c.in-Ok-remove_files.ensures.untold told

pub returns-clause-home : goal.returns-clause-home
returns-clause-home g c = c.in-Err.ensures.home (told_map _ _ (g.S.Store.history c.args.tidied.kit.store) (λ disk own. own.is_in) c.requires.own)

pub returns-in-Ok-clause-home : goal.returns-in-Ok-clause-home
returns-in-Ok-clause-home g c =
    let t = c.args.tidied in
    let name = g.S.Frozen.Frozen.name in
    let content = g.S.Frozen.Frozen.content in
    let head : Head = record { number = c.args.part.number; count = c.args.part.count; from = t.last + 1; to = t.last + c.len.result } in
    let count : c.len.result ≡ length t.writes.items = c.len.ensures ∙ sym c.deref.ensures.len ∙ ap length c.deref.ensures.value in
    let store = g.S.Store.history c.in-Ok.field-0.kit.store in
    let mid = own_longer content name head t.list t.logs.items t.writes.items t.last c.len.result c.requires.above count refl refl c.in-Ok.field-0.list (g.S.Store.history t.kit.store) store c.in-Ok.ensures.listed (map (λ u. name u.file) t.logs.items) c.requires.own in
    c.in-Err-remove_files.ensures.home (told_map _ _ store (λ disk own. own.is_in) mid)
