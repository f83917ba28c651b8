use Rattle.std.proofs.Common.{◌≡◌, ◌∙◌, Some, None, is_some, option_map, sym, ap, subst}
use Rattle.tc_model.specs.Keyed.{value_of}
use Rattle.tc_request_model.specs.Rendered.{document_text}
use Rattle.tc_memory.specs.Table.{live}
use Rattle.tc_part_model.specs.PartState.{told}
use Rattle.tc_part.specs.Below.{held_at, sealed_held, newer_held, ShowsLiveBy}
use Rattle.tc_part.proofs.BelowKeys.{below_there, none_held, active_live, active_read, stored_below, active_shows, newest_active, active_newest}
use Rattle.tc_part.proofs.ListedContents.{all_show}
use Rattle.tc_part.proofs.Outcomes.{memory_harms, memory_counts}
use Rattle.tc_part.proofs.Spelled.{if_ok_then, if_ok_both}
use Rattle.tc_part.proofs.part.Part.text.Goals as goal

pub returns-then-has-clause-live : goal.returns-then-has-clause-live
returns-then-has-clause-live g c =
    let t = told g.S.Store.history g.S.Device.Device.history g.S.Frozen.Frozen.content c.args.self.now in
    let key = c.args.key in
    λ p is. if_ok_then c.text_active.result _ _ (λ doc _ there. active_live t p is key (is_some doc) there) c.text_active.ensures.there

pub returns-then-has-clause-text : goal.returns-then-has-clause-text
returns-then-has-clause-text g c =
    let t = told g.S.Store.history g.S.Device.Device.history g.S.Frozen.Frozen.content c.args.self.now in
    let key = c.args.key in
    λ p is files.
    if_ok_both c.text_active.result _ _ _
    (λ text there spelled. active_read t p is key (document_text key) text there spelled c.text_active.ensures.lawful) c.text_active.ensures.there c.text_active.ensures.text

pub returns-then-has-clause-shown : goal.returns-then-has-clause-shown
returns-then-has-clause-shown g c =
    let state = c.args.self.now in
    let key = c.args.key in
    if_ok_then c.text_active.result _ _ (λ doc _ there. active_shows (held_at key state.active) state.sealed state.list key (is_some doc) there) c.text_active.ensures.there

pub returns-then-has-clause-held : goal.returns-then-has-clause-held
returns-then-has-clause-held g c =
    let state = c.args.self.now in
    let key = c.args.key in
    let has = sym (ap (λ s. is_some (value_of key s.active)) c.self.view_is) ∙ sym c.has.ensures.found ∙ c.if-has.true in
    λ d bytes held of. if_ok_then c.text_active.result _ _ (λ text _ spelled. spelled d bytes (newest_active key state.active state.sealed (live bytes) has held) of) c.text_active.ensures.text

pub returns-then-has-clause-harmed : goal.returns-then-has-clause-harmed
returns-then-has-clause-harmed g c =
    memory_harms c.text_active.result _ c.text_active.ensures.memory

pub returns-then-has-clause-counted : goal.returns-then-has-clause-counted
returns-then-has-clause-counted g c =
    memory_counts c.text_active.result _ _ c.text_active.ensures.memory

pub returns-clause-live : goal.returns-clause-live
returns-clause-live g c =
    let t = told g.S.Store.history g.S.Device.Device.history g.S.Frozen.Frozen.content c.args.self.now in
    let key = c.args.key in
    let state = c.args.self.now in
    let none = sym (ap (λ s. is_some (value_of key s.active)) c.self.view_is) ∙ sym c.has.ensures.found ∙ c.if-has.false in
    λ p is.
    let there = below_there t p is key state.list (all_show g.S.Frozen.Frozen.content state.list p.list is.view.components) c.below-below.result c.below-below.ensures ∙ ap (λ o. is_some o) (sym (stored_below t p is key none)) in
    if_ok_then c.text_below.result _ _ (λ doc _ found. found ∙ there) c.text_below.ensures.there

pub returns-clause-text : goal.returns-clause-text
returns-clause-text g c =
    let t = told g.S.Store.history g.S.Device.Device.history g.S.Frozen.Frozen.content c.args.self.now in
    let key = c.args.key in
    let none = sym (ap (λ s. is_some (value_of key s.active)) c.self.view_is) ∙ sym c.has.ensures.found ∙ c.if-has.false in
    λ p is files. if_ok_then c.text_below.result _ _ (λ text _ same. same ∙ sym (ap (option_map (document_text key)) (stored_below t p is key none))) (c.text_below.ensures.text p is files)

pub returns-clause-shown : goal.returns-clause-shown
returns-clause-shown g c =
    let state = c.args.self.now in
    let key = c.args.key in
    let none = sym (ap (λ s. is_some (value_of key s.active)) c.self.view_is) ∙ sym c.has.ensures.found ∙ c.if-has.false in
    if_ok_then c.text_below.result _ _
    (λ doc _ there. subst (λ o. ShowsLiveBy o state.sealed state.list key (is_some doc)) (sym (none_held key state.active none)) (c.below-below.result, c.below-below.ensures, there))
    c.text_below.ensures.there

pub returns-clause-held : goal.returns-clause-held
returns-clause-held g c =
    let state = c.args.self.now in
    let key = c.args.key in
    let none = sym (ap (λ s. is_some (value_of key s.active)) c.self.view_is) ∙ sym c.has.ensures.found ∙ c.if-has.false in
    λ d bytes held of. c.text_below.ensures.held d bytes (subst (λ o. newer_held o (sealed_held key state.sealed) ≡ Some (live bytes)) (none_held key state.active none) held) of

-- ---- what was read

pub returns-then-has-clause-read : goal.returns-then-has-clause-read
returns-then-has-clause-read g c =
    let state = c.args.self.now in
    let key = c.args.key in
    let has = sym (ap (λ s. is_some (value_of key s.active)) c.self.view_is) ∙ sym c.has.ensures.found ∙ c.if-has.true in
    if_ok_then c.text_active.result _ _ (λ text _ there none. absurd (active_newest key state.active state.sealed has none)) c.text_active.ensures.there

pub returns-clause-read : goal.returns-clause-read
returns-clause-read g c =
    let state = c.args.self.now in
    let key = c.args.key in
    let none = sym (ap (λ s. is_some (value_of key s.active)) c.self.view_is) ∙ sym c.has.ensures.found ∙ c.if-has.false in
    if_ok_then c.text_below.result _ _
    (λ text _ read untabled. read (subst (λ o. newer_held o (sealed_held key state.sealed) ≡ None) (none_held key state.active none) untabled))
    c.text_below.ensures.read
