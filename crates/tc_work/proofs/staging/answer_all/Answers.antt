use Rattle.std.proofs.Common.{◌≡◌, ◌∙◌, ◌+◌, ◌++◌, ◌∷◌, [], map, drop, ap, subst, sym, refl, arith, drop_of_length-le}
use Rattle.std.proofs.lemmas.List.Elements.{All-get_or}
use Rattle.std.proofs.lemmas.List.{map-append, append-nil}
use Rattle.tc_value.proofs.Sizes.{from_place}
use Rattle.tc_model.specs.Keyed.{values_in}
use Rattle.tc_run_model.specs.Kinds.{AreRenderedOfKinds}
use Rattle.tc_command.specs.Replies.{rendered_of}
use Rattle.tc_command.specs.Commands.{request_of_command}
use Rattle.tc_part.specs.Harms.{IsHarmIn}
use Rattle.tc_part_model.specs.Meaning.{plain_of}
use Rattle.tc_part_model.specs.PartState.{PartState, told, AreTold}
use Rattle.tc_route.specs.declared.placed.Placed.{Placed}
use Rattle.tc_route.specs.Meaning.{placed_of, rendered_in, routed_of}
use Rattle.tc_work.specs.Asked.{most_bytes, most_writes, requests_in, IsForPart}
use Rattle.tc_work.specs.Faults.{IfDamage}
use Rattle.tc_work.specs.Frames.{AreWithin}
use Rattle.tc_work.specs.Reads.{live_in, most_reads}
use Rattle.tc_work.specs.Windowed.{staged_as}
use Rattle.tc_work.proofs.GrownFrames.{room_for_next, still_within}
use Rattle.tc_work.proofs.HandedFaults.{same_fault, same_harm, no_memory}
use Rattle.tc_work.proofs.ReadCounts.{none_counted, none_read, read_on, read_ended, read_within, HaveRead}
use Rattle.tc_work.proofs.Underway.{begins, goes_on, ends_staged, ends_replied, place_moves, IsUnderway}
use Rattle.tc_work.proofs.WindowSizes.{few_writes}
use Rattle.tc_work.proofs.Windows.{staged_again}
use Rattle.tc_work.proofs.ReplyKinds.{one_more_reply}
use Rattle.tc_work.proofs.staging.answer_all.Goals as goal

pub loop-routed-preserved : goal.loop-routed-preserved
loop-routed-preserved g c =
    let l = c.loop-routed in
    let old = told g.S.Store.history g.S.Device.Device.history g.S.Frozen.Frozen.content c.args.part.now in
    let now = told g.S.Store.history g.S.Device.Device.history g.S.Frozen.Frozen.content l.part in
    let new = told g.S.Store.history g.S.Device.Device.history g.S.Frozen.Frozen.content c.answer.new.part in
    let list = c.args.list.now in
    let i = l.routed-index in
    let r = c.routed-item.result in
    let step : drop i list ≡ r ∷ drop (i + 1) list = from_place list i r c.loop-routed-test.true c.routed-item.is in
    let placed : Placed = record { at = r.at; reply = c.in_ok-reply.reply } in
    record {
      underway = λ p is.
          let before = subst (λ xs. IsUnderway c.args.part.now.limits (map routed_of list) (plain_of old p) p (AreTold old.components) (map routed_of xs) (rendered_in l.replies.items) now) step (l.invariant.underway p is) in
          let q = staged_as before.writes p in
          subst (λ made. IsUnderway c.args.part.now.limits (map routed_of list) (plain_of old p) p (AreTold old.components) (map routed_of (drop (i + 1) list)) made new)
          (sym (ap rendered_in c.in_ok-push.ensures.items ∙ map-append placed_of l.replies.items (placed ∷ [])))
          (goes_on c.args.part.now.limits l.part.limits (map routed_of list) (plain_of old p) p (AreTold old.components) (routed_of r) (map routed_of (drop (i + 1) list)) (rendered_in l.replies.items) (placed_of placed) now new before
          (ap (λ (s : PartState _ _ _ _). s.limits) l.invariant.same) refl (c.in_ok-reply.ensures.staged q before.staged.part)
          (λ are_told. c.in_ok-reply.ensures.reply q before.staged.part (subst AreTold (sym (ap (λ (s : PartState _ _ _ _). (told g.S.Store.history g.S.Device.Device.history g.S.Frozen.Frozen.content s).components) l.invariant.same)) are_told)));
      places = ap (λ xs. map (λ a. a.at) xs ++ map (λ r. r.at) (drop (i + 1) list)) c.in_ok-push.ensures.items
          ∙ place_moves (λ a. a.at) (λ r. r.at) l.replies.items placed r (drop (i + 1) list) (map (λ r. r.at) list) refl (subst (λ xs. map (λ a. a.at) l.replies.items ++ map (λ r. r.at) xs ≡ map (λ r. r.at) list) step l.invariant.places);
      kinds = λ more given. subst (AreRenderedOfKinds (requests_in list)) (sym (one_more_reply l.replies.items _ placed more c.in_ok-push.ensures.items))
          (l.invariant.kinds (rendered_of c.in_ok-reply.reply ∷ more) (subst (λ xs. AreRenderedOfKinds (requests_in xs) (rendered_of c.in_ok-reply.reply ∷ more)) (sym step) (c.in_ok-reply.ensures.kind, given)));
      within = still_within _ _ (routed_of r).1 l.part.staged c.answer.new.part.staged (requests_in (drop (i + 1) list))
          (subst (λ xs. AreWithin (most_writes (requests_in list)) (most_bytes (requests_in list)) l.part.staged (requests_in xs)) step l.invariant.within) c.in_ok-reply.ensures.grown;
      same = staged_again c.args.part.now l.part c.answer.new.part l.invariant.same c.answer.ensures.same;
      sound = c.in_ok-reply.ensures.sound;
      counted = read_on _ (live_in l.part) (live_in c.answer.new.part) (routed_of r).1 (requests_in (drop (i + 1) list)) _ (g.S.Watch.Watch.counts c.args.part.now.main) (g.S.Watch.Watch.counts l.part.main) (g.S.Watch.Watch.counts c.answer.new.part.main)
          (subst (λ xs. HaveRead (most_reads (live_in c.args.part.now) (requests_in list)) (most_reads (live_in l.part) (requests_in xs)) (g.S.Watch.Watch.counts c.args.part.now.main) (g.S.Watch.Watch.counts l.part.main)) step l.invariant.counted)
          c.answer.ensures.counted c.in_ok-reply.ensures.live;
    }

pub loop-routed-init : goal.loop-routed-init
loop-routed-init g c =
    let old = told g.S.Store.history g.S.Device.Device.history g.S.Frozen.Frozen.content c.args.part.now in
    let list = c.args.list.now in
    let none = c.in_ok-replies.ensures.items in
    record {
      underway = λ p is.
          subst (λ made. IsUnderway c.args.part.now.limits (map routed_of list) (plain_of old p) p (AreTold old.components) (map routed_of list) (rendered_in made) old) (sym none)
          (begins c.args.part.now.limits (map routed_of list) p (AreTold old.components) old is);
      places = subst (λ made. map (λ a. a.at) made ++ map (λ r. r.at) list ≡ map (λ r. r.at) list) (sym none) refl;
      kinds = λ more given. subst (λ made. AreRenderedOfKinds (requests_in list) (values_in (rendered_in made) ++ more)) (sym none) given;
      within = subst (λ ws. AreWithin (most_writes (requests_in list)) (most_bytes (requests_in list)) ws (requests_in list)) (sym c.requires.nothing_staged) (record { each = tt; few = omega arith; short = omega arith });
      same = refl;
      sound = c.requires.sound;
      counted = none_read (most_reads (live_in c.args.part.now) (requests_in list)) (g.S.Watch.Watch.counts c.args.part.now.main);
    }

pub answer-requires-clause-asked : goal.answer-requires-clause-asked
answer-requires-clause-asked g c κs within =
    subst (λ r. IsForPart (request_of_command r.command)) (sym c.routed-item.is) (All-get_or (λ r. IsForPart (request_of_command r.command)) c.args.list.now c.loop-routed.routed-index c.routed-item.result c.loop-routed-test.true c.requires.window.each)

pub answer-requires-clause-frame : goal.answer-requires-clause-frame
answer-requires-clause-frame g c κs within =
    let list = c.args.list.now in
    let i = c.loop-routed.routed-index in
    let step : drop i list ≡ c.routed-item.result ∷ drop (i + 1) list = from_place list i c.routed-item.result c.loop-routed-test.true c.routed-item.is in
    room_for_next (most_writes (requests_in list)) (most_bytes (requests_in list)) (routed_of c.routed-item.result).1 c.loop-routed.part.staged (requests_in (drop (i + 1) list)) (few_writes list c.requires.window.few) c.requires.window.short
    (subst (λ xs. AreWithin (most_writes (requests_in list)) (most_bytes (requests_in list)) c.loop-routed.part.staged (requests_in xs)) step c.loop-routed.invariant.within)

-- ---- no memory for the replies

pub returns-in_err-replies-clause-unspent : goal.returns-in_err-replies-clause-unspent
returns-in_err-replies-clause-unspent g c = no_memory c.from_residual.result _ c.from_residual.ensures.1 (λ same. absurd (cc))

pub returns-in_err-replies-clause-counted : goal.returns-in_err-replies-clause-counted
returns-in_err-replies-clause-counted g c = none_counted (most_reads (live_in c.args.part.now) (requests_in c.args.list.now)) _ (g.S.Watch.Watch.counts c.args.part.now.main) (no_memory c.from_residual.result _ c.from_residual.ensures.1 (λ same. absurd (cc)))

-- ---- a command fails

pub returns-in_err-reply-clause-same : goal.returns-in_err-reply-clause-same
returns-in_err-reply-clause-same g c = staged_again c.args.part.now c.loop-routed.part c.answer.new.part c.loop-routed.invariant.same c.answer.ensures.same

pub returns-in_err-reply-clause-harmed : goal.returns-in_err-reply-clause-harmed
returns-in_err-reply-clause-harmed g c =
    same_harm c.from_residual-in_err-reply.result c.in_err-reply.field-0.0 _ c.from_residual-in_err-reply.ensures.1
    (subst (λ cs. IfDamage c.in_err-reply.field-0.0 (λ file at bytes. IsHarmIn (λ file. g.S.Frozen.Frozen.content file) cs file at bytes)) (ap (λ (s : PartState _ _ _ _). s.list) c.loop-routed.invariant.same) c.in_err-reply.ensures.harmed)

pub returns-in_err-reply-clause-unspent : goal.returns-in_err-reply-clause-unspent
returns-in_err-reply-clause-unspent g c = λ spent. c.answer.ensures.unspent (same_fault c.from_residual-in_err-reply.result c.answer.result c.in_err-reply.field-0.0 _ c.from_residual-in_err-reply.ensures.1 c.in_err-reply.was spent)

pub returns-in_err-reply-clause-counted : goal.returns-in_err-reply-clause-counted
returns-in_err-reply-clause-counted g c =
    let l = c.loop-routed in
    let list = c.args.list.now in
    let i = l.routed-index in
    let r = c.routed-item.result in
    let step : drop i list ≡ r ∷ drop (i + 1) list = from_place list i r c.loop-routed-test.true c.routed-item.is in
    read_ended _ (live_in l.part) (routed_of r).1 (requests_in (drop (i + 1) list)) _ _ (g.S.Watch.Watch.counts c.args.part.now.main) (g.S.Watch.Watch.counts l.part.main) (g.S.Watch.Watch.counts c.answer.new.part.main)
    (subst (λ xs. HaveRead (most_reads (live_in c.args.part.now) (requests_in list)) (most_reads (live_in l.part) (requests_in xs)) (g.S.Watch.Watch.counts c.args.part.now.main) (g.S.Watch.Watch.counts l.part.main)) step l.invariant.counted)
    c.answer.ensures.counted (same_fault c.from_residual-in_err-reply.result c.answer.result c.in_err-reply.field-0.0 _ c.from_residual-in_err-reply.ensures.1 c.in_err-reply.was)

-- ---- no memory for a reply

pub returns-in_err-push-clause-same : goal.returns-in_err-push-clause-same
returns-in_err-push-clause-same g c = staged_again c.args.part.now c.loop-routed.part c.answer.new.part c.loop-routed.invariant.same c.answer.ensures.same

pub returns-in_err-push-clause-unspent : goal.returns-in_err-push-clause-unspent
returns-in_err-push-clause-unspent g c = no_memory c.from_residual-in_err-push.result _ c.from_residual-in_err-push.ensures.1 (λ same. absurd (cc))

pub returns-in_err-push-clause-counted : goal.returns-in_err-push-clause-counted
returns-in_err-push-clause-counted g c =
    let l = c.loop-routed in
    let list = c.args.list.now in
    let i = l.routed-index in
    let r = c.routed-item.result in
    let step : drop i list ≡ r ∷ drop (i + 1) list = from_place list i r c.loop-routed-test.true c.routed-item.is in
    read_ended _ (live_in l.part) (routed_of r).1 (requests_in (drop (i + 1) list)) _ _ (g.S.Watch.Watch.counts c.args.part.now.main) (g.S.Watch.Watch.counts l.part.main) (g.S.Watch.Watch.counts c.answer.new.part.main)
    (subst (λ xs. HaveRead (most_reads (live_in c.args.part.now) (requests_in list)) (most_reads (live_in l.part) (requests_in xs)) (g.S.Watch.Watch.counts c.args.part.now.main) (g.S.Watch.Watch.counts l.part.main)) step l.invariant.counted)
    c.answer.ensures.counted (λ failed. absurd (no_memory c.from_residual-in_err-push.result _ c.from_residual-in_err-push.ensures.1 (λ same. absurd (cc)) failed))

-- ---- all commands were run

pub returns-clause-staged : goal.returns-clause-staged
returns-clause-staged g c = λ p is.
    let old = told g.S.Store.history g.S.Device.Device.history g.S.Frozen.Frozen.content c.args.part.now in
    let list = c.args.list.now in
    let none : drop c.loop-routed.routed-index list ≡ [] = drop_of_length-le list (omega (arith, c.loop-routed-test.false)) in
    ends_staged c.args.part.now.limits (map routed_of list) (plain_of old p) p (AreTold old.components) (rendered_in c.loop-routed.replies.items) (told g.S.Store.history g.S.Device.Device.history g.S.Frozen.Frozen.content c.loop-routed.part)
    (subst (λ xs. IsUnderway c.args.part.now.limits (map routed_of list) (plain_of old p) p (AreTold old.components) (map routed_of xs)
    (rendered_in c.loop-routed.replies.items) (told g.S.Store.history g.S.Device.Device.history g.S.Frozen.Frozen.content c.loop-routed.part)) none
    (c.loop-routed.invariant.underway p is))

pub returns-clause-replies : goal.returns-clause-replies
returns-clause-replies g c = λ p is are_told.
    let old = told g.S.Store.history g.S.Device.Device.history g.S.Frozen.Frozen.content c.args.part.now in
    let list = c.args.list.now in
    let none : drop c.loop-routed.routed-index list ≡ [] = drop_of_length-le list (omega (arith, c.loop-routed-test.false)) in
    ap rendered_in c.of.ensures
    ∙ ends_replied c.args.part.now.limits (map routed_of list) (plain_of old p) p (AreTold old.components) (rendered_in c.loop-routed.replies.items) (told g.S.Store.history g.S.Device.Device.history g.S.Frozen.Frozen.content c.loop-routed.part)
    (subst (λ xs. IsUnderway c.args.part.now.limits (map routed_of list) (plain_of old p) p (AreTold old.components) (map routed_of xs)
    (rendered_in c.loop-routed.replies.items) (told g.S.Store.history g.S.Device.Device.history g.S.Frozen.Frozen.content c.loop-routed.part)) none
    (c.loop-routed.invariant.underway p is)) are_told

pub returns-clause-places : goal.returns-clause-places
returns-clause-places g c =
    let list = c.args.list.now in
    let none : drop c.loop-routed.routed-index list ≡ [] = drop_of_length-le list (omega (arith, c.loop-routed-test.false)) in
    ap (map (λ a. a.at)) c.of.ensures ∙ sym (append-nil (map (λ a. a.at) c.loop-routed.replies.items))
    ∙ subst (λ xs. map (λ a. a.at) c.loop-routed.replies.items ++ map (λ r. r.at) xs ≡ map (λ r. r.at) list) none c.loop-routed.invariant.places

pub returns-clause-grown : goal.returns-clause-grown
returns-clause-grown g c =
    let list = c.args.list.now in
    let none : drop c.loop-routed.routed-index list ≡ [] = drop_of_length-le list (omega (arith, c.loop-routed-test.false)) in
    subst (λ xs. AreWithin (most_writes (requests_in list)) (most_bytes (requests_in list)) c.loop-routed.part.staged (requests_in xs)) none c.loop-routed.invariant.within

pub returns-clause-counted : goal.returns-clause-counted
returns-clause-counted g c =
    read_within (most_reads (live_in c.args.part.now) (requests_in c.args.list.now)) (most_reads (live_in c.loop-routed.part) (requests_in (drop c.loop-routed.routed-index c.args.list.now))) _ (g.S.Watch.Watch.counts c.args.part.now.main)
    (g.S.Watch.Watch.counts c.loop-routed.part.main) c.loop-routed.invariant.counted (λ failed. absurd (cc))

pub returns-clause-kinds : goal.returns-clause-kinds
returns-clause-kinds g c =
    let list = c.args.list.now in
    let none : drop c.loop-routed.routed-index list ≡ [] = drop_of_length-le list (omega (arith, c.loop-routed-test.false)) in
    subst (λ xs. AreRenderedOfKinds (requests_in list) (values_in (rendered_in xs))) (sym c.of.ensures)
    (subst (AreRenderedOfKinds (requests_in list)) (append-nil (values_in (rendered_in c.loop-routed.replies.items))) (c.loop-routed.invariant.kinds [] (subst (λ xs. AreRenderedOfKinds (requests_in xs) []) (sym none) tt)))
