use Rattle.std.proofs.Common.{◌≡◌, ◌∙◌, ◌-◌, false, is_some, sym, ap, subst, arith}
use Rattle.std.specs.Prelude.{IfSome}
use Rattle.tc_store.specs.declared.file_name.FileName.TheVariants.{Log}
use Rattle.tc_component.specs.Spelling.{name_of}
use Rattle.tc_list.specs.Intervals.{last_of}
use Rattle.tc_part.specs.Ready.{AreNamed, LiesIn}
use Rattle.tc_part.proofs.ClosedParts.{flusher_in}
use Rattle.tc_part.proofs.ListedBehind.{last_listed, named_behind, run_before}
use Rattle.tc_part.proofs.part.Part.push_flushed.Goals as goal

pub invariant_of-self-2 : goal.invariant_of-self-2
invariant_of-self-2 g c =
    let s = c.self.inside in
    let listed = c.in_ok-list_flush.ensures.listed in
    let m = listed.component in
    let head = listed.made.has_head ∙ c.flush_head-head.ensures in
    let name : g.S.Frozen.Frozen.name m.file ≡ name_of m.index.head = listed.made.has_name ∙ c.requires.name ∙ sym (ap name_of head) in
    let last : last_of c.list_flush.new.list ≡ s.generation - 1 = ap last_of listed.listed ∙ last_listed s.list m ∙ ap (λ h. h.to) head ∙ ap (λ x. x.generation - 1) (sym c.self.view_is) in
    let there = flusher_in s.flusher (ap (λ s. s.flushing) c.self.view_is ∙ c.requires.back) in
    record {
      frame = c.self.invariant.frame;
      few_writes = c.self.invariant.few_writes;
      first = c.self.invariant.first;
      last = c.self.invariant.last;
      log_name = c.self.invariant.log_name;
      sealed_name = subst (λ o. IfSome o (λ l. g.S.Device.Device.name l.device ≡ Log (s.generation - 1))) (sym c.take.ensures.after) tt;
      log_sound = c.self.invariant.log_sound;
      sealed_sound = λ _. subst (λ o. IfSome o (λ l. l.failed ≡ false)) (sym c.take.ensures.after) tt;
      merge = c.self.invariant.merge;
      listed = c.in_ok-list_flush.ensures.partition s.number s.count (ap (λ h. h.number) c.flush_head-head.ensures ∙ ap (λ x. x.number) (sym c.self.view_is)) (ap (λ h. h.count) c.flush_head-head.ensures ∙ ap (λ x. x.count) (sym c.self.view_is)) c.self.invariant.listed;
      named = subst (λ cs. AreNamed (λ f. g.S.Frozen.Frozen.name f) cs) (sym listed.listed) (named_behind (λ f. g.S.Frozen.Frozen.name f) s.list m c.self.invariant.named name);
      run = subst (λ cs. IfSome s.merging (LiesIn cs)) (sym listed.listed) (run_before s.merging s.list m c.self.invariant.run);
      behind = λ _. omega (arith, last, c.self.invariant.first);
      sealed_both = λ _. ap (λ o. is_some o) c.take.ensures.after;
      flush = λ _ none. absurd (cc);
    }
