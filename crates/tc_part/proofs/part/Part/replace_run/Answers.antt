use Rattle.std.proofs.Common.{◌≡◌, ◌∙◌, is_some, refl, sym, ap, subst}
use Rattle.tc_component.specs.Loading.{ComponentState}
use Rattle.tc_component.specs.Spelling.{name_of}
use Rattle.tc_list.specs.Intervals.{last_of}
use Rattle.tc_flush.proofs.Outcomes.{if_ok}
use Rattle.tc_part.specs.MergeEnds.{merged_name}
use Rattle.tc_part.specs.Ready.{AreNamed, LiesIn}
use Rattle.tc_part.proofs.ReplacedRun.{all_replaced, generation_like, last_replaced, listed_or_not, of_partition, run_gone}
use Rattle.tc_part.proofs.SweptFiles.{run_named}
use Rattle.tc_part.proofs.part.Part.replace_run.Goals as goal

pub invariant_of-self : goal.invariant_of-self
invariant_of-self g c =
    let s = c.self.inside in
    let run = c.args.run in
    let name = g.S.Frozen.Frozen.name in
    let list = c.list_merge.new.list in
    let head = c.merged_head-head.ensures.exact in
    let lies : LiesIn s.list run = subst (λ x. LiesIn x.list run) (sym c.self.view_is) c.requires.run in
    let named = c.requires.name ∙ ap (λ x. merged_name run x) (sym c.self.view_is) in
    let last : last_of list ≡ last_of s.list =
    listed_or_not c.list_merge.result _ _ _ s.list list (λ cs. last_of cs ≡ last_of s.list) c.list_merge.ensures.unlisted c.list_merge.ensures.listed refl
    (λ m made. last_replaced run s.list m lies (ap (λ h. h.to) (made.has_head ∙ head))) in
    record {
      frame = c.self.invariant.frame;
      few_writes = c.self.invariant.few_writes;
      first = c.self.invariant.first;
      last = c.self.invariant.last;
      log_name = c.self.invariant.log_name;
      sealed_name = c.self.invariant.sealed_name;
      log_sound = c.self.invariant.log_sound;
      sealed_sound = c.self.invariant.sealed_sound;
      merge = c.self.invariant.merge;
      listed = of_partition c.list_merge.result c.merged_head-head.result s.number s.count s.list list c.list_merge.ensures.unlisted c.list_merge.ensures.partition (ap (λ h. h.number) head) (ap (λ h. h.count) head) c.self.invariant.listed;
      named = listed_or_not c.list_merge.result _ _ _ s.list list (λ cs. AreNamed name cs) c.list_merge.ensures.unlisted c.list_merge.ensures.listed c.self.invariant.named
          (λ m made. all_replaced (λ (k : ComponentState _). name k.file ≡ name_of k.index.head) run m s.list c.self.invariant.named (made.has_name ∙ named ∙ sym (ap name_of (made.has_head ∙ head))));
      run = run_gone s.merging list (ap (λ x. x.merging) c.self.view_is ∙ c.requires.back);
      behind = λ sound. c.self.invariant.behind sound ∙ generation_like s.list list (is_some s.sealed) last;
      sealed_both = c.self.invariant.sealed_both;
      flush = c.self.invariant.flush;
    }

pub returns-clause-named : goal.returns-clause-named
returns-clause-named g c =
    let s = c.self.inside in
    let name = g.S.Frozen.Frozen.name in
    if_ok c.list_merge.result _ _ (λ left is. subst (AreNamed name) (sym is) (run_named name c.args.run s.list c.self.invariant.named)) c.list_merge.ensures.left
