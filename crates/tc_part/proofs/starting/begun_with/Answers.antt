use Rattle.std.proofs.Common.{rules, ◌≡◌, ◌∙◌, ◌+◌, ◌<◌, ◌^◌, refl, sym, ap, subst, arith}
use Rattle.tc_store.specs.declared.file_name.FileName.TheVariants.{Log}
use Rattle.tc_list.specs.Intervals.{last_of}
use Rattle.tc_part.proofs.NewestListed.{next_listed}
use Rattle.tc_part.proofs.starting.begun_with.Goals as goal

pub invariant_of-result : goal.invariant_of-result
invariant_of-result g c =
    let next : c.generation_behind-generation.result ≡ last_of c.args.opened.list + 1 = c.generation_behind-generation.ensures ∙ next_listed g.S.Frozen.Frozen.content c.args.opened.list in
    record {
      frame = search rules;
      few_writes = omega arith;
      first = omega (arith, next);
      last = subst (λ n. n < 2 ^ 63) (sym c.generation_behind-generation.ensures) c.requires.last;
      log_name = c.requires.follows ∙ ap (λ n. Log n) (sym c.generation_behind-generation.ensures);
      sealed_name = tt;
      log_sound = λ _. c.requires.sound;
      sealed_sound = λ _. tt;
      merge = refl;
      listed = c.requires.listed;
      named = c.requires.named;
      run = tt;
      behind = λ _. next;
      sealed_both = λ _. refl;
      flush = λ _ none. absurd (cc);
    }
