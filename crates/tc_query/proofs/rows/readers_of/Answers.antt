use Rattle.std.proofs.Common.{◌≡◌, ◌∙◌, ◌+◌, Some, length, length-append, sym, ap, subst, arith}
use Rattle.std.specs.Prelude.{slice_get}
use Rattle.tc_command.specs.Commands.{ask_of}
use Rattle.tc_query.proofs.WindowReads.{AreFirstReaders, new_reader, pushed_reader}
use Rattle.tc_query.specs.Readers.{hops_in, AreHopsIf, IsReaderOf}
use Rattle.tc_query.proofs.rows.readers_of.Goals as goal

pub loop-at-init : goal.loop-at-init
loop-at-init g c = record {
  within = omega arith;
  many = ap length c.in_ok-readers.ensures.items;
  first = λ n d k one two. let none = subst (λ ks. slice_get ks n ≡ Some k) c.in_ok-readers.ensures.items two in absurd (cc);
}

pub loop-at-preserved : goal.loop-at-preserved
loop-at-preserved g c =
    let l = c.loop-at in
    let told = g.F.Frozen.content in
    let path = (ask_of c.args.ask.now).path in
    let cs = c.args.list.now in
    let m = c.component_at.result.now in
    let hops = c.in_ok-hops.hops in
    let pushed = c.in_ok-push.ensures.items in
    record {
      within = let test = c.loop-at-test.true in let end = c.len-at-end.ensures in omega (arith, test, end);
      many = ap length pushed ∙ length-append l.readers.items _ ∙ ap (λ n. n + 1) l.invariant.many;
      first = subst (AreFirstReaders told path cs) (sym pushed)
          (pushed_reader told path cs l.readers.items m c.new.result l.invariant.first (subst (λ n. slice_get cs n ≡ Some m) (sym l.invariant.many) c.component_at.ensures)
          (subst (IsReaderOf told path m) (sym c.new.ensures) (new_reader told path m hops (subst (λ names. AreHopsIf names path (hops_in hops)) c.names.ensures c.in_ok-hops.ensures))));
    }

pub returns : goal.returns
returns g c =
    let l = c.loop-at in
    record { many = let test = c.loop-at-test.false in let end = c.len-at-end.ensures in let within = l.invariant.within in let many = l.invariant.many in omega (arith, test, end, within, many); each = l.invariant.first }
