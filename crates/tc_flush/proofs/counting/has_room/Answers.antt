use Rattle.std.proofs.Common.{refl, arith}
use Rattle.tc_flush.proofs.CountedTables.{values_few, can_apart}
use Rattle.tc_flush.proofs.Outcomes.{if_ok}
use Rattle.tc_flush.proofs.counting.has_room.Goals as goal

pub returns-then-greatest-lt-HIGH : goal.returns-then-greatest-lt-HIGH
returns-then-greatest-lt-HIGH c = (
  (λ _. record {
    short = c.in-Some.ensures.short;
    documents = omega (arith, c.if-saturating_add-ge-MOST.false, c.saturating_add.ensures, c.documents.ensures, c.in-Some.ensures.count);
    counters = λ t of path. omega (
      arith,
      c.if-greatest-lt-HIGH.true,
      c.greatest.ensures.bound c.args.names.now path,
      values_few c.names_agree.ensures.values t c.args.sealed.now of c.in-Some.ensures.short (omega (arith, c.if-saturating_add-ge-MOST.false, c.saturating_add.ensures, c.documents.ensures, c.in-Some.ensures.count)) path,
    );
    names = λ t of. (c.in_ok-have_names_room.ensures t of).0 c.if-not-branch.false;
  }),
  λ _. refl,
)

pub returns : goal.returns
returns c =
    if_ok c.have_values_room.result _ _
    (λ yes decides. (
      (λ is. record {
        short = c.in-Some.ensures.short;
        documents = omega (arith, c.if-saturating_add-ge-MOST.false, c.saturating_add.ensures, c.documents.ensures, c.in-Some.ensures.count);
        counters = λ t of. (decides t of).0 is;
        names = λ t of. (c.in_ok-have_names_room.ensures t of).0 c.if-not-branch.false;
      }),
      λ room. let whole = c.tables_keep_documents.ensures.some c.args.sealed.now c.len-entries.ensures.table in (decides whole.table whole.of).1 (room.counters whole.table whole.of),
    ))
    c.have_values_room.ensures

pub have_values_room-requires-clause-can : goal.have_values_room-requires-clause-can
have_values_room-requires-clause-can c = λ t of.
    can_apart c.names_agree.ensures.values t c.args.sealed.now of c.in-Some.ensures.short (omega (arith, c.if-saturating_add-ge-MOST.false, c.saturating_add.ensures, c.documents.ensures, c.in-Some.ensures.count)) c.args.names.now
    ((c.in_ok-have_names_room.ensures t of).0 c.if-not-branch.false)
