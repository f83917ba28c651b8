use Rattle.std.proofs.Common.{◌≡◌, ◌<◌, ◌^◌, ◌++◌, ◌∷◌, length, ap, ◌∙◌, subst, arith, rules}
use Rattle.std.specs.Prelude.{◌↔◌, All}
use Rattle.tc_memory.specs.Meaning.{entry_of, held_of}
use Rattle.tc_flush.specs.Counting.{IsShort, held_record, records_kept}
use Rattle.tc_flush.proofs.CountedTables.{records_fewer, short_first}
use Rattle.tc_flush.proofs.counting.short_records.Goals as goal

pub loop-entry-init : goal.loop-entry-init
loop-entry-init c =
    let all = c.entries-entries.ensures.all in
    record {
      short = rw all ((λ s. s), λ s. s);
      count = rw all (omega arith);
      few = omega (arith, records_fewer c.args.sealed.now, c.len-entries.ensures.count, c.len-entries.type_inv);
    }

pub loop-entry-preserved-in-Live : goal.loop-entry-preserved-in-Live
loop-entry-preserved-in-Live c =
    let l = c.loop-entry in
    let here : l.entries ≡ entry_of c.in-Some.entry ∷ c.next.new.self = search rules in
    let bytes = c.in-Live.bytes.now in
    let records : records_kept l.entries ≡ bytes ∷ records_kept c.next.new.self =
    ap records_kept here ∙ ap (λ h. held_record (held_of h) ++ records_kept c.next.new.self) c.in-Live.is in
    let short : length bytes < 2 ^ 30 = omega (arith, c.if-as_slice-ge-LONG.false, ap length c.as_slice.ensures.same) in
    let first = short_first bytes (records_kept c.next.new.self) short in
    let before : All IsShort (bytes ∷ records_kept c.next.new.self) ↔ All IsShort (records_kept c.args.sealed.now) = subst (λ bs. All IsShort bs ↔ All IsShort (records_kept c.args.sealed.now)) records l.invariant.short in
    record {
      short = ((λ s. before.0 (first.1 s)), λ s. first.0 (before.1 s));
      count = omega (arith, l.invariant.count, ap length records);
      few = l.invariant.few;
    }
