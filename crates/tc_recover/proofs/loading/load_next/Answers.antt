use Rattle.std.proofs.Common.{◌≡◌, [], Err}
use Rattle.tc_component.specs.Layout.{names_place}
use Rattle.tc_component.specs.Spelling.{name_of, sizes_in}
use Rattle.tc_names.specs.Section.{section}
use Rattle.tc_recover.specs.Refusals.{asked}
use Rattle.tc_merge.specs.Merging.{newest_names}
use Rattle.tc_recover.specs.declared.cause.FilesCause.TheVariants.{Disk}
use Rattle.tc_recover.proofs.LoadSteps.{goes_on, stops_judged, stops_cause, never_disk}
use Rattle.tc_recover.proofs.loading.load_next.Goals as goal

pub returns-then-goes_behind-clause-judged : goal.returns-then-goes_behind-clause-judged
returns-then-goes_behind-clause-judged g c =
    goes_on (g.F.Frozen.content c.args.file.file) (asked c.args.part) (newest_names [] c.args.list.now) c.args.file.name c.in_ok-component.component c.goes_behind.result c.in_ok-component.ensures.judged c.goes_behind.ensures.exact c.if-goes_behind.true

pub returns-then-goes_behind-clause-listed : goal.returns-then-goes_behind-clause-listed
returns-then-goes_behind-clause-listed g c = λ listed. c.goes_behind.ensures.listed c.args.part.number c.args.part.count c.if-goes_behind.true listed (c.in_ok-component.ensures.number, c.in_ok-component.ensures.count)

pub returns-else-goes_behind-clause-judged : goal.returns-else-goes_behind-clause-judged
returns-else-goes_behind-clause-judged g c =
    stops_judged (g.F.Frozen.content c.args.file.file) (asked c.args.part) (newest_names [] c.args.list.now) c.args.file.name c.in_ok-component.component c.goes_behind.result c.names_damage.result c.from.result c.in_ok-component.ensures.judged
    c.goes_behind.ensures.exact c.if-goes_behind.false c.in_ok-component.ensures.name c.names_damage.ensures c.from.ensures

pub returns-else-goes_behind-clause-causes : goal.returns-else-goes_behind-clause-causes
returns-else-goes_behind-clause-causes g c =
    let size = g.F.Frozen.size in
    stops_cause (λ f. size f) (asked c.args.part) c.args.file (newest_names [] c.args.list.now) c.in_ok-component.component c.goes_behind.result c.names_damage.result c.from.result c.file_len-size.result c.goes_behind.ensures.exact c.if-goes_behind.false
    c.in_ok-component.ensures.file c.in_ok-component.ensures.name c.in_ok-component.ensures.lawful c.file_len-size.ensures.length c.file_len-size.ensures.sized c.names_damage.ensures c.from.ensures

pub returns-else-goes_behind-clause-counted : goal.returns-else-goes_behind-clause-counted
returns-else-goes_behind-clause-counted g c =
    let index = c.in_ok-component.component.index in
    let never = never_disk (name_of index.head) (names_place (sizes_in index)) (section index.names) c.names_damage.result c.from.result c.names_damage.ensures c.from.ensures in
    record {
      faults = c.load_own.ensures.counted.faults;
      cause = λ failed. let is : c.from.result ≡ Disk = cc in absurd (never is);
      done = λ ok. absurd (cc);
    }
