use Rattle.std.proofs.Common.{◌∙◌, ◌-◌, ap, refl, rules}
use Rattle.tc_names.specs.Section.{section}
use Rattle.tc_schema_model.specs.SchemaTree.{schema_tree}
use Rattle.tc_schema_model.specs.SchemaBytes.{schema_bytes}
use Rattle.tc_store.specs.DiskFile.{written}
use Rattle.tc_store.specs.Moments.{goes_on}
use Rattle.tc_component.specs.Building.{sizes_written}
use Rattle.tc_component.specs.Counts.{counts_of}
use Rattle.tc_component.specs.Spelling.{written_version, head_bytes}
use Rattle.tc_component.proofs.Written.{on_ok, rest_told}
use Rattle.tc_component.proofs.Closing.{closed_twice}
use Rattle.tc_component.proofs.builder.put_rest.Goals as goal

pub returns-in_err-named-clause-moments : goal.returns-in_err-named-clause-moments
returns-in_err-named-clause-moments g c =
    let h = g.D.Device.history in
    closed_twice (h c.args.spool.now.gated) (h c.put.new.self.gated) (h c.put_bytes.new.spool.gated) c.put.ensures.moments c.put_bytes.ensures.moments

pub returns-in_err-to_bytes-2-clause-moments : goal.returns-in_err-to_bytes-2-clause-moments
returns-in_err-to_bytes-2-clause-moments g c =
    let h = g.D.Device.history in
    closed_twice (h c.args.spool.now.gated) (h c.put.new.self.gated) (h c.put_bytes.new.spool.gated) c.put.ensures.moments c.put_bytes.ensures.moments

pub returns-in_err-counted-clause-moments : goal.returns-in_err-counted-clause-moments
returns-in_err-counted-clause-moments g c =
    let h = g.D.Device.history in
    closed_twice (h c.args.spool.now.gated) (h c.put_bytes.new.spool.gated) (h c.put_bytes-2.new.spool.gated)
    (closed_twice (h c.args.spool.now.gated) (h c.put.new.self.gated) (h c.put_bytes.new.spool.gated) c.put.ensures.moments c.put_bytes.ensures.moments) c.put_bytes-2.ensures.moments

pub returns-in_err-front-clause-moments : goal.returns-in_err-front-clause-moments
returns-in_err-front-clause-moments g c =
    let h = g.D.Device.history in
    closed_twice (h c.args.spool.now.gated) (h c.put_bytes.new.spool.gated) (h c.put_bytes-2.new.spool.gated)
    (closed_twice (h c.args.spool.now.gated) (h c.put.new.self.gated) (h c.put_bytes.new.spool.gated) c.put.ensures.moments c.put_bytes.ensures.moments) c.put_bytes-2.ensures.moments

pub returns-in_err-flush-clause-moments : goal.returns-in_err-flush-clause-moments
returns-in_err-flush-clause-moments g c =
    let h = g.D.Device.history in
    closed_twice (h c.args.spool.now.gated) (h c.put_bytes-2.new.spool.gated) (h c.flush.new.self.gated)
    (closed_twice (h c.args.spool.now.gated) (h c.put_bytes.new.spool.gated) (h c.put_bytes-2.new.spool.gated)
    (closed_twice (h c.args.spool.now.gated) (h c.put.new.self.gated) (h c.put_bytes.new.spool.gated) c.put.ensures.moments c.put_bytes.ensures.moments) c.put_bytes-2.ensures.moments) c.flush.ensures.moments

pub returns-clause-whole : goal.returns-clause-whole
returns-clause-whole g c =
    let laws = g.met.D.Device g.world.𝓛 g.world.𝓜 g.world.𝓡 ((λ s x. x), (λ x. x), (λ x. x), λ x. x) in
    let h = g.D.Device.history in
    let spool = c.args.spool.now in
    let closed = closed_twice (h c.args.spool.now.gated) (h c.flush.new.self.gated) (h c.write.new.self)
    (closed_twice (h c.args.spool.now.gated) (h c.put_bytes-2.new.spool.gated) (h c.flush.new.self.gated)
    (closed_twice (h c.args.spool.now.gated) (h c.put_bytes.new.spool.gated) (h c.put_bytes-2.new.spool.gated)
    (closed_twice (h c.args.spool.now.gated) (h c.put.new.self.gated) (h c.put_bytes.new.spool.gated) c.put.ensures.moments c.put_bytes.ensures.moments) c.put_bytes-2.ensures.moments) c.flush.ensures.moments) c.write.ensures.moments in
    let sec = section c.args.names.now in
    let sch = schema_bytes (schema_tree (counts_of c.args.schema)) in
    on_ok c.write.result _ _ (λ wrote rows is_dir spooled.
    rest_told (h spool.gated) (h c.flush.new.self.gated) (h c.write.new.self) (g.D.Device.size spool.gated) spool.end spool.waiting.items c.args.directory.now sec sch c.in_ok-front.front.items
    written_version c.args.head rows c.args.names.now (counts_of c.args.schema) closed.untold c.requires.sized (laws.told_size spool.gated) spooled is_dir refl refl
    (c.in_ok-front.ensures ∙ ap (head_bytes written_version c.args.head) (c.sizes_written-sizes.ensures sec sch (search rules) (search rules) ∙ ap (λ n. sizes_written (n - 61) c.args.directory.now sec sch) c.len-records.ensures))
    (c.in_ok-flush.ensures.same _ (search rules))
    (wrote ∙ ap (λ bytes. goes_on (written 1 bytes) (h c.flush.new.self.gated)) c.deref.ensures.value)) c.write.ensures.written

pub returns-clause-moments : goal.returns-clause-moments
returns-clause-moments g c =
    let h = g.D.Device.history in
    closed_twice (h c.args.spool.now.gated) (h c.flush.new.self.gated) (h c.write.new.self)
    (closed_twice (h c.args.spool.now.gated) (h c.put_bytes-2.new.spool.gated) (h c.flush.new.self.gated)
    (closed_twice (h c.args.spool.now.gated) (h c.put_bytes.new.spool.gated) (h c.put_bytes-2.new.spool.gated)
    (closed_twice (h c.args.spool.now.gated) (h c.put.new.self.gated) (h c.put_bytes.new.spool.gated) c.put.ensures.moments c.put_bytes.ensures.moments) c.put_bytes-2.ensures.moments) c.flush.ensures.moments) c.write.ensures.moments
