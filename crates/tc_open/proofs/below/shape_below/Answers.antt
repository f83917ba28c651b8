use Rattle.std.proofs.Common.{◌≡◌, ◌∙◌, Some, Err, option_map, refl, sym, ap}
use Rattle.tc_model.specs.Document.{document_shape}
use Rattle.tc_value.specs.ShapeMeaning.{shape_tree}
use Rattle.tc_jobs.specs.declared.fault.JobFault.TheVariants.{Disk}
use Rattle.tc_list.specs.declared.whereabouts.Whereabouts.TheVariants.{At}
use Rattle.tc_part.proofs.ListedDocuments.{found_place, live_document, looked_up}
use Rattle.tc_open.proofs.ReadFaults.{disk_read, harmed_read}
use Rattle.tc_open.proofs.below.shape_below.Goals as goal

pub shape_at-requires-after_bounds : goal.shape_at-requires-after_bounds
shape_at-requires-after_bounds g c = λ κs lives.
    found_place c.args.list.now c.args.key c.in-At.component c.in-At.place c.component_at-component.result.now (record { newest = c.in-At.ensures.newest; live = c.in-At.ensures.live }) c.component_at-component.ensures

pub returns-in-Ok-clause-handed : goal.returns-in-Ok-clause-handed
returns-in-Ok-clause-handed g c =
    let list = c.args.list.now in
    let key = c.args.key in
    let n = c.in-At.component in
    let place = c.in-At.place in
    record {
      at = At n place;
      found = record { newest = c.in-At.ensures.newest; live = c.in-At.ensures.live };
      there = refl;
      shape = λ part cs is_list loaded.
          let holds = c.loaded_components_show_contents.ensures.fetched part list cs key n place is_list loaded c.in-At.ensures.newest in
          let live = live_document g.F.Frozen.content list cs key n place c.component_at-component.result.now (λ d. shape_tree c.in-Ok.shape ≡ document_shape d) holds c.component_at-component.ensures c.in-Ok.ensures.shape in
          ap Some live.2 ∙ sym (ap (option_map document_shape) live.1);
    }

pub returns-in-Ok-clause-counted : goal.returns-in-Ok-clause-counted
returns-in-Ok-clause-counted g c =
    looked_up c.args.list.now c.args.key c.in-At.component c.in-At.place _ _ _ _ _ (record { newest = c.in-At.ensures.newest; live = c.in-At.ensures.live }) (λ fails. absurd (cc)) c.in-Ok.ensures.counted

pub returns-in-Err-clause-harmed : goal.returns-in-Err-clause-harmed
returns-in-Err-clause-harmed g c =
    rw c.of_read.ensures
    (harmed_read c.in-Err.fault _ _ (λ file at bytes harm. record { at = c.in-At.component; component = c.component_at-component.result.now; here = c.component_at-component.ensures; harm = harm }) c.in-Err.ensures.harmed)

pub returns-in-Err-clause-counted : goal.returns-in-Err-clause-counted
returns-in-Err-clause-counted g c =
    looked_up c.args.list.now c.args.key c.in-At.component c.in-At.place _ _ _ _ _ (record { newest = c.in-At.ensures.newest; live = c.in-At.ensures.live })
    (λ fails. let cause : c.of_read.result ≡ Disk = cc in ap Err (disk_read c.in-Err.fault (sym c.of_read.ensures ∙ cause))) c.in-Err.ensures.counted
