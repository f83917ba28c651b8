use Rattle.std.proofs.Common.{◌∙◌, Some, slice_index_or, ap, sym}
use Rattle.std.proofs.lemmas.Option.{slice_get-get_or}
use Rattle.tc_names.proofs.Cuts.{cut-at, ends-within}
use Rattle.tc_names.proofs.texts.between.Goals as goal

pub part-requires : goal.part-requires
part-requires c =
    ends-within 0 c.args.ends.now c.args.bytes.now c.args.place c.start_of-start.result (slice_index_or c.args.ends.now c.args.place 0) c.requires.0 c.start_of-start.ensures.start
    (slice_get-get_or c.args.ends.now c.args.place 0 c.requires.1)

pub returns : goal.returns
returns c = record {
  text = cut-at 0 c.args.ends.now c.args.bytes.now c.args.place c.start_of-start.result (slice_index_or c.args.ends.now c.args.place 0) c.start_of-start.ensures.start
      (slice_get-get_or c.args.ends.now c.args.place 0 c.requires.1)
      ∙ ap Some (sym c.part.ensures.part);
}
