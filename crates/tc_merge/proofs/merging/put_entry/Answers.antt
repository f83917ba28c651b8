use Rattle.std.proofs.Common.{◌≤◌, ◌+◌, ◌≡◌, ◌∙◌, ◌<◌, ◌++◌, ◌∷◌, ℕ, Option, List, map, sym, ap, subst}
use Rattle.std.specs.Prelude.{All, IfSome, IsSome, length}
use Rattle.tc_component.specs.Building.{HasRows}
use Rattle.tc_component.specs.Fetching.{IsRecordWithin}
use Rattle.tc_component.specs.Spans.{IsSpan}
use Rattle.tc_component.specs.Spelling.{written_version}
use Rattle.tc_merge.specs.Faults.{IfHarmed, IsHarmOf, IsJudged}
use Rattle.tc_merge.specs.Inputs.{rows_from, passed, left_of, IsUpTo}
use Rattle.tc_merge.specs.Merging.{live_rows, rows_told}
use Rattle.tc_merge.proofs.Chosen.{chosen_is, all_behind, same_component, put_back}
use Rattle.tc_merge.proofs.ReadsCounted.{live_kept}
use Rattle.tc_merge.proofs.EntryRows.{all_kept}
use Rattle.tc_merge.proofs.Harms.{harm_in}
use Rattle.tc_merge.proofs.InputSteps.{slice_get-map, first_there, ahead, row_ahead, next_row, up_to}
use Rattle.tc_merge.proofs.SetBack.{all_at}
use Rattle.tc_merge.proofs.UpTo.{fewer, passed_components}
use Rattle.tc_merge.proofs.merging.put_entry.Goals as goal

pub put-requires-clause-entry : goal.put-requires-clause-entry
put-requires-clause-entry g c κs within =
    let inputs = c.args.inputs.now in
    let key = c.args.next.key in
    let is = c.requires.next in
    let all : c.pass_all-behind.new.inputs ≡ map (passed key) inputs = all_behind inputs c.args.next is c.requires.lawful c.pass_all-behind.new.inputs c.index-inputs-next.result c.pass.new.self c.pass.ensures c.pass_all-behind.ensures.passed in
    let same = same_component inputs c.args.next is c.requires.lawful c.pass_all-behind.new.inputs c.index-inputs-next-2.result all in
    let entry = subst (λ m. IsSpan m.index.slots is.input.at c.ahead-entry.result) (sym same) (subst (λ i. IsSpan i.component.index.slots i.at c.ahead-entry.result) (chosen_is inputs c.args.next is c.requires.lawful c.index-inputs-next.result) c.ahead-entry.ensures) in
    (is.input.at, entry)

pub returns-in-Ok-clause-same : goal.returns-in-Ok-clause-same
returns-in-Ok-clause-same g c =
    let inputs = c.args.inputs.now in
    let key = c.args.next.key in
    let is = c.requires.next in
    let all : c.pass_all-behind.new.inputs ≡ map (passed key) inputs = all_behind inputs c.args.next is c.requires.lawful c.pass_all-behind.new.inputs c.index-inputs-next.result c.pass.new.self c.pass.ensures c.pass_all-behind.ensures.passed in
    let left = put_back c.pass_all-behind.new.inputs c.args.next.input c.index-inputs-next-2.result c.put.new.input c.put.ensures.same ∙ all in
    ap (map (λ i. i.component)) left ∙ passed_components key inputs

pub returns-in-Ok-clause-fewer : goal.returns-in-Ok-clause-fewer
returns-in-Ok-clause-fewer g c =
    let inputs = c.args.inputs.now in
    let key = c.args.next.key in
    let is = c.requires.next in
    let all : c.pass_all-behind.new.inputs ≡ map (passed key) inputs = all_behind inputs c.args.next is c.requires.lawful c.pass_all-behind.new.inputs c.index-inputs-next.result c.pass.new.self c.pass.ensures c.pass_all-behind.ensures.passed in
    let left = put_back c.pass_all-behind.new.inputs c.args.next.input c.index-inputs-next-2.result c.put.new.input c.put.ensures.same ∙ all in
    subst (λ new. left_of new < left_of inputs) (sym left) (fewer key inputs c.args.next.input is.input is.here is.ahead)

pub returns-in-Ok-clause-pushed : goal.returns-in-Ok-clause-pushed
returns-in-Ok-clause-pushed g c = λ rows told has.
    let content : g.row.S-Frozen.Denot → Option (List ℕ) = λ file. g.S.Frozen.Frozen.content file in
    let inputs = c.args.inputs.now in
    let key = c.args.next.key in
    let is = c.requires.next in
    let all : c.pass_all-behind.new.inputs ≡ map (passed key) inputs = all_behind inputs c.args.next is c.requires.lawful c.pass_all-behind.new.inputs c.index-inputs-next.result c.pass.new.self c.pass.ensures c.pass_all-behind.ensures.passed in
    let left = put_back c.pass_all-behind.new.inputs c.args.next.input c.index-inputs-next-2.result c.put.new.input c.put.ensures.same ∙ all in
    let same = same_component inputs c.args.next is c.requires.lawful c.pass_all-behind.new.inputs c.index-inputs-next-2.result all in
    let row = row_ahead content inputs c.args.next is c.requires.lawful in
    let rest = (ahead content is.input key is.ahead).rest in
    let entry = subst (λ m. IsSpan m.index.slots is.input.at c.ahead-entry.result) (sym same) (subst (λ i. IsSpan i.component.index.slots i.at c.ahead-entry.result) (chosen_is inputs c.args.next is c.requires.lawful c.index-inputs-next.result) c.ahead-entry.ensures) in
    let rows_are = subst (λ m. rows_from content m is.input.at ≡ row ∷ rest) (sym same) (next_row content inputs c.args.next is c.requires.lawful) in
    let held = subst (λ m. IsSome (content m.file)) (sym same) (all_at (λ m. IsSome (content m.file)) (λ i. i.component) inputs c.args.next.input is.input told is.here) in
    let new = c.put.new.builder in
    let h = g.S.Device.Device.history in
    subst (λ last. IsUpTo content c.args.from inputs last (λ done. HasRows (h new.device) new (rows ++ done))) (sym left)
    (up_to content inputs c.args.next is c.requires.lawful c.args.from (λ done. HasRows (h new.device) new (rows ++ done))
    (c.in-Ok.ensures.pushed is.input.at row rest rows entry held rows_are has))

pub returns-in-Ok-clause-judged : goal.returns-in-Ok-clause-judged
returns-in-Ok-clause-judged g c = λ told.
    let content : g.row.S-Frozen.Denot → Option (List ℕ) = λ file. g.S.Frozen.Frozen.content file in
    let inputs = c.args.inputs.now in
    let key = c.args.next.key in
    let is = c.requires.next in
    let all : c.pass_all-behind.new.inputs ≡ map (passed key) inputs = all_behind inputs c.args.next is c.requires.lawful c.pass_all-behind.new.inputs c.index-inputs-next.result c.pass.new.self c.pass.ensures c.pass_all-behind.ensures.passed in
    let left = put_back c.pass_all-behind.new.inputs c.args.next.input c.index-inputs-next-2.result c.put.new.input c.put.ensures.same ∙ all in
    let same = same_component inputs c.args.next is c.requires.lawful c.pass_all-behind.new.inputs c.index-inputs-next-2.result all in
    let row = row_ahead content inputs c.args.next is c.requires.lawful in
    let rest = (ahead content is.input key is.ahead).rest in
    let entry = subst (λ m. IsSpan m.index.slots is.input.at c.ahead-entry.result) (sym same) (subst (λ i. IsSpan i.component.index.slots i.at c.ahead-entry.result) (chosen_is inputs c.args.next is c.requires.lawful c.index-inputs-next.result) c.ahead-entry.ensures) in
    let rows_are = subst (λ m. rows_from content m is.input.at ≡ row ∷ rest) (sym same) (next_row content inputs c.args.next is c.requires.lawful) in
    let held = subst (λ m. IsSome (content m.file)) (sym same) (all_at (λ m. IsSome (content m.file)) (λ i. i.component) inputs c.args.next.input is.input told is.here) in
    let components = map (λ i. i.component) inputs in
    subst (λ last. IsUpTo content c.args.from inputs last (λ done. All (IsJudged content components) done)) (sym left)
    (up_to content inputs c.args.next is c.requires.lawful c.args.from (λ done. All (IsJudged content components) done)
    (all_kept (IsJudged content components) c.args.from row
    (record {
      at = c.args.next.input;
      component = is.input.component;
      here = slice_get-map (λ i. i.component) inputs c.args.next.input is.input is.here;
      entry = is.input.at;
      own = first_there (rows_told content is.input.component) is.input.at row rest (next_row content inputs c.args.next is c.requires.lawful);
      form = subst (λ m. IfSome row.1 (λ bytes. IsRecordWithin written_version (length m.index.names) bytes)) same (c.in-Ok.ensures.judged is.input.at row rest entry held rows_are);
    })))

pub returns-in-Ok-clause-reads : goal.returns-in-Ok-clause-reads
returns-in-Ok-clause-reads g c =
    let content : g.row.S-Frozen.Denot → Option (List ℕ) = λ file. g.S.Frozen.Frozen.content file in
    let inputs = c.args.inputs.now in
    let key = c.args.next.key in
    let is = c.requires.next in
    let all : c.pass_all-behind.new.inputs ≡ map (passed key) inputs = all_behind inputs c.args.next is c.requires.lawful c.pass_all-behind.new.inputs c.index-inputs-next.result c.pass.new.self c.pass.ensures c.pass_all-behind.ensures.passed in
    let left = put_back c.pass_all-behind.new.inputs c.args.next.input c.index-inputs-next-2.result c.put.new.input c.put.ensures.same ∙ all in
    let same = same_component inputs c.args.next is c.requires.lawful c.pass_all-behind.new.inputs c.index-inputs-next-2.result all in
    let row = row_ahead content inputs c.args.next is c.requires.lawful in
    let rest = (ahead content is.input key is.ahead).rest in
    let entry = subst (λ m. IsSpan m.index.slots is.input.at c.ahead-entry.result) (sym same) (subst (λ i. IsSpan i.component.index.slots i.at c.ahead-entry.result) (chosen_is inputs c.args.next is c.requires.lawful c.index-inputs-next.result) c.ahead-entry.ensures) in
    let rows_are = subst (λ m. rows_from content m is.input.at ≡ row ∷ rest) (sym same) (next_row content inputs c.args.next is c.requires.lawful) in
    let old = (g.S.Watch.Watch.counts c.args.watch.now).reads in
    let now = (g.S.Watch.Watch.counts c.put.new.watch).reads in
    subst (λ last. IsUpTo content c.args.from inputs last (λ done. now ≤ old + live_rows done)) (sym left)
    (up_to content inputs c.args.next is c.requires.lawful c.args.from (λ done. now ≤ old + live_rows done)
    (subst (λ n. now ≤ old + n) (sym (live_kept c.args.from row)) (c.in-Ok.ensures.reads is.input.at row rest entry rows_are)))

pub returns-in-Err-clause-same : goal.returns-in-Err-clause-same
returns-in-Err-clause-same g c =
    let inputs = c.args.inputs.now in
    let key = c.args.next.key in
    let is = c.requires.next in
    let all : c.pass_all-behind.new.inputs ≡ map (passed key) inputs = all_behind inputs c.args.next is c.requires.lawful c.pass_all-behind.new.inputs c.index-inputs-next.result c.pass.new.self c.pass.ensures c.pass_all-behind.ensures.passed in
    let left = put_back c.pass_all-behind.new.inputs c.args.next.input c.index-inputs-next-2.result c.put.new.input c.put.ensures.same ∙ all in
    ap (map (λ i. i.component)) left ∙ passed_components key inputs

pub returns-in-Err-clause-harmed : goal.returns-in-Err-clause-harmed
returns-in-Err-clause-harmed g c =
    let content : g.row.S-Frozen.Denot → Option (List ℕ) = λ file. g.S.Frozen.Frozen.content file in
    let inputs = c.args.inputs.now in
    let key = c.args.next.key in
    let is = c.requires.next in
    let all : c.pass_all-behind.new.inputs ≡ map (passed key) inputs = all_behind inputs c.args.next is c.requires.lawful c.pass_all-behind.new.inputs c.index-inputs-next.result c.pass.new.self c.pass.ensures c.pass_all-behind.ensures.passed in
    let same = same_component inputs c.args.next is c.requires.lawful c.pass_all-behind.new.inputs c.index-inputs-next-2.result all in
    harm_in content (map (λ i. i.component) inputs) c.args.next.input is.input.component c.in-Err.fault (slice_get-map (λ i. i.component) inputs c.args.next.input is.input is.here)
    (subst (λ m. IfHarmed c.in-Err.fault (λ file place bytes. IsHarmOf content m file place bytes)) same c.in-Err.ensures.harmed)
