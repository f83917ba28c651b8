use Rattle.std.proofs.Common.{rules, ◌≡◌, ◌∙◌, ◌+◌, Vec, Global, Ok, Err, List, [], filter, map, length, refl, sym, ap, subst, inl, inr, arith}
use Rattle.std.specs.Prelude.{None}
use Rattle.std.proofs.lemmas.List.{length-map}
use Rattle.std.proofs.lemmas.Result.{err_from_is_err_and}
use Rattle.tc_log.specs.declared.write.Write.{Write}
use Rattle.tc_log.specs.declared.write.Writes.{Writes}
use Rattle.tc_component.specs.Loading.{ComponentState, index_in}
use Rattle.tc_component.specs.Spelling.{Index}
use Rattle.tc_recover.specs.declared.interval.Interval.{Interval}
use Rattle.tc_recover.specs.Files.{AreGates, AreTold, picture_in}
use Rattle.tc_recover.specs.Loading.{IsLoadCause, components_judged, files_of, interval_of, left_of, then_judged}
use Rattle.tc_recover.specs.Loads.{Answers, IsLogCause, is_log, logs_judged}
use Rattle.tc_recover.specs.declared.loading.Loaded.{Loaded}
use Rattle.tc_recover.specs.declared.reading.FilesRead.{FilesRead}
use Rattle.tc_recover.specs.Opening.{Found, OpeningJudged, found_in}
use Rattle.tc_recover.specs.Reads.{count_after}
use Rattle.tc_recover.specs.Refusals.{asked, heads_refused}
use Rattle.tc_recover.specs.Sorting.{GoTogether, IsClash, open_names}
use Rattle.tc_recover.specs.Tilings.{end_of}
use Rattle.tc_recover.proofs.LoadSteps.{counted_result}
use Rattle.tc_recover.proofs.ReadSteps.{all_answers, as_indexes, clash_answers, ends_listed, judged_result, gates_left, load_answers, logs_left, logs_next, open_same, read_caused, reads_made, told_left}
use Rattle.tc_recover.proofs.reading.read_taken.Goals as goal

pub returns-in_err-tiles-clause-judged : goal.returns-in_err-tiles-clause-judged
returns-in_err-tiles-clause-judged g c = λ told.
    let p = err_from_is_err_and c.from_residual-in_err-tiles.result c.from_residual-in_err-tiles.ensures.1 in
    let view : FilesRead g.row.F.Denot g.row.F-Watch.Denot → Found = λ read. found_in read.list read.writes.items in
    let content = g.F.Frozen.content in
    let files = c.args.files.items in
    let d1 : c.deref.result.now ≡ files = search rules in
    let d2 : c.deref-2.result.now ≡ files = search rules in
    let picture = picture_in (λ f. content f) files in
    let passes = subst (λ ts. AreTold (λ f. content f) ts → heads_refused (asked c.args.part) (picture_in (λ f. content f) ts) ≡ None) d1 c.in_ok-judge_heads.ensures.judged in
    let clash = subst (λ ts. IsClash (open_names ts) c.in_err-tiles.field-0.0) d2 c.in_err-tiles.ensures.refused in
    judged_result view c.from_residual-in_err-tiles.result _ c.in_err-tiles.field-0.0 (OpeningJudged (asked c.args.part) picture) p.1 p.2
    (clash_answers _ view (asked c.args.part) picture (open_names files) c.in_err-tiles.field-0.0 (passes told) (open_same (λ f. content f) files c.requires.gates told) clash)

pub returns-in_err-list-clause-judged : goal.returns-in_err-list-clause-judged
returns-in_err-list-clause-judged g c = λ told.
    let p = err_from_is_err_and c.from_residual-in_err-list.result c.from_residual-in_err-list.ensures.1 in
    let view : FilesRead g.row.F.Denot g.row.F-Watch.Denot → Found = λ read. found_in read.list read.writes.items in
    let content = g.F.Frozen.content in
    let files = c.args.files.items in
    let picture = picture_in (λ f. content f) files in
    let tiles = c.in_ok-tiles.tiles.items in
    let d1 : c.deref.result.now ≡ files = search rules in
    let d2 : c.deref-2.result.now ≡ files = search rules in
    let d4 : c.deref-4.result.now ≡ tiles = search rules in
    let passes = subst (λ ts. AreTold (λ f. content f) ts → heads_refused (asked c.args.part) (picture_in (λ f. content f) ts) ≡ None) d1 c.in_ok-judge_heads.ensures.judged in
    let sorted = subst (λ ts. GoTogether (open_names ts) tiles) d2 c.in_ok-tiles.ensures.sorted in
    let together = subst (λ ns. GoTogether ns tiles) (sym (open_same (λ f. content f) files c.requires.gates told)) sorted in
    let refused = subst (λ (ts : List Interval). AreTold (λ f. content f) files → Answers {X = List Index} (λ cs. cs) (Err c.in_err-list.field-0.0) (components_judged (asked c.args.part) picture ts [] [])) d4
    (λ t. as_indexes {X = Loaded g.row.F.Denot g.row.F-Watch.Denot} c.in_err-list.field-0.0 (λ loaded. map index_in loaded.list) (components_judged (asked c.args.part) picture c.deref-4.result.now [] []) (c.in_err-list.ensures.judged t)) in
    judged_result view c.from_residual-in_err-list.result _ c.in_err-list.field-0.0 (OpeningJudged (asked c.args.part) picture) p.1 p.2
    (load_answers (List Index) _ (List Index) (λ cs. cs) view (asked c.args.part) picture tiles (components_judged (asked c.args.part) picture tiles [] [])
    (λ cs. then_judged (logs_judged (end_of 0 tiles) [] picture) (λ logs. Ok (record { components = cs; logs = logs }))) c.in_err-list.field-0.0 (passes told) together refl (refused told))

pub returns-in_err-list-clause-causes : goal.returns-in_err-list-clause-causes
returns-in_err-list-clause-causes g c =
    let p = err_from_is_err_and c.from_residual-in_err-list.result c.from_residual-in_err-list.ensures.1 in
    let size = g.F.Frozen.size in
    let files = c.args.files.items in
    let tiles = c.in_ok-tiles.tiles.items in
    let d2 : c.deref-2.result.now ≡ files = search rules in
    let d4 : c.deref-4.result.now ≡ tiles = search rules in
    let sorted = subst (λ ts. GoTogether (open_names ts) tiles) d2 c.in_ok-tiles.ensures.sorted in
    let caused = subst (λ (ts : List Interval). IsLoadCause (λ f. size f) (asked c.args.part) ts files c.in_err-list.field-0.0) d4 c.in_err-list.ensures.causes in
    read_caused (λ f. size f) (asked c.args.part) files c.from_residual-in_err-list.result _ c.in_err-list.field-0.0 p.1 p.2 (inr (inr (record { tiles = tiles; together = sorted; harm = inl caused })))

pub returns-in_err-list-clause-faults : goal.returns-in_err-list-clause-faults
returns-in_err-list-clause-faults g c =
    let p = err_from_is_err_and c.from_residual-in_err-list.result c.from_residual-in_err-list.ensures.1 in
    let counts = g.F.Watch.Watch.counts in
    let q = counted_result c.from_residual-in_err-list.result _ c.in_err-list.field-0.0 0 (counts c.args.watch.now) (counts c.judge_heads.new.watch) (counts c.load_components.new.watch) p.1 p.2 c.in_ok-judge_heads.ensures.counted.faults
    c.in_err-list.ensures.counted.faults (λ is. c.in_err-list.ensures.counted.cause (ap Err is)) in
    record { faults = q.faults; cause = q.cause; done = λ no. absurd no }

pub read_logs-requires-clause-gates : goal.read_logs-requires-clause-gates
read_logs-requires-clause-gates g c ks within =
    let content = g.F.Frozen.content in
    let files = c.args.files.items in
    let tiles = c.in_ok-tiles.tiles.items in
    let d4 : c.deref-4.result.now ≡ tiles = search rules in
    let d5 : c.deref-5.result.now ≡ c.in_ok-list.field-0.left.items = search rules in
    let left : c.deref-5.result.now ≡ left_of tiles files = d5 ∙ (c.in_ok-list.ensures.left ∙ ap (λ (ts : List Interval). left_of ts files) d4) in
    subst (λ ts. AreGates (λ f. content f) ts) (sym left) (gates_left (λ f. content f) tiles files c.requires.gates)

pub returns-in_err-writes-clause-judged : goal.returns-in_err-writes-clause-judged
returns-in_err-writes-clause-judged g c = λ told.
    let p = err_from_is_err_and c.from_residual-in_err-writes.result c.from_residual-in_err-writes.ensures.1 in
    let seen : FilesRead g.row.F.Denot g.row.F-Watch.Denot → Found = λ read. found_in read.list read.writes.items in
    let content = g.F.Frozen.content in
    let files = c.args.files.items in
    let picture = picture_in (λ f. content f) files in
    let tiles = c.in_ok-tiles.tiles.items in
    let d1 : c.deref.result.now ≡ files = search rules in
    let d2 : c.deref-2.result.now ≡ files = search rules in
    let d3 : c.deref-3.result.now ≡ tiles = search rules in
    let d4 : c.deref-4.result.now ≡ tiles = search rules in
    let d5 : c.deref-5.result.now ≡ c.in_ok-list.field-0.left.items = search rules in
    let view : Vec Writes Global → List (List Write) = λ writes. writes.items in
    let passes = subst (λ ts. AreTold (λ f. content f) ts → heads_refused (asked c.args.part) (picture_in (λ f. content f) ts) ≡ None) d1 c.in_ok-judge_heads.ensures.judged in
    let sorted = subst (λ ts. GoTogether (open_names ts) tiles) d2 c.in_ok-tiles.ensures.sorted in
    let together = subst (λ ns. GoTogether ns tiles) (sym (open_same (λ f. content f) files c.requires.gates told)) sorted in
    let loaded = subst (λ (ts : List Interval). AreTold (λ f. content f) files → components_judged (asked c.args.part) picture ts [] [] ≡ Ok (map index_in c.in_ok-list.field-0.list)) d4 c.in_ok-list.ensures.judged in
    let left : c.deref-5.result.now ≡ left_of tiles files = d5 ∙ (c.in_ok-list.ensures.left ∙ ap (λ (ts : List Interval). left_of ts files) d4) in
    let last : c.last_of-last.result ≡ end_of 0 tiles = c.last_of-last.ensures ∙ ap (λ (ts : List Interval). end_of 0 ts) d3 in
    let all_told = subst (λ ts. AreTold (λ f. content f) ts) (sym left) (told_left (λ f. content f) tiles files told) in
    let here = subst (λ ts. Answers view (Err c.in_err-writes.field-0.0) (logs_judged c.last_of-last.result [] (picture_in (λ f. content f) ts))) left (c.in_err-writes.ensures.judged all_told) in
    let there = subst (λ n. Answers view (Err c.in_err-writes.field-0.0) (logs_judged n [] (picture_in (λ f. content f) (left_of tiles files)))) last here in
    let all = subst (λ r. Answers view (Err c.in_err-writes.field-0.0) r) (logs_left (λ f. content f) (end_of 0 tiles) tiles files []) there in
    judged_result seen c.from_residual-in_err-writes.result _ c.in_err-writes.field-0.0 (OpeningJudged (asked c.args.part) picture) p.1 p.2
    (load_answers (Vec Writes Global) _ (List (List Write)) view seen (asked c.args.part) picture tiles (logs_judged (end_of 0 tiles) [] picture) (λ logs. Ok (record { components = map index_in c.in_ok-list.field-0.list; logs = logs }))
    c.in_err-writes.field-0.0 (passes told) together (logs_next (asked c.args.part) picture tiles (map index_in c.in_ok-list.field-0.list) (loaded told)) all)

pub returns-in_err-writes-clause-causes : goal.returns-in_err-writes-clause-causes
returns-in_err-writes-clause-causes g c =
    let p = err_from_is_err_and c.from_residual-in_err-writes.result c.from_residual-in_err-writes.ensures.1 in
    let size = g.F.Frozen.size in
    let files = c.args.files.items in
    let tiles = c.in_ok-tiles.tiles.items in
    let d2 : c.deref-2.result.now ≡ files = search rules in
    let d3 : c.deref-3.result.now ≡ tiles = search rules in
    let d4 : c.deref-4.result.now ≡ tiles = search rules in
    let d5 : c.deref-5.result.now ≡ c.in_ok-list.field-0.left.items = search rules in
    let sorted = subst (λ ts. GoTogether (open_names ts) tiles) d2 c.in_ok-tiles.ensures.sorted in
    let left : c.deref-5.result.now ≡ left_of tiles files = d5 ∙ (c.in_ok-list.ensures.left ∙ ap (λ (ts : List Interval). left_of ts files) d4) in
    let last : c.last_of-last.result ≡ end_of 0 tiles = c.last_of-last.ensures ∙ ap (λ (ts : List Interval). end_of 0 ts) d3 in
    let here = subst (λ ts. IsLogCause (λ f. size f) c.last_of-last.result ts c.in_err-writes.field-0.0) left c.in_err-writes.ensures.causes in
    let caused = subst (λ n. IsLogCause (λ f. size f) n (left_of tiles files) c.in_err-writes.field-0.0) last here in
    read_caused (λ f. size f) (asked c.args.part) files c.from_residual-in_err-writes.result _ c.in_err-writes.field-0.0 p.1 p.2 (inr (inr (record { tiles = tiles; together = sorted; harm = inr caused })))

pub returns-clause-judged : goal.returns-clause-judged
returns-clause-judged g c = λ told.
    let content = g.F.Frozen.content in
    let files = c.args.files.items in
    let picture = picture_in (λ f. content f) files in
    let tiles = c.in_ok-tiles.tiles.items in
    let d1 : c.deref.result.now ≡ files = search rules in
    let d2 : c.deref-2.result.now ≡ files = search rules in
    let d3 : c.deref-3.result.now ≡ tiles = search rules in
    let d4 : c.deref-4.result.now ≡ tiles = search rules in
    let d5 : c.deref-5.result.now ≡ c.in_ok-list.field-0.left.items = search rules in
    let passes = subst (λ ts. AreTold (λ f. content f) ts → heads_refused (asked c.args.part) (picture_in (λ f. content f) ts) ≡ None) d1 c.in_ok-judge_heads.ensures.judged in
    let sorted = subst (λ ts. GoTogether (open_names ts) tiles) d2 c.in_ok-tiles.ensures.sorted in
    let together = subst (λ ns. GoTogether ns tiles) (sym (open_same (λ f. content f) files c.requires.gates told)) sorted in
    let loaded = subst (λ (ts : List Interval). AreTold (λ f. content f) files → components_judged (asked c.args.part) picture ts [] [] ≡ Ok (map index_in c.in_ok-list.field-0.list)) d4 c.in_ok-list.ensures.judged in
    let left : c.deref-5.result.now ≡ left_of tiles files = d5 ∙ (c.in_ok-list.ensures.left ∙ ap (λ (ts : List Interval). left_of ts files) d4) in
    let last : c.last_of-last.result ≡ end_of 0 tiles = c.last_of-last.ensures ∙ ap (λ (ts : List Interval). end_of 0 ts) d3 in
    let all_told = subst (λ ts. AreTold (λ f. content f) ts) (sym left) (told_left (λ f. content f) tiles files told) in
    let here = subst (λ ts. logs_judged c.last_of-last.result [] (picture_in (λ f. content f) ts) ≡ Ok c.in_ok-writes.writes.items) left (c.in_ok-writes.ensures.judged all_told) in
    let there = subst (λ n. logs_judged n [] (picture_in (λ f. content f) (left_of tiles files)) ≡ Ok c.in_ok-writes.writes.items) last here in
    all_answers (asked c.args.part) picture tiles (map index_in c.in_ok-list.field-0.list) c.in_ok-writes.writes.items (passes told) together (loaded told)
    (sym (logs_left (λ f. content f) (end_of 0 tiles) tiles files []) ∙ there)

pub returns-clause-read : goal.returns-clause-read
returns-clause-read g c =
    let files = c.args.files.items in
    let tiles = c.in_ok-tiles.tiles.items in
    let d2 : c.deref-2.result.now ≡ files = search rules in
    let d3 : c.deref-3.result.now ≡ tiles = search rules in
    let d4 : c.deref-4.result.now ≡ tiles = search rules in
    let sorted = subst (λ ts. GoTogether (open_names ts) tiles) d2 c.in_ok-tiles.ensures.sorted in
    let same : map interval_of c.in_ok-list.field-0.list ≡ tiles = c.in_ok-list.ensures.tiles ∙ d4 in
    let last : c.last_of-last.result ≡ end_of 0 tiles = c.last_of-last.ensures ∙ ap (λ (ts : List Interval). end_of 0 ts) d3 in
    record {
      together = subst (λ ts. GoTogether (open_names files) ts) (sym same) sorted;
      last_is = last ∙ (ap (λ (ts : List Interval). end_of 0 ts) (sym same) ∙ ends_listed 0 c.in_ok-list.field-0.list);
      files_are = subst (λ ts. map (λ (x : ComponentState g.row.F.Denot). x.file) c.in_ok-list.field-0.list ≡ files_of ts files) (sym c.in_ok-list.ensures.tiles) c.in_ok-list.ensures.files;
      left_are = subst (λ ts. c.in_ok-list.field-0.left.items ≡ left_of ts files) (sym c.in_ok-list.ensures.tiles) c.in_ok-list.ensures.left;
    }

pub returns-clause-logs : goal.returns-clause-logs
returns-clause-logs g c =
    let d5 : c.deref-5.result.now ≡ c.in_ok-list.field-0.left.items = search rules in
    subst (λ ts. length c.in_ok-writes.writes.items ≡ length (filter (is_log c.last_of-last.result) ts)) d5 c.in_ok-writes.ensures.each

pub returns-clause-counted : goal.returns-clause-counted
returns-clause-counted g c =
    let d1 : c.deref.result.now ≡ c.args.files.items = search rules in
    let d5 : c.deref-5.result.now ≡ c.in_ok-list.field-0.left.items = search rules in
    let counts = g.F.Watch.Watch.counts in
    let list = c.in_ok-list.field-0.list in
    let before = (counts c.args.watch.now).reads in
    let heads = c.in_ok-judge_heads.ensures.counted in
    let loads = c.in_ok-list.ensures.counted in
    let logs = c.in_ok-writes.ensures.counted in
    let one = subst (λ ts. (counts c.judge_heads.new.watch).reads ≡ count_after (length (filter (λ t. t.open) ts)) before) d1 (heads.done refl) in
    let many : length c.deref-4.result.now ≡ length list = ap length (sym c.in_ok-list.ensures.tiles) ∙ length-map list interval_of in
    let two = subst (λ n. (counts c.load_components.new.watch).reads ≡ count_after (n + n) (counts c.judge_heads.new.watch).reads) many (loads.done refl) in
    let three = subst (λ ts. (counts c.read_logs.new.watch).reads ≡ count_after (length (filter (is_log c.last_of-last.result) ts)) (counts c.load_components.new.watch).reads) d5 (logs.done refl) in
    record {
      faults = omega (arith, heads.faults, loads.faults, logs.faults);
      cause = λ no. absurd no;
      done = λ done. reads_made (length (filter (λ t. t.open) c.args.files.items)) (length list + length list) (length (filter (is_log c.last_of-last.result) c.in_ok-list.field-0.left.items)) before _ _ _ one two three;
    }
