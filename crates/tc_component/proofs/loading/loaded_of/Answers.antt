use Rattle.std.proofs.Common.{◌≡◌, ◌∙◌, ◌≤◌, ◌+◌, ◌*◌, Ok, Err, drop, length, sym, ap, subst, arith}
use Rattle.std.specs.Prelude.{IfSome}
use Rattle.std.proofs.lemmas.Result.{err_from_is_err_and}
use Rattle.tc_store.specs.Judging.{Judges}
use Rattle.tc_component.specs.declared.head.Head.{Head}
use Rattle.tc_component.specs.declared.head.Sizes.{Sizes}
use Rattle.tc_component.specs.declared.loading.Loaded.{Loaded}
use Rattle.tc_component.specs.Found.{FrontFound, RestFound}
use Rattle.tc_component.specs.Layout.{directory_place}
use Rattle.tc_component.specs.Loading.{same_pair, parts_of, loaded_index}
use Rattle.tc_component.specs.Reading.{version_told, front_of, front_judged, rest_judged, file_judged}
use Rattle.tc_component.proofs.Loaded.{head_answers, rest_answers, all_answers, head_damaged, rest_damaged, damaged_out, loaded_sizes, loaded_lawful}
use Rattle.tc_component.proofs.Fetched.{one_part, two_parts}
use Rattle.tc_component.proofs.loading.loaded_of.Goals as goal

pub returns-in_err-head-clause-judged : goal.returns-in_err-head-clause-judged
returns-in_err-head-clause-judged g c =
    let laws = g.met.F.Frozen g.world.𝓛 g.world.𝓜 g.world.𝓡 ((λ s x. x), (λ x. x), (λ x. x), λ x. x) in
    let size = g.F.Frozen.size c.args.file.now in
    let content = g.F.Frozen.content c.args.file.now in
    let front = c.in_ok-front.front.items in
    let r = c.from_residual-in_err-head.result in
    let p = err_from_is_err_and r c.from_residual-in_err-head.ensures.1 in
    let judged = subst (λ q. Judges same_pair q (front_judged c.args.name size front)) c.in_err-head.was (subst (λ n. Judges same_pair c.named_head_in.result (front_judged c.args.name n front)) c.len-size.ensures.exact
    (subst (λ bytes. Judges same_pair c.named_head_in.result (front_judged c.args.name c.len-size.result bytes)) c.deref.ensures.value c.named_head_in.ensures.judged)) in
    subst (λ s. IfSome content (λ bytes. Judges loaded_index s (file_judged c.args.name bytes))) (sym (p.1 ∙ ap Err p.2))
    (head_answers loaded_index (λ bytes h. rest_judged (version_told (front_of bytes)) h (drop (directory_place h.1) bytes)) c.args.name size front content c.in_err-head.field-0.0 (laws.told_size c.args.file.now) c.in_ok-front.ensures.read judged)

pub returns-in_err-head-clause-damaged : goal.returns-in_err-head-clause-damaged
returns-in_err-head-clause-damaged g c =
    let size = g.F.Frozen.size c.args.file.now in
    let front = c.in_ok-front.front.items in
    let r = c.from_residual-in_err-head.result in
    let p = err_from_is_err_and r c.from_residual-in_err-head.ensures.1 in
    let judged = subst (λ q. Judges same_pair q (front_judged c.args.name size front)) c.in_err-head.was (subst (λ n. Judges same_pair c.named_head_in.result (front_judged c.args.name n front)) c.len-size.ensures.exact
    (subst (λ bytes. Judges same_pair c.named_head_in.result (front_judged c.args.name c.len-size.result bytes)) c.deref.ensures.value c.named_head_in.ensures.judged)) in
    damaged_out r c.in_err-head.field-0.0 _ p (head_damaged Loaded (λ bytes h. rest_judged (version_told (front_of bytes)) h (drop (directory_place h.1) bytes)) c.args.name size front c.in_err-head.field-0.0 c.in_ok-front.ensures.length judged)

pub returns-in_err-parts-clause-judged : goal.returns-in_err-parts-clause-judged
returns-in_err-parts-clause-judged g c =
    let laws = g.met.F.Frozen g.world.𝓛 g.world.𝓜 g.world.𝓡 ((λ s x. x), (λ x. x), (λ x. x), λ x. x) in
    let size = g.F.Frozen.size c.args.file.now in
    let content = g.F.Frozen.content c.args.file.now in
    let front = c.in_ok-front.front.items in
    let h : Head × Sizes = (c.in_ok-head.head, c.in_ok-head.sizes) in
    let rest = c.in_ok-rest.rest.items in
    let version = c.version_in-version.result in
    let told : version ≡ version_told front = c.version_in-version.ensures ∙ ap version_told c.deref-2.ensures.value in
    let first = subst (λ n. front_judged c.args.name n front ≡ Ok (c.in_ok-head.head, c.in_ok-head.sizes)) c.len-size.ensures.exact
    (subst (λ bytes. front_judged c.args.name c.len-size.result bytes ≡ Ok (c.in_ok-head.head, c.in_ok-head.sizes)) c.deref.ensures.value c.in_ok-head.ensures.judged) in
    let judged = subst (λ v. Judges (parts_of version c.in_ok-head.head) (Err c.in_err-parts.field-0.0) (rest_judged v h rest)) told
    (subst (λ q. Judges (parts_of version c.in_ok-head.head) q (rest_judged version h rest)) c.in_err-parts.was c.parts_in.ensures.judged) in
    let r = c.from_residual-in_err-parts.result in
    let p = err_from_is_err_and r c.from_residual-in_err-parts.ensures.1 in
    subst (λ s. IfSome content (λ bytes. Judges loaded_index s (file_judged c.args.name bytes))) (sym (p.1 ∙ ap Err p.2))
    (rest_answers (parts_of version c.in_ok-head.head) loaded_index c.args.name size front h rest content c.in_err-parts.field-0.0 (laws.told_size c.args.file.now) c.in_ok-front.ensures.read first c.in_ok-rest.ensures.read judged)

pub returns-in_err-parts-clause-damaged : goal.returns-in_err-parts-clause-damaged
returns-in_err-parts-clause-damaged g c =
    let laws = g.met.F.Frozen g.world.𝓛 g.world.𝓜 g.world.𝓡 ((λ s x. x), (λ x. x), (λ x. x), λ x. x) in
    let size = g.F.Frozen.size c.args.file.now in
    let content = g.F.Frozen.content c.args.file.now in
    let front = c.in_ok-front.front.items in
    let h : Head × Sizes = (c.in_ok-head.head, c.in_ok-head.sizes) in
    let rest = c.in_ok-rest.rest.items in
    let version = c.version_in-version.result in
    let told : version ≡ version_told front = c.version_in-version.ensures ∙ ap version_told c.deref-2.ensures.value in
    let first = subst (λ n. front_judged c.args.name n front ≡ Ok (c.in_ok-head.head, c.in_ok-head.sizes)) c.len-size.ensures.exact
    (subst (λ bytes. front_judged c.args.name c.len-size.result bytes ≡ Ok (c.in_ok-head.head, c.in_ok-head.sizes)) c.deref.ensures.value c.in_ok-head.ensures.judged) in
    let front_is = subst (λ n. FrontFound (version_told front) c.args.name n front h) c.len-size.ensures.exact (subst (λ bytes. FrontFound (version_told bytes) c.args.name c.len-size.result bytes h) c.deref.ensures.value
    (c.in_ok-head.ensures.found (subst (λ bytes. length bytes ≤ 60) (sym c.deref.ensures.value) (omega (arith, c.in_ok-front.ensures.length))))) in
    let judged = subst (λ v. Judges (parts_of version c.in_ok-head.head) (Err c.in_err-parts.field-0.0) (rest_judged v h rest)) told
    (subst (λ q. Judges (parts_of version c.in_ok-head.head) q (rest_judged version h rest)) c.in_err-parts.was c.parts_in.ensures.judged) in
    let r = c.from_residual-in_err-parts.result in
    let p = err_from_is_err_and r c.from_residual-in_err-parts.ensures.1 in
    damaged_out r c.in_err-parts.field-0.0 _ p (rest_damaged Loaded (parts_of version c.in_ok-head.head) c.args.name size front h rest c.in_err-parts.field-0.0 front_is first c.in_ok-rest.ensures.length judged)

pub returns-clause-judged : goal.returns-clause-judged
returns-clause-judged g c =
    let laws = g.met.F.Frozen g.world.𝓛 g.world.𝓜 g.world.𝓡 ((λ s x. x), (λ x. x), (λ x. x), λ x. x) in
    let size = g.F.Frozen.size c.args.file.now in
    let content = g.F.Frozen.content c.args.file.now in
    let front = c.in_ok-front.front.items in
    let h : Head × Sizes = (c.in_ok-head.head, c.in_ok-head.sizes) in
    let rest = c.in_ok-rest.rest.items in
    let version = c.version_in-version.result in
    let told : version ≡ version_told front = c.version_in-version.ensures ∙ ap version_told c.deref-2.ensures.value in
    let first = subst (λ n. front_judged c.args.name n front ≡ Ok (c.in_ok-head.head, c.in_ok-head.sizes)) c.len-size.ensures.exact
    (subst (λ bytes. front_judged c.args.name c.len-size.result bytes ≡ Ok (c.in_ok-head.head, c.in_ok-head.sizes)) c.deref.ensures.value c.in_ok-head.ensures.judged) in
    let judged = subst (λ v. rest_judged v h rest ≡ Ok (parts_of version c.in_ok-head.head c.in_ok-parts.parts)) told
    c.in_ok-parts.ensures.judged in
    all_answers c.args.name size front h rest (parts_of version c.in_ok-head.head c.in_ok-parts.parts) content (laws.told_size c.args.file.now) c.in_ok-front.ensures.read first c.in_ok-rest.ensures.read judged

pub returns-clause-lawful : goal.returns-clause-lawful
returns-clause-lawful g c =
    let laws = g.met.F.Frozen g.world.𝓛 g.world.𝓜 g.world.𝓡 ((λ s x. x), (λ x. x), (λ x. x), λ x. x) in
    let size = g.F.Frozen.size c.args.file.now in
    let content = g.F.Frozen.content c.args.file.now in
    let front = c.in_ok-front.front.items in
    let h : Head × Sizes = (c.in_ok-head.head, c.in_ok-head.sizes) in
    let rest = c.in_ok-rest.rest.items in
    let version = c.version_in-version.result in
    let told : version ≡ version_told front = c.version_in-version.ensures ∙ ap version_told c.deref-2.ensures.value in
    let first = subst (λ n. front_judged c.args.name n front ≡ Ok (c.in_ok-head.head, c.in_ok-head.sizes)) c.len-size.ensures.exact
    (subst (λ bytes. front_judged c.args.name c.len-size.result bytes ≡ Ok (c.in_ok-head.head, c.in_ok-head.sizes)) c.deref.ensures.value c.in_ok-head.ensures.judged) in
    let front_is = subst (λ n. FrontFound (version_told front) c.args.name n front h) c.len-size.ensures.exact (subst (λ bytes. FrontFound (version_told bytes) c.args.name c.len-size.result bytes h) c.deref.ensures.value
    (c.in_ok-head.ensures.found (subst (λ bytes. length bytes ≤ 60) (sym c.deref.ensures.value) (omega (arith, c.in_ok-front.ensures.length))))) in
    let rest_is = subst (λ v. RestFound v h rest (parts_of version c.in_ok-head.head c.in_ok-parts.parts)) told
    c.in_ok-parts.ensures.found in
    loaded_lawful (version_told front) c.args.name size front h rest (parts_of version c.in_ok-head.head c.in_ok-parts.parts) front_is rest_is

pub returns-clause-sizes : goal.returns-clause-sizes
returns-clause-sizes g c =
    let laws = g.met.F.Frozen g.world.𝓛 g.world.𝓜 g.world.𝓡 ((λ s x. x), (λ x. x), (λ x. x), λ x. x) in
    let size = g.F.Frozen.size c.args.file.now in
    let content = g.F.Frozen.content c.args.file.now in
    let front = c.in_ok-front.front.items in
    let h : Head × Sizes = (c.in_ok-head.head, c.in_ok-head.sizes) in
    let rest = c.in_ok-rest.rest.items in
    let version = c.version_in-version.result in
    let told : version ≡ version_told front = c.version_in-version.ensures ∙ ap version_told c.deref-2.ensures.value in
    let first = subst (λ n. front_judged c.args.name n front ≡ Ok (c.in_ok-head.head, c.in_ok-head.sizes)) c.len-size.ensures.exact
    (subst (λ bytes. front_judged c.args.name c.len-size.result bytes ≡ Ok (c.in_ok-head.head, c.in_ok-head.sizes)) c.deref.ensures.value c.in_ok-head.ensures.judged) in
    let front_is = subst (λ n. FrontFound (version_told front) c.args.name n front h) c.len-size.ensures.exact (subst (λ bytes. FrontFound (version_told bytes) c.args.name c.len-size.result bytes h) c.deref.ensures.value
    (c.in_ok-head.ensures.found (subst (λ bytes. length bytes ≤ 60) (sym c.deref.ensures.value) (omega (arith, c.in_ok-front.ensures.length))))) in
    let rest_is = subst (λ v. RestFound v h rest (parts_of version c.in_ok-head.head c.in_ok-parts.parts)) told
    c.in_ok-parts.ensures.found in
    let long : length rest ≡ h.1.entries * 12 + h.1.names + h.1.schema = omega (arith, front_is.sized, c.in_ok-rest.ensures.length) in
    loaded_sizes (version_told front) h rest (parts_of version c.in_ok-head.head c.in_ok-parts.parts) rest_is long

-- ---- how many reads

pub returns-in_err-front-clause-reads : goal.returns-in_err-front-clause-reads
returns-in_err-front-clause-reads g c = one_part _ _ c.front_in.ensures.counted.reads

pub returns-in_err-head-clause-reads : goal.returns-in_err-head-clause-reads
returns-in_err-head-clause-reads g c = one_part _ _ c.front_in.ensures.counted.reads

pub returns-in_err-rest-clause-reads : goal.returns-in_err-rest-clause-reads
returns-in_err-rest-clause-reads g c = two_parts _ _ _ c.front_in.ensures.counted.reads c.rest_in.ensures.counted.reads

pub returns-in_err-parts-clause-reads : goal.returns-in_err-parts-clause-reads
returns-in_err-parts-clause-reads g c = two_parts _ _ _ c.front_in.ensures.counted.reads c.rest_in.ensures.counted.reads

pub returns-clause-reads : goal.returns-clause-reads
returns-clause-reads g c = two_parts _ _ _ c.front_in.ensures.counted.reads c.rest_in.ensures.counted.reads
