use Rattle.std.proofs.Common.{◌≡◌, ◌≢◌, ◌-◌, ◌∙◌, suc, Some, length, slice_get, slice_index_or, subst, ap, sym, arith}
use Rattle.std.proofs.lemmas.Bool.{false≢true}
use Rattle.std.proofs.lemmas.List.{length-map}
use Rattle.std.proofs.lemmas.Option.{same_Some, slice_get-get_or}
use Rattle.std.proofs.lemmas.Slice.Eq.{bytes_eq-Decides}
use Rattle.tc_model.proofs.NameNumbers.{number_of-slice_get}
use Rattle.tc_names.specs.Linking.{place_of}
use Rattle.tc_names.proofs.Found.{IsAhead, ahead-first, ahead-next, ahead-none, suc-before}
use Rattle.tc_names.proofs.index.Index.find.Goals as goal

pub loop-last-init : goal.loop-last-init
loop-last-init c =
    let heads = c.args.self.now.heads.items in
    let place : c.place_in.result ≡ place_of (length heads) c.args.name.now = c.place_in.ensures.place ∙ ap (λ xs. place_of (length xs) c.args.name.now) c.as_slice-heads.ensures.value in
    ahead-first heads c.args.self.now.links.items c.args.texts.now c.args.name.now (slice_index_or c.as_slice-heads.result.now c.place_in.result 0) c.requires.index
    (ap (slice_get heads) (sym place) ∙ ap (λ xs. slice_get xs c.place_in.result) (sym c.as_slice-heads.ensures.value) ∙ slice_get-get_or c.as_slice-heads.result.now c.place_in.result 0 c.place_in.ensures.within)

pub at-requires : goal.at-requires
at-requires c = let within = c.loop-last.invariant.within in omega (arith, within, suc-before c.loop-last.last c.loop-last-test.true)

pub returns-then-eq : goal.returns-then-eq
returns-then-eq c =
    let same : c.at.result.now ≡ c.args.name.now = (bytes_eq-Decides c.at.result.now c.args.name.now).0 (sym c.if-eq.ensures) in
    record { number = sym (number_of-slice_get c.args.texts.now c.args.name.now (c.loop-last.last - 1) c.requires.dictionary.distinct (c.at.ensures.text ∙ ap Some same)) }

pub bounds-links-number : goal.bounds-links-number
bounds-links-number c =
    let many : length c.as_slice-links.result.now ≡ length c.args.texts.now =
    ap length c.as_slice-links.ensures.value ∙ c.requires.index.count ∙ length-map c.args.texts.now (place_of (length c.args.self.now.heads.items)) in
    let within = c.loop-last.invariant.within in
    omega (arith, many, within, suc-before c.loop-last.last c.loop-last-test.true)

pub loop-last-smaller : goal.loop-last-smaller
loop-last-smaller c =
    let many : length c.as_slice-links.result.now ≡ length c.args.texts.now =
    ap length c.as_slice-links.ensures.value ∙ c.requires.index.count ∙ length-map c.args.texts.now (place_of (length c.args.self.now.heads.items)) in
    let within = c.loop-last.invariant.within in
    let more : c.loop-last.last ≡ suc (c.loop-last.last - 1) = suc-before c.loop-last.last c.loop-last-test.true in
    let linked : slice_get c.args.self.now.links.items (c.loop-last.last - 1) ≡ Some (slice_index_or c.as_slice-links.result.now (c.loop-last.last - 1) 0) =
    ap (λ xs. slice_get xs (c.loop-last.last - 1)) (sym c.as_slice-links.ensures.value) ∙ slice_get-get_or c.as_slice-links.result.now (c.loop-last.last - 1) 0 (omega (arith, many, within, more)) in
    let before = c.requires.index.earlier (c.loop-last.last - 1) (place_of (length c.args.self.now.heads.items) c.args.name.now) (slice_index_or c.as_slice-links.result.now (c.loop-last.last - 1) 0)
    (c.loop-last.invariant.here (c.loop-last.last - 1) more) linked in
    let w = before.within in omega (arith, w, more)

pub loop-last-preserved : goal.loop-last-preserved
loop-last-preserved c =
    let many : length c.as_slice-links.result.now ≡ length c.args.texts.now =
    ap length c.as_slice-links.ensures.value ∙ c.requires.index.count ∙ length-map c.args.texts.now (place_of (length c.args.self.now.heads.items)) in
    let within = c.loop-last.invariant.within in
    let more : c.loop-last.last ≡ suc (c.loop-last.last - 1) = suc-before c.loop-last.last c.loop-last-test.true in
    let linked : slice_get c.args.self.now.links.items (c.loop-last.last - 1) ≡ Some (slice_index_or c.as_slice-links.result.now (c.loop-last.last - 1) 0) =
    ap (λ xs. slice_get xs (c.loop-last.last - 1)) (sym c.as_slice-links.ensures.value) ∙ slice_get-get_or c.as_slice-links.result.now (c.loop-last.last - 1) 0 (omega (arith, many, within, more)) in
    let apart : slice_get c.args.texts.now (c.loop-last.last - 1) ≢ Some c.args.name.now =
    λ at. false≢true (c.if-eq.ensures ∙ (bytes_eq-Decides c.at.result.now c.args.name.now).1 (same_Some c.at.result.now c.args.name.now (sym c.at.ensures.text ∙ at))) in
    ahead-next c.args.self.now.heads.items c.args.self.now.links.items c.args.texts.now c.args.name.now c.loop-last.last (c.loop-last.last - 1)
    (slice_index_or c.as_slice-links.result.now (c.loop-last.last - 1) 0) c.requires.index c.loop-last.invariant more apart linked

pub returns : goal.returns
returns c = record {
  number = sym (ahead-none (length c.args.self.now.heads.items) c.args.texts.now c.args.name.now
      (subst (IsAhead (length c.args.self.now.heads.items) c.args.texts.now c.args.name.now) c.loop-last-test.false c.loop-last.invariant));
}
