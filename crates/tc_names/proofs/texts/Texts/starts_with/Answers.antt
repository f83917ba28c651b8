use Rattle.std.proofs.Common.{◌≡◌, ◌∙◌, Bool, true, false, not, Some, slice_get, refl, sym, ap, arith, inl, inr}
use Rattle.std.specs.Str.{bytes_eq}
use Rattle.std.proofs.lemmas.Bool.{false≢true}
use Rattle.std.proofs.lemmas.Option.{same_Some}
use Rattle.std.proofs.lemmas.Slice.Eq.{bytes_eq-Decides}
use Rattle.tc_names.proofs.Begins.{extends-from, extends-at}
use Rattle.tc_names.proofs.Links.{below_or_last}
use Rattle.tc_names.proofs.texts.Texts.starts_with.Goals as goal

pub loop-place-init : goal.loop-place-init
loop-place-init c = λ i below. absurd (omega (arith, below))

pub returns-then-ne : goal.returns-then-ne
returns-then-ne c = record {
  prefix = (
    λ yes. absurd (false≢true yes),
    λ extends.
        let below = c.loop-place-test.true in
        let one = extends-at c.args.self.now c.args.older.now c.loop-place.place extends (omega (arith, below, c.len-place-end.ensures.count)) in
        let same : c.at.result.now ≡ c.at-in-loop-place.result.now = same_Some c.at.result.now c.at-in-loop-place.result.now (sym c.at.ensures.text ∙ one ∙ c.at-in-loop-place.ensures.text) in
        sym (c.if-ne.ensures ∙ ap not ((bytes_eq-Decides c.at.result.now c.at-in-loop-place.result.now).1 same)),
  );
}

pub loop-place-preserved : goal.loop-place-preserved
loop-place-preserved c =
    let equal : bytes_eq c.at.result.now c.at-in-loop-place.result.now ≡ true = held (bytes_eq c.at.result.now c.at-in-loop-place.result.now) c.if-ne.ensures in
    let same : c.at.result.now ≡ c.at-in-loop-place.result.now = (bytes_eq-Decides c.at.result.now c.at-in-loop-place.result.now).0 equal in
    let here : slice_get c.args.self.now c.loop-place.place ≡ slice_get c.args.older.now c.loop-place.place = c.at.ensures.text ∙ ap Some same ∙ sym c.at-in-loop-place.ensures.text in
    λ i below. elim (below_or_last i c.loop-place.place (omega (arith, below))) [
      | inl before ↦ c.loop-place.invariant i before
      | inr last ↦ rw last here
    ]
  where
    held : (b : Bool) → false ≡ not b → b ≡ true
    held true told = refl
    held false told = absurd (false≢true told)

pub returns : goal.returns
returns c = record {
  prefix = (λ yes. extends-from c.args.self.now c.args.older.now (λ i below. let ended = c.loop-place-test.false in c.loop-place.invariant i (omega (arith, below, ended, c.len-place-end.ensures.count))), λ extends. refl);
}
