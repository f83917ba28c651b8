-- A change that fits a view makes a view of the same history, one change longer.
use Rattle.std.proofs.Common.{◌≡◌, ◌+◌, ◌≤◌, List, [], ◌∷◌, ◌++◌, length, refl, ap, sym, ◌∙◌, arith, length-append}
use Rattle.std.proofs.lemmas.List.Elements.{All-nil, All-append}
use Rattle.std.proofs.lemmas.List.Sums.{fold-append}
use Rattle.std.specs.Prelude.{All}
use mathlib.Core.List.{IsPrefix}
use Rattle.tc_log.specs.Writes.{IsWrite}
use Rattle.tc_view.specs.declared.content.Content.{Content}
use Rattle.tc_view.specs.declared.change.Change.{Change}
use Rattle.tc_view.specs.declared.change.Change.TheVariants.{Writes, Placed as PlacedBy}
use Rattle.tc_view.specs.declared.happened.Happened.{Happened}
use Rattle.tc_view.specs.declared.rule.Key.{Key}
use Rattle.tc_view.specs.declared.step.Step.{Step}
use Rattle.tc_view.specs.Changes.{Showing, empty_showing, happened, writes_in, writes_of, writes_of_one, after_one, shown_after, showing_in, changed, after_change}
use Rattle.tc_view.specs.Holding.{IsListed, Fits}
use Rattle.tc_view.specs.Rules.{IsViewOf, opening}
use Rattle.tc_view.specs.Views.{applied}
use Rattle.tc_view.proofs.Prefixes.{prefix_shorter}
use Rattle.tc_view.proofs.ShareLemmas.{flat_map-push}

module _ {F W : Type 0} where
  -- ---- histories

  pub shown_more : (history : List (Happened F W)) (one : Happened F W) → shown_after (history ++ one ∷ []) ≡ after_one (shown_after history) one
  shown_more history one = fold-append after_one empty_showing history (one ∷ [])

  pub writes_more : (history : List (Happened F W)) (one : Happened F W) → writes_of (history ++ one ∷ []) ≡ writes_of history ++ writes_of_one one
  writes_more history one = flat_map-push writes_of_one history one

  -- ---- views

  pub opening_view : (k : Key) → IsViewOf {F = F} {W = W} k (opening k.book)
  opening_view k = record { book = refl; shows = refl; listed = record { follow = tt; names = tt }; stored = All-nil IsWrite; upto = refl; changes = refl }

  longer_view : (k : Key) (c : Content F W) (change : Change F W) → IsViewOf k c → IsListed (after_one (showing_in c) (happened change)).list → All IsWrite (after_one (showing_in c) (happened change)).written
      → IsViewOf k (after_change c change)
  longer_view k c change v listed stored =
      let one : Happened F W = happened change in
      record {
        book = v.book;
        shows = ap (λ (s : Showing F). after_one s one) v.shows ∙ sym (shown_more c.history one);
        listed = listed;
        stored = stored;
        upto = ap (λ n. n + length (writes_of_one one)) v.upto ∙ (sym (length-append (writes_of c.history) (writes_of_one one)) ∙ ap length (sym (writes_more c.history one)));
        changes = ap (λ n. n + 1) v.changes ∙ sym (length-append c.history (one ∷ []));
      }

  pub fitting_view : (k : Key) (c : Content F W) (change : Change F W) → IsViewOf k c → Fits change → IsViewOf k (after_change c change)
  fitting_view k c (Writes chunk) v fits = longer_view k c (Writes chunk) v v.listed (All-append IsWrite c.written (writes_in chunk) v.stored fits)
  fitting_view k c (PlacedBy list sealed) v fits = longer_view k c (PlacedBy list sealed) v fits (All-nil IsWrite)

  -- of two views of one history the one with fewer changes begins the other
  pub longer_one : (k : Key) (c d : Content F W) (both : List (Happened F W)) → IsViewOf k c → IsViewOf k d → IsPrefix c.history both → IsPrefix d.history both → c.changes ≤ d.changes → IsPrefix c.history d.history
  longer_one k c d both v w p q le = prefix_shorter c.history d.history both p q (omega (arith, v.changes, w.changes, le))

  -- a step that has the numbers and the history of a change does what the change does
  pub step_is : (c : Content F W) (s : Step F W) → s.mark.upto ≡ c.upto + length (writes_of_one (happened s.change)) → s.mark.changes ≡ c.changes + 1
      → s.mark.seen.log ≡ c.history ++ happened s.change ∷ [] → s.mark.seen.book ≡ c.book → applied c s ≡ after_change c s.change
  step_is c s upto changes history book = λ i. record (changed c s.change) { upto = upto i; changes = changes i; history = history i; book = book i }
