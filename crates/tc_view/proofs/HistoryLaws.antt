-- Histories whose beginnings show what their writes leave of the documents that a partition held.
use Rattle.std.proofs.Common.{◌≡◌, ◌+◌, ◌<◌, ◌≤◌, ℕ, List, [], ◌∷◌, ◌++◌, length, map, take, Option, refl, ap, sym, subst, ◌∙◌, arith, length-append, ⊎_elim}
use Rattle.std.proofs.lemmas.List.{append-nil, map-append, length-map, take_at, take-append-le}
use Rattle.std.proofs.lemmas.List.Elements.{All-nil, All-append}
use Rattle.std.proofs.lemmas.List.Sums.{fold-append}
use Rattle.std.proofs.lemmas.Grind.{flat_map-append}
use Rattle.std.specs.Prelude.{All}
use mathlib.Core.List.{IsPrefix}
use Rattle.tc_plain_model.specs.Writes.{Pairs, Write, after_write, after_writes}
use Rattle.tc_lsm_model.specs.Tables.{over}
use Rattle.tc_memory.specs.Table.{Table}
use Rattle.tc_component.specs.Loading.{ComponentState}
use Rattle.tc_machine.specs.Logs.{kept_write}
use Rattle.tc_machine.specs.Writes.{IsStorableWrite}
use Rattle.tc_view.specs.declared.content.Content.{Content}
use Rattle.tc_view.specs.declared.happened.Happened.{Happened}
use Rattle.tc_view.specs.declared.happened.Happened.TheVariants.{Wrote, Placed}
use Rattle.tc_view.specs.declared.rule.Key.{Key}
use Rattle.tc_view.specs.Changes.{writes_of, writes_of_one, after_one, shown_after, showing_in}
use Rattle.tc_view.specs.Holding.{Holds, HoldsWrites}
use Rattle.tc_view.specs.Rules.{IsViewOf}
use Rattle.tc_view.proofs.Prefixes.{prefix_snoc}
use Rattle.tc_view.proofs.ViewLemmas.{shown_more, writes_more}

no_longer : {A : Type 0} (front : List A) → IsPrefix front [] → 0 < length front → ⊥
no_longer [] p long = omega (arith, long)
no_longer (x ∷ front) p long = cc (p.1)

module _ {F W : Type 0} (told : F → Option (List ℕ)) where
  -- what a beginning shows, where all writes are these
  abbrev ShowsFirst : Pairs → List Write → List (Happened F W) → Type 0
  ShowsFirst start writes front = Holds told (shown_after front) (after_writes start (take (length (writes_of front)) writes))

  -- so many are the writes of a beginning
  fewer : (front history : List (Happened F W)) (writes : List Write) → writes_of history ≡ map kept_write writes → IsPrefix front history → length (writes_of front) ≤ length writes
  fewer front history writes same p =
      let two : writes_of history ≡ writes_of front ++ writes_of p.0 = ap writes_of (sym p.1) ∙ flat_map-append writes_of_one front p.0 in
      let long : length (writes_of history) ≡ length (writes_of front) + length (writes_of p.0) = ap (λ l. length l) two ∙ length-append (writes_of front) (writes_of p.0) in
      let all : length (writes_of history) ≡ length writes = ap (λ l. length l) same ∙ length-map writes kept_write in
      omega (arith, long, all)

  all_taken : (history : List (Happened F W)) (writes : List Write) → writes_of history ≡ map kept_write writes → take (length (writes_of history)) writes ≡ writes
  all_taken history writes same =
      let long : length writes ≡ length (writes_of history) = sym (ap (λ l. length l) same ∙ length-map writes kept_write) in
      ap (λ l. take (length (writes_of history)) l) (sym (append-nil writes)) ∙ take_at writes [] (length (writes_of history)) long

  -- one change more
  one_more : (start : Pairs) (writes more : List Write) (history : List (Happened F W)) (one : Happened F W) → HoldsWrites told start writes history → All IsStorableWrite more → writes_of_one one ≡ map kept_write more
      → Holds told (shown_after (history ++ one ∷ [])) (after_writes start (writes ++ more)) → HoldsWrites told start (writes ++ more) (history ++ one ∷ [])
  one_more start writes more history one h storable same last =
      let written : writes_of (history ++ one ∷ []) ≡ map kept_write (writes ++ more) = writes_more history one ∙ ((λ i. h.written i ++ same i) ∙ sym (map-append kept_write writes more)) in
      let whole : ShowsFirst start (writes ++ more) (history ++ one ∷ []) = subst (λ l. Holds told (shown_after (history ++ one ∷ [])) (after_writes start l)) (sym (all_taken (history ++ one ∷ []) (writes ++ more) written)) last in
      record {
        written = written;
        storable = All-append IsStorableWrite writes more h.storable storable;
        each = λ front p long. ⊎_elim
            (λ (q : IsPrefix front history). subst (λ l. Holds told (shown_after front) (after_writes start l)) (sym (take-append-le (length (writes_of front)) writes more (fewer front history writes h.written q))) (h.each front q long))
            (λ (e : front ≡ history ++ one ∷ []). subst (ShowsFirst start (writes ++ more)) (sym e) whole)
            (prefix_snoc front history one p);
      }

  nothing_yet : (start : Pairs) → HoldsWrites {W = W} told start [] []
  nothing_yet start = record { written = refl; storable = All-nil IsStorableWrite; each = λ front p long. absurd (no_longer front p long) }

  pub opened : (list : List (ComponentState F)) (sealed : Option Table) (start : Pairs) → Holds told (shown_after {W = W} (Placed list sealed ∷ [])) start → HoldsWrites {W = W} told start [] (Placed list sealed ∷ [])
  opened list sealed start h = one_more start [] [] [] (Placed list sealed) (nothing_yet start) (All-nil IsStorableWrite) refl h

  pub placed : (start : Pairs) (writes : List Write) (history : List (Happened F W)) (list : List (ComponentState F)) (sealed : Option Table) → HoldsWrites told start writes history
      → Holds told (shown_after (history ++ Placed list sealed ∷ [])) (after_writes start writes) → HoldsWrites told start writes (history ++ Placed list sealed ∷ [])
  placed start writes history list sealed h last =
      let one : Happened F W = Placed list sealed in
      let same : writes ++ [] ≡ writes = append-nil writes in
      subst (λ l. HoldsWrites told start l (history ++ one ∷ [])) same
      (one_more start writes [] history one h (All-nil IsStorableWrite) refl (subst (λ l. Holds told (shown_after (history ++ one ∷ [])) (after_writes start l)) (sym same) last))

  -- writes over what is shown leave of it what they leave of the documents
  over_shown : (history : List (Happened F W)) (pairs : Pairs) (more : List Write) → All IsStorableWrite more → Holds told (shown_after history) pairs → Holds told (after_one {W = W} (shown_after history) (Wrote (map kept_write more))) (after_writes pairs more)
  over_shown history pairs more storable h =
      let below : Pairs = over h.listed h.table in
      record {
        listed = h.listed;
        list = h.list;
        table = h.table;
        sealed = h.sealed;
        kept = h.kept;
        writes = h.writes ++ more;
        storable = All-append IsStorableWrite h.writes more h.storable storable;
        written = ap (λ l. l ++ map kept_write more) h.written ∙ sym (map-append kept_write h.writes more);
        is = ap (λ p. after_writes p more) h.is ∙ sym (fold-append after_write below h.writes more);
      }

  pub wrote : (start : Pairs) (writes more : List Write) (history : List (Happened F W)) → HoldsWrites told start writes history → 0 < length history → All IsStorableWrite more
      → HoldsWrites told start (writes ++ more) (history ++ Wrote (map kept_write more) ∷ [])
  wrote start writes more history h long storable =
      let one : Happened F W = Wrote (map kept_write more) in
      let before : Holds told (shown_after history) (after_writes start writes) = subst (λ l. Holds told (shown_after history) (after_writes start l)) (all_taken history writes h.written) (h.each history ([], append-nil history) long) in
      let now : Holds told (after_one (shown_after history) one) (after_writes (after_writes start writes) more) = over_shown history (after_writes start writes) more storable before in
      one_more start writes more history one h storable refl
      (subst (λ p. Holds told (shown_after (history ++ one ∷ [])) p) (sym (fold-append after_write start writes more)) (subst (λ s. Holds told s (after_writes (after_writes start writes) more)) (sym (shown_more history one)) now))

  pub seen : (start : Pairs) (writes : List Write) (history : List (Happened F W)) (k : Key) (c : Content F W) → HoldsWrites told start writes history → IsViewOf k c → IsPrefix c.history history → 0 < length c.history
      → Holds told (showing_in c) (after_writes start (take c.upto writes))
  seen start writes history k c h v p long =
      subst (λ s. Holds told s (after_writes start (take c.upto writes))) (sym v.shows) (subst (λ n. Holds told (shown_after c.history) (after_writes start (take n writes))) (sym v.upto) (h.each c.history p long))
