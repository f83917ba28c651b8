-- A frame behind a history, and how many writes a view of it has.
use Rattle.std.proofs.Common.{◌≡◌, ◌≤◌, ap, sym, subst, List, [], ◌∷◌, ◌++◌, map, length, length-append, append-nil, arith, ◌+◌, ◌<◌, Option, ℕ}
use Rattle.std.specs.Prelude.{All}
use mathlib.Core.List.{IsPrefix}
use Rattle.std.proofs.lemmas.List.{length-map}
use Rattle.tc_machine.specs.Logs.{kept_write}
use Rattle.tc_machine.specs.Writes.{IsStorableWrite}
use Rattle.tc_plain_model.specs.Writes.{Pairs, Write}
use Rattle.tc_view.specs.declared.content.Content.{Content}
use Rattle.tc_view.specs.declared.happened.Happened.{Happened}
use Rattle.tc_view.specs.declared.happened.Happened.TheVariants.{Wrote}
use Rattle.tc_view.specs.declared.rule.Key.{Key}
use Rattle.tc_view.specs.Changes.{writes_of, writes_of_one}
use Rattle.tc_view.specs.Holding.{HoldsWrites}
use Rattle.tc_view.specs.Rules.{IsViewOf}
use Rattle.tc_shown.specs.Shown.{wrote}

module _ {F W : Type 0} where
  writes-append : (xs ys : List (Happened F W)) → length (writes_of (xs ++ ys)) ≡ length (writes_of xs) + length (writes_of ys)
  writes-append [] ys = omega arith
  writes-append (x ∷ xs) ys =
      let here = writes_of_one x in
      omega (arith, length-append here (writes_of (xs ++ ys)), length-append here (writes_of xs), writes-append xs ys)

  fewer : (xs zs : List (Happened F W)) → IsPrefix xs zs → length (writes_of xs) ≤ length (writes_of zs)
  fewer xs zs (more, same) = omega (arith, writes-append xs more, ap (λ (hs : List (Happened F W)). length (writes_of hs)) same)

  pub view_longer : (k : Key) (c d : Content F W) → IsViewOf k c → IsViewOf k d → IsPrefix c.history d.history → c.upto ≤ d.upto
  view_longer k c d of_c of_d begins = omega (arith, of_c.upto, of_d.upto, fewer c.history d.history begins)

  pub view_counted : (told : F → Option (List ℕ)) (start : Pairs) (writes : List Write) (history : List (Happened F W)) (k : Key) (c : Content F W) → HoldsWrites told start writes history → IsViewOf k c → IsPrefix c.history history → c.upto ≤ length writes
  view_counted told start writes history k c holds of_c begins =
      omega (arith, of_c.upto, fewer c.history history begins, ap (λ ws. length ws) holds.written, length-map writes kept_write)

  -- a frame behind the others, which may have no write
  pub frame_behind : (told : F → Option (List ℕ)) → ((start : Pairs) (writes more : List Write) (history : List (Happened F W)) → HoldsWrites told start writes history
      → 0 < length history → All IsStorableWrite more → HoldsWrites told start (writes ++ more) (history ++ Wrote (map kept_write more) ∷ []))
      → (start : Pairs) (writes ws : List Write) (history : List (Happened F W)) → HoldsWrites told start writes history → 0 < length history → All IsStorableWrite ws → HoldsWrites told start (writes ++ ws) (history ++ wrote (map kept_write ws))
  frame_behind told law start writes [] history holds some each =
      subst (λ all. HoldsWrites told start all (history ++ [])) (sym (append-nil writes)) (subst (λ all. HoldsWrites told start writes all) (sym (append-nil history)) holds)
  frame_behind told law start writes (w ∷ ws) history holds some each = law start writes (w ∷ ws) history holds some each
