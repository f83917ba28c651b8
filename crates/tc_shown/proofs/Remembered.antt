-- What is remembered of what is shown, behind each change.
use Rattle.std.proofs.Common.{◌≡◌, ◌∙◌, ap, sym, refl, Bool, true, false, List, [], ◌∷◌, ◌++◌, map, is_some, Option, length, ◌<◌, arith}
use Rattle.std.specs.Arc.{arc_value}
use Rattle.std.specs.declared.alloc.Global.{Global}
use Rattle.std.specs.declared.sync.Arc.{Arc}
use Rattle.logbook.specs.Pages.{Book}
use Rattle.tc_component.specs.Loading.{ComponentState}
use Rattle.tc_log.specs.declared.write.Write.{Write}
use Rattle.tc_memory.specs.Table.{Table}
use Rattle.tc_view.specs.declared.change.Change.{Change}
use Rattle.tc_view.specs.declared.change.Change.TheVariants.{Writes}
use Rattle.tc_view.specs.declared.content.Content.{Content}
use Rattle.tc_view.specs.declared.happened.Happened.{Happened}
use Rattle.tc_view.specs.declared.happened.Happened.TheVariants.{Placed, Wrote}
use Rattle.tc_view.specs.Changes.{Showing, after_change, after_one, happened, showing_in, writes_in}
use Rattle.tc_shown.specs.Heads.{head_of}
use Rattle.tc_shown.specs.Shown.{IsRemembered, ShownState, wrote}

pub heads_shared : {F : Type 0} (shares : List (Arc (ComponentState F) Global)) → map (λ m. m.index.head) (map arc_value shares) ≡ map head_of shares
heads_shared [] = refl
heads_shared (m ∷ shares) = ap (λ more. head_of m ∷ more) (heads_shared shares)

module _ {F W : Type 0} where
  -- ---- a state with more behind its history

  pub state_added : (b c : Book) (h k more : List (Happened F W)) (failed : Bool) (old : ShownState F W) → record { book = b; history = h; failed = failed } ≡ old → c ≡ b → k ≡ h ++ more → failed ≡ false
      → record { book = c; history = k; failed = false } ≡ record old { history = old.history ++ more }
  state_added b c h k more failed old is same_book added sound =
      let each : record { book = c; history = k; failed = false } ≡ record { book = b; history = h ++ more; failed = failed } = (λ i. record { book = same_book i; history = added i; failed = sym sound i }) in
      each ∙ ap (λ (o : ShownState F W). record o { history = o.history ++ more }) is

  -- ---- a placing

  placed_shows : (c d : Content F W) (change : Change F W) (list : List (ComponentState F)) (sealed : Option Table) → d ≡ after_change c change → happened change ≡ Placed list sealed → showing_in d ≡ record { list = list; sealed = sealed; written = [] }
  placed_shows c d change list sealed is same = ap (λ (x : Content F W). showing_in x) is ∙ ap (λ (h : Happened F W). after_one (showing_in c) h) same

  -- behind a placing
  pub placed_remembered : (c d : Content F W) (change : Change F W) (list kept : List (ComponentState F)) (sealed : Option Table) (flag : Bool) → d ≡ after_change c change → happened change ≡ Placed list sealed → kept ≡ list → flag ≡ is_some sealed → IsRemembered kept flag false d
  placed_remembered c d change list kept sealed flag is same kept_is flag_is =
      let shows : showing_in d ≡ record { list = list; sealed = sealed; written = [] } = placed_shows c d change list sealed is same in
      record {
        components = kept_is ∙ sym (ap (λ (s : Showing F). s.list) shows);
        table = flag_is ∙ sym (ap (λ (s : Showing F). is_some s.sealed) shows);
        none_behind = λ _. ap (λ (s : Showing F). s.written) shows;
      }

  pub placed_history : (c d : Content F W) (change : Change F W) (list : List (ComponentState F)) (sealed : Option Table) → d ≡ after_change c change → happened change ≡ Placed list sealed → d.history ≡ c.history ++ Placed list sealed ∷ []
  placed_history c d change list sealed is same = ap (λ (x : Content F W). x.history) is ∙ ap (λ (h : Happened F W). c.history ++ h ∷ []) same

  -- ---- a frame

  pub wrote_remembered : (c d : Content F W) (chunk : Arc (List Write) Global) (kept : List (ComponentState F)) (flag written : Bool) → d ≡ after_change c (Writes chunk) → IsRemembered kept flag written c → IsRemembered kept flag true d
  wrote_remembered c d chunk kept flag written is remembered = record {
    components = remembered.components ∙ sym (ap (λ (x : Content F W). x.list) is);
    table = remembered.table ∙ sym (ap (λ (x : Content F W). is_some x.sealed) is);
    none_behind = λ no. absurd (cc (no));
  }

  pub wrote_history : (c d : Content F W) (chunk : Arc (List Write) Global) (ws : List Write) → d ≡ after_change c (Writes chunk) → writes_in chunk ≡ ws → 0 < length ws → d.history ≡ c.history ++ wrote ws
  wrote_history c d chunk [] is same some = absurd (omega (arith, some))
  wrote_history c d chunk (w ∷ ws) is same some = ap (λ (x : Content F W). x.history) is ∙ ap (λ (all : List Write). c.history ++ Wrote all ∷ []) same
