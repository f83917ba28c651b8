-- One partition after the other is shown: what holds of one behind its turn.
use Rattle.std.proofs.Common.{◌≡◌, ◌∙◌, ◌⊎◌, ◌<◌, ◌++◌, ℕ, zero, suc, true, false, List, [], ◌∷◌, length, arith, refl, ap, sym, subst, inl, inr}
use Rattle.std.specs.Prelude.{Option, slice_index_or}
use Rattle.std.specs.declared.alloc.Global.{Global}
use Rattle.std.specs.declared.vec.Vec.{Vec}
use Rattle.std.proofs.lemmas.Bool.{false≢true}
use Rattle.tc_component.specs.Loading.{ComponentState}
use Rattle.tc_keeper.specs.Places.{IsAt}
use Rattle.tc_keeper.specs.WithJobs.{WithJobs}
use Rattle.tc_log.specs.declared.write.Write as log
use Rattle.tc_memory.specs.Table.{Table}
use Rattle.tc_merge.specs.Merging.{GrowNames}
use Rattle.tc_model.specs.Document.{Name}
use Rattle.tc_part.specs.OwnComponents.{AreOwnComponents}
use Rattle.tc_shown.specs.Shown.{wrote, IsPlaced, ShownState}
use Rattle.tc_view.specs.Holding.{Extend}
use Rattle.tc_keeper.specs.Showing.{IsPlacedOver, IsReadAsBefore, StaysOwn}
use Rattle.tc_keeper.proofs.OwnShown.{placed_own, wrote_own, StaysOf}
use Rattle.tc_keeper.proofs.ShownWorlds.{Wrote}
use Rattle.tc_keeper.proofs.Turns.{get-is_at, is_at-get, is_at-so, is_at-there}

-- ---- lenses go on to read it

same_read : {F W : Type 0} (old new : ShownState F W) → new.failed ≡ old.failed → new.book ≡ old.book → IsReadAsBefore old new
same_read old new failed book = λ works. (sym failed ∙ works, book)

pub failed_read : {F W : Type 0} (old new : ShownState F W) → (new ≡ old) ⊎ (new.failed ≡ true) → IsReadAsBefore old new
failed_read old new (inl same) = same_read old new (ap (λ (s : ShownState _ _). s.failed) same) (ap (λ (s : ShownState _ _). s.book) same)
failed_read old new (inr failed) = λ works. absurd (false≢true (sym works ∙ failed))

pub stays_read : {F W : Type 0} (old : ShownState F W) → IsReadAsBefore old old
stays_read old = λ works. (works, refl)

wrote_so : {F W : Type 0} (old new : ShownState F W) (frame : Vec log.Write Global) → new ≡ record old { history = old.history ++ wrote frame.items } → IsReadAsBefore old new
wrote_so old new frame is = same_read old new (ap (λ (s : ShownState _ _). s.failed) is) (ap (λ (s : ShownState _ _). s.book) is)

pub wrote_read : {F W : Type 0} (frames : List (Vec log.Write Global)) (p : ℕ) (old new : ShownState F W) → Wrote frames p old new → IsReadAsBefore old new
wrote_read frames p old new at = let one = is_at-get (λ frame. new ≡ record old { history = old.history ++ wrote frame.items }) p frames at in wrote_so old new one.0 one.2

placed_so : {S D F W : Type 0} (e : WithJobs S D F W) (old new : ShownState F W) → IsPlacedOver e old new → IsReadAsBefore old new
placed_so e old new (inl stays) = same_read old new (ap (λ (s : ShownState _ _). s.failed) stays) (ap (λ (s : ShownState _ _). s.book) stays)
placed_so e old new (inr (empty, inl more)) = same_read old new (ap (λ (s : ShownState _ _). s.failed) more) (ap (λ (s : ShownState _ _). s.book) more)
placed_so e old new (inr (empty, inr there)) = same_read old new (ap (λ (s : ShownState _ _). s.failed) there.0) (ap (λ (s : ShownState _ _). s.book) there.0)

-- and if the components that are listed are the engine's own, those that are shown stay so
abbrev pub IsPlacedOwn : {S D F W : Type 0} → (F → Option (List ℕ)) → WithJobs S D F W → ShownState F W → ShownState F W → Type 0
IsPlacedOwn content e old new = IsPlacedOver e old new × StaysOwn content e.engine.part.number e.engine.part.count old new

abbrev pub PlacedBy : {S D F W : Type 0} → (F → Option (List ℕ)) → List (WithJobs S D F W) → ℕ → ShownState F W → ShownState F W → Type 0
PlacedBy content es p old new = IsAt p es (λ e. IsPlacedOwn content e old new)

pub placed_over : {S D F W : Type 0} (content : F → Option (List ℕ)) (es : List (WithJobs S D F W)) (p : ℕ) (old new : ShownState F W) → PlacedBy content es p old new → IsAt p es (λ e. IsPlacedOver e old new)
placed_over content es p old new at = is_at-so (λ e. IsPlacedOwn content e old new) (λ e. IsPlacedOver e old new) p es (λ e both. both.0) at

pub placed_read : {S D F W : Type 0} (content : F → Option (List ℕ)) (es : List (WithJobs S D F W)) (p : ℕ) (old new : ShownState F W) → PlacedBy content es p old new → IsReadAsBefore old new
placed_read content es p old new at = let one = is_at-get (λ e. IsPlacedOwn content e old new) p es at in placed_so one.0 old new one.2.0

pub placed_stays : {S D F W : Type 0} (content : F → Option (List ℕ)) (es : List (WithJobs S D F W)) (p : ℕ) (old new : ShownState F W) → PlacedBy content es p old new → StaysOf content es p old new
placed_stays content es p old new at = λ e is. (is_at-there (λ e. IsPlacedOwn content e old new) p es e at is).1

pub wrote_stays : {F W : Type 0} (content : F → Option (List ℕ)) (frames : List (Vec log.Write Global)) (p : ℕ) (old new : ShownState F W) → Wrote frames p old new → (number count : ℕ) → StaysOwn content number count old new
wrote_stays content frames p old new at number count = let one = is_at-get (λ frame. new ≡ record old { history = old.history ++ wrote frame.items }) p frames at in wrote_own content number count old new one.0.items one.2

-- ---- its turn

pub wrote_there : {F W : Type 0} (frames : List (Vec log.Write Global)) (p : ℕ) (frame : Vec log.Write Global) (old new : ShownState F W) → p < length frames → frame ≡ slice_index_or frames p frame → new ≡ record old { history = old.history ++ wrote frame.items } → Wrote frames p old new
wrote_there frames p frame old new below is done = get-is_at (λ frame. new ≡ record old { history = old.history ++ wrote frame.items }) p frames frame below is done

no_length : {X : Type 0} (xs : List X) → length xs ≡ 0 → xs ≡ []
no_length [] none = refl
no_length (x ∷ xs) none = absurd (omega (arith, none))

pub placed_there : {S D F W : Type 0} (content : F → Option (List ℕ)) (es : List (WithJobs S D F W)) (p n : ℕ) (list : List (ComponentState F)) (sealed : Option Table) (old new : ShownState F W)
    → n ≡ 0 → IsAt p es (λ e. n ≡ length e.engine.part.active) → IsAt p es (λ e. list ≡ e.engine.part.list) → IsAt p es (λ e. sealed ≡ e.engine.part.sealed)
    → IsAt p es (λ e. AreOwnComponents content e.engine.part.number e.engine.part.count e.engine.part.list) → IsPlaced list sealed old new → PlacedBy content es p old new
placed_there content [] p n list sealed old new none count is_list is_sealed own placed = absurd count
placed_there content (e ∷ es) zero n list sealed old new none count is_list is_sealed own placed =
    let over : IsPlacedOver e old new =
    inr (no_length e.engine.part.active (sym count ∙ none), subst (λ (o : Option Table). IsPlaced e.engine.part.list o old new) is_sealed (subst (λ (l : List (ComponentState _)). IsPlaced l sealed old new) is_list placed)) in
    (over, placed_own content e old new own over)
placed_there content (e ∷ es) (suc p) n list sealed old new none count is_list is_sealed own placed = placed_there content es p n list sealed old new none count is_list is_sealed own placed

pub stays_there : {S D F W : Type 0} (content : F → Option (List ℕ)) (es : List (WithJobs S D F W)) (p : ℕ) (s : ShownState F W) → p < length es → PlacedBy content es p s s
stays_there content [] p s below = absurd (omega (arith, below))
stays_there content (e ∷ es) zero s below = (inl refl, λ own. own)
stays_there content (e ∷ es) (suc p) s below = stays_there content es p s (omega (arith, below))

-- ---- components that can be shown

pub extended : {F : Type 0} (names : List Name) (list : List (ComponentState F)) → GrowNames names list → Extend names list
extended names [] grow = tt
extended names (c ∷ list) grow = (grow.0, extended c.index.names list grow.1)
