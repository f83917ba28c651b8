-- The names that are taken have all that are held, also with one more write, and those that are held are no more.
use Rattle.std.proofs.Common.{◌≡◌, ◌≤◌, ◌++◌, ◌||◌, Bool, true, false, List, [], ◌∷◌, length, bytes_eq, sym, ◌∙◌, subst, inl, inr, Some, None, is_some, if◌then◌else◌}
use Rattle.std.specs.Prelude.{All}
use Rattle.std.specs.List.{AllByRecursion, IsDistinct, list_any}
use Rattle.std.specs.Cmp.Lexicographic.{nat_list_eq_equiv}
use Rattle.std.proofs.lemmas.Bool.{cases_Bool, true≢false}
use Rattle.std.proofs.lemmas.List.Elements.{All-nil, All-cons, All-head, All-tail, All-weaker}
use Rattle.std.proofs.lemmas.Map.Made.{length-le_from_is_member}
use Rattle.std.proofs.lemmas.Slice.Eq.{bytes_eq-Decides}
use Rattle.tc_model.specs.Document.{Name, document_shape}
use Rattle.tc_model.specs.Dictionary.{number_of, learned, all_learned}
use Rattle.tc_model.specs.Keyed.{values_in}
use Rattle.tc_model.specs.KnownNames.{HasNumber, HasEach}
use Rattle.tc_model.specs.ShapeNames.{names_within, names_of_documents}
use Rattle.tc_model.proofs.LearnedNames.{all_learned-append, all_numbered, all_of_first, number-stays}
use Rattle.tc_model.proofs.NameNumbers.{list_any-number_of}
use Rattle.tc_plain_model.specs.Store.{names_after}
use Rattle.tc_plain_model.specs.Writes.{Pairs, Write, after_writes}
use Rattle.tc_plain_model.proofs.WriteLaws.{after_writes-append}
use Rattle.tc_lsm_model.proofs.ListNames.{AreNamesIn, KnowsWritten, named-after_writes}
use Rattle.tc_lsm_model.proofs.FlushNames.{Extends-names_after}
use Rattle.tc_lsm_model.proofs.WrittenNames.{knows-left}
use Rattle.tc_part_model.specs.Staging.{taken_with}

-- ---- lists of names

each_of : (P : Name → Type 0) (xs : List Name) (x : Name) → AllByRecursion P xs → list_any (bytes_eq x) xs ≡ true → P x
each_of P [] x all there = absurd (true≢false (sym there))
each_of P (y ∷ ys) x all there = elim (cases_Bool (bytes_eq x y)) [
  | inl same ↦ subst P (sym ((bytes_eq-Decides x y).0 same)) all.0
  | inr other ↦ each_of P ys x all.1 (subst (λ b. (b || list_any (bytes_eq x) ys) ≡ true) other there)
]

has : (names : List Name) (x : Name) → HasNumber names x → list_any (bytes_eq x) names ≡ true
has names x is = list_any-number_of names x ∙ is

-- what a dictionary has that one has, that one has
HasNumber-trans : (more names : List Name) (x : Name) → HasEach more names → HasNumber names x → HasNumber more x
HasNumber-trans more names x each is = each_of (HasNumber more) names x each (has names x is)

HasEach-trans : (more names xs : List Name) → HasEach more names → HasEach names xs → HasEach more xs
HasEach-trans more names [] each all = tt
HasEach-trans more names (x ∷ xs) each all = (HasNumber-trans more names x each all.0, HasEach-trans more names xs each all.1)

each_and : {X : Type 0} (P : X → Type 0) (xs : List X) (x : X) → AllByRecursion P xs → P x → AllByRecursion P (xs ++ x ∷ [])
each_and P [] x all last = (last, tt)
each_and P (y ∷ xs) x all last = (all.0, each_and P xs x all.1 last)

HasEach-learned : (more names : List Name) (x : Name) → HasEach more names → HasNumber more x → HasEach more (learned names x)
HasEach-learned more names x each is = cases (is_some (number_of names x))
  where
    cases : (b : Bool) → HasEach more (if b then names else names ++ x ∷ [])
    cases true = each
    cases false = each_and (HasNumber more) names x each is

HasEach-all_learned : (more names xs : List Name) → HasEach more names → HasEach more xs → HasEach more (all_learned names xs)
HasEach-all_learned more names [] each all = each
HasEach-all_learned more names (x ∷ xs) each all = HasEach-all_learned more (learned names x) xs (HasEach-learned more names x each all.0) all.1

-- all that are learned stay
HasEach-stays : (names more xs : List Name) → HasEach names xs → HasEach (all_learned names more) xs
HasEach-stays names more [] all = tt
HasEach-stays names more (x ∷ xs) all = (number-stays names more x all.0, HasEach-stays names more xs all.1)

-- distinct names that one has are no more than its own
pub no_more : (more names : List Name) → IsDistinct bytes_eq names → HasEach more names → length names ≤ length more
no_more more names distinct each =
    length-le_from_is_member nat_list_eq_equiv names more distinct (λ q there. has more q (each_of (HasNumber more) names q each there))

-- ---- the names behind writes

-- those of documents come to what is known
named : (taken known : List Name) (pairs : Pairs) → HasEach taken known → All (AreNamesIn taken) pairs → HasEach taken (all_learned known (names_of_documents (values_in pairs)))
named taken known [] older all = older
named taken known (e ∷ pairs) older all =
    subst (λ ns. HasEach taken ns) (sym (all_learned-append known (names_within (document_shape e.1)) (names_of_documents (values_in pairs))))
    (named taken (all_learned known (names_within (document_shape e.1))) pairs
    (HasEach-all_learned taken known (names_within (document_shape e.1)) older (All-head (AreNamesIn taken) e pairs all)) (All-tail (AreNamesIn taken) e pairs all))

-- those that are had already
left_named : (taken known : List Name) (ws : List Write) → HasEach taken (names_after known ws) → All (AreNamesIn taken) (after_writes [] ws)
left_named taken known ws each =
    All-weaker (AreNamesIn (names_after known ws)) (AreNamesIn taken) (λ e within. HasEach-trans taken (names_after known ws) (names_within (document_shape e.1)) each within) (after_writes [] ws) (knows-left known ws)

-- with one more write, of which the names are had too
pub HasEach-write : (taken known : List Name) (ws : List Write) (w : Write) → HasEach taken known → HasEach taken (names_after known ws) → KnowsWritten taken w → HasEach taken (names_after known (ws ++ w ∷ []))
HasEach-write taken known ws w older each knows =
    named taken known (after_writes [] (ws ++ w ∷ [])) older
    (subst (λ ps. All (AreNamesIn taken) ps) (sym (after_writes-append [] ws (w ∷ [])))
    (named-after_writes taken (after_writes [] ws) (w ∷ []) (All-cons (KnowsWritten taken) w [] knows (All-nil (KnowsWritten taken))) (left_named taken known ws each)))

-- what is had stays so, and the names of what is written come to it
pub HasEach-taken : (w : Write) (taken xs : List Name) → HasEach taken xs → HasEach (taken_with w taken) xs
HasEach-taken (key, Some d) taken xs each = HasEach-stays taken (names_within (document_shape d)) xs each
HasEach-taken (key, None) taken xs each = each

pub KnowsWritten-taken : (w : Write) (taken : List Name) → KnowsWritten (taken_with w taken) w
KnowsWritten-taken (key, Some d) taken = all_numbered taken (names_within (document_shape d))
KnowsWritten-taken (key, None) taken = tt

-- those that come first are had where all are
pub HasEach-known : (taken known : List Name) (ws : List Write) → HasEach taken (names_after known ws) → HasEach taken known
HasEach-known taken known ws each =
    let more = Extends-names_after known ws in
    all_of_first (HasNumber taken) known more.0 (subst (λ ns. HasEach taken ns) more.1 each)
