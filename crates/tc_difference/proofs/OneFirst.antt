-- A first difference is one.
use Rattle.std.proofs.Common.{◌≡◌, ℕ, ◌==◌, if◌then◌else◌, [], ◌∷◌, refl, sym, ap, ◌∙◌}
use Rattle.std.specs.declared.cmp.Ordering.{Ordering}
use Rattle.std.specs.declared.cmp.Ordering.TheVariants.{Less, Equal, Greater}
use Rattle.std.specs.Ordering.{nat_cmp, ordering_reverse, ordering_then}
use Rattle.std.specs.FinMap.{slice_cmp-IsAntisymmetric}
use Rattle.std.proofs.lemmas.Cmp.{nat_cmp_total, nat_list_cmp_total}
use Rattle.std.proofs.lemmas.Map.Lookups.{exact_bytes, exact_unsigned}
use Rattle.tc_model.specs.Document.{null_kind, boolean_kind, integer_kind, text_kind}
use Rattle.tc_model.specs.Kinds.{Kind, tag, scalar, arrays, objects}
use Rattle.tc_schema_model.specs.Occurrences.{Step, field, each_item, Path}
use Rattle.tc_schema_model.proofs.CounterLaws.{each_kind}
use Rattle.tc_difference.specs.Differences.{Difference, IsFirst, step_cmp, path_cmp, place_cmp}

steps_exact : (a b : Step) → step_cmp a b ≡ Equal → a ≡ b
steps_exact each_item each_item h = refl
steps_exact each_item (field m) h = cc h
steps_exact (field n) each_item h = cc h
steps_exact (field n) (field m) h = ap field (exact_bytes n m h)

steps_turn : (a b : Step) → step_cmp b a ≡ ordering_reverse (step_cmp a b)
steps_turn each_item each_item = refl
steps_turn each_item (field m) = refl
steps_turn (field n) each_item = refl
steps_turn (field n) (field m) = nat_list_cmp_total.antisymm m n

paths_exact : (p q : Path) → path_cmp p q ≡ Equal → p ≡ q
paths_exact p q h = slice_cmp-IsAntisymmetric steps_exact p q h

then_turn : (a b c d : Ordering) → a ≡ ordering_reverse c → b ≡ ordering_reverse d → ordering_then a b ≡ ordering_reverse (ordering_then c d)
then_turn a b Less d first second = rw first refl
then_turn a b Equal d first second = rw first second
then_turn a b Greater d first second = rw first refl

paths_turn : (p q : Path) → path_cmp q p ≡ ordering_reverse (path_cmp p q)
paths_turn [] [] = refl
paths_turn [] (s ∷ q) = refl
paths_turn (s ∷ p) [] = refl
paths_turn (s ∷ p) (r ∷ q) = then_turn (step_cmp r s) (path_cmp q p) (step_cmp s r) (path_cmp p q) (steps_turn s r) (paths_turn p q)

places_turn : (p : Path) (t : Kind) (q : Path) (u : Kind) → place_cmp q u p t ≡ ordering_reverse (place_cmp p t q u)
places_turn p t q u = then_turn (path_cmp q p) (nat_cmp (tag u) (tag t)) (path_cmp p q) (nat_cmp (tag t) (tag u)) (paths_turn p q) (nat_cmp_total.antisymm (tag u) (tag t))

then_equal : (a b : Ordering) → ordering_then a b ≡ Equal → (a ≡ Equal) × (b ≡ Equal)
then_equal Less b h = cc h
then_equal Equal b h = (refl, h)
then_equal Greater b h = cc h

-- the kind of a number
abbrev kind_from : ℕ → Kind
kind_from n = if n == 1 then scalar null_kind else (if n == 2 then scalar boolean_kind else (if n == 3 then scalar integer_kind else (if n == 4 then scalar text_kind else (if n == 5 then arrays else objects))))

kind_back : (t : Kind) → kind_from (tag t) ≡ t
kind_back t = each_kind (λ t. kind_from (tag t) ≡ t) refl refl refl refl refl refl t

kinds_exact : (t u : Kind) → tag t ≡ tag u → t ≡ u
kinds_exact t u h = sym (kind_back t) ∙ ap kind_from h ∙ kind_back u

pub same_difference : (x y : Difference) → x.path ≡ y.path → x.kind ≡ y.kind → x.kept ≡ y.kept → x.counted ≡ y.counted → x ≡ y
same_difference x y p t k c = λ i. record { path = p i; kind = t i; kept = k i; counted = c i }

pub one_first : (kept counted : Path → Kind → ℕ) (x y : Difference) → IsFirst kept counted x → IsFirst kept counted y → x ≡ y
one_first kept counted x y one other = decide (place_cmp x.path x.kind y.path y.kind) refl
  where
    decide : (o : Ordering) → place_cmp x.path x.kind y.path y.kind ≡ o → x ≡ y
    decide Less is = absurd (one.differ (one.kept_is ∙ other.first x.path x.kind is ∙ sym one.counted_is))
    decide Greater is = absurd (other.differ (other.kept_is ∙ one.first y.path y.kind (places_turn x.path x.kind y.path y.kind ∙ ap ordering_reverse is) ∙ sym other.counted_is))
    decide Equal is =
        let both = then_equal (path_cmp x.path y.path) (nat_cmp (tag x.kind) (tag y.kind)) is in
        let path = paths_exact x.path y.path both.0 in
        let kind = kinds_exact x.kind y.kind (exact_unsigned (tag x.kind) (tag y.kind) both.1) in
        same_difference x y path kind
        (one.kept_is ∙ ap (λ p. kept p x.kind) path ∙ ap (kept y.path) kind ∙ sym other.kept_is)
        (one.counted_is ∙ ap (λ p. counted p x.kind) path ∙ ap (counted y.path) kind ∙ sym other.counted_is)
