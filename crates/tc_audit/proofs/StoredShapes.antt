-- What the shape of a document tells of it: whether it has a member `id`.
use Rattle.std.proofs.Common.{◌≡◌, ◌∙◌, ◌||◌, Bool, true, false, not, is_some, if◌then◌else◌, Some, refl, sym, ap, codes, bytes_eq}
use Rattle.std.specs.List.{list_any}
use Rattle.tc_model.specs.Tree.{leaf, array, object, Members, no_members, member, members_relabel}
use Rattle.tc_model.specs.Document.{Name, Document, Scalar, scalar_kind, member_at, document_shape}
use Rattle.tc_model.specs.Stored.{IsKeyless}
use Rattle.tc_alike.proofs.OrderedShapes.{listed_names, same_names}
use Rattle.tc_audit.proofs.LackedLabels.{nothing_is}

-- the names tell whether a member has this one
has_member : (n : Name) (ms : Members Name Scalar) → is_some (member_at n ms) ≡ list_any (λ m. bytes_eq m n) (listed_names ms)
has_member n no_members = refl
has_member n (member m t ms) = first (bytes_eq m n) ∙ ap (λ b. bytes_eq m n || b) (has_member n ms)
  where
    first : (b : Bool) → is_some (if b then Some t else member_at n ms) ≡ (b || is_some (member_at n ms))
    first true = refl
    first false = refl

-- documents of one shape both have a member `id`, or neither has one
pub same_keyless : (d e : Document) → document_shape d ≡ document_shape e → IsKeyless e → IsKeyless d
same_keyless d (leaf s) same keyless = absurd keyless
same_keyless d (array xs) same keyless = absurd keyless
same_keyless (leaf s) (object ns) same keyless = absurd (cc)
same_keyless (array xs) (object ns) same keyless = absurd (cc)
same_keyless (object ms) (object ns) same keyless =
    let shapes : members_relabel (λ n. n) scalar_kind ms ≡ members_relabel (λ n. n) scalar_kind ns = cc in
    let names : listed_names ms ≡ listed_names ns = sym (same_names ms) ∙ ap listed_names shapes ∙ same_names ns in
    nothing_is (member_at (codes "id") ms) (ap not (has_member (codes "id") ms ∙ ap (list_any (λ m. bytes_eq m (codes "id"))) names ∙ sym (has_member (codes "id") ns) ∙ ap is_some keyless))
