-- Lemmas on the names and the path of a command.
use Rattle.std.proofs.Common.{◌≡◌, ℕ, ◌<◌, zero, suc, Bool, true, false, if◌then◌else◌, IsTrue, List, [], ◌∷◌, drop, map, length, codes, bytes_eq, Option, Some, None, is_some, IfSome, option_map, option_and_then, Ordering, Less, Equal, Greater, nat_cmp, Bor, refl, arith}
use Rattle.std.proofs.lemmas.Bool.{false≢true}
use Rattle.std.specs.Cmp.Lexicographic.{slice_cmp}
use Rattle.std.specs.Ordering.{match_ordering}
use Rattle.serde_json.specs.Data.{Data, null, boolean, number, string, array, object, Items, Members, no_members, member}
use Rattle.serde_json.specs.Find.{get_member, as_str}
use Rattle.tc_model.specs.Tree.{object as object_of, member as member_of}
use Rattle.tc_model.specs.Json.{document_of, members_meant, is_whole}
use Rattle.tc_request_model.specs.Request.{Form, names_are, value_at, if_path, are_hops, ask_form, form_named, form_of, query_form, scan_form, upsert_form, delete_form, get_form}
use Rattle.tc_command.specs.Forms.{HasWholePath}

-- no members have a name that is left
pub names_are-none : (names : List (Bor (List ℕ))) (i : ℕ) → i < length names → false ≡ names_are (map (λ n. n.now) (drop i names)) no_members
names_are-none [] i h = absurd (omega arith)
names_are-none (n ∷ ns) zero h = refl
names_are-none (n ∷ ns) (suc i) h = names_are-none ns i (omega arith)

-- ---- where all numbers of a value are whole, so are those of the path of its form

-- both parts of a whole value are whole
both_whole : {A B C : Type 0} (o : Option A) (p : Option B) (f : A → B → C) → is_some (option_and_then (λ a. option_map (f a) p) o) ≡ true → (is_some o ≡ true) × (is_some p ≡ true)
both_whole None p f h = absurd (false≢true h)
both_whole (Some a) None f h = absurd (false≢true h)
both_whole (Some a) (Some b) f h = (refl, refl)

-- each member's value is whole
get_member-whole : (n : List ℕ) (ms : Members) → is_some (members_meant ms) ≡ true → IfSome (get_member n ms) (λ d. IsTrue (is_whole d))
get_member-whole n no_members h = tt
get_member-whole n (member l d ms) h =
    let parts = both_whole (document_of d) (members_meant ms) (member_of l) h in
    let later = get_member-whole n ms parts.1 in at_order (slice_cmp nat_cmp n l) parts.0 later
  where
    at_order : (o : Ordering) → IsTrue (is_whole d) → IfSome (get_member n ms) (λ e. IsTrue (is_whole e))
        → IfSome (match_ordering o (get_member n ms) (Some d) (get_member n ms)) (λ e. IsTrue (is_whole e))
    at_order Less here later = later
    at_order Equal here later = here
    at_order Greater here later = later

-- a fact of both of two forms
either : (b : Bool) (x y : Option Form) → IfSome x HasWholePath → IfSome y HasWholePath → IfSome (if b then x else y) HasWholePath
either true x y hx hy = hx
either false x y hx hy = hy

-- a form made of a whole path
path_whole : (form : Items → Form) → ((path : Items) → IsTrue (is_whole (array path)) → HasWholePath (form path)) → (o : Option Data) → IfSome o (λ d. IsTrue (is_whole d))
    → IfSome (option_map form (option_and_then if_path o)) HasWholePath
path_whole form keeps None h = tt
path_whole form keeps (Some null) h = tt
path_whole form keeps (Some (boolean b)) h = tt
path_whole form keeps (Some (number n)) h = tt
path_whole form keeps (Some (string s)) h = tt
path_whole form keeps (Some (object ms)) h = tt
path_whole form keeps (Some (array path)) h = at_test (are_hops path)
  where
    at_test : (b : Bool) → IfSome (option_map form (if b then Some path else None)) HasWholePath
    at_test true = keeps path h
    at_test false = tt

ask_form-whole : (form : Items → Option Data → Form) → ((path : Items) (eq : Option Data) → IsTrue (is_whole (array path)) → HasWholePath (form path eq))
    → (ms : Members) → is_some (members_meant ms) ≡ true → IfSome (ask_form form ms) HasWholePath
ask_form-whole form keeps ms h =
    either (names_are (codes "eq" ∷ codes "op" ∷ codes "path" ∷ []) ms) _ _
    (path_whole (λ path. form path (get_member (codes "eq") ms)) (λ path. keeps path (get_member (codes "eq") ms)) (get_member (codes "path") ms) found)
    (path_whole (λ path. form path None) (λ path. keeps path None) (value_at (codes "path") (codes "op" ∷ codes "path" ∷ []) ms) (at_test (names_are (codes "op" ∷ codes "path" ∷ []) ms)))
  where
    found : IfSome (get_member (codes "path") ms) (λ d. IsTrue (is_whole d))
    found = get_member-whole (codes "path") ms h

    at_test : (b : Bool) → IfSome (if b then get_member (codes "path") ms else None) (λ d. IsTrue (is_whole d))
    at_test true = get_member-whole (codes "path") ms h
    at_test false = tt

-- a form that has no path
pathless : (form : Data → Form) → ((d : Data) → HasWholePath (form d)) → (o : Option Data) → IfSome (option_map form o) HasWholePath
pathless form keeps None = tt
pathless form keeps (Some d) = keeps d

form_named-whole : (op : List ℕ) (ms : Members) → is_some (members_meant ms) ≡ true → IfSome (form_named op ms) HasWholePath
form_named-whole op ms h =
    either (bytes_eq op (codes "upsert")) _ _ (pathless upsert_form (λ d. tt) _)
    (either (bytes_eq op (codes "delete")) _ _ (pathless delete_form (λ d. tt) _)
    (either (bytes_eq op (codes "get")) _ _ (pathless get_form (λ d. tt) _)
    (either (bytes_eq op (codes "query")) _ _ (ask_form-whole query_form (λ path eq w. w) ms h)
    (either (bytes_eq op (codes "flush")) _ _ (either (names_are (codes "op" ∷ []) ms) _ _ tt tt)
    (either (bytes_eq op (codes "schema")) _ _ (either (names_are (codes "op" ∷ []) ms) _ _ tt tt)
    (either (bytes_eq op (codes "scan")) _ _ (ask_form-whole scan_form (λ path eq w. w) ms h)
    (either (bytes_eq op (codes "collect")) _ _ (either (names_are (codes "op" ∷ []) ms) _ _ tt tt) tt)))))))

some_mapped : {A B : Type 0} (f : A → B) (o : Option A) → is_some (option_map f o) ≡ true → is_some o ≡ true
some_mapped f None h = h
some_mapped f (Some a) h = refl

-- the form of a whole value has a whole path
pub form_of-whole : (d : Data) → is_whole d ≡ true → IfSome (form_of d) HasWholePath
form_of-whole null h = tt
form_of-whole (boolean b) h = tt
form_of-whole (number n) h = tt
form_of-whole (string s) h = tt
form_of-whole (array ds) h = tt
form_of-whole (object ms) h = at_op (option_and_then as_str (get_member (codes "op") ms))
  where
    at_op : (o : Option (List ℕ)) → IfSome (option_and_then (λ op. form_named op ms) o) HasWholePath
    at_op None = tt
    at_op (Some op) = form_named-whole op ms (some_mapped object_of (members_meant ms) h)
