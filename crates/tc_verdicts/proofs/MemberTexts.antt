-- The text of an object, member by member.
use Rattle.std.proofs.Common.{◌≡◌, ◌∙◌, ℕ, List, [], ◌∷◌, ◌++◌, Bool, true, false, append_assoc, ap}
use Rattle.json.specs.Print.{quoted}
use Rattle.serde_json.specs.Data.{Data, Members, member, object}
use Rattle.serde_json.specs.Written.{comma_if, compact_text, members_text}

-- the opening bracket was put
pub object_begun : (out begun : List ℕ) (ms : Members) → begun ≡ out ++ 123 ∷ [] → begun ++ members_text false ms ≡ out ++ compact_text (object ms)
object_begun out begun ms is = ap (λ bs. bs ++ members_text false ms) is ∙ append_assoc out (123 ∷ []) (members_text false ms)

-- a member was put
pub member_put : (out more : List ℕ) (later : Bool) (name : List ℕ) (d : Data) (ms : Members) → more ≡ out ++ (comma_if later ++ (quoted name ++ 58 ∷ compact_text d))
    → more ++ members_text true ms ≡ out ++ members_text later (member name d ms)
member_put out more later name d ms is =
    ap (λ bs. bs ++ members_text true ms) is ∙ append_assoc out (comma_if later ++ (quoted name ++ 58 ∷ compact_text d)) (members_text true ms)
    ∙ ap (λ bs. out ++ bs) (append_assoc (comma_if later) (quoted name ++ 58 ∷ compact_text d) (members_text true ms))
    ∙ ap (λ bs. out ++ (comma_if later ++ bs)) (append_assoc (quoted name) (58 ∷ compact_text d) (members_text true ms))
