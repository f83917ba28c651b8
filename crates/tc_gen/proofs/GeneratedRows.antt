-- The definitions, computed on the first lines, and what these ask for.
use Rattle.std.specs.Prelude.{◌≡◌, ℕ, List, [], ◌∷◌, map, codes, pos, refl}
use Rattle.std.specs.Str.{is_utf8, chars}
use Rattle.std.specs.Fmt.{digits}
use Rattle.serde_json.proofs.OnLiterals.{serde_json_on_literals}
use Rattle.tc_model.specs.Tree.{leaf, array, object, no_items, item, no_members, member}
use Rattle.tc_model.specs.Document.{Document, Scalar, integer, text, null}
use Rattle.tc_request_model.specs.Request.{upsert, delete, schema, request_of}
use Rattle.tc_gen.specs.Generated.{key_at, drawn_for, generated}

pub first_draws : map drawn_for (1 ∷ 2 ∷ 3 ∷ 4 ∷ []) ≡ 149 ∷ 11249 ∷ 57305 ∷ 38044 ∷ []
first_draws = refl

pub first_keys : map key_at (1 ∷ 2 ∷ 3 ∷ 4 ∷ []) ≡ 149 ∷ 1249 ∷ 2305 ∷ 3044 ∷ []
first_keys = refl

pub six_lines :
    generated 6 ≡ codes "{\"op\":\"upsert\",\"doc\":{\"id\":149,\"n\":\"1\"}}" ∷ codes "{\"op\":\"upsert\",\"doc\":{\"id\":1249,\"tags\":[\"t0\",2],\"user\":{\"name\":\"u2\"}}}" ∷ codes "{\"op\":\"upsert\",\"doc\":{\"id\":2305,\"n\":null,\"user\":{\"age\":3}}}" ∷ codes "{\"op\":\"upsert\",\"doc\":{\"id\":3044,\"n\":4}}" ∷ codes "{\"op\":\"delete\",\"id\":283}" ∷ codes "{\"op\":\"upsert\",\"doc\":{\"id\":4819,\"tags\":[\"t0\",6],\"user\":{\"name\":\"u6\"}}}" ∷ codes "{\"op\":\"schema\"}" ∷ []
unfolding digits
six_lines = refl

-- ---- what the lines ask for

abbrev of_scalar : Scalar → Document
of_scalar s = object (member (codes "n") (leaf s) no_members)

abbrev of_tags : ℕ → List ℕ → Document
of_tags k user = object (member (codes "tags") (array (item (leaf (text (codes "t0"))) (item (leaf (integer (pos k))) no_items))) (member (codes "user") (object (member (codes "name") (leaf (text user)) no_members)) no_members))

abbrev of_age : ℕ → Document
of_age n = object (member (codes "n") (leaf null) (member (codes "user") (object (member (codes "age") (leaf (integer (pos n))) no_members)) no_members))

pub six_requests :
    map request_of (generated 6) ≡ upsert 149 (of_scalar (text (codes "1"))) ∷ upsert 1249 (of_tags 2 (codes "u2")) ∷ upsert 2305 (of_age 3) ∷ upsert 3044 (of_scalar (integer (pos 4))) ∷ delete 283 ∷ upsert 4819 (of_tags 6 (codes "u6")) ∷ schema ∷ []
unfolding serde_json_on_literals is_utf8 chars digits
six_requests = refl
