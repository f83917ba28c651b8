-- What may be replied where it is not known what is stored: a reply of the kind of its request.
use Rattle.std.specs.Prelude.{◌≡◌, ◌⊎◌, ℕ, Bool, List, [], ◌∷◌, Option}
use Rattle.serde_json.specs.Data.{Data}
use Rattle.tc_model.specs.Document.{Document}
use Rattle.tc_request_model.specs.Request.{Request, upsert, delete, get, query, flush, schema, scan, collect, refused, names_full, full, busy, no_scan}
use Rattle.tc_request_model.specs.Rendered.{Rendered, rendered}
use Rattle.tc_request_model.specs.Reply.{Reply, Row, upserted, deleted, got, rows, flushed, schemas, started, collected, turned_down}

-- An upsert may be refused for its names or for want of room. A refused line has its refusal.
abbrev pub IsOfKind : Request → Reply → Type 0
IsOfKind (upsert n d) a = ((replaced : Bool) × (a ≡ upserted n replaced)) ⊎ ((a ≡ turned_down names_full) ⊎ (a ≡ turned_down full))
IsOfKind (delete n) a = (found : Bool) × (a ≡ deleted n found)
IsOfKind (get n) a = (d : Option Document) × (a ≡ got n d)
IsOfKind (query ask) a = (rs : List Row) × (a ≡ rows rs)
IsOfKind flush a = a ≡ flushed
IsOfKind schema a = (texts : List Data) × (a ≡ schemas texts)
IsOfKind (scan ask) a = (a ≡ started) ⊎ (a ≡ turned_down busy)
IsOfKind collect a = ((rs : List Row) × (upto : List ℕ) × (a ≡ collected rs upto)) ⊎ (a ≡ turned_down no_scan)
IsOfKind (refused r) a = a ≡ turned_down r

-- one a request, in the order of these
abbrev pub AreOfKinds : List Request → List Reply → Type 0
AreOfKinds [] [] = Unit {0}
AreOfKinds [] (a ∷ more) = ⊥
AreOfKinds (r ∷ rs) [] = ⊥
AreOfKinds (r ∷ rs) (a ∷ more) = IsOfKind r a × AreOfKinds rs more

-- ---- what such replies render

abbrev pub IsRenderedOfKind : Request → Rendered → Type 0
IsRenderedOfKind r text = (a : Reply) × IsOfKind r a × (text ≡ rendered a)

abbrev pub AreRenderedOfKinds : List Request → List Rendered → Type 0
AreRenderedOfKinds [] [] = Unit {0}
AreRenderedOfKinds [] (text ∷ more) = ⊥
AreRenderedOfKinds (r ∷ rs) [] = ⊥
AreRenderedOfKinds (r ∷ rs) (text ∷ more) = IsRenderedOfKind r text × AreRenderedOfKinds rs more
