-- What reads the records of components for a query.
use Rattle.std.specs.Prelude.{◌≡◌, ◌⊎◌, ℕ, List, [], All, length, slice_get, Option, None, Some, IfSome, option_map}
use Rattle.std.specs.declared.alloc.Global.{Global}
use Rattle.std.specs.declared.vec.Vec.{Vec}
use Rattle.tc_alike.specs.Known.{IsKnownUnder}
use Rattle.tc_component.specs.Cursors.{holds_nothing, HoldsPart}
use Rattle.tc_component.specs.Loading.{ComponentState}
use Rattle.tc_model.specs.Document.{Name, Scalar}
use Rattle.tc_path.specs.Leads.{AreHops, IsLead, kinds_in, lead_from}
use Rattle.tc_path.specs.declared.leading.Lead.{Lead}
use Rattle.tc_path.specs.declared.leading.Lead.TheVariants.{Unknown}
use Rattle.tc_query.specs.declared.known.KnownRecord.{KnownRecord}
use Rattle.tc_query.specs.declared.reader.Reader.{Reader}
use Rattle.tc_record.specs.Borrowed.{numbered_tokens}
use Rattle.tc_record.specs.Preorder.{Token}
use Rattle.tc_record.specs.Record.{NumberedTree}
use Rattle.tc_record.specs.Walk.{Key}
use Rattle.tc_request_model.specs.Request.{Hop}

-- ---- where a path leads

abbrev pub hops_in : Option (Vec ℕ Global) → Option (List ℕ)
hops_in hops = option_map (λ ks. ks.items) hops

-- the hops, if there are any, are those of a path
abbrev pub AreHopsIf : List Name → List Hop → Option (List ℕ) → Type 0
AreHopsIf names path hops = IfSome hops (AreHops names path)

-- where hops lead in a tree; of no hops that is unknown
abbrev pub LeadsTo : Option (List ℕ) → NumberedTree → Lead → Type 0
LeadsTo None n lead = lead ≡ Unknown
LeadsTo (Some hops) n lead = lead ≡ lead_from hops (kinds_in n) 0 0

-- and in a record of these tokens
abbrev pub IsLeadIf : Option (List ℕ) → List (Token Key Scalar) → Lead → Type 0
IsLeadIf hops ts lead = (n : NumberedTree) → ts ≡ numbered_tokens n → LeadsTo hops n lead

-- where a path leads there under a dictionary, if that is known
abbrev pub IsLeadUnder : List Name → List Hop → List (Token Key Scalar) → Lead → Type 0
IsLeadUnder names path ts lead = (lead ≡ Unknown) ⊎ ((hops : List ℕ) × AreHops names path hops × IsLead hops ts lead)

-- ---- what is known of the records of a component

-- the bytes are a record that is known to spell a document under these names, and in it hops lead there
pub record IsKnownWith (names : List Name) (hops : Option (List ℕ)) (bytes : List ℕ) (lead : Lead) : Type 0 where
  pub under : IsKnownUnder names bytes
  pub leads : LeadsTo hops under.tree lead

-- or none is known
abbrev pub IsKnownOrNone : List Name → Option (List ℕ) → KnownRecord → Type 0
IsKnownOrNone names hops known = (known.bytes.items ≡ []) ⊎ IsKnownWith names hops known.bytes.items known.lead

abbrev pub KnowsUnder : List Name → Option (List ℕ) → List KnownRecord → Type 0
KnowsUnder names hops known = All (IsKnownOrNone names hops) known

-- ---- readers

abbrev pub reads_nothing : Option (Vec ℕ Global) → Reader
reads_nothing hops = record { cursor = holds_nothing; known = []; hops = hops }

-- it holds bytes of the file of a component, if that tells, and knows records under its names, and where a path leads in them
pub record IsReaderOf {F : Type 0} (told : F → Option (List ℕ)) (path : List Hop) (component : ComponentState F) (reader : Reader) : Type 0 where
  pub holds : HoldsPart (told component.file) reader.cursor
  pub hops : AreHopsIf component.index.names path (hops_in reader.hops)
  pub knows : KnowsUnder component.index.names (hops_in reader.hops) reader.known

-- so each, of its component
pub record AreReaders {F : Type 0} (told : F → Option (List ℕ)) (path : List Hop) (components : List (ComponentState F)) (readers : List Reader) : Type 0 where
  pub many : length readers ≡ length components
  pub each : (n : ℕ) (c : ComponentState F) (k : Reader) → slice_get components n ≡ Some c → slice_get readers n ≡ Some k → IsReaderOf told path c k
