-- Which records of a component are known to spell documents, and where a path leads in records that are like them.
use Rattle.std.proofs.Common.{◌≡◌, ◌⊎◌, ◌∙◌, ◌<◌, ℕ, false, List, [], Option, None, Some, length, get_or, set, inl, inr, sym, ap, subst}
use Rattle.std.specs.declared.alloc.Global.{Global}
use Rattle.std.specs.declared.vec.Vec.{Vec}
use Rattle.std.proofs.lemmas.List.Elements.{All-set, All-get_or}
use Rattle.tc_alike.specs.Alike.{AreAlike}
use Rattle.tc_alike.proofs.SameOutlines.{same_outline}
use Rattle.tc_compact.specs.Meant.{IsRecordUnder}
use Rattle.tc_compact.proofs.NumberedTrees.{numbered_tree, tree_numbers}
use Rattle.tc_compact.specs.Slots.{numbers_in}
use Rattle.tc_model.specs.Document.{Name, Document, Scalar}
use Rattle.tc_path.specs.Leads.{kinds_in, lead_from}
use Rattle.tc_path.specs.declared.leading.Lead.{Lead}
use Rattle.tc_query.specs.Readers.{AreHopsIf, LeadsTo, IsLeadIf, IsLeadUnder, IsKnownWith, IsKnownOrNone, KnowsUnder}
use Rattle.tc_query.specs.declared.known.KnownRecord.{KnownRecord}
use Rattle.tc_record.specs.Borrowed.{Record, Spells, numbered_tokens}
use Rattle.tc_record.specs.Preorder.{Token, tokens_of}
use Rattle.tc_record.specs.Record.{tags, NumberedTree, IsNumberedForm, IsNumberedRecordIn}
use Rattle.tc_record.specs.Walk.{Key, number}
use Rattle.tc_record.proofs.Keyed.{preorder-relabel, tags-retoken}
use Rattle.tc_request_model.specs.Request.{Hop}

-- ---- where a path leads

-- trees of the same kinds have the same lead
leads_alike : (hops : Option (List ℕ)) (n m : NumberedTree) (lead : Lead) → kinds_in n ≡ kinds_in m → LeadsTo hops n lead → LeadsTo hops m lead
leads_alike None n m lead same is = is
leads_alike (Some hops) n m lead same is = is ∙ ap (λ k. lead_from hops k 0 0) same

retagged : (n : NumberedTree) → tags (numbered_tokens n) ≡ tags (tokens_of n)
retagged n = ap tags (preorder-relabel number n None) ∙ tags-retoken number (tokens_of n)

-- so have those of the same tokens
pub lead_if : (hops : Option (List ℕ)) (ts : List (Token Key Scalar)) (n : NumberedTree) (lead : Lead) → ts ≡ numbered_tokens n → LeadsTo hops n lead → IsLeadIf hops ts lead
lead_if hops ts n lead same is m other =
    let numbers = sym (tree_numbers n) ∙ ap numbers_in (sym same ∙ other) ∙ tree_numbers m in
    leads_alike hops n m lead (same_outline n m (record { tags_are = sym (retagged n) ∙ ap tags (sym same ∙ other) ∙ retagged m; numbers_are = numbers })) is

-- in a record that is like a known one the path leads to the same place
pub lead_like : (names : List Name) (hops : Option (List ℕ)) (bytes : List ℕ) (lead : Lead) (r : Record) → Spells r → r.named ≡ false
    → ((own form : ℕ) (n m : NumberedTree) → IsNumberedForm own → IsNumberedRecordIn own n r.bytes → IsNumberedRecordIn form m bytes → AreAlike (tokens_of n) (tokens_of m))
    → IsKnownWith names hops bytes lead → IsLeadIf hops r.tokens lead
lead_like names hops bytes lead r spells unnamed alike is =
    let t = numbered_tree r spells unnamed in
    let like = alike r.form is.under.form t.tree is.under.tree t.form t.is is.under.is_record in
    lead_if hops r.tokens t.tree lead t.tokens (leads_alike hops is.under.tree t.tree lead (sym (same_outline t.tree is.under.tree like)) is.leads)

-- the lead of the hops of a path is that of the path
pub lead_under : (names : List Name) (path : List Hop) (hops : Option (List ℕ)) (r : Record) (lead : Lead) → Spells r → r.named ≡ false → AreHopsIf names path hops → IsLeadIf hops r.tokens lead → IsLeadUnder names path r.tokens lead
lead_under names path None r lead spells unnamed are is = let t = numbered_tree r spells unnamed in inl (is t.tree t.tokens)
lead_under names path (Some hops) r lead spells unnamed are is = inr (hops, are, inr is)

-- ---- what is known

-- the same record
pub known_still : (names : List Name) (hops : Option (List ℕ)) (old new : KnownRecord) → new.bytes ≡ old.bytes → new.lead ≡ old.lead → IsKnownOrNone names hops old → IsKnownOrNone names hops new
known_still names hops old new bytes lead (inl none) = inl (ap (λ (v : Vec ℕ Global). v.items) bytes ∙ none)
known_still names hops old new bytes lead (inr is) = inr (subst (IsKnownWith names hops new.bytes.items) (sym lead) (subst (λ (v : Vec ℕ Global). IsKnownWith names hops v.items old.lead) (sym bytes) is))

-- the record that was known, none, or another one that spells a document
pub known_then : (names : List Name) (hops : Option (List ℕ)) (r : Record) (lead : Lead) (old new : KnownRecord) → Spells r → r.named ≡ false → (d : Document) × IsRecordUnder names d r.bytes → IsLeadIf hops r.tokens lead
    → ((new.bytes ≡ old.bytes) × (new.lead ≡ old.lead)) ⊎ ((new.bytes.items ≡ []) ⊎ ((new.bytes.items ≡ r.bytes) × (new.lead ≡ lead)))
    → IsKnownOrNone names hops old → IsKnownOrNone names hops new
known_then names hops r lead old new spells unnamed found is (inl same) knows = known_still names hops old new same.0 same.1 knows
known_then names hops r lead old new spells unnamed found is (inr (inl none)) knows = inl none
known_then names hops r lead old new spells unnamed found is (inr (inr kept)) knows =
    let t = numbered_tree r spells unnamed in
    let bytes = sym kept.0 in
    inr (record {
      under = record { form = r.form; told = t.form; tree = t.tree; is_record = subst (IsNumberedRecordIn r.form t.tree) bytes t.is; document = found.0; under = subst (IsRecordUnder names found.0) bytes found.1 };
      leads = subst (LeadsTo hops t.tree) (sym kept.1) (is t.tree t.tokens);
    })

-- one of several goes on
pub known_set : (names : List Name) (hops : Option (List ℕ)) (known : List KnownRecord) (at : ℕ) (old new : KnownRecord) → at < length known → old ≡ get_or known at old → (IsKnownOrNone names hops old → IsKnownOrNone names hops new)
    → KnowsUnder names hops known → KnowsUnder names hops (set known at new)
known_set names hops known at old new within is step knows =
    All-set (IsKnownOrNone names hops) known at new (step (subst (IsKnownOrNone names hops) (sym is) (All-get_or (IsKnownOrNone names hops) known at old within knows))) knows
