-- What lists of contents are, one behind the other.
use Rattle.std.proofs.Common.{◌≡◌, ◌≤◌, ℕ, List, [], ◌∷◌, ◌++◌, refl, sym, ap, ◌∙◌, arith}
use Rattle.tc_model.specs.Document.{Name}
use Rattle.tc_model.specs.Keyed.{Ascends}
use Rattle.tc_model.proofs.KeyedOrder.{sorted_nil}
use Rattle.tc_schema_model.specs.Counted.{Counted}
use Rattle.tc_plain_model.specs.Writes.{Pairs, Write, after_writes}
use Rattle.tc_plain_model.proofs.WriteLaws.{after_writes-append}
use Rattle.tc_plain_model.proofs.WriteLookups.{Ascends-after_writes}
use Rattle.tc_lsm_model.specs.Contents.{Partition, Content}
use Rattle.tc_lsm_model.specs.Lists.{held_over, live, newest_names, newest_schema, last_after, GoOn}
use Rattle.tc_lsm_model.specs.Merges.{entries_of}

-- ---- lists one behind the other

pub held_over-append : (p : Pairs) (xs ys : List Content) → held_over p (xs ++ ys) ≡ held_over (held_over p xs) ys
held_over-append p [] ys = refl
held_over-append p (c ∷ xs) ys = held_over-append (after_writes p c.entries) xs ys

pub last_after-append : (g : ℕ) (xs ys : List Content) → last_after g (xs ++ ys) ≡ last_after (last_after g xs) ys
last_after-append g [] ys = refl
last_after-append g (c ∷ xs) ys = last_after-append c.to xs ys

pub newest_names-append : (ns : List Name) (xs ys : List Content) → newest_names ns (xs ++ ys) ≡ newest_names (newest_names ns xs) ys
newest_names-append ns [] ys = refl
newest_names-append ns (c ∷ xs) ys = newest_names-append c.names xs ys

pub newest_schema-append : (d : Counted) (xs ys : List Content) → newest_schema d (xs ++ ys) ≡ newest_schema (newest_schema d xs) ys
newest_schema-append d [] ys = refl
newest_schema-append d (c ∷ xs) ys = newest_schema-append c.schema xs ys

pub GoOn-append : (part : Partition) (g : ℕ) (p : Pairs) (ns : List Name) (xs ys : List Content) → GoOn part g p ns xs → GoOn part (last_after g xs) (held_over p xs) (newest_names ns xs) ys → GoOn part g p ns (xs ++ ys)
GoOn-append part g p ns [] ys front back = back
GoOn-append part g p ns (c ∷ xs) ys front back = (front.0, GoOn-append part c.to (after_writes p c.entries) c.names xs ys front.1 back)

pub GoOn-front : (part : Partition) (g : ℕ) (p : Pairs) (ns : List Name) (xs ys : List Content) → GoOn part g p ns (xs ++ ys) → GoOn part g p ns xs
GoOn-front part g p ns [] ys all = tt
GoOn-front part g p ns (c ∷ xs) ys all = (all.0, GoOn-front part c.to (after_writes p c.entries) c.names xs ys all.1)

pub GoOn-back : (part : Partition) (g : ℕ) (p : Pairs) (ns : List Name) (xs ys : List Content) → GoOn part g p ns (xs ++ ys) → GoOn part (last_after g xs) (held_over p xs) (newest_names ns xs) ys
GoOn-back part g p ns [] ys all = all
GoOn-back part g p ns (c ∷ xs) ys all = GoOn-back part c.to (after_writes p c.entries) c.names xs ys all.1

-- a list begins at the generations that it holds
pub last_after-grows : (part : Partition) (g : ℕ) (p : Pairs) (ns : List Name) (xs : List Content) → GoOn part g p ns xs → g ≤ last_after g xs
last_after-grows part g p ns [] all = omega arith
last_after-grows part g p ns (c ∷ xs) all = omega (arith, all.0.next, all.0.content.order, last_after-grows part c.to (after_writes p c.entries) c.names xs all.1)

pub nothing_before : (part : Partition) (p : Pairs) (ns : List Name) (xs : List Content) → GoOn part 0 p ns xs → last_after 0 xs ≡ 0 → held_over p xs ≡ p
nothing_before part p ns [] all none = refl
nothing_before part p ns (c ∷ xs) all none =
    absurd (omega (arith, all.0.content.first, all.0.content.order, none, last_after-grows part c.to (after_writes p c.entries) c.names xs all.1))

-- what a list holds is what its entries leave, one after the other
pub held_over-entries : (p : Pairs) (cs : List Content) → held_over p cs ≡ after_writes p (entries_of cs)
held_over-entries p [] = refl
held_over-entries p (c ∷ cs) = held_over-entries (after_writes p c.entries) cs ∙ sym (after_writes-append p c.entries (entries_of cs))

pub Ascends-held_over : (p : Pairs) (cs : List Content) → Ascends p → Ascends (held_over p cs)
Ascends-held_over p [] up = up
Ascends-held_over p (c ∷ cs) up = Ascends-held_over (after_writes p c.entries) cs (Ascends-after_writes p c.entries up)

pub Ascends-live : (cs : List Content) → Ascends (live cs)
Ascends-live cs = Ascends-held_over [] cs sorted_nil

-- ---- contents with the same parts

abbrev content : Partition → ℕ → ℕ → List Write → List Name → Counted → Content
content part from to entries names schema = record { part = part; from = from; to = to; entries = entries; names = names; schema = schema }

pub one_content : (c d : Content) → c.part ≡ d.part → c.from ≡ d.from → c.to ≡ d.to → c.entries ≡ d.entries → c.names ≡ d.names → c.schema ≡ d.schema → c ≡ d
one_content c d part from to entries names schema =
    ap (λ x. content x c.from c.to c.entries c.names c.schema) part
    ∙ ap (λ x. content d.part x c.to c.entries c.names c.schema) from
    ∙ ap (λ x. content d.part d.from x c.entries c.names c.schema) to
    ∙ ap (λ x. content d.part d.from d.to x c.names c.schema) entries
    ∙ ap (λ x. content d.part d.from d.to d.entries x c.schema) names
    ∙ ap (λ x. content d.part d.from d.to d.entries d.names x) schema
