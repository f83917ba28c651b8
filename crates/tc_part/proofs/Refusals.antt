-- Why an upsert is refused, by its new names and by the room that there is.
use Rattle.std.proofs.Common.{◌≡◌, ◌∙◌, ◌+◌, ◌<◌, ℕ, Bool, true, false, List, [], ◌∷◌, ◌++◌, Some, None, length, length-append, append-nil, refl, sym, ap, arith, nat_lt, Option}
use Rattle.std.specs.Prelude.{◌&&◌, not, nat_le, option_map, ◌^◌, if◌then◌else◌}
use Rattle.std.proofs.lemmas.Bool.Decides.{nat_tests}
use Rattle.tc_model.specs.Document.{Name, Document}
use Rattle.tc_plain_model.specs.Room.{Limits, lacks_names, lacks_room}
use Rattle.tc_plain_model.specs.Store.{Store, names_with}
use Rattle.tc_request_model.specs.Request.{names_full, full}
use Rattle.tc_request_model.specs.Part.{upsert_refusal}
use Rattle.tc_part.specs.declared.staging.Staged.{Staged}
use Rattle.tc_part.specs.declared.staging.Staged.TheVariants.{NamesFull, Full}
use Rattle.tc_part.specs.Stages.{refusal_by, refused_as}

more : (a f : ℕ) → nat_lt a (a + f) ≡ nat_lt 0 f
more a f = grind (arith, nat_tests)

-- how many names there are then, and which where none is new
pub counted : (taken fresh : List Name) (d : Document) → taken ++ fresh ≡ names_with d taken → length (names_with d taken) ≡ length taken + length fresh
counted taken fresh d is = sym (ap length is) ∙ length-append taken fresh

pub none_new : (taken fresh : List Name) (d : Document) → taken ++ fresh ≡ names_with d taken → length fresh ≡ 0 → names_with d taken ≡ taken
none_new taken [] d is none = sym is ∙ append-nil taken
none_new taken (name ∷ fresh) d is none = absurd (omega (arith, none))

pub no_new : (n : ℕ) → nat_lt 0 n ≡ false → n ≡ 0
no_new n is = grind (arith, nat_tests)

-- the test of the names
pub names_test : (limits : Limits) (taken : List Name) (d : Document) (n : ℕ) (test : Bool) → length (names_with d taken) ≡ length taken + n → test ≡ (nat_lt 0 n && nat_lt limits.names (length taken + n))
    → lacks_names limits d taken ≡ test
names_test limits taken d n test is tested = rw (is, more (length taken) n) (sym tested)

pub of_names : (limits : Limits) (taken : List Name) (d : Document) (was_live : Bool) (live : ℕ) → lacks_names limits d taken ≡ true → Some NamesFull ≡ option_map refused_as (refusal_by limits d taken was_live live)
of_names limits taken d was_live live is = rw is refl

pub of_room : (limits : Limits) (taken : List Name) (d : Document) (was_live : Bool) (live : ℕ) → lacks_names limits d taken ≡ false → (not was_live && nat_le limits.docs live) ≡ true
    → Some Full ≡ option_map refused_as (refusal_by limits d taken was_live live)
of_room limits taken d was_live live is no_room = rw (is, no_room) refl

pub of_none : (limits : Limits) (taken : List Name) (d : Document) (was_live : Bool) (live : ℕ) → lacks_names limits d taken ≡ false → (not was_live && nat_le limits.docs live) ≡ false
    → None ≡ option_map refused_as (refusal_by limits d taken was_live live)
of_none limits taken d was_live live is room = rw (is, room) refl

-- the refusal of an upsert in a store, by whether its key has a document and by how many are live
pub upsert_refused : (limits : Limits) (key : ℕ) (d : Document) (s : Store) (here was_live : Bool) (live : ℕ) (refused : Option Staged)
    → refused ≡ option_map refused_as (refusal_by limits d s.taken was_live live) → was_live ≡ here → lacks_room limits key s ≡ (not here && nat_le limits.docs live)
    → refused ≡ option_map refused_as (upsert_refusal limits key d s)
upsert_refused limits key d s here was_live live refused exact was room =
    exact
    ∙ ap (λ b. option_map refused_as (refusal_by limits d s.taken b live)) was
    ∙ ap (λ lacks. option_map refused_as (if lacks_names limits d s.taken then Some names_full else (if lacks then Some full else None))) (sym room)

-- where the names are not refused, there is room for them
pub names_fit : (a n l : ℕ) → (nat_lt 0 n && nat_lt l (a + n)) ≡ false → a < 2 ^ 32 → l < 2 ^ 32 → a + n < 2 ^ 32
names_fit a n l is few most = grind (arith, nat_tests)
