-- Replies of partitions to their shares, put together, are one for each request of the window, at its place and of its kind.
use Rattle.std.proofs.Common.{◌≡◌, ◌∙◌, ap, sym, subst, refl, inl, inr, ℕ, zero, suc, ◌+◌, ◌<◌, Bool, true, false, List, [], ◌∷◌, ◌++◌, length, arith}
use Rattle.std.specs.Prelude.{◌%◌, ◌==◌, All, Option, cond, fold}
use Rattle.std.proofs.lemmas.Bool.Decides.{nat_tests}
use Rattle.std.proofs.lemmas.Nat.{mod_below}
use Rattle.std.proofs.lemmas.List.Elements.{All-nil, All-cons, All-head, All-tail}
use Rattle.std.proofs.lemmas.List.Sums.{fold-append}
use Rattle.tc_model.specs.Document.{Document}
use Rattle.tc_model.specs.Keyed.{Keyed, Ascends}
use Rattle.tc_request_model.specs.Request.{Request, Refusal, upsert, delete, get, query, flush, schema, scan, collect, refused, names_full, full}
use Rattle.tc_request_model.specs.Reply.{Reply, Row, upserted, deleted, got, rows, flushed, schemas, started, collected, turned_down}
use Rattle.tc_run_model.specs.Kinds.{IsOfKind}
use Rattle.tc_run_model.proofs.UnitedPairs.{behind_first, rest_ascends, AreBehind}
use Rattle.tc_route.specs.Answers.{AreAnswers, AreKindsGathered, AreOfShares, IsForParts}
use Rattle.tc_route.specs.Gathered.{gathered, in_order, joined, with_reply}
use Rattle.tc_route.specs.Shares.{is_for, share}
use Rattle.tc_route.proofs.Fronts.{fold-behind, with_reply-front, with_reply-same, AreBehind-fold}
use Rattle.tc_route.proofs.Homes.{all_of, AreBehind-share}

-- the places of answers are those of their requests
behind_answers : (at : ℕ) (rs : Keyed Request) (replies : Keyed Reply) → AreBehind at rs → AreAnswers rs replies → AreBehind at replies
behind_answers at [] [] behind are = All-nil (λ e. at < e.0)
behind_answers at [] (a ∷ replies) behind are = absurd are
behind_answers at (r ∷ rs) [] behind are = absurd are
behind_answers at (r ∷ rs) (a ∷ replies) behind are =
    All-cons (λ e. at < e.0) a replies (subst (λ n. at < n) (sym are.0) (All-head (λ e. at < e.0) r rs behind)) (behind_answers at rs replies (All-tail (λ e. at < e.0) r rs behind) are.2)

-- ---- two replies to one request

-- what is no list of rows stays beside another one
joined_other : (a b : Reply) → ((rs : List Row) → a ≡ rows rs → ⊥) → joined a b ≡ a
joined_other (rows rs) b apart = absurd (apart rs refl)
joined_other (upserted n replaced) b apart = refl
joined_other (deleted n found) b apart = refl
joined_other (got n d) b apart = refl
joined_other flushed b apart = refl
joined_other (schemas texts) b apart = refl
joined_other started b apart = refl
joined_other (collected rs upto) b apart = refl
joined_other (turned_down why) b apart = refl

not_upserted : (n : ℕ) (replaced : Bool) (rs : List Row) → upserted n replaced ≡ rows rs → ⊥
not_upserted n replaced rs is = absurd (cc)

not_turned_down : (why : Refusal) (rs : List Row) → turned_down why ≡ rows rs → ⊥
not_turned_down why rs is = absurd (cc)

not_deleted : (n : ℕ) (found : Bool) (rs : List Row) → deleted n found ≡ rows rs → ⊥
not_deleted n found rs is = absurd (cc)

not_got : (n : ℕ) (d : Option Document) (rs : List Row) → got n d ≡ rows rs → ⊥
not_got n d rs is = absurd (cc)

no_rows : (n : ℕ) (d : Document) (a : Reply) → IsOfKind (upsert n d) a → (rs : List Row) → a ≡ rows rs → ⊥
no_rows n d a (inl x) rs is = not_upserted n x.0 rs (sym x.1 ∙ is)
no_rows n d a (inr (inl x)) rs is = not_turned_down names_full rs (sym x ∙ is)
no_rows n d a (inr (inr x)) rs is = not_turned_down full rs (sym x ∙ is)

joined_kind : (r : Request) (a b : Reply) → IsForParts r → IsOfKind r a → IsOfKind r b → IsOfKind r (joined a b)
joined_kind (upsert n d) a b parts of_a of_b = subst (IsOfKind (upsert n d)) (sym (joined_other a b (no_rows n d a of_a))) of_a
joined_kind (delete n) a b parts of_a of_b = subst (IsOfKind (delete n)) (sym (joined_other a b (λ rs is. not_deleted n of_a.0 rs (sym of_a.1 ∙ is)))) of_a
joined_kind (get n) a b parts of_a of_b = subst (IsOfKind (get n)) (sym (joined_other a b (λ rs is. not_got n of_a.0 rs (sym of_a.1 ∙ is)))) of_a
joined_kind (query ask) a b parts of_a of_b = (in_order (of_a.0 ++ of_b.0), ap (λ x. joined x b) of_a.1 ∙ ap (joined (rows of_a.0)) of_b.1)
joined_kind flush a b parts of_a of_b = absurd parts
joined_kind schema a b parts of_a of_b = absurd parts
joined_kind (scan ask) a b parts of_a of_b = absurd parts
joined_kind collect a b parts of_a of_b = absurd parts
joined_kind (refused why) a b parts of_a of_b = absurd parts

-- ---- the first request

-- the replies put together begin with one to the first request, and go on with those to the rest
record IsFronted (count p : ℕ) (r : ℕ × Request) (rs : Keyed Request) (parts : List (Keyed Reply)) (acc all : Keyed Reply) : Type 0 where
  pub reply : Reply
  pub of_kind : IsOfKind r.1 reply
  pub rest : List (Keyed Reply)
  pub many : length rest ≡ length parts
  pub are : AreOfShares count p rs rest
  pub all_is : all ≡ (r.0, reply) ∷ fold with_reply acc (all_of rest)

-- the first reply stands there, and the part of this number goes on with these
go_on : (at : ℕ) (a : Reply) (acc replies : Keyed Reply) (parts : List (Keyed Reply)) → AreBehind at replies
    → fold with_reply ((at, a) ∷ acc) (replies ++ all_of parts) ≡ fold with_reply ((at, a) ∷ fold with_reply acc replies) (all_of parts)
go_on at a acc replies parts behind =
    fold-append with_reply ((at, a) ∷ acc) replies (all_of parts) ∙ ap (λ s. fold with_reply s (all_of parts)) (fold-behind joined at a acc replies behind)

-- one part more in front of those that go on
put_front : (count p : ℕ) (r : ℕ × Request) (rs : Keyed Request) (replies mine : Keyed Reply) (parts : List (Keyed Reply)) (acc all : Keyed Reply) → AreAnswers (share count p rs) mine
    → IsFronted count (suc p) r rs parts (fold with_reply acc mine) all → IsFronted count p r rs (replies ∷ parts) acc all
put_front count p r rs replies mine parts acc all are f = record {
  reply = f.reply;
  of_kind = f.of_kind;
  rest = mine ∷ f.rest;
  many = ap suc f.many;
  are = (are, f.are);
  all_is = f.all_is ∙ ap (λ more. (r.0, f.reply) ∷ more) (sym (fold-append with_reply acc mine (all_of f.rest)));
}

-- a reply to the first request stands there already
found : (count p : ℕ) (r : ℕ × Request) (rs : Keyed Request) (parts : List (Keyed Reply)) (a : Reply) (acc : Keyed Reply) → IsForParts r.1 → IsOfKind r.1 a → AreBehind r.0 rs
    → AreOfShares count p (r ∷ rs) parts → IsFronted count p r rs parts acc (fold with_reply ((r.0, a) ∷ acc) (all_of parts))
found count p r rs [] a acc for_parts of_kind behind are = record { reply = a; of_kind = of_kind; rest = []; many = refl; are = tt; all_is = refl }
found count p r rs (replies ∷ parts) a acc for_parts of_kind behind are =
    step (is_for count p r.1) replies are.0 (λ b more of_b. found count (suc p) r rs parts b more for_parts of_b behind are.1)
  where
    step : (b : Bool) (replies : Keyed Reply) → AreAnswers (cond b (r ∷ share count p rs) (share count p rs)) replies
        → ((b : Reply) (more : Keyed Reply) → IsOfKind r.1 b → IsFronted count (suc p) r rs parts more (fold with_reply ((r.0, b) ∷ more) (all_of parts)))
        → IsFronted count p r rs (replies ∷ parts) acc (fold with_reply ((r.0, a) ∷ acc) (replies ++ all_of parts))
    step true [] mine next = absurd mine
    step true ((at, b) ∷ replies) mine next =
        let later : AreBehind r.0 replies = behind_answers r.0 (share count p rs) replies (AreBehind-share count p r.0 rs behind) mine.2 in
        let same : fold with_reply ((r.0, a) ∷ acc) (((at, b) ∷ replies) ++ all_of parts) ≡ fold with_reply ((r.0, joined a b) ∷ fold with_reply acc replies) (all_of parts) =
        ap (λ n. fold with_reply (with_reply ((r.0, a) ∷ acc) (n, b)) (replies ++ all_of parts)) mine.0
        ∙ ap (λ s. fold with_reply s (replies ++ all_of parts)) (with_reply-same joined r.0 a b acc)
        ∙ go_on r.0 (joined a b) acc replies parts later in
        subst (IsFronted count p r rs (((at, b) ∷ replies) ∷ parts) acc) (sym same)
        (put_front count p r rs ((at, b) ∷ replies) replies parts acc (fold with_reply ((r.0, joined a b) ∷ fold with_reply acc replies) (all_of parts)) mine.2
        (next (joined a b) (fold with_reply acc replies) (joined_kind r.1 a b for_parts of_kind mine.1)))
    step false replies mine next =
        let later : AreBehind r.0 replies = behind_answers r.0 (share count p rs) replies (AreBehind-share count p r.0 rs behind) mine in
        subst (IsFronted count p r rs (replies ∷ parts) acc) (sym (go_on r.0 a acc replies parts later))
        (put_front count p r rs replies replies parts acc (fold with_reply ((r.0, a) ∷ fold with_reply acc replies) (all_of parts)) mine (next a (fold with_reply acc replies) of_kind))

-- the part at hand has a reply to the first request, which none before it had
at_head : (count p : ℕ) (r : ℕ × Request) (rs : Keyed Request) (replies : Keyed Reply) (parts : List (Keyed Reply)) (acc : Keyed Reply) → IsForParts r.1 → AreBehind r.0 rs → AreBehind r.0 acc
    → AreAnswers (r ∷ share count p rs) replies → AreOfShares count (suc p) (r ∷ rs) parts → IsFronted count p r rs (replies ∷ parts) acc (fold with_reply acc (replies ++ all_of parts))
at_head count p r rs [] parts acc for_parts behind acc_behind mine are = absurd mine
at_head count p r rs ((at, b) ∷ replies) parts acc for_parts behind acc_behind mine are =
    let later : AreBehind r.0 replies = behind_answers r.0 (share count p rs) replies (AreBehind-share count p r.0 rs behind) mine.2 in
    let same : fold with_reply acc (((at, b) ∷ replies) ++ all_of parts) ≡ fold with_reply ((r.0, b) ∷ fold with_reply acc replies) (all_of parts) =
    ap (λ n. fold with_reply (with_reply acc (n, b)) (replies ++ all_of parts)) mine.0
    ∙ ap (λ s. fold with_reply s (replies ++ all_of parts)) (with_reply-front joined r.0 b acc acc_behind)
    ∙ go_on r.0 b acc replies parts later in
    subst (IsFronted count p r rs (((at, b) ∷ replies) ∷ parts) acc) (sym same)
    (put_front count p r rs ((at, b) ∷ replies) replies parts acc (fold with_reply ((r.0, b) ∷ fold with_reply acc replies) (all_of parts)) mine.2
    (found count (suc p) r rs parts b (fold with_reply acc replies) for_parts mine.1 behind are))

-- some part from here on has one
fronted : (count p k : ℕ) (r : ℕ × Request) (rs : Keyed Request) (parts : List (Keyed Reply)) (acc : Keyed Reply) → IsForParts r.1 → AreBehind r.0 rs → AreBehind r.0 acc → k < length parts → is_for count (p + k) r.1 ≡ true
    → AreOfShares count p (r ∷ rs) parts → IsFronted count p r rs parts acc (fold with_reply acc (all_of parts))
fronted count p k r rs [] acc for_parts behind acc_behind less here are = absurd (omega (arith, less))
fronted count p zero r rs (replies ∷ parts) acc for_parts behind acc_behind less here are =
    let there : p + 0 ≡ p = omega arith in
    let is : is_for count p r.1 ≡ true = subst (λ n. is_for count n r.1 ≡ true) there here in
    at_head count p r rs replies parts acc for_parts behind acc_behind (subst (λ b. AreAnswers (cond b (r ∷ share count p rs) (share count p rs)) replies) is are.0) are.1
fronted count p (suc k) r rs (replies ∷ parts) acc for_parts behind acc_behind less here are =
    step (is_for count p r.1) are.0 (λ later. fronted count (suc p) k r rs parts (fold with_reply acc replies) for_parts behind (AreBehind-fold joined r.0 acc replies acc_behind later) (omega (arith, less)) further are.1)
  where
    further : is_for count (suc p + k) r.1 ≡ true
    further = let there : p + suc k ≡ suc p + k = omega arith in subst (λ n. is_for count n r.1 ≡ true) there here

    step : (b : Bool) → AreAnswers (cond b (r ∷ share count p rs) (share count p rs)) replies → (AreBehind r.0 replies → IsFronted count (suc p) r rs parts (fold with_reply acc replies) (fold with_reply (fold with_reply acc replies) (all_of parts)))
        → IsFronted count p r rs (replies ∷ parts) acc (fold with_reply acc (replies ++ all_of parts))
    step true mine next = at_head count p r rs replies parts acc for_parts behind acc_behind mine are.1
    step false mine next =
        let later : AreBehind r.0 replies = behind_answers r.0 (share count p rs) replies (AreBehind-share count p r.0 rs behind) mine in
        subst (IsFronted count p r rs (replies ∷ parts) acc) (sym (fold-append with_reply acc replies (all_of parts)))
        (put_front count p r rs replies replies parts acc (fold with_reply (fold with_reply acc replies) (all_of parts)) mine (next later))

-- ---- all of them

-- a part that a request is for
record HasHome (count : ℕ) (r : Request) : Type 0 where
  pub at : ℕ
  pub below : at < count
  pub is : is_for count at r ≡ true

home_of_key : (count n : ℕ) (r : Request) → 0 < count → ((p : ℕ) → is_for count p r ≡ (n % count == p)) → HasHome count r
home_of_key count n r some one =
    let itself : (n % count == n % count) ≡ true = grind (arith, nat_tests) in
    record { at = n % count; below = mod_below n count some; is = one (n % count) ∙ itself }

has_home : (count : ℕ) (r : Request) → 0 < count → IsForParts r → HasHome count r
has_home count (upsert n d) some parts = home_of_key count n (upsert n d) some (λ p. refl)
has_home count (delete n) some parts = home_of_key count n (delete n) some (λ p. refl)
has_home count (get n) some parts = home_of_key count n (get n) some (λ p. refl)
has_home count (query ask) some parts = record { at = 0; below = some; is = refl }
has_home count flush some parts = absurd parts
has_home count schema some parts = absurd parts
has_home count (scan ask) some parts = absurd parts
has_home count collect some parts = absurd parts
has_home count (refused why) some parts = absurd parts

none_left : (count p : ℕ) (parts : List (Keyed Reply)) → AreOfShares count p [] parts → all_of parts ≡ []
none_left count p [] are = refl
none_left count p ([] ∷ parts) are = none_left count (suc p) parts are.1
none_left count p ((a ∷ replies) ∷ parts) are = absurd are.0

kinds_gathered : (count : ℕ) (window : Keyed Request) (parts : List (Keyed Reply)) → 0 < count → length parts ≡ count → Ascends window → All (λ r. IsForParts r.1) window → AreOfShares count 0 window parts → AreAnswers window (gathered parts)
kinds_gathered count [] parts some many ascends for_parts are = subst (λ all. AreAnswers [] (fold with_reply [] all)) (sym (none_left count 0 parts are)) tt
kinds_gathered count (r ∷ rs) parts some many ascends for_parts are =
    let home : HasHome count r.1 = has_home count r.1 some (All-head (λ r. IsForParts r.1) r rs for_parts) in
    let below : home.at < length parts = subst (λ n. home.at < n) (sym many) home.below in
    let there : home.at ≡ 0 + home.at = omega arith in
    let is : is_for count (0 + home.at) r.1 ≡ true = subst (λ n. is_for count n r.1 ≡ true) there home.is in
    let f = fronted count 0 home.at r rs parts [] (All-head (λ r. IsForParts r.1) r rs for_parts) (behind_first r rs ascends) (All-nil (λ e. r.0 < e.0)) below is are in
    subst (AreAnswers (r ∷ rs)) (sym f.all_is) (refl, f.of_kind, kinds_gathered count rs f.rest some (f.many ∙ many) (rest_ascends r rs ascends) (All-tail (λ r. IsForParts r.1) r rs for_parts) f.are)

pub are_kinds_gathered : AreKindsGathered
are_kinds_gathered window parts some ascends for_parts are = kinds_gathered (length parts) window parts some refl ascends for_parts are
