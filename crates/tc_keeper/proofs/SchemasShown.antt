-- The texts of schemas, one of each engine, are those of the world at which the engines stand.
use Rattle.std.proofs.Common.{◌≡◌, ◌∙◌, ◌≤◌, ◌<◌, ◌+◌, ℕ, zero, suc, List, [], ◌∷◌, ◌++◌, length, map, take, arith, refl, ap, ap₂, subst}
use Rattle.std.specs.Prelude.{slice_index_or, All, Option, None, Result, Ok, Err, IfOk}
use Rattle.std.specs.declared.alloc.Global.{Global}
use Rattle.std.specs.declared.vec.Vec.{Vec}
use Rattle.std.proofs.lemmas.List.{take_all}
use Rattle.std.proofs.lemmas.List.Elements.{All-head, All-tail}
use Rattle.serde_json.specs.Written.{compact_text}
use Rattle.tc_log.specs.Layout.{empty_size}
use Rattle.tc_model.specs.Keyed.{values_in}
use Rattle.tc_part.specs.Openings.{newest_in}
use Rattle.tc_part_model.specs.Newest.{names_by, schema_by}
use Rattle.tc_part_model.specs.PartState.{PartState, Told}
use Rattle.tc_plain_model.specs.Store.{documents}
use Rattle.tc_plain_model.specs.Writes.{Pairs}
use Rattle.tc_run_model.specs.World.{Part, World}
use Rattle.tc_running.specs.Jobs.{JobsState}
use Rattle.tc_schema_model.specs.SchemaText.{schema_text, tree_text}
use Rattle.tc_schema_model.specs.SchemaTree.{schema_tree}
use Rattle.tc_work.specs.EngineState.{EngineState}
use Rattle.tc_work.specs.Moving.{told_part, Eyes}
use Rattle.tc_keeper.specs.Places.{AtEach}
use Rattle.tc_keeper.specs.SchemaTexts.{AreJsonTexts, IsSchemaText}
use Rattle.tc_keeper.specs.Standing.{partition_at, HoldsOwn, HoldWorld}
use Rattle.tc_keeper.specs.WithJobs.{told_of, with_jobs, WithJobs}
use Rattle.tc_keeper.proofs.EnginesHeld.{committed}
use Rattle.tc_keeper.proofs.JobsBeside.{at_each-with_jobs}
use Rattle.tc_keeper.proofs.PlaceLaws.{at_each-reads, at_each-turned}

-- ---- of those before a place

behind_those : {X Y : Type 0} (R : ℕ → X → Y → Type 0) (p k : ℕ) (xs : List X) (ys : List Y) (x : X) (y : Y) → k < length xs → x ≡ slice_index_or xs k x → R (p + k) x y → AtEach R p (take k xs) ys → AtEach R p (take (suc k) xs) (ys ++ y ∷ [])
behind_those R p k [] ys x y below is one all = absurd (omega (arith, below))
behind_those R p zero (z ∷ xs) (v ∷ ys) x y below is one all = absurd all
behind_those R p zero (z ∷ xs) [] x y below is one all =
    let here : p + zero ≡ p = omega arith in
    (subst (λ i. R i z y) here (subst (λ u. R (p + zero) u y) is one), tt)
behind_those R p (suc k) (z ∷ xs) [] x y below is one all = absurd all
behind_those R p (suc k) (z ∷ xs) (v ∷ ys) x y below is one all =
    let there : p + suc k ≡ suc p + k = omega arith in
    (all.0, behind_those R (suc p) k xs ys x y (omega (arith, below)) is (subst (λ i. R i x y) there one) all.1)

pub one_more : {X Y : Type 0} (R : ℕ → X → Y → Type 0) (k : ℕ) (xs : List X) (ys : List Y) (x : X) (y : Y) → k < length xs → x ≡ slice_index_or xs k x → R k x y → AtEach R 0 (take k xs) ys → AtEach R 0 (take (k + 1) xs) (ys ++ y ∷ [])
one_more R k xs ys x y below is one all =
    let next : suc k ≡ k + 1 = omega arith in
    let here : k ≡ 0 + k = omega arith in
    subst (λ n. AtEach R 0 (take n xs) (ys ++ y ∷ [])) next (behind_those R 0 k xs ys x y below is (subst (λ i. R i x y) here one) all)

pub all_of_them : {X Y : Type 0} (R : ℕ → X → Y → Type 0) (k : ℕ) (xs : List X) (ys : List Y) → length xs ≤ k → AtEach R 0 (take k xs) ys → AtEach R 0 xs ys
all_of_them R k xs ys ends all = subst (λ zs. AtEach R 0 zs ys) (take_all k xs ends) all

-- ---- of a world

texts_of : {S D F W : Type 0} (eyes : Eyes S D F W) (size : D → ℕ) (w : World) (count p : ℕ) (es : List (WithJobs S D F W)) (texts : List (List ℕ)) (parts : List Part)
    → All (λ e. e.engine.part.sealed ≡ None) es → All (λ e. size e.engine.part.log.device ≤ empty_size) es → AtEach (λ p e text. IsSchemaText (told_part eyes) eyes.content size e.engine text) p es texts → AtEach (HoldsOwn eyes None count w) p es parts
    → texts ≡ map (λ part. compact_text (schema_text (documents part.now))) parts
texts_of eyes size w count p [] [] [] none short are hold = refl
texts_of eyes size w count p [] [] (part ∷ parts) none short are hold = absurd hold
texts_of eyes size w count p [] (text ∷ texts) parts none short are hold = absurd are
texts_of eyes size w count p (e ∷ es) [] parts none short are hold = absurd are
texts_of eyes size w count p (e ∷ es) (text ∷ texts) [] none short are hold = absurd hold
texts_of eyes size w count p (e ∷ es) (text ∷ texts) (part ∷ parts) none short are hold =
    let holds = hold.0 tt in
    let first : text ≡ compact_text (schema_text (documents part.now)) =
    are.0.stored holds.view holds.is holds.tells (All-head (λ e. e.engine.part.sealed ≡ None) e es none) (All-head (λ e. size e.engine.part.log.device ≤ empty_size) e es short)
    ∙ ap (λ (pairs : Pairs). compact_text (schema_text (values_in pairs))) (committed (told_of eyes e) e.engine.part.limits (partition_at p count) w part holds) in
    ap₂ (λ x xs. x ∷ xs) first (texts_of eyes size w count (suc p) es texts parts (All-tail (λ e. e.engine.part.sealed ≡ None) e es none) (All-tail (λ e. size e.engine.part.log.device ≤ empty_size) e es short) are.1 hold.1)

-- ---- of JSON values, whatever is known of a world

pub json_texts : {S D F W : Type 0} (tell : PartState S D F W → Told) (content : F → Option (List ℕ)) (size : D → ℕ) (p : ℕ) (es : List (WithJobs S D F W)) (texts : List (List ℕ))
    → AtEach (λ p e text. IsSchemaText tell content size e.engine text) p es texts → AreJsonTexts texts
json_texts tell content size p [] [] are = ([], refl)
json_texts tell content size p [] (text ∷ texts) are = absurd are
json_texts tell content size p (e ∷ es) [] are = absurd are
json_texts tell content size p (e ∷ es) (text ∷ texts) are =
    let more = json_texts tell content size (suc p) es texts are.1 in
    let first = tree_text (names_by (newest_in content e.engine.part.list)) (schema_tree (schema_by (newest_in content e.engine.part.list))) in
    (first ∷ more.0, ap₂ (λ x xs. x ∷ xs) are.0.counts more.1)

-- ---- by what was answered

pub texts_of_seats : {S D F W X E : Type 0} (r : Result (Vec (List ℕ) Global) E) (f : X → EngineState S D F W) (R : EngineState S D F W → List ℕ → Type 0) (seats : List X)
    (jobs : List (JobsState F D W)) (es : List (WithJobs S D F W)) → length (map f seats) ≡ length jobs → with_jobs (map f seats) jobs ≡ es
    → IfOk r (λ texts. AtEach (λ p s text. R (f s) text) 0 seats texts.items) → IfOk r (λ texts. AtEach (λ p e text. R e.engine text) 0 es texts.items)
texts_of_seats (Ok texts) f R seats jobs es many same are =
    subst (λ xs. AtEach (λ p e text. R e.engine text) 0 xs texts.items) same
    (at_each-with_jobs (λ p e text. R e text) 0 (map f seats) jobs texts.items many (at_each-turned (λ p text e. R e text) 0 texts.items (map f seats)
    (at_each-reads f (λ p text e. R e text) 0 texts.items seats (at_each-turned (λ p s text. R (f s) text) 0 seats texts.items are))))
texts_of_seats (Err e) f R seats jobs es many same are = tt

pub texts_of_world : {S D F W E : Type 0} (r : Result (Vec (List ℕ) Global) E) (eyes : Eyes S D F W) (size : D → ℕ) (w : World) (es : List (WithJobs S D F W)) → All (λ e. e.engine.part.sealed ≡ None) es → All (λ e. size e.engine.part.log.device ≤ empty_size) es → HoldWorld eyes None es w
    → IfOk r (λ texts. AtEach (λ p e text. IsSchemaText (told_part eyes) eyes.content size e.engine text) 0 es texts.items) → IfOk r (λ texts. texts.items ≡ map (λ part. compact_text (schema_text (documents part.now))) w.parts)
texts_of_world (Ok texts) eyes size w es none short h are = texts_of eyes size w (length w.parts) 0 es texts.items w.parts none short are h.each
texts_of_world (Err e) eyes size w es none short h are = tt
