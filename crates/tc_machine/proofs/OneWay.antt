-- A picture opens in one way alone.
use Rattle.std.proofs.Common.{◌≡◌, ◌<◌, ◌≤◌, ◌+◌, ℕ, List, [], ◌∷◌, refl, sym, ap, ◌∙◌, subst, arith, inl, inr, Some, None}
use Rattle.std.specs.Prelude.{All}
use Rattle.std.proofs.lemmas.Option.{same_Some}
use Rattle.std.proofs.lemmas.List.Elements.{All-nil, All-cons, All-head, All-tail, All-weaker}
use Rattle.tc_model.specs.Document.{Name}
use Rattle.tc_plain_model.specs.Writes.{Pairs, Write, after_writes}
use Rattle.tc_lsm_model.specs.Contents.{Content, Partition}
use Rattle.tc_lsm_model.specs.Lists.{Covers, GoOn, last_of}
use Rattle.tc_lsm_model.proofs.Covering.{covered_within}
use Rattle.tc_store.specs.Disk.{Picture, bytes_at}
use Rattle.tc_store.specs.Images.{Image}
use Rattle.tc_component.specs.Rows.{IsComponent}
use Rattle.tc_machine.specs.Components.{LeavesComponent, file_of}
use Rattle.tc_machine.specs.Kept.{IsKept}
use Rattle.tc_machine.specs.Logs.{IsLog, all_writes}
use Rattle.tc_machine.specs.Pictures.{HasLogs, Opens, recovered}
use Rattle.tc_machine.specs.Sound.{IsWithOrWithout}
use Rattle.tc_machine.specs.State.{State, stored_in}
use Rattle.tc_machine.specs.Steps.{Stops}
use Rattle.tc_machine.specs.Writes.{IsStorableWrite}
use Rattle.tc_machine.proofs.ComponentHeads.{component_is_open}
use Rattle.tc_machine.proofs.KeptWrites.{logs_mean_one}
use Rattle.tc_machine.proofs.LogHeads.{log_is_open}
use Rattle.tc_machine.proofs.Options.{All-back, All-front}
use Rattle.tc_machine.proofs.PictureLaws.{picture_recovers}

abbrev CoversEach : List Content → List Content → Type 0
CoversEach cs ds = All (λ d. Covers cs d.from d.to) ds

-- each content of a list begins behind the generation at which the list begins
list_above : (part : Partition) (g : ℕ) (p : Pairs) (ns : List Name) (cs : List Content) → GoOn part g p ns cs → All (λ c. (g < c.from) × (c.from ≤ c.to)) cs
list_above part g p ns [] all = All-nil (λ c. (g < c.from) × (c.from ≤ c.to))
list_above part g p ns (c ∷ cs) all =
    All-cons (λ c. (g < c.from) × (c.from ≤ c.to)) c cs (omega (arith, all.0.next), all.0.content.order)
    (All-weaker (λ x. (c.to < x.from) × (x.from ≤ x.to)) (λ x. (g < x.from) × (x.from ≤ x.to)) (λ x h. (omega (arith, h.0, all.0.next, all.0.content.order), h.1)) cs (list_above part c.to (after_writes p c.entries) c.names cs all.1))

-- what the first content ends does not cover what begins behind it
covers_rest : (c : Content) (cs ds : List Content) → All (λ d. (c.to < d.from) × (d.from ≤ d.to)) ds → CoversEach (c ∷ cs) ds → CoversEach cs ds
covers_rest c cs [] above each = All-nil (λ d. Covers cs d.from d.to)
covers_rest c cs (d ∷ ds) above each =
    All-cons (λ d. Covers cs d.from d.to) d ds (at (All-head (λ d. Covers (c ∷ cs) d.from d.to) d ds each)) (covers_rest c cs ds (All-tail (λ d. (c.to < d.from) × (d.from ≤ d.to)) d ds above) (All-tail (λ d. Covers (c ∷ cs) d.from d.to) d ds each))
  where
    here : (c.to < d.from) × (d.from ≤ d.to)
    here = All-head (λ d. (c.to < d.from) × (d.from ≤ d.to)) d ds above

    at : Covers (c ∷ cs) d.from d.to → Covers cs d.from d.to
    at (inl inside) = absurd (omega (arith, inside.1, here.0, here.1))
    at (inr further) = further

-- the first of one list ends no later than the first of the other
ends : (part : Partition) (p : Pairs) (ns : List Name) (c d : Content) (cs : List Content) → GoOn part c.to p ns cs → c.from ≤ c.to → c.from ≡ d.from → Covers (c ∷ cs) d.from d.to → d.to ≤ c.to
ends part p ns c d cs all order same (inl inside) = inside.1
ends part p ns c d cs all order same (inr further) = absurd (omega (arith, order, same, (covered_within part c.to p ns cs d.from d.to all further).0))

-- bytes are the component of one content
abbrev pub ComponentsApart : Type 0
ComponentsApart = (c d : Content) (bytes : List ℕ) → IsComponent c bytes → IsComponent d bytes → c ≡ d

name_is : (c d : Content) → c.from ≡ d.from → c.to ≡ d.to → file_of c ≡ file_of d
name_is c d e f = cc

-- what is there in a picture
abbrev IsIn : Picture → Content → Type 0
IsIn picture c = LeavesComponent c (bytes_at picture (file_of c))

pub component_at : (c : Content) (o : Image) → LeavesComponent c o → (b : List ℕ) × (o ≡ Some b) × IsComponent c b
component_at c None there = absurd there
component_at c (Some b) there = (b, refl, there)

same_content : ComponentsApart → (picture : Picture) (c d : Content) → c.from ≡ d.from → c.to ≡ d.to → IsIn picture c → IsIn picture d → c ≡ d
same_content apart picture c d from to one two =
    let here = component_at c (bytes_at picture (file_of c)) one in
    let there = component_at d (bytes_at picture (file_of d)) two in
    let bytes : here.0 ≡ there.0 = same_Some here.0 there.0 (sym here.1 ∙ ap (bytes_at picture) (name_is c d from to) ∙ there.1) in
    apart c d there.0 (subst (λ b. IsComponent c b) bytes here.2) there.2

lists_same : ComponentsApart → (picture : Picture) (part : Partition) (g : ℕ) (p q : Pairs) (ns ms : List Name) (cs ds : List Content) → GoOn part g p ns cs → GoOn part g q ms ds
    → All (IsIn picture) cs → All (IsIn picture) ds → CoversEach cs ds → CoversEach ds cs → cs ≡ ds
lists_same apart picture part g p q ns ms [] [] one two there_one there_two over_two over_one = refl
lists_same apart picture part g p q ns ms [] (d ∷ ds) one two there_one there_two over_two over_one = absurd (All-head (λ d. Covers [] d.from d.to) d ds over_two)
lists_same apart picture part g p q ns ms (c ∷ cs) [] one two there_one there_two over_two over_one = absurd (All-head (λ d. Covers [] d.from d.to) c cs over_one)
lists_same apart picture part g p q ns ms (c ∷ cs) (d ∷ ds) one two there_one there_two over_two over_one =
    let from : c.from ≡ d.from = omega (arith, one.0.next, two.0.next) in
    let up : d.to ≤ c.to = ends part (after_writes p c.entries) c.names c d cs one.1 one.0.content.order from (All-head (λ d. Covers (c ∷ cs) d.from d.to) d ds over_two) in
    let down : c.to ≤ d.to = ends part (after_writes q d.entries) d.names d c ds two.1 two.0.content.order (sym from) (All-head (λ d'. Covers (d ∷ ds) d'.from d'.to) c cs over_one) in
    let to : c.to ≡ d.to = omega (arith, up, down) in
    let same : c ≡ d = same_content apart picture c d from to (All-head (IsIn picture) c cs there_one) (All-head (IsIn picture) d ds there_two) in
    let two' : GoOn part c.to (after_writes q d.entries) d.names ds = subst (λ n. GoOn part n (after_writes q d.entries) d.names ds) (sym to) two.1 in
    let rest : cs ≡ ds = lists_same apart picture part c.to (after_writes p c.entries) (after_writes q d.entries) c.names d.names cs ds one.1 two' (All-tail (IsIn picture) c cs there_one) (All-tail (IsIn picture) d ds there_two)
    (covers_rest c cs ds (list_above part c.to (after_writes q d.entries) d.names ds two') (All-tail (λ d. Covers (c ∷ cs) d.from d.to) d ds over_two))
    (covers_rest d ds cs (subst (λ n. All (λ x. (n < x.from) × (x.from ≤ x.to)) cs) to (list_above part c.to (after_writes p c.entries) c.names cs one.1)) (All-tail (λ d'. Covers (d ∷ ds) d'.from d'.to) c cs over_one)) in
    ap (λ x. x ∷ cs) same ∙ ap (λ l. d ∷ l) rest

logs_same : (picture : Picture) (part : Partition) (g : ℕ) (ls ms : List (List Write)) → All IsStorableWrite (all_writes ls) → All IsStorableWrite (all_writes ms) → HasLogs part picture g ls → HasLogs part picture g ms → ls ≡ ms
logs_same picture part g [] [] ok ok' has has' = refl
logs_same picture part g [] (m ∷ ms) ok ok' has has' = absurd (has g (omega arith) has'.0.0 has'.0.1 (log_is_open part g m has'.0.0 has'.0.2))
logs_same picture part g (l ∷ ls) [] ok ok' has has' = absurd (has' g (omega arith) has.0.0 has.0.1 (log_is_open part g l has.0.0 has.0.2))
logs_same picture part g (l ∷ ls) (m ∷ ms) ok ok' has has' =
    let bytes : has.0.0 ≡ has'.0.0 = same_Some has.0.0 has'.0.0 (sym has.0.1 ∙ has'.0.1) in
    let same : l ≡ m = logs_mean_one part g has'.0.0 l m (All-front IsStorableWrite l (all_writes ls) ok) (All-front IsStorableWrite m (all_writes ms) ok') (subst (λ b. IsLog part g l b) bytes has.0.2) has'.0.2 in
    ap (λ x. x ∷ ls) same ∙ ap (λ x. m ∷ x) (logs_same picture part (g + 1) ls ms (All-back IsStorableWrite l (all_writes ls) ok) (All-back IsStorableWrite m (all_writes ms) ok') has.1 has'.1)

covered_by : (part : Partition) (picture : Picture) (cs : List Content) (ls : List (List Write)) (ds : List Content) → Opens part picture cs ls → All (IsIn picture) ds → CoversEach cs ds
covered_by part picture cs ls ds o there =
    All-weaker (IsIn picture) (λ d. Covers cs d.from d.to)
    (λ d is. let b = component_at d (bytes_at picture (file_of d)) is in (o.components d.from d.to b.0 b.1 (component_is_open d b.0 b.2)).1) ds there

pub opens_one : ComponentsApart → (part : Partition) (picture : Picture) (cs ds : List Content) (ls ms : List (List Write)) → Opens part picture cs ls → Opens part picture ds ms → (cs ≡ ds) × (ls ≡ ms)
opens_one apart part picture cs ds ls ms o o' =
    let lists : cs ≡ ds = lists_same apart picture part 0 [] [] [] [] cs ds o.list o'.list o.there o'.there (covered_by part picture cs ls ds o o'.there) (covered_by part picture ds ms cs o' o.there) in
    (lists, logs_same picture part (last_of cs + 1) ls ms o.writes o'.writes o.logs_there (subst (λ l. HasLogs part picture (last_of l + 1) ms) (sym lists) o'.logs_there))

-- however a picture that a stop left is opened, what it gives is what was stored, with the frame or without
pub stop_recovers : ComponentsApart → (part : Partition) (s : State) (picture : Picture) (cs : List Content) (ls : List (List Write)) → IsKept part s → Stops part s picture cs ls
    → IsWithOrWithout (stored_in s) s.frame (recovered cs ls).pairs
stop_recovers apart part s picture cs ls k stop =
    let r = picture_recovers part s k picture stop.left in
    let same = opens_one apart part picture r.lawful.contents cs r.lawful.logs ls r.lawful.opens stop.opens in
    subst (λ store. IsWithOrWithout (stored_in s) s.frame store) (ap (λ x. (recovered x r.lawful.logs).pairs) same.0 ∙ ap (λ x. (recovered cs x).pairs) same.1) r.holds
