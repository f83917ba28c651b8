-- Laws of lines of which some are refused.
use Rattle.std.proofs.Common.{◌≡◌, ◌∙◌, ◌≤◌, ℕ, ◌+◌, List, [], ◌∷◌, ◌++◌, length, map, refl, ap, arith}
use Rattle.std.specs.Prelude.{Option, Some, None}
use Rattle.std.proofs.lemmas.List.{map-append}
use Rattle.tc_request_model.specs.Request.{Request, upsert, delete, get, query, flush, schema, scan, collect, refused}
use Rattle.tc_request_model.specs.Rendered.{Rendered, rendered}
use Rattle.tc_request_model.specs.Reply.{flushed, reply_line, Reply}
use Rattle.tc_request_model.proofs.RenderedLines.{rendered_is_line}
use Rattle.tc_model.specs.Limits.{max_line}
use Rattle.tc_request_model.specs.Light.{IsLight}
use Rattle.tc_command.specs.Commands.{request_of_command}
use Rattle.tc_command.specs.declared.refusals.Refusal.{Refusal}
use Rattle.tc_command.specs.Replies.{rendered_of}
use Rattle.tc_model.specs.Keyed.{values_in}
use Rattle.tc_route.specs.Meaning.{rendered_in}
use Rattle.tc_route.specs.declared.placed.Placed.{Placed}
use Rattle.tc_route.specs.declared.placed.Routed.{Routed}
use Rattle.tc_run_model.specs.World.{World, after, after_all}
use Rattle.tc_run_model.specs.Replies.{AreReplies}
use Rattle.tc_run_model.specs.Course.{each_line}
use Rattle.tc_run_model.specs.Kinds.{AreOfKinds}
use Rattle.tc_run_model.specs.Known.{MayRender, MayReply}
use Rattle.tc_run_model.specs.Windows.{max_window}
use Rattle.tc_keeper.specs.Sight.{nothing, sees, sight_after, Sight}
use Rattle.tc_keeper.specs.Together.{requests_routed, weight_of, weight_in, AreTogether}
use Rattle.tc_server.specs.Window.{mixed, count_asked, each_rendered, rendered_refused, request_refused, reply_refused, IsSoundWindow}
use Rattle.tc_server.specs.declared.window.Window.{Window}

-- ---- lists

pub length-mixed : {A : Type 0} (f : Refusal → A) (lines : List (Option Refusal)) (xs : List A) → count_asked lines ≡ length xs → length (mixed f lines xs) ≡ length lines
length-mixed f [] xs same = refl
length-mixed f (Some r ∷ lines) xs same = omega (arith, length-mixed f lines xs same)
length-mixed f (None ∷ lines) [] same = absurd (omega (arith, same))
length-mixed f (None ∷ lines) (x ∷ xs) same = omega (arith, length-mixed f lines xs (omega (arith, same)))

-- no more lines are asked than there are
count_asked-le : (lines : List (Option Refusal)) → count_asked lines ≤ length lines
count_asked-le [] = omega arith
count_asked-le (Some r ∷ lines) = omega (arith, count_asked-le lines)
count_asked-le (None ∷ lines) = omega (arith, count_asked-le lines)

pub count_asked-append : (lines more : List (Option Refusal)) → count_asked (lines ++ more) ≡ count_asked lines + count_asked more
count_asked-append [] more = omega arith
count_asked-append (Some r ∷ lines) more = count_asked-append lines more
count_asked-append (None ∷ lines) more = omega (arith, count_asked-append lines more)

pub mixed-refused : {A : Type 0} (f : Refusal → A) (lines : List (Option Refusal)) (xs : List A) (r : Refusal) → count_asked lines ≡ length xs → mixed f (lines ++ Some r ∷ []) xs ≡ mixed f lines xs ++ f r ∷ []
mixed-refused f [] [] r same = refl
mixed-refused f [] (x ∷ xs) r same = absurd (omega (arith, same))
mixed-refused f (Some q ∷ lines) xs r same = ap (λ ys. f q ∷ ys) (mixed-refused f lines xs r same)
mixed-refused f (None ∷ lines) [] r same = absurd (omega (arith, same))
mixed-refused f (None ∷ lines) (x ∷ xs) r same = ap (λ ys. x ∷ ys) (mixed-refused f lines xs r (omega (arith, same)))

pub mixed-asked : {A : Type 0} (f : Refusal → A) (lines : List (Option Refusal)) (xs : List A) (x : A) → count_asked lines ≡ length xs → mixed f (lines ++ None ∷ []) (xs ++ x ∷ []) ≡ mixed f lines xs ++ x ∷ []
mixed-asked f [] [] x same = refl
mixed-asked f [] (y ∷ xs) x same = absurd (omega (arith, same))
mixed-asked f (Some q ∷ lines) xs x same = ap (λ ys. f q ∷ ys) (mixed-asked f lines xs x same)
mixed-asked f (None ∷ lines) [] x same = absurd (omega (arith, same))
mixed-asked f (None ∷ lines) (y ∷ xs) x same = ap (λ ys. y ∷ ys) (mixed-asked f lines xs x (omega (arith, same)))

-- ---- what is left, and what is replied

-- a refused line leaves the world as it is
pub mixed_leaves : (lines : List (Option Refusal)) (rs : List Request) (w : World) → count_asked lines ≡ length rs → after_all (mixed request_refused lines rs) w ≡ after_all rs w
mixed_leaves [] [] w same = refl
mixed_leaves [] (r ∷ rs) w same = absurd (omega (arith, same))
mixed_leaves (Some q ∷ lines) rs w same = mixed_leaves lines rs w same
mixed_leaves (None ∷ lines) [] w same = absurd (omega (arith, same))
mixed_leaves (None ∷ lines) (r ∷ rs) w same = mixed_leaves lines rs (after r w) (omega (arith, same))

pub mixed_known : (lines : List (Option Refusal)) (rs : List Request) (known : Sight) → count_asked lines ≡ length rs → sight_after (mixed request_refused lines rs) known ≡ sight_after rs known
mixed_known lines rs (sees only w) same = ap (sees only) (mixed_leaves lines rs w same)
mixed_known lines rs nothing same = refl

mixed_replies : (lines : List (Option Refusal)) (rs : List Request) (w : World) (xs : List Reply) → count_asked lines ≡ length rs → AreReplies rs w xs → AreReplies (mixed request_refused lines rs) w (mixed reply_refused lines xs)
mixed_replies [] [] w xs same given = tt
mixed_replies [] (r ∷ rs) w xs same given = absurd (omega (arith, same))
mixed_replies (Some q ∷ lines) rs w xs same given = (refl, mixed_replies lines rs w xs same given)
mixed_replies (None ∷ lines) [] w xs same given = absurd (omega (arith, same))
mixed_replies (None ∷ lines) (r ∷ rs) w [] same given = absurd given
mixed_replies (None ∷ lines) (r ∷ rs) w (a ∷ xs) same given = (given.0, mixed_replies lines rs (after r w) xs (omega (arith, same)) given.1)

mixed_kinds : (lines : List (Option Refusal)) (rs : List Request) (xs : List Reply) → count_asked lines ≡ length rs → AreOfKinds rs xs → AreOfKinds (mixed request_refused lines rs) (mixed reply_refused lines xs)
mixed_kinds [] [] xs same given = tt
mixed_kinds [] (r ∷ rs) xs same given = absurd (omega (arith, same))
mixed_kinds (Some q ∷ lines) rs xs same given = (refl, mixed_kinds lines rs xs same given)
mixed_kinds (None ∷ lines) [] xs same given = absurd (omega (arith, same))
mixed_kinds (None ∷ lines) (r ∷ rs) [] same given = absurd given
mixed_kinds (None ∷ lines) (r ∷ rs) (a ∷ xs) same given = (given.0, mixed_kinds lines rs xs (omega (arith, same)) given.1)

pub mixed_given : (lines : List (Option Refusal)) (rs : List Request) (known : Option World) (xs : List Reply) → count_asked lines ≡ length rs → MayReply rs known xs → MayReply (mixed request_refused lines rs) known (mixed reply_refused lines xs)
mixed_given lines rs (Some w) xs same given = mixed_replies lines rs w xs same given
mixed_given lines rs None xs same given = mixed_kinds lines rs xs same given

-- the replies of a list, without their places
pub values_of_replies : (list : List Placed) → values_in (rendered_in list) ≡ map (λ (a : Placed). rendered_of a.reply) list
values_of_replies [] = refl
values_of_replies (a ∷ list) = ap (λ xs. rendered_of a.reply ∷ xs) (values_of_replies list)

-- ---- lines

pub lines_rendered : (replies : List Reply) → each_rendered (map rendered replies) ≡ each_line replies
lines_rendered [] = refl
lines_rendered (a ∷ replies) = ap (λ line. line ++ each_rendered (map rendered replies)) (rendered_is_line a) ∙ ap (λ lines. reply_line a ++ lines) (lines_rendered replies)

mixed_rendered : (lines : List (Option Refusal)) (replies : List Reply) → mixed rendered_refused lines (map rendered replies) ≡ map rendered (mixed reply_refused lines replies)
mixed_rendered [] replies = refl
mixed_rendered (Some r ∷ lines) replies = ap (λ texts. rendered_refused r ∷ texts) (mixed_rendered lines replies)
mixed_rendered (None ∷ lines) [] = mixed_rendered lines []
mixed_rendered (None ∷ lines) (a ∷ replies) = ap (λ texts. rendered a ∷ texts) (mixed_rendered lines replies)

-- the lines of what replies render, mixed, are those of the replies
pub mixed_lines : (lines : List (Option Refusal)) (texts : List Rendered) (replies : List Reply) → texts ≡ map rendered replies → each_rendered (mixed rendered_refused lines texts) ≡ each_line (mixed reply_refused lines replies)
mixed_lines lines texts replies same =
    ap (λ ts. each_rendered (mixed rendered_refused lines ts)) same ∙ ap each_rendered (mixed_rendered lines replies) ∙ lines_rendered (mixed reply_refused lines replies)

-- ---- one reply

pub flush_replied : (known : Option World) → MayReply (flush ∷ []) known (flushed ∷ [])
flush_replied (Some w) = (refl, tt)
flush_replied None = (refl, tt)

pub rendered_one : (r : Request) (known : Option World) (a : Reply) → MayReply (r ∷ []) known (a ∷ []) → MayRender (r ∷ []) known (rendered a ∷ [])
rendered_one r known a given = (a ∷ [], given, refl)

-- ---- weights

pub weight_in-append : (rs ss : List Request) → weight_in (rs ++ ss) ≡ weight_in rs + weight_in ss
weight_in-append [] ss = omega arith
weight_in-append (r ∷ rs) ss = omega (arith, weight_in-append rs ss)

pub light_weight : (limit : ℕ) (r : Request) → IsLight limit r → weight_of r ≤ limit
light_weight limit (upsert n d) light = light
light_weight limit (delete n) light = omega arith
light_weight limit (get n) light = omega arith
light_weight limit (query ask) light = omega arith
light_weight limit flush light = omega arith
light_weight limit schema light = omega arith
light_weight limit (scan ask) light = omega arith
light_weight limit collect light = omega arith
light_weight limit (refused r) light = omega arith

pub lighter : (limit most : ℕ) (r : Request) → limit ≤ most → IsLight limit r → IsLight most r
lighter limit most (upsert n d) up light = omega (arith, up, light)
lighter limit most (delete n) up light = tt
lighter limit most (get n) up light = tt
lighter limit most (query ask) up light = tt
lighter limit most flush up light = tt
lighter limit most schema up light = tt
lighter limit most (scan ask) up light = tt
lighter limit most collect up light = tt
lighter limit most (refused r) up light = tt

-- the weight with one command more, which is no heavier than its line
pub weight_pushed : (list : List Routed) (one : Routed) (bytes size : ℕ) → weight_in (requests_routed list) ≤ bytes → IsLight size (request_of_command one.command) → weight_in (requests_routed (list ++ one ∷ [])) ≤ bytes + size
weight_pushed list one bytes size light fits =
    omega (arith, light, light_weight size (request_of_command one.command) fits, ap weight_in (map-append (λ (r : Routed). request_of_command r.command) list (one ∷ [])), weight_in-append (requests_routed list) (request_of_command one.command ∷ []))

-- ---- a window

-- the commands of a window that is sound, and not too full, are answered together
pub are_together : (w : Window) → IsSoundWindow w → length w.refusals.items ≤ 4096 → w.bytes ≤ max_window + max_line → AreTogether w.commands.items
are_together w sound few bytes = record {
  few = omega (arith, count_asked-le w.refusals.items, sound.whole, few);
  ascending = sound.ascending;
  each = sound.each;
  light = omega (arith, sound.light, bytes);
}
