-- A world has as many partitions behind requests as before them.
use Rattle.std.proofs.Common.{◌≡◌, ◌∙◌, ℕ, List, [], ◌∷◌, ◌++◌, length, map, refl, ap, inl, inr}
use Rattle.std.specs.Prelude.{is_some, Bool, true, false, Some, if◌then◌else◌}
use Rattle.tc_request_model.specs.Request.{Request, Ask, upsert, delete, get, query, flush, schema, scan, collect, refused}
use Rattle.tc_run_model.specs.World.{World, after, after_all, part_after, with_scan}
use Rattle.tc_run_model.specs.Course.{Ending, finished, input_failed, input_spent, output_failed, stopped, unopened, behind, requests_in, worlds_left}
use Rattle.tc_run_model.specs.Windows.{Window, unless_empty}
use Rattle.tc_run_model.proofs.WorldLaws.{length-changed_at}
use Rattle.tc_keeper.specs.Holds.{IsOneOf}

either_many : (b : Bool) (v w : World) → length v.parts ≡ length w.parts → length (if b then w else v).parts ≡ length w.parts
either_many true v w same = refl
either_many false v w same = same

scan_many : (ask : Ask) (w : World) → length (with_scan ask w).parts ≡ length w.parts
scan_many ask w = either_many (is_some w.running) (record w { running = Some (record { ask = ask; seen = map (λ part. length part.writes) w.parts }) }) w refl

pub one_many : (r : Request) (w : World) → length (after r w).parts ≡ length w.parts
one_many (upsert n d) w = length-changed_at _ (part_after w.limits (upsert n d)) w.parts
one_many (delete n) w = length-changed_at _ (part_after w.limits (delete n)) w.parts
one_many (get n) w = refl
one_many (query ask) w = refl
one_many flush w = refl
one_many schema w = refl
one_many (scan ask) w = scan_many ask w
one_many collect w = refl
one_many (refused r) w = refl

pub many_after : (rs : List Request) (w : World) → length (after_all rs w).parts ≡ length w.parts
many_after [] w = refl
many_after (r ∷ rs) w = many_after rs (after r w) ∙ one_many r w

-- so have the worlds at which a run may leave them
only : (count : ℕ) (w : World) → length w.parts ≡ count → (u : World) → IsOneOf u (w ∷ []) → length u.parts ≡ count
only count w many u (inl same) = ap (λ (v : World). length v.parts) same ∙ many
only count w many u (inr none) = absurd none

behind_many : (count : ℕ) (w : World) (ws : List Window) → length w.parts ≡ count → length (behind w ws).parts ≡ count
behind_many count w ws many = many_after (requests_in ws) w ∙ many

pub many_left : (count : ℕ) (w : World) (ending : Ending) (answered : List Window) (last : Window) → length w.parts ≡ count → (u : World) → IsOneOf u (worlds_left ending w answered last) → length u.parts ≡ count
many_left count w finished answered last many u is = only count (behind w answered) (behind_many count w answered many) u is
many_left count w input_failed answered last many u is = only count (behind w answered) (behind_many count w answered many) u is
many_left count w input_spent answered last many u is = only count (behind w answered) (behind_many count w answered many) u is
many_left count w (output_failed n) answered last many u is = only count (behind w (answered ++ last ∷ [])) (behind_many count w (answered ++ last ∷ []) many) u is
many_left count w stopped answered last many u (inl same) = ap (λ (v : World). length v.parts) same ∙ behind_many count w answered many
many_left count w stopped answered last many u (inr more) = only count (behind w (answered ++ unless_empty last)) (behind_many count w (answered ++ unless_empty last) many) u more
many_left count w unopened answered last many u is = only count w many u is
