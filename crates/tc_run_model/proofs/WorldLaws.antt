-- A partition of a world stores what its writes leave of what it stored when the run began.
use Rattle.std.proofs.Common.{◌≡◌, ℕ, zero, suc, Bool, true, false, List, [], ◌∷◌, refl, ap, sym, ◌∙◌, arith}
use Rattle.std.specs.Prelude.{◌==◌, ◌&&◌, Option, Some, is_some, length, map, if◌then◌else◌}
use Rattle.std.specs.List.{AllByRecursion}
use Rattle.std.proofs.lemmas.Bool.{eqb-true}
use Rattle.tc_request_model.specs.Request.{Request, upsert, delete, get, query, flush, schema, scan, collect, refused}
use Rattle.tc_plain_model.specs.Writes.{Write, after_writes}
use Rattle.tc_plain_model.specs.Store.{Store}
use Rattle.tc_plain_model.specs.Room.{Limits}
use Rattle.tc_request_model.specs.Part.{part_writes}
use Rattle.tc_plain_model.proofs.WriteLaws.{after_writes-append}
use Rattle.tc_request_model.proofs.RequestWrites.{part_left-writes}
use Rattle.tc_run_model.specs.World.{Part, Scan, World, first_world, home_of, store_at, part_after, with_part, changed_at, after, after_all, AllStand, StandsOnWrites}

pub first_stands : (limits : Limits) (stores : List Store) → AllStand (first_world limits stores)
first_stands limits [] = tt
first_stands limits (s ∷ stores) = (refl, first_stands limits stores)

part_stands : (limits : Limits) (r : Request) (part : Part) → StandsOnWrites part → StandsOnWrites (part_after limits r part)
part_stands limits r part stands =
    part_left-writes limits r part.now ∙ ap (λ ps. after_writes ps (part_writes limits r part.now)) stands ∙ sym (after_writes-append part.opened part.writes (part_writes limits r part.now))

changed_stands : (limits : Limits) (r : Request) (p : ℕ) (parts : List Part) → AllByRecursion StandsOnWrites parts → AllByRecursion StandsOnWrites (changed_at p (part_after limits r) parts)
changed_stands limits r p [] all = tt
changed_stands limits r zero (part ∷ parts) all = (part_stands limits r part all.0, all.1)
changed_stands limits r (suc p) (part ∷ parts) all = (all.0, changed_stands limits r p parts all.1)

scan_stands : (b : Bool) (w : World) (running : Option Scan) → AllStand w → AllStand (if b then w else record w { running = running })
scan_stands true w running all = all
scan_stands false w running all = all

-- after a request, and after requests
pub after_stands : (r : Request) (w : World) → AllStand w → AllStand (after r w)
after_stands (upsert n d) w all = changed_stands w.limits (upsert n d) (home_of n w) w.parts all
after_stands (delete n) w all = changed_stands w.limits (delete n) (home_of n w) w.parts all
after_stands (get n) w all = all
after_stands (query ask) w all = all
after_stands flush w all = all
after_stands schema w all = all
after_stands (scan ask) w all = scan_stands (is_some w.running) w (Some (record { ask = ask; seen = map (λ part. length part.writes) w.parts })) all
after_stands collect w all = all
after_stands (refused r) w all = all

pub after_all_stands : (rs : List Request) (w : World) → AllStand w → AllStand (after_all rs w)
after_all_stands [] w all = all
after_all_stands (r ∷ rs) w all = after_all_stands rs (after r w) (after_stands r w all)

-- ---- what was flushed

all_written : (flushed : Bool) (ws : List Write) → (flushed && (length ws == 0)) ≡ true → (flushed ≡ true) × (ws ≡ [])
all_written true [] is = (refl, refl)
all_written true (w ∷ ws) is = absurd (omega (arith, eqb-true (length (w ∷ ws)) 0 is))
all_written false ws is = absurd (cc)

-- Where all was flushed behind a request for a key, so it was before, and the request wrote nothing.
pub flushed_before : (p : ℕ) (r : Request) (w : World) → (with_part p r w).flushed ≡ true → (w.flushed ≡ true) × (part_writes w.limits r (store_at p w) ≡ [])
flushed_before p r w is = all_written w.flushed (part_writes w.limits r (store_at p w)) is

-- ---- a changed part leaves as many

pub length-changed_at : {A : Type 0} (k : ℕ) (f : A → A) (xs : List A) → length (changed_at k f xs) ≡ length xs
length-changed_at k f [] = refl
length-changed_at zero f (x ∷ xs) = refl
length-changed_at (suc k) f (x ∷ xs) = ap suc (length-changed_at k f xs)
