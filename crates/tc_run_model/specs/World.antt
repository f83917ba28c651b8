-- The plain world: its partitions, the scan that was started and not collected yet, and whether all writes were flushed.
use Rattle.std.specs.Prelude.{◌≡◌, ℕ, zero, suc, ◌%◌, ◌==◌, ◌&&◌, Bool, true, false, length, List, [], ◌∷◌, ◌++◌, map, fold, flat_map, take, is_some, Option, Some, None, slice_get, unwrap_or, if◌then◌else◌}
use Rattle.std.specs.List.{AllByRecursion}
use Rattle.tc_model.specs.Keyed.{with_value}
use Rattle.tc_request_model.specs.Request.{Request, upsert, delete, get, query, flush, schema, scan, collect, refused, Ask}
use Rattle.tc_plain_model.specs.Writes.{Pairs, Write, after_writes}
use Rattle.tc_plain_model.specs.Store.{Store, empty}
use Rattle.tc_plain_model.specs.Room.{Limits}
use Rattle.tc_request_model.specs.Part.{part_writes, part_left}

-- a partition: what it stored when the run began, its writes since then, and what it stores now
pub record Part : Type 0 where
  pub opened : Pairs
  pub writes : List Write
  pub now : Store

-- a scan that was not collected yet, and how many writes each partition had when it was started
pub record Scan : Type 0 where
  pub ask : Ask
  pub seen : List ℕ

pub record World : Type 0 where
  pub limits : Limits
  pub parts : List Part
  pub running : Option Scan
  -- a flush or the schema was asked for, and nothing was written since
  pub flushed : Bool

-- a partition that stores this when a run begins
abbrev pub part_of : Store → Part
part_of s = record { opened = s.pairs; writes = []; now = s }

-- the world in which a run begins over such partitions
abbrev pub first_world : Limits → List Store → World
first_world limits stores = record { limits = limits; parts = map part_of stores; running = None; flushed = false }

-- ---- partitions

-- the number of the partition of a key
abbrev pub home_of : ℕ → World → ℕ
home_of n w = n % length w.parts

-- what the partition of a number stores
abbrev pub store_at : ℕ → World → Store
store_at p w = unwrap_or (slice_get (map (λ part. part.now) w.parts) p) empty

-- a partition after a request for it
abbrev pub part_after : Limits → Request → Part → Part
part_after limits r part = record {
  opened = part.opened;
  writes = part.writes ++ part_writes limits r part.now;
  now = part_left limits r part.now;
}

-- the list with f applied to the element at a place
abbrev pub changed_at : {A : Type 0} → ℕ → (A → A) → List A → List A
changed_at n f [] = []
changed_at zero f (x ∷ xs) = f x ∷ xs
changed_at (suc n) f (x ∷ xs) = x ∷ changed_at n f xs

-- the world after a request for the partition of a number
abbrev pub with_part : ℕ → Request → World → World
with_part p r w = record w {
  parts = changed_at p (part_after w.limits r) w.parts;
  flushed = w.flushed && (length (part_writes w.limits r (store_at p w)) == 0);
}

-- the pairs of all partitions together, in ascending key
abbrev pub united : List Pairs → Pairs
united parts = fold (λ all p. with_value p.0 p.1 all) [] (flat_map (λ ps. ps) parts)

-- what a partition stored behind so many writes of the run
abbrev pub pairs_at : ℕ → Part → Pairs
pairs_at u part = after_writes part.opened (take u part.writes)

-- ---- what a request leaves

-- a scan is started, unless one runs
abbrev pub with_scan : Ask → World → World
with_scan ask w =
    if is_some w.running then w
    else record w { running = Some (record { ask = ask; seen = map (λ part. length part.writes) w.parts }) }

abbrev pub after : Request → World → World
after (upsert n d) w = with_part (home_of n w) (upsert n d) w
after (delete n) w = with_part (home_of n w) (delete n) w
after (get n) w = w
after (query ask) w = w
after flush w = record w { flushed = true }
after schema w = record w { flushed = true }
after (scan ask) w = with_scan ask w
after collect w = record w { running = None }
after (refused r) w = w

-- what requests leave, one after the other
abbrev pub after_all : List Request → World → World
after_all rs w = fold (λ v r. after r v) w rs

-- ---- what is stored stands on what was written

-- a partition stores what its writes leave of what it stored when the run began
abbrev pub StandsOnWrites : Part → Type 0
StandsOnWrites part = part.now.pairs ≡ after_writes part.opened part.writes

-- each partition does
abbrev pub AllStand : World → Type 0
AllStand w = AllByRecursion StandsOnWrites w.parts
