-- What each partition gets of a window of requests.
use Rattle.std.specs.Prelude.{ℕ, ◌%◌, ◌==◌, Bool, true, false}
use Rattle.std.specs.List.{filter}
use Rattle.tc_model.specs.Keyed.{Keyed}
use Rattle.tc_request_model.specs.Request.{Request, upsert, delete, get, query, flush, schema, scan, collect, refused}

-- Whether the partition of a number, of so many, gets a request: one with a key is for one partition, a query is for all,
-- and what is for the whole store is for none.
abbrev pub is_for : ℕ → ℕ → Request → Bool
is_for count p (upsert n d) = n % count == p
is_for count p (delete n) = n % count == p
is_for count p (get n) = n % count == p
is_for count p (query ask) = true
is_for count p flush = false
is_for count p schema = false
is_for count p (scan ask) = false
is_for count p collect = false
is_for count p (refused r) = false

-- the requests for a partition, each at its place in the window
abbrev pub share : ℕ → ℕ → Keyed Request → Keyed Request
share count p window = filter (λ r. is_for count p r.1) window
