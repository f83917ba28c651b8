-- The names of members ascend as the keys of the map that they come from.
use Rattle.std.proofs.Common.{◌≡◌, List, [], ◌∷◌, map, String, Global, string_bytes, string_cmp, Less}
use Rattle.std.specs.List.{AllByRecursion}
use Rattle.std.specs.List.Sorted.{IsStrictlySortedBy}
use Rattle.tc_model.specs.Document.{name_cmp}

below_all : (k : String Global) (ks : List (String Global)) → AllByRecursion (λ y. string_cmp k y ≡ Less) ks → AllByRecursion (λ y. name_cmp (string_bytes k) y ≡ Less) (map string_bytes ks)
below_all k [] h = tt
below_all k (x ∷ ks) h = (h.0, below_all k ks h.1)

pub names_ascend : (ks : List (String Global)) → IsStrictlySortedBy string_cmp ks → IsStrictlySortedBy name_cmp (map string_bytes ks)
unfolding IsStrictlySortedBy
names_ascend [] h = tt
names_ascend (k ∷ ks) h = (below_all k ks h.0, names_ascend ks h.1)
