-- A run may follow another: over pictures that a stop left of its kits a world is known, in which each partition stores what was left
-- of it.
use Rattle.std.proofs.Common.{◌≡◌, ◌⊎◌, ◌∙◌, ℕ, zero, suc, List, [], ◌∷◌, map, length, refl, ap, sym, subst, inl, inr}
use Rattle.std.specs.Prelude.{Option, Some, None, slice_get, unwrap_or}
use Rattle.std.proofs.lemmas.List.{length-map}
use Rattle.std.proofs.lemmas.List.Elements.{All-nil}
use Rattle.std.proofs.lemmas.Option.{slice_get-map}
use Rattle.tc_keeper.specs.Standing.{partition_at, IsSeen}
use Rattle.tc_machine.specs.Pictures.{recovered}
use Rattle.tc_plain_model.specs.Room.{Limits}
use Rattle.tc_plain_model.specs.Store.{Store, empty}
use Rattle.tc_plain_model.specs.Writes.{Pairs}
use Rattle.tc_run_model.specs.Course.{worlds_left, Ending}
use Rattle.tc_run_model.specs.Windows.{Window}
use Rattle.tc_run_model.specs.World.{first_world, part_of, store_at, Part, World}
use Rattle.tc_store.specs.Disk.{Disk}
use Rattle.tc_keeper.specs.Holds.{IsOneOf}
use Rattle.tc_keeper.specs.OwnKeys.{AreOwn, HaveOwn}
use Rattle.tc_server.specs.OverFiles.{AreFoundOf, IsFoundOf, IsStoredInOne, LeaveOneOf, LeavesOneOf, MayFollow, OpenAs, OpensAs}
use Rattle.tc_keeper.specs.Places.{EachFrom}
use Rattle.tc_server.proofs.ClosedFiles.{stored_in, stored_there}
use Rattle.tc_keeper.proofs.EachLaws.{each-at, each-map, each-so}
use Rattle.tc_keeper.proofs.OwnWorlds.{own_left}
use Rattle.tc_keeper.proofs.WorldCounts.{many_left}

-- ---- which partitions are looked at

same_or_not : (p q : ℕ) → (p ≡ q) ⊎ (p ≡ q → ⊥)
same_or_not zero zero = inl refl
same_or_not zero (suc q) = inr (λ is. absurd (cc))
same_or_not (suc p) zero = inr (λ is. absurd (cc))
same_or_not (suc p) (suc q) = elim (same_or_not p q) [ inl is ↦ inl (ap suc is) | inr other ↦ inr (λ is. other (cc)) ]

seen_or_not : (only : Option ℕ) (p : ℕ) → IsSeen only p ⊎ (IsSeen only p → ⊥)
seen_or_not None p = inl tt
seen_or_not (Some q) p = same_or_not p q

-- ---- keys of their own

-- what a partition stores in a world has its own keys alone
stored_own : (count p : ℕ) (v : World) → length v.parts ≡ count → HaveOwn None v → AreOwn count p (store_at p v).pairs
stored_own count p v many own = at (slice_get v.parts p) refl
  where
    at : (o : Option Part) → slice_get v.parts p ≡ o → AreOwn count p (store_at p v).pairs
    at (Some part) there =
        subst (λ (s : Store). AreOwn count p s.pairs) (sym (stored_there v p part there))
        (subst (λ n. AreOwn n p part.now.pairs) many (each-at (λ p part. IsSeen None p → AreOwn (length v.parts) p part.now.pairs) p v.parts part own there tt))
    at None there =
        let none : store_at p v ≡ empty = ap (λ o. unwrap_or o empty) (slice_get-map (λ part. part.now) v.parts p ∙ ap stored_in there) in
        subst (λ (s : Store). AreOwn count p s.pairs) (sym none) (All-nil (λ e. _))

own_in_one : (count p : ℕ) (worlds : List World) (pairs : Pairs) → ((v : World) → IsOneOf v worlds → AreOwn count p (store_at p v).pairs) → IsStoredInOne p worlds pairs → AreOwn count p pairs
own_in_one count p [] pairs own stored = absurd stored
own_in_one count p (v ∷ vs) pairs own (inl same) = subst (AreOwn count p) (sym same) (own v (inl refl))
own_in_one count p (v ∷ vs) pairs own (inr more) = own_in_one count p vs pairs (λ u is. own u (inr is)) more

-- ---- one partition

-- what is found in a picture of what it left
pub record IsFound (count p : ℕ) (worlds : List World) (came : List Disk) (stored : Store) : Type 0 where
  pub opens : OpensAs (partition_at p count) came stored
  pub in_one : IsStoredInOne p worlds stored.pairs

found_in : (count p : ℕ) (worlds : List World) (left came : List Disk) → LeavesOneOf count worlds p left → IsFoundOf left came → (stored : Store) × IsFound count p worlds came stored
found_in count p worlds [] came leaves found = absurd found
found_in count p worlds (disk ∷ past) [] leaves found = absurd found
found_in count p worlds (disk ∷ past) (next ∷ before) leaves found =
    let r = leaves.1 found.0 found.1 in (
      recovered r.lawful.contents r.lawful.logs,
      record {
        opens = record { contents = r.lawful.contents; logs = r.lawful.logs; opens = record { picture = found.0; left = found.2; opens = r.lawful.opens }; is = refl };
        in_one = r.holds;
      },
    )

-- ---- all partitions

module _ (count : ℕ) (worlds : List World) (came : ℕ → List Disk) (only : Option ℕ) (own : only ≡ None → (p : ℕ) (v : World) → IsOneOf v worlds → AreOwn count p (store_at p v).pairs) where
  -- one that is not looked at may store anything
  one_found : (p : ℕ) (left : List Disk) → (IsSeen only p → LeavesOneOf count worlds p left) → (IsSeen only p → IsFoundOf left (came p)) → (stored : Store) × (IsSeen only p → IsFound count p worlds (came p) stored)
  one_found p left leaves found = elim (seen_or_not only p) [
    | inl is ↦ let here = found_in count p worlds left (came p) (leaves is) (found is) in (here.0, λ again. here.1)
    | inr other ↦ (empty, λ is. absurd (other is))
  ]

  pub record AreFound (n : ℕ) (kits : List (List Disk)) : Type 0 where
    pub stores : List Store
    pub counted : length stores ≡ length kits
    pub each : EachFrom (λ p stored. IsSeen only p → IsFound count p worlds (came p) stored) n stores

  all_found : (n : ℕ) (kits : List (List Disk)) → EachFrom (λ p left. IsSeen only p → LeavesOneOf count worlds p left) n kits → EachFrom (λ p left. IsSeen only p → IsFoundOf left (came p)) n kits → AreFound n kits
  all_found n [] leave found = record { stores = []; counted = refl; each = tt }
  all_found n (left ∷ kits) leave found =
      let here = one_found n left leave.0 found.0 in
      let rest = all_found (suc n) kits leave.1 found.1 in record {
        stores = here.0 ∷ rest.stores;
        counted = ap suc rest.counted;
        each = (here.1, rest.each);
      }

  pub follow : (next : Limits) (kits : List (List Disk)) → length kits ≡ count → LeaveOneOf only count worlds kits → AreFoundOf only kits came → MayFollow next count came only worlds
  follow next kits many leave found =
      let f = all_found 0 kits leave found in record {
        first = first_world next f.stores;
        begins = record {
          stores = f.stores;
          counted = f.counted ∙ many;
          each = each-so (λ p stored. IsSeen only p → IsFound count p worlds (came p) stored) (λ p stored. IsSeen only p → OpensAs (partition_at p count) (came p) stored) 0 f.stores
              (λ p stored here is. (here is).opens) f.each;
          own = λ all. each-so (λ p stored. IsSeen only p → IsFound count p worlds (came p) stored) (λ p stored. AreOwn count p stored.pairs) 0 f.stores
              (λ p stored here. own_in_one count p worlds stored.pairs (own all p) (here (subst (λ one. IsSeen one p) (sym all) tt)).in_one) f.each;
          world = refl;
        };
        stored = each-map part_of (λ p part. IsSeen only p → IsStoredInOne p worlds part.now.pairs) 0 f.stores
            (each-so (λ p stored. IsSeen only p → IsFound count p worlds (came p) stored) (λ p stored. IsSeen only p → IsStoredInOne p worlds stored.pairs) 0 f.stores (λ p stored here is. (here is).in_one) f.each);
      }

-- ---- behind a run

-- where all are known, partitions of a world over files have keys of their own alone
opened_own : (limits : Limits) (count : ℕ) (files : ℕ → List Disk) (only : Option ℕ) (w : World) → OpenAs limits count files only w → only ≡ None → HaveOwn None w
opened_own limits count files only w o all = subst (HaveOwn None) (sym o.world)
    (each-map part_of (λ p part. IsSeen None p → AreOwn (length (map part_of o.stores)) p part.now.pairs) 0 o.stores
    (each-so (λ p stored. AreOwn count p stored.pairs) (λ p stored. IsSeen None p → AreOwn (length (map part_of o.stores)) p stored.pairs) 0 o.stores
    (λ p stored own seen. subst (λ n. AreOwn n p stored.pairs) (sym (length-map o.stores part_of ∙ o.counted)) own) (o.own all)))

opened_many : (limits : Limits) (count : ℕ) (files : ℕ → List Disk) (only : Option ℕ) (w : World) → OpenAs limits count files only w → length w.parts ≡ count
opened_many limits count files only w o = ap (λ (v : World). length v.parts) o.world ∙ length-map o.stores part_of ∙ o.counted

pub may_follow : (limits next : Limits) (count : ℕ) (files came : ℕ → List Disk) (only : Option ℕ) (w : World) (ending : Ending) (answered : List Window) (last : Window) (kits : List (List Disk))
    → OpenAs limits count files only w → length kits ≡ count → LeaveOneOf only count (worlds_left ending w answered last) kits → AreFoundOf only kits came → MayFollow next count came only (worlds_left ending w answered last)
may_follow limits next count files came only w ending answered last kits opens many leave found =
    follow count (worlds_left ending w answered last) came only
    (λ all p v one. stored_own count p v (many_left count w ending answered last (opened_many limits count files only w opens) v one) (own_left None w ending answered last (opened_own limits count files only w opens all) v one))
    next kits many leave found
