-- A tree with other labels and other leaves has as many values.
use Rattle.std.proofs.Common.{◌≡◌, refl, arith}
use Rattle.tc_model.specs.Tree.{Tree, leaf, array, object, Items, no_items, item, Members, no_members, member, relabel, items_relabel, members_relabel}
use Rattle.tc_model.specs.TreeSize.{tree_size, items_size, members_size}

mutual
  pub size-relabel : {L M S T : Type 0} (f : L → M) (g : S → T) (t : Tree L S) → tree_size (relabel f g t) ≡ tree_size t
  size-relabel f g (leaf s) = refl
  size-relabel f g (array xs) = omega (arith, items_size-relabel f g xs)
  size-relabel f g (object ms) = omega (arith, members_size-relabel f g ms)

  pub items_size-relabel : {L M S T : Type 0} (f : L → M) (g : S → T) (xs : Items L S) → items_size (items_relabel f g xs) ≡ items_size xs
  items_size-relabel f g no_items = refl
  items_size-relabel f g (item t xs) = omega (arith, size-relabel f g t, items_size-relabel f g xs)

  pub members_size-relabel : {L M S T : Type 0} (f : L → M) (g : S → T) (ms : Members L S) → members_size (members_relabel f g ms) ≡ members_size ms
  members_size-relabel f g no_members = refl
  members_size-relabel f g (member l t ms) = omega (arith, size-relabel f g t, members_size-relabel f g ms)
