-- What three contents hold and what their merges are, computed.
use Rattle.std.specs.Prelude.{◌≡◌, [], ◌∷◌, refl}
use Rattle.std.specs.Str.{chars}
use Rattle.tc_lsm_model.specs.Lists.{live}
use Rattle.tc_lsm_model.specs.Merges.{Run, in_run, swapped, IsMerge}
use Rattle.tc_lsm_model.specs.Rows.{flag, three_contents, newer_merged, all_merged}

abbrev newer_two : Run
newer_two = record { first = 1; length = 2 }

pub three_hold : live three_contents ≡ (2, flag) ∷ []
unfolding chars
three_hold = refl

-- behind an older one what is gone is told
pub newer_two_merged : IsMerge (in_run newer_two three_contents) newer_merged
unfolding chars
newer_two_merged = record {
  first = _;
  others = _;
  is = refl;
  part = refl;
  from = refl;
  to = refl;
  entries = refl;
  names = refl;
  schema = refl;
}

-- and from generation 1 on it is left out, in one step or in two
pub all_three_merged : IsMerge three_contents all_merged
unfolding chars
all_three_merged = record {
  first = _;
  others = _;
  is = refl;
  part = refl;
  from = refl;
  to = refl;
  entries = refl;
  names = refl;
  schema = refl;
}

pub merged_again : IsMerge (swapped newer_two newer_merged three_contents) all_merged
unfolding chars
merged_again = record {
  first = _;
  others = _;
  is = refl;
  part = refl;
  from = refl;
  to = refl;
  entries = refl;
  names = refl;
  schema = refl;
}
