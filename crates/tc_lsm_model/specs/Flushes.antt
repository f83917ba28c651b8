-- What a flush makes: the component of a memory table, behind a list of components.
use Rattle.std.specs.Prelude.{◌≡◌, ◌+◌, ℕ, List}
use Rattle.tc_plain_model.specs.Store.{names_after}
use Rattle.tc_lsm_model.specs.Contents.{Partition, Content}
use Rattle.tc_lsm_model.specs.Lists.{live, names_of, last_of, GoesOn}
use Rattle.tc_lsm_model.specs.Tables.{Table, writes_of}

-- The entries are the table's. New names of its documents stand behind the older ones, in ascending key and preorder. It
-- takes the next generations: one, and more at an opening, where one table has the writes of several logs. Its schema is
-- that of what is live with it, which makes it one.
pub record IsFlush (part : Partition) (cs : List Content) (t : Table) (generations : ℕ) (c : Content) : Type 0 where
  pub entries : c.entries ≡ writes_of t
  pub names : c.names ≡ names_after (names_of cs) (writes_of t)
  pub to : c.to ≡ last_of cs + generations
  pub goes_on : GoesOn part (last_of cs) (live cs) (names_of cs) c
