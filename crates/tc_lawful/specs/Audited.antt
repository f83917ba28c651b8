-- What an audit finds of components that were loaded and of writes that were read: all is right.
use Rattle.std.specs.Prelude.{◌≡◌, ℕ, List, map, Option, All}
use Rattle.std.specs.List.{AllZip}
use Rattle.tc_component.specs.Loaded.{IsLoadedOf}
use Rattle.tc_component.specs.Loading.{ComponentState}
use Rattle.tc_log.specs.declared.write.Write.{Write as LogWrite}
use Rattle.tc_plain_model.specs.Writes.{Write}
use Rattle.tc_lsm_model.specs.Contents.{Content, Partition}
use Rattle.tc_lsm_model.specs.Lists.{IsList}
use Rattle.tc_machine.specs.Logs.{all_writes, kept_write}
use Rattle.tc_machine.specs.Pictures.{recovered}
use Rattle.tc_machine.specs.Writes.{AreFew, HasRoom, IsStorableWrite}

-- The components are loaded of these contents, which make a list; the logs keep these writes, which a partition makes; and there is
-- room for what is stored in all of them.
pub record IsAudited {F : Type 0} (content : F → Option (List ℕ)) (part : Partition) (list : List (ComponentState F)) (writes : List (List LogWrite)) (cs : List Content) (logs : List (List Write)) : Type 0 where
  pub loaded : AllZip (IsLoadedOf content) list cs
  pub listed : IsList part cs
  pub kept : writes ≡ map (map kept_write) logs
  pub storable : All IsStorableWrite (all_writes logs)
  pub room : HasRoom (recovered cs logs).pairs
  pub few : AreFew (recovered cs logs).taken
