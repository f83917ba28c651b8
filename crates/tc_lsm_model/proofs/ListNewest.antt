-- The newest of a list: its names and its schema are lawful, and the schema stands for what is live.
use Rattle.std.proofs.Common.{◌<◌, ◌^◌, ℕ, List, [], ◌∷◌, length, refl, arith}
use Rattle.tc_model.specs.Document.{Name}
use Rattle.tc_model.specs.Dictionary.{IsDictionary}
use Rattle.tc_model.specs.Keyed.{values_in}
use Rattle.tc_model.proofs.DictionaryGrowth.{IsDictionary-nil}
use Rattle.tc_schema_model.specs.Counted.{Counted, nothing}
use Rattle.tc_schema_model.specs.SchemaBytes.{IsSchema}
use Rattle.tc_schema_model.specs.Stands.{StandsFor}
use Rattle.tc_schema_model.proofs.ValueBounds.{nothing_stands}
use Rattle.tc_plain_model.specs.Writes.{Pairs, after_writes}
use Rattle.tc_lsm_model.specs.Contents.{Partition, Content}
use Rattle.tc_lsm_model.specs.Lists.{held_over, live, newest_names, names_of, newest_schema, schema_of, last_after, last_of, GoesOn, GoOn, IsList}

pub record IsNewest (ns : List Name) (d : Counted) (g : ℕ) (p : Pairs) : Type 0 where
  pub dictionary : IsDictionary ns
  pub schema : IsSchema (length ns) d
  pub stands : StandsFor ns d (values_in p)
  pub room : length p < 2 ^ 32
  pub last : g < 2 ^ 63

none_is : IsNewest [] nothing 0 []
none_is = record {
  dictionary = IsDictionary-nil;
  schema = record { canonical = nothing_stands.canonical; of_objects = refl; small = (omega arith, tt, tt); shallow = omega arith };
  stands = nothing_stands;
  room = omega arith;
  last = omega arith;
}

pub newest_here : (part : Partition) (g : ℕ) (p : Pairs) (ns : List Name) (c : Content) → GoesOn part g p ns c → IsNewest c.names c.schema c.to (after_writes p c.entries)
newest_here part g p ns c goes = record { dictionary = goes.content.dictionary; schema = goes.content.schema; stands = goes.stands; room = goes.room; last = goes.content.last }

pub newest_after : (part : Partition) (g : ℕ) (p : Pairs) (ns : List Name) (d : Counted) (cs : List Content) → IsNewest ns d g p → GoOn part g p ns cs
    → IsNewest (newest_names ns cs) (newest_schema d cs) (last_after g cs) (held_over p cs)
newest_after part g p ns d [] before all = before
newest_after part g p ns d (c ∷ cs) before all = newest_after part c.to (after_writes p c.entries) c.names c.schema cs (newest_here part g p ns c all.0) all.1

pub newest_of_list : (part : Partition) (cs : List Content) → IsList part cs → IsNewest (names_of cs) (schema_of cs) (last_of cs) (live cs)
newest_of_list part cs all = newest_after part 0 [] [] nothing cs none_is all
