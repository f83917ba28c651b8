-- The order of the names of files: components first, by their first and then by their last generation, then logs.
use Rattle.std.specs.Prelude.{ℕ}
use Rattle.std.specs.Ordering.{nat_cmp, then_cmp}
use Rattle.std.specs.declared.cmp.Ordering.{Ordering}
use Rattle.std.specs.declared.cmp.Ordering.TheVariants.{Less, Greater}
use Rattle.tc_store.specs.declared.file_name.FileName.{FileName}
use Rattle.tc_store.specs.declared.file_name.FileName.TheVariants.{Component, Log}

abbrev pub name_cmp : FileName → FileName → Ordering
name_cmp (Component from to) (Component from' to') = then_cmp (λ (a b : ℕ × ℕ). nat_cmp a.0 b.0) (λ (a b : ℕ × ℕ). nat_cmp a.1 b.1) (from, to) (from', to')
name_cmp (Component from to) (Log generation) = Less
name_cmp (Log generation) (Component from to) = Greater
name_cmp (Log generation) (Log generation') = nat_cmp generation generation'
