use Rattle.std.proofs.Common.{ap, sym}
use Rattle.tc_store.specs.declared.file_name.FileName.TheVariants.{Log}
use Rattle.tc_part_model.proofs.Closes.{close_both_stores, close_stores, sealed_covers}
use Rattle.tc_part_model.proofs.closing.closed_parts_keep_store.Goals as goal

pub returns-clause-one : goal.returns-clause-one
returns-clause-one c = close_stores

pub returns-clause-both : goal.returns-clause-both
returns-clause-both c = close_both_stores

pub returns-clause-named : goal.returns-clause-named
returns-clause-named c = λ t p is. ap (λ n. Log n) (sym is.view.generation)

pub returns-clause-covers : goal.returns-clause-covers
returns-clause-covers c = sealed_covers
